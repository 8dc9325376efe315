-- The loop keeps, beside its bounds, where the next record begins and what the definition reads from there on (SoFar): each turn
-- takes one record off it, a refusal ends it, and at the end the records read are the section's.
use Rattle.std.proofs.Common.{◌≤◌, ◌<◌, sym, ◌∙◌, ap, arith, ⊎_elim, le-leb}
use Rattle.std.proofs.lemmas.Result.{err_from_is_err_and}
use borrow.Author.Tests.{lt-leb}
use Rattle.cursor.specs.FieldLaws.{byte_taken, byte_missing}
use Rattle.cursor.specs.RecordLaws.{none_read, one_read, one_refused}
use Rattle.request.specs.Request.{tasks_of}
use Rattle.request.specs.Answers.{record_said, task_section}
use Rattle.request.specs.ReadingLaws.{task_taken, task_refused}
use Rattle.request.specs.SectionLaws.{section_answer_lem}
use Rattle.request.proofs.read_tasks.Goals as goal

pub returns-in_default : goal.returns-in_default
unfolding tasks_of
returns-in_default c = simp (byte_missing 1 _ _ (sym c.byte.ensures ∙ c.in_default.is)).0

pub returns-then-count-lt1 : goal.returns-then-count-lt1
unfolding tasks_of
returns-then-count-lt1 c =
    let taken = byte_taken 1 _ _ _ _ (sym c.byte.ensures ∙ c.in-Some.is) in
    ⊎_elim (λ (few : c.in-Some.count < 1). simp (taken.field, lt-leb _ _ few)) (λ (many : (1 ≤ c.in-Some.count) × (16 < c.in-Some.count)). simp (taken.field, le-leb _ _ many.0, lt-leb _ _ many.1)) c.then-count-lt1.either

pub loop-i-init : goal.loop-i-init
unfolding tasks_of
loop-i-init c =
    let taken = byte_taken 1 _ _ _ _ (sym c.byte.ensures ∙ c.in-Some.is) in
    record {
      few = c.if-count-gt16.false;
      place = taken.moved;
      so_far = none_read (simp (taken.field, le-leb _ _ c.if-count-lt1.false, le-leb _ _ c.if-count-gt16.false));
    }

pub returns-in_err-task : goal.returns-in_err-task
returns-in_err-task c =
    let l = c.loop-i in
    let p = err_from_is_err_and c.from_residual.result c.from_residual.ensures.1 in
    let refused = task_refused c.args.s.now l.here.at (sym c.read_task.ensures ∙ ap record_said c.in_err-task.was) in
    rw (p.1, p.2) (ap task_section (sym (one_refused l.invariant.so_far (omega arith) refused)))

pub loop-i-preserved : goal.loop-i-preserved
loop-i-preserved c =
    let l = c.loop-i in
    let read = task_taken c.args.s.now l.here.at (sym c.read_task.ensures ∙ ap record_said c.in_ok-task.was) in
    record {
      few = l.invariant.few;
      place = omega (arith, read.1);
      so_far = one_read l.invariant.so_far (omega arith) (omega arith) _ _ read.0;
    }

pub returns : goal.returns
returns c =
    let l = c.loop-i in
    section_answer_lem 8 l.invariant.so_far (omega arith) (omega arith) (omega arith)
