-- The loop keeps, beside its bounds, where the next record begins and what the definition reads from there on (SoFar): each turn
-- takes one record off it, a refusal ends it, and at the end the records read are the section's.
use Rattle.std.proofs.Common.{sym, ◌∙◌, ap, arith, le-leb}
use Rattle.std.proofs.lemmas.Result.{err_from_is_err_and}
use borrow.Author.Tests.{lt-leb}
use Rattle.cursor.specs.FieldLaws.{byte_taken, byte_missing}
use Rattle.cursor.specs.RecordLaws.{none_read, one_read, one_refused}
use Rattle.request.specs.Request.{pairs_of}
use Rattle.request.specs.Answers.{record_said, pair_section}
use Rattle.request.specs.ReadingLaws.{pair_taken, pair_refused}
use Rattle.request.specs.SectionLaws.{section_answer_lem}
use Rattle.request.proofs.read_pairs.Goals as goal

pub returns-in_default : goal.returns-in_default
unfolding pairs_of
returns-in_default c = simp (byte_missing 1 _ _ (sym c.byte.ensures ∙ c.in_default.is)).0

pub returns-then-count-gt16 : goal.returns-then-count-gt16
unfolding pairs_of
returns-then-count-gt16 c =
    let taken = byte_taken 1 _ _ _ _ (sym c.byte.ensures ∙ c.in-Some.is) in
    simp (taken.field, lt-leb _ _ c.if-count-gt16.true)

pub loop-i-init : goal.loop-i-init
unfolding pairs_of
loop-i-init c =
    let taken = byte_taken 1 _ _ _ _ (sym c.byte.ensures ∙ c.in-Some.is) in
    record {
      few = c.if-count-gt16.false;
      place = taken.moved;
      so_far = none_read (simp (taken.field, le-leb _ _ c.if-count-gt16.false));
    }

pub returns-in_err-pair : goal.returns-in_err-pair
returns-in_err-pair c =
    let l = c.loop-i in
    let p = err_from_is_err_and c.from_residual.result c.from_residual.ensures.1 in
    let refused = pair_refused c.args.tasks.now c.args.s.now l.here.at (sym c.read_pair.ensures ∙ ap record_said c.in_err-pair.was) in
    rw (p.1, p.2) (ap pair_section (sym (one_refused l.invariant.so_far (omega arith) refused)))

pub loop-i-preserved : goal.loop-i-preserved
loop-i-preserved c =
    let l = c.loop-i in
    let read = pair_taken c.args.tasks.now c.args.s.now l.here.at (sym c.read_pair.ensures ∙ ap record_said c.in_ok-pair.was) in
    record {
      few = l.invariant.few;
      place = omega (arith, read.1);
      so_far = one_read l.invariant.so_far (omega arith) (omega arith) _ _ read.0;
    }

pub returns : goal.returns
returns c =
    let l = c.loop-i in
    section_answer_lem 2 l.invariant.so_far (omega arith) (omega arith) (omega arith)
