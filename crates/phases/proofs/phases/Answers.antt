-- The request is read and its cycle is asked for; each way out is one of the definition's cases.
use Rattle.std.specs.Prelude.{Ok, ◌≡◌}
use Rattle.std.proofs.Common.{sym, ap, ◌∙◌}
use Rattle.std.proofs.lemmas.Result.{err_from_is_err_and}
use Rattle.request.specs.Request.{reading}
use Rattle.request.specs.Answers.{request_answered}
use Rattle.request.specs.Numbered.{request_said}
use Rattle.cycle.specs.Answers.{cycle_for}
use Rattle.cycle.specs.Numbered.{cycle_said, cycle_numbered}
use Rattle.cycle.specs.ReadLaws.{bytes_as_read, not_read}
use Rattle.phases.specs.Ways.{own_number, cycle_refused, unknown_task, countable, all_counted}
use Rattle.phases.proofs.phases.Goals as goal
use Rattle.phases.proofs.phases.Goals.{In_ok-read, In_ok-of}

read : (c : In_ok-read) → request_said (Ok c.in_ok-read.read) ≡ request_answered (reading c.args.request.now)
read c = ap request_said (sym c.in_ok-read.was) ∙ c.read.ensures

cycle : (c : In_ok-of) → cycle_said (Ok c.in_ok-of.field-0) ≡ cycle_numbered (cycle_for c.in_ok-read.read)
cycle c = ap cycle_said (sym c.in_ok-of.was) ∙ c.of.ensures

pub returns-in_err-read : goal.returns-in_err-read
returns-in_err-read c =
    let p = err_from_is_err_and c.from_residual.result c.from_residual.ensures.1 in
    rw (p.1, p.2) (own_number _ _ _ _ (not_read _ _ (ap request_said (sym c.in_err-read.was) ∙ c.read.ensures)))

pub of-requires : goal.of-requires
of-requires c = bytes_as_read _ (read (goal.at.of-requires c).In_ok-read)

pub returns-in_err-of : goal.returns-in_err-of
returns-in_err-of c =
    let p = err_from_is_err_and c.from_residual-in_err-of.result c.from_residual-in_err-of.ensures.1 in
    rw (p.1, p.2)
    (cycle_refused _ _ (read (goal.at.returns-in_err-of c).In_ok-read) _ _ _ (ap cycle_said (sym c.in_err-of.was) ∙ c.of.ensures))

pub returns-then-read-i : goal.returns-then-read-i
returns-then-read-i c =
    let k = goal.at.returns-then-read-i c in
    rw (← c.from-i.ensures) (unknown_task _ _ (read k.In_ok-read) _ _ (cycle k.In_ok-of) _ c.if-read-i.true)

pub count-requires : goal.count-requires
count-requires c = let k = goal.at.count-requires c in countable _ _ (read k.In_ok-read) _ _ (cycle k.In_ok-of) c.if-read-i.false

pub returns : goal.returns
returns c =
    let k = goal.at.returns c in
    rw (← c.from-i.ensures) (c.count.ensures ∙ all_counted _ _ (read k.In_ok-read) _ _ (cycle k.In_ok-of) _ c.if-read-i.false)
