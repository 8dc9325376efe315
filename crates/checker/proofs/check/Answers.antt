-- The number is that of the request, or that of the table.
use Rattle.std.specs.Prelude.{◌≡◌}
use Rattle.std.proofs.Common.{sym, ◌∙◌, ap}
use Rattle.std.proofs.lemmas.Result.{err_from_is_err_and}
use Rattle.cycle.specs.Cycle.{Cycle}
use Rattle.cycle.specs.Numbered.{cycle_said}
use Rattle.table.specs.Table.{decode}
use Rattle.model.specs.WithinLaws.{Taken, read_taken, read_refused}
use Rattle.checker.specs.Checked.{checked, verdict_number, check_number}
use Rattle.checker.specs.Answers.{cycle_in}
use Rattle.checker.specs.Numbered.{found_said}
use Rattle.checker.specs.ReadLaws.{request_refused, said_number}
use Rattle.checker.proofs.check.Goals as goal
use Rattle.checker.proofs.check.Goals.{In_ok-cycle}

taken : (c : In_ok-cycle) → Taken c.args.request.now c.in_ok-cycle.cycle
taken c = read_taken _ _ (ap cycle_said (sym c.in_ok-cycle.was) ∙ c.read.ensures)

whole : (c : In_ok-cycle) → verdict_number (checked (cycle_in c.in_ok-cycle.cycle) (decode c.args.table.now)) ≡ check_number c.args.request.now c.args.table.now
whole c = sym (ap (λ (x : Cycle). verdict_number (checked x (decode c.args.table.now))) (taken c).within)

pub returns-in_err-cycle : goal.returns-in_err-cycle
returns-in_err-cycle c =
    let a = c.args in
    let p = err_from_is_err_and c.from_residual.result c.from_residual.ensures.1 in
    let is = read_refused _ _ (ap cycle_said (sym c.in_err-cycle.was) ∙ c.read.ensures) in
    rw (p.1, p.2) (sym (ap verdict_number (request_refused a.request.now _ (decode a.table.now) is)))

pub judge-requires : goal.judge-requires
judge-requires c = (taken (goal.at.judge-requires c).In_ok-cycle).limits

pub returns-in_err-judge : goal.returns-in_err-judge
returns-in_err-judge c =
    let p = err_from_is_err_and c.from_residual-in_err-judge.result c.from_residual-in_err-judge.ensures.1 in
    rw (p.1, p.2)
    (said_number c.in_ok-cycle.cycle (checked (cycle_in c.in_ok-cycle.cycle) (decode c.args.table.now))
    (ap (found_said c.in_ok-cycle.cycle) (sym c.in_err-judge.was) ∙ c.judge.ensures)
    ∙ whole (goal.at.returns-in_err-judge c).In_ok-cycle)

pub returns : goal.returns
returns c =
    said_number c.in_ok-cycle.cycle (checked (cycle_in c.in_ok-cycle.cycle) (decode c.args.table.now))
    (ap (found_said c.in_ok-cycle.cycle) (sym c.in_ok-judge.was) ∙ c.judge.ensures)
    ∙ whole (goal.at.returns c).In_ok-cycle
