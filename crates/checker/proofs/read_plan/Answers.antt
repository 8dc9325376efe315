-- What is found in the table, with the cycle beside it, is the answer.
use Rattle.std.specs.Prelude.{◌≡◌}
use Rattle.std.proofs.Common.{sym, ◌∙◌, ap, ap₂}
use Rattle.std.proofs.lemmas.Result.{err_from_is_err_and}
use Rattle.cycle.specs.Cycle.{Cycle, cycle_of}
use Rattle.cycle.specs.Answers.{cycle_answered}
use Rattle.cycle.specs.Numbered.{cycle_said}
use Rattle.cycle.specs.ReadLaws.{said_answered}
use Rattle.table.specs.Table.{decode}
use Rattle.model.specs.WithinLaws.{Taken, read_taken, read_refused}
use Rattle.checker.specs.Checked.{checked}
use Rattle.checker.specs.Answers.{read_answer, cycle_in}
use Rattle.checker.specs.ReadLaws.{request_refused}
use Rattle.checker.proofs.read_plan.Goals as goal
use Rattle.checker.proofs.read_plan.Goals.{In_ok-cycle}

taken : (c : In_ok-cycle) → Taken c.args.request.now c.in_ok-cycle.cycle
taken c = read_taken _ _ (ap cycle_said (sym c.in_ok-cycle.was) ∙ c.read.ensures)

-- the cycle that was read is the request's, with what the table is for it
same : (c : In_ok-cycle) → c.in_ok-cycle.cycle ≡ cycle_answered (cycle_of c.args.request.now)
same c = said_answered (cycle_of c.args.request.now) (ap cycle_said (sym c.in_ok-cycle.was) ∙ c.read.ensures)

whole : (c : In_ok-cycle) → let d = decode c.args.table.now in let y = c.in_ok-cycle.cycle in
    read_answer y (checked (cycle_in y) d) ≡ read_answer (cycle_answered (cycle_of c.args.request.now)) (checked (cycle_of c.args.request.now) d)
whole c = ap₂ read_answer (same c) (sym (ap (λ (x : Cycle). checked x (decode c.args.table.now)) (taken c).within))

pub returns-in_err-cycle : goal.returns-in_err-cycle
returns-in_err-cycle c =
    let a = c.args in
    let p = err_from_is_err_and c.from_residual.result c.from_residual.ensures.1 in
    let is = read_refused _ _ (ap cycle_said (sym c.in_err-cycle.was) ∙ c.read.ensures) in
    rw (p.1, p.2) (ap₂ read_answer (ap cycle_answered (sym is)) (sym (request_refused a.request.now _ (decode a.table.now) is)))

pub judge-plan-requires : goal.judge-plan-requires
judge-plan-requires c = (taken (goal.at.judge-plan-requires c).In_ok-cycle).limits

pub returns : goal.returns
returns c = c.judge-plan.ensures ∙ whole (goal.at.returns c).In_ok-cycle
