-- The request is read, a plan is chosen, and it is written; each way out is one of the definition's cases.
use Rattle.std.proofs.Common.{refl, sym, ap, ◌∙◌}
use Rattle.std.proofs.lemmas.Result.{err_from_is_err_and}
use Rattle.request.specs.SectionLaws.{no_zero}
use Rattle.cycle.specs.Numbered.{cycle_said}
use Rattle.model.specs.WithinLaws.{Taken, read_taken, read_refused}
use Rattle.planner.specs.Numbered.{plan_said}
use Rattle.planner.specs.PlanLaws.{choice_refused, choice_written}
use Rattle.decider.specs.DecideLaws.{not_within, refusal_decided}
use Rattle.decider.proofs.decide.Goals as goal
use Rattle.decider.proofs.decide.Goals.{In_ok-cycle}

taken : (c : In_ok-cycle) → Taken c.args.request.now c.in_ok-cycle.cycle
taken c = read_taken _ _ (ap cycle_said (sym c.in_ok-cycle.was) ∙ c.read.ensures)

pub returns-in_err-cycle : goal.returns-in_err-cycle
returns-in_err-cycle c =
    let p = err_from_is_err_and c.from_residual.result c.from_residual.ensures.1 in
    rw (p.1, p.2) (not_within _ _ (read_refused _ _ (ap cycle_said (sym c.in_err-cycle.was) ∙ c.read.ensures)) _)

pub choose-requires : goal.choose-requires
choose-requires c = (taken (goal.at.choose-requires c).In_ok-cycle).limits

pub returns-in_err-chosen : goal.returns-in_err-chosen
returns-in_err-chosen c =
    let p = err_from_is_err_and c.from_residual-in_err-chosen.result c.from_residual-in_err-chosen.ensures.1 in
    let t = taken (goal.at.returns-in_err-chosen c).In_ok-cycle in
    let chosen = ap (plan_said 0) (sym c.in_err-chosen.was) ∙ c.choose.ensures in
    rw (p.1, p.2) (refusal_decided _ _ (choice_refused _ _ t 0 chosen (no_zero c.in_err-chosen.field-0.0)) _)

pub write-requires : goal.write-requires
write-requires c = (taken (goal.at.write-requires c).In_ok-cycle).limits

pub returns : goal.returns
returns c =
    let t = taken (goal.at.returns c).In_ok-cycle in
    choice_written _ _ t 0 (ap (plan_said 0) (sym c.in_ok-chosen.was) ∙ c.choose.ensures) refl _ c.write.ensures.0 c.write.ensures.1
