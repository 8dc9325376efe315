-- The request is read, a plan is chosen, and it is written; each way out is one of the definition's cases.
use Rattle.std.specs.Prelude.{Ok, Err}
use Rattle.std.proofs.Common.{refl, sym, ap, ◌∙◌}
use Rattle.request.specs.SectionLaws.{no_zero}
use Rattle.model.specs.WithinLaws.{Taken, read_taken, read_refused}
use Rattle.planner.specs.Numbered.{plan_said}
use Rattle.planner.specs.PlanLaws.{not_within, none_chosen_lem, plan_chosen}
use Rattle.planner.proofs.plan.Goals as goal
use Rattle.planner.proofs.plan.Goals.{In-Ok}

taken : (c : In-Ok) → Taken c.args.request.now c.in-Ok.cycle
taken c = read_taken _ _ c.in-Ok.ensures

pub returns-in-Err : goal.returns-in-Err
returns-in-Err c = not_within _ _ _ (read_refused _ _ c.in-Err.ensures) _ (refl, refl, refl) _

pub choose-outcome-requires : goal.choose-outcome-requires
choose-outcome-requires c = (taken (goal.at.choose-outcome-requires c).In-Ok).limits

pub write-outcome-requires : goal.write-outcome-requires
write-outcome-requires c = (taken (goal.at.write-outcome-requires c).In-Ok).limits

pub returns-in-Ok-outcome : goal.returns-in-Ok-outcome
returns-in-Ok-outcome c =
    let t = taken (goal.at.returns-in-Ok-outcome c).In-Ok in
    let tries = c.choose-outcome.result.tries in
    let chosen = ap (plan_said tries) (sym c.in-Ok-outcome.is) ∙ c.choose-outcome.ensures in
    plan_chosen _ _ t _ (plan_said tries (Ok c.in-Ok-outcome.chosen)) chosen refl _ c.write-outcome.ensures.0 c.write-outcome.ensures.1

pub returns-in-Err-outcome : goal.returns-in-Err-outcome
returns-in-Err-outcome c =
    let t = taken (goal.at.returns-in-Err-outcome c).In-Ok in
    let tries = c.choose-outcome.result.tries in
    let refusal = c.in-Err-outcome.refusal in
    let none = ap (plan_said tries) (sym c.in-Err-outcome.is) ∙ c.choose-outcome.ensures in
    none_chosen_lem _ _ t _ (plan_said tries (Err refusal)) none (no_zero refusal) _ (refl, refl, refl) _
