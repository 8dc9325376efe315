-- What the plain search chooses within its tries is the choice; else the exact search chooses.
use Rattle.std.specs.Prelude.{Ok, Err}
use Rattle.std.proofs.Common.{sym, ap, ◌∙◌, arith}
use Rattle.planner.specs.Numbered.{plan_said}
use Rattle.decider.specs.DecideLaws.{easily_chosen, other_number}
use Rattle.decider.proofs.choose.Goals as goal

pub returns-in-Ok : goal.returns-in-Ok
returns-in-Ok c =
    let tries = c.choose.result.tries in
    easily_chosen _ 10000 (Ok c.in-Ok.chosen) tries (ap (plan_said tries) (sym c.in-Ok.is) ∙ c.choose.ensures) (λ z. omega arith)

pub returns-in_default : goal.returns-in_default
returns-in_default c =
    let tries = c.choose.result.tries in
    let refusal = c.in-Err.refusal in
    let none = ap (plan_said tries) (sym c.in-Err.is) ∙ c.choose.ensures in
    easily_chosen _ 10000 (Err refusal) tries none (other_number refusal c.in_default.not-AllowanceUsed)
