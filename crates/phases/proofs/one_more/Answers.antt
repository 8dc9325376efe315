-- Each arm raises the count of its number, and the last one none.
use Rattle.std.proofs.Common.{ap, ◌∙◌, arith, ◌≡◌}
use Rattle.refusal.specs.Refusal.{number_of, refusal_in}
use Rattle.request.specs.SectionLaws.{no_zero}
use Rattle.phases.specs.Ways.{more_tables, more_nines, more_tens, more_ended, no_more, not_nine, not_ten, not_ended}
use Rattle.phases.proofs.one_more.Goals as goal

pub returns-in-Ok : goal.returns-in-Ok
returns-in-Ok c = more_tables _ _ (ap refusal_in c.in-Ok.is)

pub returns-in-NoPlausibleLength : goal.returns-in-NoPlausibleLength
returns-in-NoPlausibleLength c =
    let is : refusal_in c.args.outcome ≡ 9 = ap refusal_in c.in-Err.is ∙ ap number_of c.in-NoPlausibleLength.is in
    more_nines _ _ (λ z. omega arith) is

pub returns-in-NoPlan : goal.returns-in-NoPlan
returns-in-NoPlan c =
    let is : refusal_in c.args.outcome ≡ 10 = ap refusal_in c.in-Err.is ∙ ap number_of c.in-NoPlan.is in
    more_tens _ _ (λ z. omega arith) (λ z. omega arith) is

pub returns-in-AllowanceUsed : goal.returns-in-AllowanceUsed
returns-in-AllowanceUsed c =
    let is : refusal_in c.args.outcome ≡ 23 = ap refusal_in c.in-Err.is ∙ ap number_of c.in-AllowanceUsed.is in
    more_ended _ _ (λ z. omega arith) (λ z. omega arith) (λ z. omega arith) is

pub returns-in_default : goal.returns-in_default
returns-in_default c =
    let e = c.in-Err.refusal in
    let d = c.in_default in
    rw (ap refusal_in c.in-Err.is)
    (no_more _ _ (no_zero e) (not_nine e d.not-NoPlausibleLength) (not_ten e d.not-NoPlan) (not_ended e d.not-AllowanceUsed))
