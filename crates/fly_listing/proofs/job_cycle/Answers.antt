-- Each way is one case of the carry bit.
use Rattle.std.proofs.Common.{◌≡◌, sym, ◌∙◌, true, false}
use Rattle.table.specs.Table.{carried_in}
use Rattle.fly_listing.proofs.job_cycle.Goals as goal

pub returns-then-is_carried : goal.returns-then-is_carried
returns-then-is_carried c =
    let carried : carried_in c.args.job ≡ true = sym c.is_carried.ensures ∙ c.if-is_carried.true in
    c.saturating_sub.ensures ∙ rw carried

pub returns-else-is_carried : goal.returns-else-is_carried
returns-else-is_carried c =
    let not_carried : carried_in c.args.job ≡ false = sym c.is_carried.ensures ∙ c.if-is_carried.false in
    rw not_carried
