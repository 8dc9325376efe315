-- The loop keeps that putting the entries of the places left, behind those put, gives the answer.
use Rattle.std.proofs.Common.{refl, sym, ◌∙◌}
use native.Mathlib.Nat.{sub-zero}
use Rattle.plan_listing.specs.ListingLaws.{entries_turn, entries_end}
use Rattle.fly_listing.specs.Flown.{served_text}
use Rattle.fly_listing.proofs.put_entries.Goals as goal

pub loop-i-init : goal.loop-i-init
loop-i-init c = (refl, rw (sub-zero _) refl)

pub loop-i-preserved : goal.loop-i-preserved
loop-i-preserved c =
    let s = c.args in
    let l = c.loop-i in (
      c.put_served-end.auto.out ∙ l.invariant.0,
      rw c.put_served-end.ensures (entries_turn s.frame.tasks s.frame.jobs _ l.i (served_text _) _ c.loop-i-test.true) ∙ l.invariant.1,
    )

pub returns : goal.returns
returns c =
    let s = c.args in
    sym (entries_end s.frame.tasks s.frame.jobs _ c.loop-i.i (served_text _) _ c.loop-i-test.false) ∙ c.loop-i.invariant.1
