-- The loop keeps that putting the entries of the places left, behind those put, gives the answer.
use Rattle.std.proofs.Common.{refl, sym, ◌∙◌}
use native.Mathlib.Nat.{sub-zero}
use Rattle.plan_listing.specs.Listing.{entry_text}
use Rattle.plan_listing.specs.ListingLaws.{entries_turn, entries_end}
use Rattle.plan_listing.proofs.rows.put_entries.Goals as goal

pub loop-i-init : goal.loop-i-init
loop-i-init c = (refl, rw (sub-zero _) refl)

pub loop-i-preserved : goal.loop-i-preserved
loop-i-preserved c =
    let s = c.args in
    let l = c.loop-i in (
      c.put_entry-end.auto.out ∙ l.invariant.0,
      rw c.put_entry-end.ensures (entries_turn s.row.tasks s.row.jobs _ l.i entry_text _ c.loop-i-test.true) ∙ l.invariant.1,
    )

pub returns : goal.returns
returns c =
    let s = c.args in
    sym (entries_end s.row.tasks s.row.jobs _ c.loop-i.i entry_text _ c.loop-i-test.false) ∙ c.loop-i.invariant.1
