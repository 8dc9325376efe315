-- The loop keeps that putting the lines of the places left, behind those put, gives the answer.
use Rattle.std.proofs.Common.{refl, sym, ◌∙◌}
use native.Mathlib.Nat.{sub-zero}
use Rattle.timeline_listing.specs.PutLaws.{lines_turn, lines_end}
use Rattle.timeline_listing.proofs.put_records.Goals as goal

pub loop-y-init : goal.loop-y-init
loop-y-init c = (refl, rw (sub-zero _) refl)

pub loop-y-preserved : goal.loop-y-preserved
loop-y-preserved c =
    let l = c.loop-y in
    (c.put_record-end.auto.out ∙ l.invariant.0, rw (c.put_record-end.ensures, c.record_at.ensures) (lines_turn _ _ l.y _ c.loop-y-test.true) ∙ l.invariant.1)

pub returns : goal.returns
returns c = sym (lines_end _ _ c.loop-y.y _ c.loop-y-test.false) ∙ c.loop-y.invariant.1
