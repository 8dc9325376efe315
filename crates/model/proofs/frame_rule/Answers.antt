-- The tests are the definition's, one behind the other.
use Rattle.std.proofs.Common.{le-leb}
use Rattle.std.proofs.lemmas.Bool.{lt-leb}
use Rattle.model.specs.Plausible.{frame_rule}
use Rattle.model.proofs.frame_rule.Goals as goal

pub returns-then-slot-f : goal.returns-then-slot-f
unfolding frame_rule
returns-then-slot-f c = simp (le-leb _ _ (rw c.slot.ensures at c.if-slot-f.true)) c.phase_rule.ensures

pub returns-else-slot-f : goal.returns-else-slot-f
unfolding frame_rule
returns-else-slot-f c = rw c.slot.ensures (simp (lt-leb _ _ (rw c.slot.ensures at c.if-slot-f.false)))
