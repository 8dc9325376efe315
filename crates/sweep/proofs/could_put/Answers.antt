-- There is room; it is not passed over, not tied, and may be put.
use Rattle.std.proofs.Common.{arith}
use Rattle.sweep.proofs.Laws.{more_of}
use Rattle.sweep.proofs.could_put.Goals as goal

pub returns-then-swept-i-eq0 : goal.returns-then-swept-i-eq0
returns-then-swept-i-eq0 c = grind (arith, more_of)
