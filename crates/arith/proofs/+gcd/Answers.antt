-- `gcd` follows the definition's two laws, gcd_zero and gcd_step.
use Rattle.std.proofs.Common.{sym, ◌∙◌, pos_of_ne-zero}
use Rattle.arith.specs.GcdLaws.{gcd_zero, gcd_step}
use Rattle.arith.proofs.+gcd.Goals as goal

pub returns-then-b-eq0 : goal.returns-then-b-eq0
returns-then-b-eq0 t c = rw c.if-b-eq0.true (sym (gcd_zero _))

pub returns-else-b-eq0 : goal.returns-else-b-eq0
returns-else-b-eq0 t c = c.gcd.ensures ∙ sym (gcd_step _ _ (pos_of_ne-zero c.if-b-eq0.false))
