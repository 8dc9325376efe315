-- Only a = b = 0 has the gcd 0, and then the definition gives 0 too.
use Rattle.std.proofs.Common.{sym, ◌∙◌}
use Rattle.arith.specs.Lcm.{lcm_of}
use Rattle.arith.specs.LcmLaws.{lcm_none}
use Rattle.arith.proofs.lcm.Goals as goal

pub returns-then-g-eq0 : goal.returns-then-g-eq0
returns-then-g-eq0 c = sym (lcm_none _ _ (sym c.gcd-g.ensures ∙ c.if-g-eq0.true))

pub returns : goal.returns
unfolding lcm_of
returns c = rw c.gcd-g.ensures
