-- The tests are the definition's, one behind the other.
use Rattle.std.proofs.Common.{arith}
use Rattle.std.proofs.lemmas.Bool.Decides.{nat_tests}
use Rattle.request.specs.Request.{pair_rule}
use Rattle.request.proofs.keeps_pair_rule.Goals as goal

pub returns-then-second-tasks : goal.returns-then-second-tasks
unfolding pair_rule
returns-then-second-tasks c = grind (arith, nat_tests)

pub returns-else-second-tasks : goal.returns-else-second-tasks
unfolding pair_rule
returns-else-second-tasks c = grind (arith, nat_tests)
