-- The tests are the definition's, one behind the other.
use Rattle.std.proofs.Common.{arith}
use Rattle.std.proofs.lemmas.Bool.Decides.{nat_tests}
use Rattle.request.specs.Request.{task_rule}
use Rattle.request.proofs.keeps_task_rule.Goals as goal

pub returns-then-x-2 : goal.returns-then-x-2
unfolding task_rule
returns-then-x-2 c = grind (arith, nat_tests)

pub returns-else-x-2 : goal.returns-else-x-2
unfolding task_rule
returns-else-x-2 c = grind (arith, nat_tests)
