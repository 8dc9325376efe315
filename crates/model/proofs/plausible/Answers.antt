-- The tests are the definition's, one behind the other; the tasks are the first places of the cycle's.
use Rattle.std.proofs.Common.{min, arith}
use Rattle.std.proofs.lemmas.Bool.Decides.{nat_tests}
use Rattle.request.specs.Request.{no_task}
use Rattle.request.specs.WriteLaws.{firsts_are}
use Rattle.model.specs.Plausible.{plausible_by}
use Rattle.model.proofs.plausible.Goals as goal

pub returns-then-cycle-f-le256 : goal.returns-then-cycle-f-le256
unfolding plausible_by
returns-then-cycle-f-le256 c =
    rw (firsts_are no_task c.args.cycle.tasks (min c.args.cycle.n 16) (omega arith), ← c.min-n.ensures, ← c.frame_rules.ensures) (grind (arith, nat_tests))

pub returns-else-cycle-f-le256 : goal.returns-else-cycle-f-le256
unfolding plausible_by
returns-else-cycle-f-le256 c = grind (arith, nat_tests)
