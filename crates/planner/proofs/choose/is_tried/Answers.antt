-- The tests of the function are the definition's; no length has 0 rows.
use Rattle.std.proofs.Common.{arith}
use Rattle.std.proofs.lemmas.Bool.Decides.{nat_tests}
use Rattle.model.specs.Answers.{instance_of}
use Rattle.model.specs.Chosen.{is_tried_by}
use Rattle.planner.specs.TriedLaws.{no_rows}
use Rattle.planner.proofs.choose.is_tried.Goals as goal

pub returns-then-cycle-rows-eq0 : goal.returns-then-cycle-rows-eq0
unfolding is_tried_by
returns-then-cycle-rows-eq0 c = rw (c.plausible.ensures) (grind (arith, nat_tests))

pub returns-else-cycle-rows-eq0 : goal.returns-else-cycle-rows-eq0
unfolding is_tried_by
returns-else-cycle-rows-eq0 c = grind (arith, nat_tests, no_rows (instance_of c.args.cycle))
