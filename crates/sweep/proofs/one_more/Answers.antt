-- The jobs of the row one after the other; where all are passed there is nothing to show.
use Rattle.std.proofs.Common.{arith}
use Rattle.exact.specs.Sweep.{more}
use Rattle.exact.specs.WitnessLaws.{any_below_from}
use Rattle.searcher.specs.Arrays.{jobs_in}
use Rattle.sweep.specs.Arrays.{rules_in}
use Rattle.sweep.proofs.one_more.Goals as goal

pub returns-then-could_put : goal.returns-then-could_put
returns-then-could_put c =
    let a = c.args in
    λ e. any_below_from (more (rules_in a.problem.now a.swept.now) a.p a.flags.now a.room) (jobs_in a.problem.now)
    c.first_free-i.result (omega (arith, c.if-i-n.false, c.loop-i.invariant)) (c.could_put.ensures c.if-could_put.true)
