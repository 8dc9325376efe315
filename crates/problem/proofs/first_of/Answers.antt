-- The array has all the places that are asked for.
use Rattle.std.proofs.Common.{sym, arith}
use Rattle.problem.specs.JobLaws.{firsts_take}
use Rattle.problem.proofs.first_of.Goals as goal

pub returns-clause-those : goal.returns-clause-those
returns-clause-those g c = λ blank.
    rw c.min.ensures (sym (firsts_take blank c.args.items.now _ (omega (arith, c.type_inv.items))))
