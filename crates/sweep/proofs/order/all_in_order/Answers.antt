-- The jobs one after the other.
use Rattle.std.proofs.Common.{rules}
use Rattle.std.proofs.iter.runs.Sources.{ranges}
use Rattle.sweep.specs.Arrays.{rules_in}
use Rattle.sweep.proofs.order.all_in_order.Goals as goal

pub returns : goal.returns
unfolding rules_in
returns c = search (rules, ranges)
