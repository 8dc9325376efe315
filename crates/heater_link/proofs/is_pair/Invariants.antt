-- The loop keeps that the pairs left decide.
use Rattle.std.proofs.Common.{◌≡◌}
use Rattle.heater_link.specs.Exchange.{is_pair}
use Rattle.heater_link.specs.StepLaws.{pairs_left}
use Rattle.heater_link.proofs.is_pair.Given as goal

abbrev pub invariant-loop-pair : goal.invariant-loop-pair
invariant-loop-pair l = pairs_left l.a l.b l.pairs l.pair-index ≡ is_pair l.a l.b l.pairs
