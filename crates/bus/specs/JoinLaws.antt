-- The length that bus_join answers is small.
use Rattle.std.specs.Prelude.{ℕ, ◌<◌, List}
use Rattle.std.proofs.Common.{arith}
use Rattle.join.specs.Theorem.{join_length}
use Rattle.bus.specs.Join.{join_answer}

pub join_few : (first second out : List ℕ) → (join_answer first second out).length < 65536
join_few first second out = omega (arith, join_length first second out)
