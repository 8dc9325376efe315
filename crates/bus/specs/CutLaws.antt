-- The length that bus_cut answers is small.
use Rattle.std.specs.Prelude.{ℕ, ◌<◌, List}
use Rattle.std.proofs.Common.{arith}
use Rattle.cut.specs.Theorem.{cut_length}
use Rattle.bus.specs.Cut.{cut_answer}

pub cut_few : (request : List ℕ) (task first : ℕ) (out : List ℕ) → (cut_answer request task first out).length < 65536
cut_few request task first out = omega (arith, cut_length request task first out)
