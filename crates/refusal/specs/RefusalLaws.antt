-- No refusal has the number 0, which is none.
use Rattle.std.specs.Prelude.{◌≡◌, false, eqb}
use Rattle.std.proofs.Common.{arith}
use Rattle.refusal.specs.Refusal.{number_of}
use Rattle.refusal.specs.declared.Refusal.{Refusal}

pub is_refused : (e : Refusal) → eqb (number_of e) 0 ≡ false
is_refused e = grind arith
