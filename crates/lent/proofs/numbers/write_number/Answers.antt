-- Byte i of a number is the lowest of what is left of it after i divisions by 256.
use Rattle.std.proofs.Math.Nat.{div-div-eq-div-mul}
use Rattle.lent.specs.Numbers.{low_first}
use Rattle.lent.proofs.numbers.write_number.Goals as goal

pub returns : goal.returns
unfolding low_first
returns c = rw (c.copy_from_slice.ensures.after, c.to_le_bytes.ensures) (simp div-div-eq-div-mul)
