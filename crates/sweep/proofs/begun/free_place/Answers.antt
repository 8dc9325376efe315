-- The zeros below the first free bit are counted.
use Rattle.std.proofs.Common.{arith, ◌/◌, ◌^◌, bit_and, bit_xor}
use lib.Count.{trailing_le}
use Rattle.sweep.proofs.BitLaws.{unfree}
use Rattle.sweep.proofs.begun.free_place.Goals as goal

pub returns : goal.returns
returns c = (
  omega arith,
  omega (arith, c.requires, trailing_le 64 (bit_and c.args.begun (bit_xor c.args.begun c.args.put) / 2 ^ c.args.i)),
  unfree c.args.begun c.args.put c.args.i,
)
