-- Each bit is 0 or 1.
use Rattle.std.proofs.Common.{arith}
use Rattle.timer.specs.RegisterLaws.{bit_is, bit_few}
use Rattle.timer.proofs.control_byte.Goals as goal

pub overflow_mul-result : goal.overflow_mul-result
overflow_mul-result c = let a = c.args.control in omega (arith, bit_few a.enable)

pub overflow_add-result : goal.overflow_add-result
overflow_add-result c = let a = c.args.control in omega (arith, bit_few a.run, bit_few a.enable)

pub returns : goal.returns
returns c = let a = c.args.control in rw (bit_is a.run, bit_is a.enable)
