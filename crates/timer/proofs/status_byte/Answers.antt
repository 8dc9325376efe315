-- Each bit is 0 or 1.
use Rattle.std.proofs.Common.{arith}
use Rattle.timer.specs.RegisterLaws.{bit_is, bit_few}
use Rattle.timer.proofs.status_byte.Goals as goal

pub overflow_mul-result : goal.overflow_mul-result
overflow_mul-result c = let a = c.args.status in omega (arith, bit_few a.overrun)

pub overflow_add-result : goal.overflow_add-result
overflow_add-result c = let a = c.args.status in omega (arith, bit_few a.due, bit_few a.overrun)

pub overflow_mul-result-2 : goal.overflow_mul-result-2
overflow_mul-result-2 c = let a = c.args.status in omega (arith, bit_few a.missed)

pub overflow_add-result-2 : goal.overflow_add-result-2
overflow_add-result-2 c = let a = c.args.status in omega (arith, bit_few a.due, bit_few a.overrun, bit_few a.missed)

pub returns : goal.returns
returns c = let a = c.args.status in rw (bit_is a.due, bit_is a.overrun, bit_is a.missed)
