-- The third section has at most two bytes, so that no sum wraps.
use Rattle.std.proofs.Common.{arith}
use Rattle.request.specs.WriteLaws.{silent_short}
use Rattle.request.proofs.write.request_length.Goals as goal

pub overflow_add-result-3 : goal.overflow_add-result-3
overflow_add-result-3 c = omega (arith, c.silent_length.ensures, silent_short c.args.g)
