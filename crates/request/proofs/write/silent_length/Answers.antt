-- The section is left out exactly where g is 0.
use Rattle.std.proofs.Common.{length, sym, ap}
use Rattle.request.specs.WriteLaws.{silent_none, silent_some}
use Rattle.request.proofs.write.silent_length.Goals as goal

pub returns-then-g-eq0 : goal.returns-then-g-eq0
returns-then-g-eq0 c = sym (ap length (silent_none c.args.g c.if-g-eq0.true))

pub returns-else-g-eq0 : goal.returns-else-g-eq0
returns-else-g-eq0 c = sym (ap length (silent_some c.args.g c.if-g-eq0.false))
