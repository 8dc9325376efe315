-- A difference that does not go below 0.
use Rattle.std.proofs.Common.{◌∙◌}
use Rattle.prune.proofs.Laws.{from_away, from_some}
use Rattle.prune.proofs.sides.from_side.Goals as goal

pub returns-then-side-eq1024 : goal.returns-then-side-eq1024
returns-then-side-eq1024 c = from_away c.args.side c.args.v c.args.away c.if-side-eq1024.true

pub returns-else-side-eq1024 : goal.returns-else-side-eq1024
returns-else-side-eq1024 c = c.saturating_sub.ensures ∙ from_some c.args.side c.args.v c.args.away c.if-side-eq1024.false
