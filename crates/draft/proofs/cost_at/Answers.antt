-- The cost of a job is that of its task.
use Rattle.draft.specs.MoveLaws.{cost_is}
use Rattle.draft.proofs.cost_at.Goals as goal

pub returns : goal.returns
returns c =
    cost_is c.args.cycle c.args.y c.requires.0 c.requires.1 _ c.cost.ensures
