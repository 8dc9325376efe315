-- The exact planner's length or refusal, of which a length is small.
use Rattle.std.proofs.Common.{ap, ◌∙◌}
use Rattle.bus.specs.Reply.{written_reply}
use Rattle.bus.specs.ReplyLaws.{kept}
use Rattle.bus.specs.Decide.{decide_reply, decide_buffer}
use Rattle.bus.specs.DecideLaws.{decide_few}
use Rattle.bus.proofs.tables.bus_decide.Goals as goal

pub length-requires : goal.length-requires
length-requires c = rw c.decide.ensures.0 (decide_few _ _)

pub returns : goal.returns
unfolding decide_reply decide_buffer
returns c = (kept _ c.length.type_inv ∙ c.length.ensures ∙ ap written_reply c.decide.ensures.0, c.decide.ensures.1)
