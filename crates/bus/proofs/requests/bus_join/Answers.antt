-- The joined request's length or refusal, of which a length is small.
use Rattle.std.proofs.Common.{ap, ◌∙◌}
use Rattle.bus.specs.Reply.{written_reply}
use Rattle.bus.specs.ReplyLaws.{kept}
use Rattle.bus.specs.Join.{join_reply, join_buffer}
use Rattle.bus.specs.JoinLaws.{join_few}
use Rattle.bus.proofs.requests.bus_join.Goals as goal

pub length-requires : goal.length-requires
length-requires c = rw c.join.ensures.0 (join_few _ _ _)

pub returns : goal.returns
unfolding join_reply join_buffer
returns c = (kept _ c.length.type_inv ∙ c.length.ensures ∙ ap written_reply c.join.ensures.0, c.join.ensures.1)
