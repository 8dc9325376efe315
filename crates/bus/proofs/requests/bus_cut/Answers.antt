-- The cut request's length or refusal, of which a length is small.
use Rattle.std.proofs.Common.{ap, ◌∙◌}
use Rattle.bus.specs.Reply.{written_reply}
use Rattle.bus.specs.ReplyLaws.{kept}
use Rattle.bus.specs.Cut.{cut_reply, cut_buffer}
use Rattle.bus.specs.CutLaws.{cut_few}
use Rattle.bus.proofs.requests.bus_cut.Goals as goal

pub length-requires : goal.length-requires
length-requires c = rw c.cut.ensures.0 (cut_few _ _ _ _)

pub returns : goal.returns
unfolding cut_reply cut_buffer
returns c = (kept _ c.length.type_inv ∙ c.length.ensures ∙ ap written_reply c.cut.ensures.0, c.cut.ensures.1)
