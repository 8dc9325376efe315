-- The rewriter's length or refusal, of which a length is small.
use Rattle.std.proofs.Common.{ap, ◌∙◌}
use Rattle.bus.specs.Reply.{written_reply}
use Rattle.bus.specs.ReplyLaws.{kept}
use Rattle.bus.specs.Rewrite.{rewrite_reply, rewrite_buffer}
use Rattle.bus.specs.RewriteLaws.{rewrite_few}
use Rattle.bus.proofs.tables.bus_rewrite.Goals as goal

pub length-requires : goal.length-requires
length-requires c = rw c.rewrite.ensures.0 (rewrite_few _ _ _)

pub returns : goal.returns
unfolding rewrite_reply rewrite_buffer
returns c = (kept _ c.length.type_inv ∙ c.length.ensures ∙ ap written_reply c.rewrite.ensures.0, c.rewrite.ensures.1)
