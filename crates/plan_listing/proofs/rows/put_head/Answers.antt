-- The parts of the line, in their order.
use Rattle.text.specs.TextLaws.{put_none, put_more, put_append}
use Rattle.plan_listing.specs.Listing.{head_line}
use Rattle.plan_listing.proofs.rows.put_head.Goals as goal

pub returns : goal.returns
unfolding head_line
returns c =
    rw (c.put.ensures, c.put_size-rows.ensures, c.put_size-cycle.ensures, c.put_size-frame.ensures) (simp (put_append, put_more, put_none))
