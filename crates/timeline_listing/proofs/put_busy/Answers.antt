-- The parts of the line, in their order.
use Rattle.text.specs.TextLaws.{put_none, put_more, put_append}
use Rattle.timeline_listing.specs.Printed.{busy_line}
use Rattle.timeline_listing.proofs.put_busy.Goals as goal

pub returns : goal.returns
unfolding busy_line
returns c =
    rw (c.put.ensures, c.put_number-number.ensures, c.put_all-name.ensures) (simp (put_append, put_more, put_none))
