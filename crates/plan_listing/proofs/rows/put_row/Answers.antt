-- The parts of the line, in their order.
use Rattle.text.specs.TextLaws.{put_none, put_more, put_append}
use Rattle.plan_listing.specs.Listing.{row_line}
use Rattle.plan_listing.proofs.rows.put_row.Goals as goal

pub returns : goal.returns
unfolding row_line
returns c =
    rw (c.put.ensures, c.put_entries-entries.ensures, c.put_number-ticks.ensures, c.busy.ensures, c.put-space.ensures, c.put_number-number.ensures)
    (simp (put_append, put_more, put_none))
