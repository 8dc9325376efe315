-- The fields of the line, in their order.
use Rattle.text.specs.TextLaws.{put_none, put_more, put_append}
use Rattle.timeline_listing.specs.Printed.{record_line}
use Rattle.timeline_listing.proofs.put_record.Goals as goal

pub returns : goal.returns
unfolding record_line
returns c =
    rw (c.put.ensures, c.put_number-frame.ensures, c.put_field-due.ensures, c.put_field-release.ensures, c.put_field-number.ensures, c.put_field-task.ensures)
    (simp (put_append, put_more, put_none))
