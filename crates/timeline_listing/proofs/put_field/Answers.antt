-- The number and the space.
use Rattle.text.specs.TextLaws.{put_none, put_more, put_append}
use Rattle.timeline_listing.proofs.put_field.Goals as goal

pub returns : goal.returns
returns c =
    rw (c.put.ensures, c.put_number-number.ensures) (simp (put_append, put_more, put_none))
