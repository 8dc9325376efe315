-- The four texts that are put, one behind the other, are the name.
use Rattle.text.specs.TextLaws.{put_none, put_more, put_append}
use Rattle.plan_listing.specs.ListingLaws.{named_bytes}
use Rattle.plan_listing.proofs.entry.put_name.Goals as goal

pub returns : goal.returns
returns c =
    rw (named_bytes, c.put_number.ensures, c.number.ensures, c.put-dot.ensures, c.put_number-number.ensures, c.put-space.ensures)
    (simp (put_append, put_more, put_none))
