-- The name, the mark and the cycle.
use Rattle.table.specs.Table.{entry_of}
use Rattle.text.specs.TextLaws.{put_none, put_more, put_append}
use Rattle.fly_listing.specs.Flown.{job_cycle, served_text}
use Rattle.fly_listing.proofs.put_served.Goals as goal

pub returns : goal.returns
unfolding served_text job_cycle entry_of
returns c =
    rw (c.put_number.ensures, c.job_cycle.ensures, c.put-mark.ensures, c.put_name-name.ensures) (simp (put_append, put_more, put_none))
