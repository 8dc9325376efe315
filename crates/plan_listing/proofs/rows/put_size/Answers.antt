-- The name and then the number.
use Rattle.std.proofs.Common.{sym}
use Rattle.text.specs.TextLaws.{put_append}
use Rattle.plan_listing.proofs.rows.put_size.Goals as goal

pub returns : goal.returns
returns c = rw (c.put_number.ensures, c.put_all-named.ensures) (sym (put_append _ _ _))
