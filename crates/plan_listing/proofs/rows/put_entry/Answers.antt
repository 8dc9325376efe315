-- The two ways are the two cases of carry.
use Rattle.std.proofs.Common.{◌≡◌, sym, ◌∙◌, true, false, append-nil}
use Rattle.table.specs.Table.{carried_in}
use Rattle.table.specs.EntryLaws.{carried_of_byte}
use Rattle.text.specs.TextLaws.{put_none, put_more, put_append}
use Rattle.plan_listing.specs.Listing.{entry_text}
use Rattle.plan_listing.proofs.rows.put_entry.Goals as goal

pub returns-then-not-is_carried : goal.returns-then-not-is_carried
unfolding entry_text
returns-then-not-is_carried c =
    let not_carried : carried_in c.args.job ≡ false = sym c.is_carried.ensures ∙ c.if-not-is_carried.true in
    rw (c.put_name-name.ensures, carried_of_byte, not_carried) (simp append-nil)

pub returns : goal.returns
unfolding entry_text
returns c =
    let plus = c.put.ensures in
    let carried : carried_in c.args.job ≡ true = sym c.is_carried.ensures ∙ c.if-not-is_carried.false in
    rw (plus, c.put_name-name.ensures, carried_of_byte, carried) (simp (put_append, put_more, put_none))
