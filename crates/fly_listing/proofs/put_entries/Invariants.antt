-- The loop keeps that putting the entries of the places left, behind those put, gives the answer.
use Rattle.std.proofs.Common.{◌-◌, ◌≡◌, length}
use Rattle.table.specs.AnswerLaws.{entries_at}
use Rattle.text.specs.Text.{filled_to, put_all_of}
use Rattle.plan_listing.specs.Listing.{each}
use Rattle.fly_listing.specs.Flown.{served_text}
use Rattle.fly_listing.proofs.put_entries.Given as goal

abbrev pub invariant-loop-i : goal.invariant-loop-i
invariant-loop-i l =
    let f = l.frame in
    (length l.out ≡ length l.initial.out)
    × (put_all_of (filled_to l.end l.out) (each (served_text l.q) (entries_at f.tasks f.jobs (f.count - l.i) l.i)) ≡ put_all_of
    (filled_to l.at l.initial.out) (each (served_text l.q) (entries_at f.tasks f.jobs f.count 0)))
