-- The loop keeps that putting the lines of the frames left, behind those put, gives the answer, and that the state is the one after the frames served.
use Rattle.std.proofs.Common.{◌*◌, ◌-◌, ◌<◌, ◌≡◌, length}
use Rattle.table.specs.Table.{decode}
use Rattle.flight.specs.Calls.{height}
use Rattle.text.specs.Text.{filled_to, put_all_of}
use Rattle.plan_listing.specs.Answers.{table_in}
use Rattle.fly_listing.specs.FlownLaws.{frame_lines, state_after}
use Rattle.fly_listing.proofs.put_frames.Given as goal

abbrev pub invariant-loop-m : goal.invariant-loop-m
invariant-loop-m l =
    (l.frames ≡ 3 * height (table_in (decode l.table))) × (length l.out ≡ length l.initial.out)
    × (0 < height (table_in (decode l.table)) → l.state ≡ state_after (table_in (decode l.table)) l.m)
    × (put_all_of (filled_to l.end l.out) (frame_lines (table_in (decode l.table)) (3 * height (table_in (decode l.table)) - l.m) l.m)
    ≡ put_all_of (filled_to 0 l.initial.out) (frame_lines (table_in (decode l.table)) (3 * height (table_in (decode l.table))) 0))
