-- The loop keeps that the ticks of the places left, added to the sum, are those of all places. Each place adds at most 65,535: no sum wraps.
use Rattle.std.proofs.Common.{◌≤◌, ◌<◌, ◌≡◌, zero-add, arith, get_or, length, take, length-take-le}
use Rattle.std.proofs.lemmas.List.{get_or-take}
use native.Mathlib.Nat.{sub-zero}
use Rattle.plan_listing.specs.ListingLaws.{ticks_are, busy_turn, busy_end}
use Rattle.plan_listing.proofs.rows.busy.Goals as goal
use Rattle.plan_listing.proofs.rows.busy.Goals.{Start}

as_many : (c : Start) → length (take c.args.row.count c.args.row.tasks) ≡ c.args.row.count
as_many c = length-take-le c.args.row.count c.args.row.tasks (omega (arith, c.requires.0))

pub loop-entry-init : goal.loop-entry-init
loop-entry-init c = (omega arith, λ jobs. rw (sub-zero c.args.row.count) (zero-add _))

pub loop-entry-preserved : goal.loop-entry-preserved
loop-entry-preserved c =
    let s = c.args in
    let i = c.loop-entry.entry-index in
    let more : i < s.row.count = omega (arith, c.loop-entry-test.true, as_many (goal.at.loop-entry-preserved c).Start) in
    let ticks = rw (get_or-take s.row.count s.row.tasks i 0 more) at c.cost.ensures in (
      omega (arith, c.cost.type_inv, c.loop-entry.invariant.0),
      λ jobs. omega (
        arith,
        ticks,
        ticks_are s.tasks (get_or s.row.tasks i 0) c.requires.1,
        busy_turn s.row.tasks jobs s.row.count i
            s.tasks more,
        c.loop-entry.invariant.1 jobs,
      ),
    )

pub returns : goal.returns
returns c =
    let s = c.args in
    let i = c.loop-entry.entry-index in
    let last : s.row.count ≤ i = omega (arith, c.loop-entry-test.false, as_many (goal.at.returns c).Start) in
    omega (arith, busy_end s.row.tasks s.row.jobs s.row.count i s.tasks last, c.loop-entry.invariant.1 s.row.jobs)
