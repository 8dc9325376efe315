-- The loop keeps that the ticks of the places left, added to the sum, are those of all places. Each place adds at most 65,535: no sum wraps.
use Rattle.std.proofs.Common.{◌≤◌, ◌<◌, ◌≡◌, zero-add, arith, get_or, length, take, length-take-le}
use Rattle.std.proofs.lemmas.List.{get_or-take}
use native.Mathlib.Nat.{sub-zero}
use Rattle.cycle.specs.Planned.{no_job}
use Rattle.plan_listing.specs.ListingLaws.{ticks_are}
use Rattle.timeline_listing.specs.PutLaws.{busy_turn, busy_end}
use Rattle.timeline_listing.proofs.busy.Goals as goal
use Rattle.timeline_listing.proofs.busy.Goals.{Start}

as_many : (c : Start) → length (take c.args.known.count c.args.known.jobs) ≡ c.args.known.count
as_many c = length-take-le c.args.known.count c.args.known.jobs (omega (arith, c.requires.0))

pub loop-job-init : goal.loop-job-init
loop-job-init c = (omega arith, rw (sub-zero c.args.known.count) (zero-add _))

pub loop-job-preserved : goal.loop-job-preserved
loop-job-preserved c =
    let s = c.args in
    let k = s.known in
    let y = c.loop-job.job-index in
    let more : y < k.count = omega (arith, c.loop-job-test.true, as_many (goal.at.loop-job-preserved c).Start) in
    let ticks = rw (get_or-take k.count k.jobs y no_job more) at c.cost.ensures in (
      omega (arith, c.cost.type_inv, c.loop-job.invariant.0),
      omega (
        arith,
        ticks,
        ticks_are s.tasks (get_or k.jobs y no_job).task c.requires.1,
        busy_turn k k.count y s.tasks more,
        c.loop-job.invariant.1,
      ),
    )

pub returns : goal.returns
returns c =
    let s = c.args in
    let y = c.loop-job.job-index in
    let last : s.known.count ≤ y = omega (arith, c.loop-job-test.false, as_many (goal.at.returns c).Start) in
    omega (arith, busy_end s.known s.known.count y s.tasks last, c.loop-job.invariant.1)
