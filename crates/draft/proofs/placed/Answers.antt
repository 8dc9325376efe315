-- Those passed that are not lifted stand in the first places.
use Rattle.std.proofs.Common.{◌≡◌, ◌<◌, ℕ, arith, length, length-append, get_or}
use Rattle.std.proofs.lemmas.Slice.Zip.{zip_turn, zip_end}
use Rattle.cycle.specs.Planned.{no_job}
use Rattle.cycle.specs.declared.Job.{Job}
use Rattle.plan_rules.specs.Slices.{firsts_all}
use Rattle.draft.specs.PlacedLaws.{none_passed, lifted_passed, placed_passed}
use Rattle.draft.proofs.placed.Goals as goal
use Rattle.draft.proofs.placed.Goals.{In-Some}

-- this turn's job and frame
turn : (c : In-Some)
    → let y = length c.loop-job.yielded in
    (y < length c.args.jobs.now) × (y < length c.args.frames.now) × ((d : Job) → c.in-Some.job.now ≡ get_or c.args.jobs.now y d)
    × ((d : ℕ) → c.in-Some.k.now ≡ get_or c.args.frames.now y d)
turn c =
    let a = c.args in
    let l = c.loop-job in
    zip_turn a.jobs.now a.frames.now l.yielded c.into_iter-job-iterator.result l.job-iterator c.next.new.self c.next.result (cc) (cc) l.yielded_by _
    c.in-Some.is c.next.ensures.steps

pub loop-job-init : goal.loop-job-init
loop-job-init c = record { few = omega arith; passed = none_passed c.args.jobs.now c.args.frames.now }

pub loop-job-preserved-then-k : goal.loop-job-preserved-then-k
loop-job-preserved-then-k c =
    let a = c.args in
    let l = c.loop-job in
    let t = turn (goal.at.loop-job-preserved-then-k c).In-Some in
    let y = length l.yielded in
    let room : y < 128 = omega (arith, c.requires.1, t.0) in
    let down = rw (t.3 0) at c.if-k.true in
    record {
      few = simp length-append (omega (arith, l.invariant.few));
      passed = rw (length-append, t.2 no_job, t.3 0) (placed_passed a.jobs.now a.frames.now y _ l.invariant.passed down room);
    }

pub loop-job-preserved : goal.loop-job-preserved
loop-job-preserved c =
    let a = c.args in
    let l = c.loop-job in
    let t = turn (goal.at.loop-job-preserved c).In-Some in
    let up = rw (t.3 0) at c.if-k.false in
    record {
      few = simp length-append (omega (arith, l.invariant.few));
      passed = rw length-append (lifted_passed a.jobs.now a.frames.now (length l.yielded) _ l.invariant.passed up);
    }

pub returns-clause-few : goal.returns-clause-few
returns-clause-few c =
    let a = c.args in
    let l = c.loop-job in
    let end =
    zip_end a.jobs.now a.frames.now l.yielded c.into_iter-job-iterator.result l.job-iterator c.next.new.self c.next.result (cc) (cc) l.yielded_by
    c.in-None.is c.next.ensures.steps in
    omega (arith, l.invariant.few, c.requires.1)

pub returns-clause-placing : goal.returns-clause-placing
returns-clause-placing c =
    let a = c.args in
    let l = c.loop-job in
    let end =
    zip_end a.jobs.now a.frames.now l.yielded c.into_iter-job-iterator.result l.job-iterator c.next.new.self c.next.result (cc) (cc) l.yielded_by
    c.in-None.is c.next.ensures.steps in
    let all : length l.yielded ≡ length a.jobs.now = omega (arith, c.requires.0) in
    rw (all, firsts_all no_job a.jobs.now, ← c.requires.0, firsts_all 0 a.frames.now) at l.invariant.passed
