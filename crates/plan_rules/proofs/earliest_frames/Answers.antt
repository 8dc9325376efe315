-- The loop keeps the earliest frames of the jobs passed.
use Rattle.std.proofs.Common.{◌≡◌, ◌<◌, ℕ, arith, length, length-append, get_or}
use Rattle.std.proofs.lemmas.Slice.Zip.{zip_turn}
use Rattle.cycle.specs.Planned.{no_job}
use Rattle.cycle.specs.declared.Job.{Job}
use Rattle.plan_rules.specs.Earliest.{earliest_none, passed_other, passed_own}
use Rattle.plan_rules.proofs.earliest_frames.Goals as goal
use Rattle.plan_rules.proofs.earliest_frames.Goals.{In-Some}

-- this turn's job and frame
turn : (c : In-Some)
    → let y = length c.loop-job.yielded in
    (y < length c.args.jobs.now) × (y < length c.args.frames.now) × ((d : Job) → c.in-Some.job.now ≡ get_or c.args.jobs.now y d)
    × ((d : ℕ) → c.in-Some.k.now ≡ get_or c.args.frames.now y d)
turn c =
    let a = c.args in
    let l = c.loop-job in
    zip_turn a.jobs.now a.frames.now l.yielded c.into_iter-job-iterator.result l.job-iterator c.next.new.self c.next.result (cc) (cc) l.yielded_by _
    c.in-Some.is c.next.ensures.steps

pub loop-job-init : goal.loop-job-init
loop-job-init c = earliest_none c.args.jobs.now c.args.frames.now c.args.b

pub loop-job-preserved-then-job-b : goal.loop-job-preserved-then-job-b
loop-job-preserved-then-job-b c =
    let a = c.args in
    let l = c.loop-job in
    let t = turn (goal.at.loop-job-preserved-then-job-b c).In-Some in
    passed_own a.jobs.now a.frames.now a.b (length l.yielded) l.earliest l.invariant c.in-Some.job.now (t.2 no_job) _ (simp length-append) c.if-job-b.true
    (omega arith) c.from-number.result c.from-number.ensures c.in-Some.k.now (t.3 0) c.min.result c.min.ensures

pub loop-job-preserved : goal.loop-job-preserved
loop-job-preserved c =
    let a = c.args in
    let l = c.loop-job in
    let t = turn (goal.at.loop-job-preserved c).In-Some in
    passed_other a.jobs.now a.frames.now a.b (length l.yielded) l.earliest l.invariant c.in-Some.job.now (t.2 no_job) _ (simp length-append)
    c.if-job-b.false
