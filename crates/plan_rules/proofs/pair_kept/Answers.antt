-- The loop keeps that each job passed keeps the pair; the earliest frames tell whether all of the partner's are as late.
use Rattle.std.proofs.Common.{◌≡◌, ◌<◌, ℕ, sym, arith, length, length-append, get_or, below_more}
use Rattle.std.proofs.lemmas.Slice.Zip.{zip_turn, zip_end}
use Rattle.cycle.specs.Planned.{no_job}
use Rattle.cycle.specs.declared.Job.{Job}
use Rattle.plan_rules.specs.EveryLaws.{says_every, every_fails}
use Rattle.plan_rules.specs.Earliest.{not_of_the_pair, early_enough, too_late}
use Rattle.plan_rules.proofs.pair_kept.Goals as goal
use Rattle.plan_rules.proofs.pair_kept.Goals.{In-Some, else-job-a-via-then-job-a+else-k-earliest, else-job-a-via-else-job-a}

-- this turn's job and frame
turn : (c : In-Some)
    → let y = length c.loop-job.yielded in
    (y < length c.args.jobs.now) × (y < length c.args.frames.now) × ((d : Job) → c.in-Some.job.now ≡ get_or c.args.jobs.now y d)
    × ((d : ℕ) → c.in-Some.k.now ≡ get_or c.args.frames.now y d)
turn c =
    let a = c.args in
    let l = c.loop-job in
    zip_turn a.jobs.now a.frames.now l.yielded c.into_iter-job-iterator.result l.job-iterator c.next.new.self c.next.result (cc) (cc) l.yielded_by _
    c.in-Some.is c.next.ensures.steps

pub returns-then-k-earliest : goal.returns-then-k-earliest
returns-then-k-earliest c =
    let a = c.args in
    let y = length c.loop-job.yielded in
    let t = turn (goal.at.returns-then-k-earliest c).In-Some in
    sym
    (every_fails _ (length a.jobs.now) y t.0
    (too_late a.jobs.now a.frames.now (length a.jobs.now) a.a a.b y c.in-Some.job.now (t.2 no_job) c.if-job-a.true (omega arith) c.in-Some.k.now (t.3 0)
    (omega arith) c.earliest_frames-earliest.result c.earliest_frames-earliest.ensures (rw (← c.from.ensures) c.if-k-earliest.true)))

pub loop-job-preserved : goal.loop-job-preserved
loop-job-preserved c =
    let a = c.args in
    let y = length c.loop-job.yielded in
    let t = turn (goal.at.loop-job-preserved c).In-Some in
    rw length-append
    (below_more _ y c.loop-job.invariant
    (elim c.else-job-a.branch [
      | else-job-a-via-then-job-a+else-k-earliest w ↦
          early_enough a.jobs.now a.frames.now (length a.jobs.now) a.a a.b y c.in-Some.job.now (t.2 no_job) w.if-job-a.true (omega arith) c.in-Some.k.now
          (t.3 0) (omega arith) c.earliest_frames-earliest.result c.earliest_frames-earliest.ensures (rw (← w.from.ensures) w.if-k-earliest.false)
      | else-job-a-via-else-job-a w ↦
          not_of_the_pair a.jobs.now a.frames.now (length a.jobs.now) a.a a.b y c.in-Some.job.now (t.2 no_job) w.if-job-a.false
    ]))

pub returns : goal.returns
returns c =
    let a = c.args in
    let l = c.loop-job in
    let end =
    zip_end a.jobs.now a.frames.now l.yielded c.into_iter-job-iterator.result l.job-iterator c.next.new.self c.next.result (cc) (cc) l.yielded_by
    c.in-None.is c.next.ensures.steps in
    sym (says_every _ (length a.jobs.now) (λ y h. l.invariant y (omega arith)))
