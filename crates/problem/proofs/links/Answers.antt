-- The loop keeps that the links of the jobs passed are counted and stored.
use Rattle.std.proofs.Common.{◌<◌, ◌≤◌, length, ap, arith}
use Rattle.request.specs.Request.{no_pair}
use Rattle.cycle.specs.Planned.{no_job}
use Rattle.model.specs.Answers.{instance_of}
use Rattle.problem.specs.LinkLaws.{no_job_linked, job_linked, all_linked}
use Rattle.problem.proofs.links.Goals as goal

pub loop-y-init : goal.loop-y-init
loop-y-init c = no_job_linked _

pub loop-y-preserved : goal.loop-y-preserved
loop-y-preserved c =
    let x = instance_of c.args.cycle in
    let l = c.loop-y in
    let jobs = c.first_of-jobs.ensures.those no_job in
    let pairs = c.first_of-pairs.ensures.those no_pair in
    let few : length x.pairs ≤ 16 = omega (arith, ap length pairs, c.first_of-pairs.ensures.few) in
    let room : l.y < 128 = omega (arith, c.first_of-jobs.ensures.few) in
    job_linked x few l.y l.counts l.places l.invariant room _ _ (rw (jobs, pairs) at c.store_links.ensures)

pub returns : goal.returns
returns c =
    let l = c.loop-y in
    let jobs = ap length (c.first_of-jobs.ensures.those no_job) in
    all_linked (instance_of c.args.cycle) l.y l.counts l.places l.invariant (omega (arith, jobs))
