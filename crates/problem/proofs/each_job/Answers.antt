-- The loop keeps that the numbers of the jobs passed stand in the first places.
use Rattle.std.proofs.Common.{◌<◌, refl, sym, ◌∙◌, arith}
use Rattle.std.proofs.Math.Seq.{take_all}
use Rattle.cursor.specs.PaddedLaws.{padded_none, mapped_more}
use Rattle.cycle.specs.Planned.{no_job}
use Rattle.problem.proofs.each_job.Goals as goal

pub loop-y-init : goal.loop-y-init
loop-y-init g c = λ value is. sym (padded_none 128 c.args.blank)

pub loop-y-preserved : goal.loop-y-preserved
loop-y-preserved g c = λ value is.
    let l = c.loop-y in
    let room : l.y < 128 = omega arith in
    rw (l.invariant value is, is _ _ c.number.ensures) (mapped_more value 128 c.args.blank no_job c.args.jobs.now l.y c.loop-y-test.true room)

pub returns : goal.returns
returns g c = λ value is.
    c.loop-y.invariant value is ∙ rw (take_all c.loop-y.y c.args.jobs.now c.loop-y-test.false) refl
