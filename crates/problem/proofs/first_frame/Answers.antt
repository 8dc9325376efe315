-- Frames of length 0 have the number 0; otherwise the number is the quotient, which is at most the release.
use Rattle.std.proofs.Common.{refl, pos_of_ne-zero, arith}
use Rattle.model.specs.Window.{first_from}
use Rattle.model.specs.Chosen.{first_frame_of}
use Rattle.problem.specs.JobLaws.{first_of_none, first_frame_le}
use Rattle.problem.proofs.first_frame.Goals as goal

pub returns-then-f-eq0 : goal.returns-then-f-eq0
returns-then-f-eq0 c = first_of_none _ c.args.job c.if-f-eq0.true

pub overflow_cast-result-2 : goal.overflow_cast-result-2
overflow_cast-result-2 c =
    omega (arith, first_frame_le c.args.f c.args.job.release (pos_of_ne-zero c.if-f-eq0.false))

pub returns : goal.returns
unfolding first_frame_of first_from
returns c = refl
