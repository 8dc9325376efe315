-- Frames of length 0 have the number 0; otherwise the number is the quotient.
use Rattle.std.proofs.Common.{refl}
use Rattle.model.specs.Chosen.{end_frame_of}
use Rattle.problem.specs.JobLaws.{end_of_none}
use Rattle.problem.proofs.end_frame.Goals as goal

pub returns-then-f-eq0 : goal.returns-then-f-eq0
returns-then-f-eq0 c = end_of_none _ c.args.job c.if-f-eq0.true

pub returns : goal.returns
unfolding end_frame_of
returns c = refl
