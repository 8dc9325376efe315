-- The number of a job is the first frame of its window.
use Rattle.std.proofs.Common.{◌∙◌, rules, refl}
use Rattle.cycle.specs.Planned.{no_job}
use Rattle.model.specs.Chosen.{first_frame_of}
use Rattle.problem.proofs.first_frames.Goals as goal

pub returns : goal.returns
returns c = c.each_job.ensures (first_frame_of c.args.f) (λ x r p. search rules) ∙ rw (c.first_of-jobs.ensures.those no_job) refl
