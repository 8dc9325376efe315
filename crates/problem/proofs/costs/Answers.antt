-- The number of a job is its cost, with the tasks of the cycle.
use Rattle.std.proofs.Common.{min, ◌∙◌, rules, refl}
use Rattle.cursor.specs.Padded.{firsts}
use Rattle.request.specs.Request.{no_task}
use Rattle.cycle.specs.Planned.{no_job}
use Rattle.model.specs.Plan.{cost_of, costs}
use Rattle.problem.proofs.costs.Goals as goal

pub returns : goal.returns
unfolding costs cost_of
returns c =
    let a = c.args.cycle in
    c.each_job.ensures (cost_of a.g (firsts (min a.n 16) no_task a.tasks)) (λ x r p. search rules) ∙ rw (c.first_of-jobs.ensures.those no_job) refl
