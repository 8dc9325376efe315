-- The two tests are the definition's.
use Rattle.std.proofs.Common.{eq-eqb, ne_eqb}
use Rattle.model.specs.Named.{is_job}
use Rattle.plan_rules.proofs.is_job.Goals as goal

pub returns-then-job-task : goal.returns-then-job-task
unfolding is_job
returns-then-job-task c = rw (eq-eqb _ _ c.if-job-task.true)

pub returns-else-job-task : goal.returns-else-job-task
unfolding is_job
returns-else-job-task c = rw (ne_eqb _ _ c.if-job-task.false)
