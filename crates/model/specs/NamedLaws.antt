-- The test of a job by its task and number says that it has both, and it says so of every job that has.
use Rattle.std.specs.Prelude.{ℕ, ◌≡◌, true, eqb}
use borrow.Author.Tests.{eq-eqb, eqb-true}
use Rattle.cursor.specs.ParsedLaws.{both_true}
use Rattle.cycle.specs.declared.Job.{Job}
use Rattle.model.specs.Named.{is_job}

pub record Named (task number : ℕ) (job : Job) : Type 0 where
  pub task_is : job.task ≡ task
  pub number_is : job.number ≡ number

module _ (task number : ℕ) (job : Job) where
  pub job_says : is_job task number job ≡ true → Named task number job
  unfolding is_job
  job_says e =
      let b = both_true (eqb job.task task) (eqb job.number number) e in
      record { task_is = eqb-true job.task task b.0; number_is = eqb-true job.number number b.1 }

  pub says_job : Named task number job → is_job task number job ≡ true
  unfolding is_job
  says_job v = rw (eq-eqb job.task task v.task_is, eq-eqb job.number number v.number_is)
