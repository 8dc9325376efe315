-- What is planned has as many jobs as the answer says; for a request within the limits it is good, and it is that request's.
use Rattle.std.specs.Prelude.{◌≡◌, List}
use Rattle.std.proofs.Common.{◌∙◌, arith}
use Prim.Native.Nat.{ℕ, ◌≤◌, min}
use Rattle.std.proofs.Math.ListN.{length}
use Rattle.cursor.specs.PaddedLaws.{firsts_length, firsts_padded}
use Rattle.request.specs.Request.{no_task, no_pair}
use Rattle.request.specs.declared.Task.{Task}
use Rattle.request.specs.declared.Pair.{Pair}
use Rattle.cycle.specs.Cycle.{cycle}
use Rattle.cycle.specs.Planned.{no_job}
use Rattle.cycle.specs.Answers.{cycle_answered, listed}
use Rattle.cycle.specs.LimitLaws.{WithinLimits}
use Rattle.cycle.specs.declared.Job.{Job}
use Rattle.cycle.specs.declared.Cycle.{Cycle}
use Rattle.model.specs.Good.{Good}
use Rattle.model.specs.Answers.{instance_of, instance}

-- there are as many jobs as the answer says
pub jobs_counted : (c : Cycle) → c.count ≤ 128 → length (instance_of c).jobs ≡ c.count
jobs_counted c few = firsts_length no_job c.jobs (min c.count 128) ∙ omega arith

-- the cycle of a request within the limits
module _ (tasks : List Task) (pairs : List Pair) (g h : ℕ) (jobs : List Job) (w : WithinLimits tasks pairs h jobs) where
  pub instance_good : Good (instance tasks pairs g h jobs)
  instance_good = record {
    readable = w.readable;
    in_order = w.in_order;
    some_time = w.h_pos;
    whole_periods = w.period_divides;
    few_jobs = w.jobs_few;
  }

  pub instance_answered : instance_of (cycle_answered (cycle tasks pairs g h jobs)) ≡ instance tasks pairs g h jobs
  unfolding listed
  instance_answered =
      let n : min (length tasks) 16 ≡ length tasks = omega (arith, w.readable.few_tasks) in
      let m : min (length pairs) 16 ≡ length pairs = omega (arith, w.readable.few_pairs) in
      let k : min (length jobs) 128 ≡ length jobs = omega (arith, w.jobs_few) in
      rw (n, m, k, firsts_padded 16 no_task tasks, firsts_padded 16 no_pair pairs, firsts_padded 128 no_job jobs)
