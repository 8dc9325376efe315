-- The cycle of a request with another phase for one of its tasks. No period changes, so H and the number of jobs stay: 7 and 8 do not depend on a phase.
-- The jobs are those of the new phase, in the order of their new releases.
use Rattle.std.specs.Prelude.{ℕ, zero, suc, ◌+◌, ◌/◌, ◌≤◌, ◌<◌, ◌≡◌, refl, length, get_or}
use Rattle.std.proofs.Common.{sym, ◌∙◌, arith, length-set, le-ltb}
use Rattle.std.proofs.Math.Path.{ap}
use mathlib.Core.List.{List, [], ◌∷◌, flat_map}
use Rattle.arith.specs.Lcm.{lcm_of}
use Rattle.request.specs.Request.{readable, reading, no_task, period_of}
use Rattle.request.specs.declared.Task.{Task}
use Rattle.request.specs.declared.Pair.{Pair}
use Rattle.cycle.specs.Cycle.{lcm_with, hyperperiod, jobs_in, all_jobs, planned, cycle, after_reading, cycle_of}
use Rattle.cycle.specs.LimitLaws.{WithinLimits}
use Rattle.cycle.specs.PlannedLaws.{jobs_of, all_jobs_are, jobs_then_length, planned_length}
use Rattle.cycle.specs.PhaseLaws.{task_with, tasks_with, periods_with}
use Rattle.cycle.specs.declared.Job.{Job}
use Rattle.phases.specs.Phases.{with_phase}
use Rattle.phases.specs.PhaseBytes.{reading_with}

-- the common multiple
lcm_phase : (h : ℕ) (tasks : List Task) (i p : ℕ) → lcm_with h (tasks_with tasks i p) ≡ lcm_with h tasks
unfolding lcm_with
lcm_phase h [] i p = refl
lcm_phase h (x ∷ tasks) zero p = refl
lcm_phase h (x ∷ tasks) (suc i) p = lcm_phase (lcm_of h x.t) tasks i p

-- the number of jobs goes by the periods
jobs_same : (h : ℕ) (tasks tasks' : List Task) → ((m : ℕ) → period_of tasks m ≡ period_of tasks' m)
    → (k a : ℕ) → length (jobs_of tasks h k a) ≡ length (jobs_of tasks' h k a)
unfolding jobs_of jobs_in flat_map
jobs_same h tasks tasks' same zero a = refl
jobs_same h tasks tasks' same (suc k) a =
    let one : h / period_of tasks a ≡ h / period_of tasks' a = ap (λ (t : ℕ). h / t) (same a) in
    let was = jobs_then_length tasks a (h / period_of tasks a) 0 (jobs_of tasks h k (a + 1)) in
    let now = jobs_then_length tasks' a (h / period_of tasks' a) 0 (jobs_of tasks' h k (a + 1)) in
    omega (arith, was, now, one, jobs_same h tasks tasks' same k (a + 1))

module _ (tasks : List Task) (i p : ℕ) (known : i < length tasks) (early : p < period_of tasks i) where
  abbrev pub jobs_with : ℕ → List Job
  jobs_with h = planned (tasks_with tasks i p) h

  same_h : hyperperiod (tasks_with tasks i p) ≡ hyperperiod tasks
  unfolding hyperperiod
  same_h = lcm_phase 1 tasks i p

  pub same_count : (h : ℕ) → length (all_jobs (tasks_with tasks i p) h) ≡ length (all_jobs tasks h)
  same_count h =
      let size : length (tasks_with tasks i p) ≡ length tasks = length-set tasks i (task_with (get_or tasks i no_task) p) in
      rw (all_jobs_are (tasks_with tasks i p) h, all_jobs_are tasks h, size)
      (jobs_same h (tasks_with tasks i p) tasks (periods_with tasks i p known early) (length tasks) 0)

  module _ (pairs : List Pair) (g h : ℕ) (jobs : List Job) (w : WithinLimits tasks pairs h jobs) where
    pub after_with : after_reading (readable (tasks_with tasks i p) pairs g) ≡ cycle (tasks_with tasks i p) pairs g h (jobs_with h)
    after_with =
        let h_is : hyperperiod (tasks_with tasks i p) ≡ h = same_h ∙ sym w.h_is in
        let count : length (all_jobs (tasks_with tasks i p) h) ≤ 128 = omega (arith, same_count h, planned_length tasks h, ap length w.jobs_are, w.jobs_few) in
        let in_order : planned (tasks_with tasks i p) h ≡ jobs_with h = refl in
        rw (h_is, le-ltb 10000 h w.h_few, le-ltb 128 _ count) (ap (cycle (tasks_with tasks i p) pairs g h) in_order)

    -- what is planned for the bytes with the phase
    pub phase_within : (bytes : List ℕ) → reading bytes ≡ readable tasks pairs g
        → cycle_of (with_phase bytes i p) ≡ cycle (tasks_with tasks i p) pairs g h (jobs_with h)
    unfolding cycle_of
    phase_within bytes is = ap after_reading (reading_with bytes tasks pairs g is i p known early) ∙ after_with

    -- there are as many jobs
    pub same_jobs : length (jobs_with h) ≡ length jobs
    same_jobs = omega (arith, planned_length (tasks_with tasks i p) h, same_count h, planned_length tasks h, ap length w.jobs_are)
