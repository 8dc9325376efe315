-- What the hyperperiod is, the least common multiple of the periods; and what a request within the limits keeps: its cycle is a whole number of
-- periods of each task, so every job is released within the cycle, and due within the next one.
use Rattle.std.specs.Prelude.{ℕ, zero, suc, ◌+◌, ◌*◌, ◌/◌, ◌≤◌, ◌<◌, ◌≡◌, refl, Bool, true, false, cond, List, [], ◌∷◌, ◌↔◌, ltb}
use Rattle.std.specs.Int.{◌∣◌}
use Rattle.std.proofs.Common.{subst, inl, inr, ⊎_elim, mul-le-mul_right, lt_of_mul-lt-mul_right, arith, ltb-false}
use Rattle.std.proofs.Math.Nat.{dvd_refl, dvd_trans, one-dvd, le_of_dvd, div-mul_cancel}
use Rattle.std.proofs.Math.ListN.{length, get_or}
use Rattle.arith.specs.Lcm.{lcm_of}
use Rattle.arith.specs.LcmLaws.{dvd_lcm_left, dvd_lcm_right, lcm_dvd, lcm_pos}
use Rattle.arith.specs.Residue.{quotient_pos}
use Rattle.request.specs.Request.{Reading, readable, unreadable, reading, no_task, period_of}
use Rattle.request.specs.Readable.{TaskKept, Readable, KeptReading}
use Rattle.request.specs.ReadableLaws.{reading_kept}
use Rattle.request.specs.declared.Task.{Task}
use Rattle.request.specs.declared.Pair.{Pair}
use Rattle.cycle.specs.Cycle.{lcm_with, hyperperiod, jobs_in, job_of, all_jobs, planned, Cycle, cycle, no_cycle, after_reading, cycle_of}
use Rattle.cycle.specs.Planned.{IsJob}
use Rattle.cycle.specs.PlannedLaws.{Periodic, planned_in_order, planned_length}
use Rattle.cycle.specs.declared.Job.{Job}
pub use Rattle.cycle.specs.Limits.{WithinLimits, RequestNumber}

-- The common multiple of h and the periods: what divides h divides it, every period divides it, it divides every other such multiple.
pub lcm_with_keeps : (m h : ℕ) (tasks : List Task) → m ∣ h → m ∣ lcm_with h tasks
unfolding lcm_with
lcm_with_keeps m h [] d = d
lcm_with_keeps m h (x ∷ tasks) d = lcm_with_keeps m (lcm_of h x.t) tasks (dvd_trans m d (dvd_lcm_left h x.t))

pub lcm_with_divides : (h : ℕ) (tasks : List Task) (i : ℕ) → i < length tasks → period_of tasks i ∣ lcm_with h tasks
unfolding lcm_with
lcm_with_divides h [] i k = absurd (omega arith)
lcm_with_divides h (x ∷ tasks) zero k = lcm_with_keeps x.t (lcm_of h x.t) tasks (dvd_lcm_right h x.t)
lcm_with_divides h (x ∷ tasks) (suc i) k = lcm_with_divides (lcm_of h x.t) tasks i (omega arith)

periodic_rest : (x : Task) (tasks : List Task) → Periodic (x ∷ tasks) → Periodic tasks
periodic_rest x tasks pos i k = pos (suc i) (omega arith)

pub lcm_with_dvd : (m h : ℕ) (tasks : List Task) → 0 < h → Periodic tasks → h ∣ m → ((i : ℕ) → i < length tasks → period_of tasks i ∣ m) → lcm_with h tasks ∣ m
unfolding lcm_with
lcm_with_dvd m h [] some pos d each = d
lcm_with_dvd m h (x ∷ tasks) some pos d each =
    lcm_with_dvd m (lcm_of h x.t) tasks (lcm_pos h x.t some (pos 0 (omega arith))) (periodic_rest x tasks pos)
    (lcm_dvd h x.t m some d (each 0 (omega arith)))
    (λ i k. each (suc i) (omega arith))

pub lcm_with_pos : (h : ℕ) (tasks : List Task) → 0 < h → Periodic tasks → 0 < lcm_with h tasks
unfolding lcm_with
lcm_with_pos h [] some pos = some
lcm_with_pos h (x ∷ tasks) some pos = lcm_with_pos (lcm_of h x.t) tasks (lcm_pos h x.t some (pos 0 (omega arith))) (periodic_rest x tasks pos)

-- so it only grows
pub lcm_with_grows : (h : ℕ) (tasks : List Task) → 0 < h → Periodic tasks → h ≤ lcm_with h tasks
lcm_with_grows h tasks some pos = le_of_dvd (lcm_with_pos h tasks some pos) (lcm_with_keeps h h tasks (dvd_refl h))

-- H is a multiple of each period, divides every common multiple, is positive, and so is the least
module _ (tasks : List Task) where
  pub hyperperiod_divides : (i : ℕ) → i < length tasks → period_of tasks i ∣ hyperperiod tasks
  unfolding hyperperiod
  hyperperiod_divides i k = lcm_with_divides 1 tasks i k

  pub hyperperiod_dvd : (m : ℕ) → Periodic tasks → ((i : ℕ) → i < length tasks → period_of tasks i ∣ m) → hyperperiod tasks ∣ m
  unfolding hyperperiod
  hyperperiod_dvd m pos each = lcm_with_dvd m 1 tasks (omega arith) pos (one-dvd m) each

  pub hyperperiod_pos : Periodic tasks → 0 < hyperperiod tasks
  unfolding hyperperiod
  hyperperiod_pos pos = lcm_with_pos 1 tasks (omega arith) pos

  pub hyperperiod_least : (m : ℕ) → 0 < m → Periodic tasks → ((i : ℕ) → i < length tasks → period_of tasks i ∣ m) → hyperperiod tasks ≤ m
  hyperperiod_least m some pos each = le_of_dvd some (hyperperiod_dvd m pos each)

-- of the releases p, p + t, p + 2·t, .. just those of the first h / t jobs are within the cycle
pub release_early : (h t p j : ℕ) → p < t → t ∣ h → (p + j * t < h) ↔ (j < h / t)
release_early h t p j phase d = (below, above)
  where
    below : p + j * t < h → j < h / t
    below k = lt_of_mul-lt-mul_right t (omega (arith, div-mul_cancel t d))

    above : j < h / t → p + j * t < h
    above k = omega (arith, div-mul_cancel t d, mul-le-mul_right t k)

module _ (tasks : List Task) (pairs : List Pair) (kept : Readable tasks pairs) where
  pub readable_periodic : Periodic tasks
  readable_periodic i k = let task : TaskKept (get_or tasks i no_task) = kept.task i k in omega arith

  module _ (h : ℕ) (some : 0 < h) (divides : (i : ℕ) → i < length tasks → period_of tasks i ∣ h) where
    job_release_below : (i j : ℕ) → IsJob tasks h i j → (job_of tasks i j).release < h
    unfolding job_of jobs_in
    job_release_below i j is =
        let x = get_or tasks i no_task in
        (release_early h x.t x.p j (kept.task i is.known).phase (divides i is.known)).1 is.early

    job_due_below : (i j : ℕ) → IsJob tasks h i j → (job_of tasks i j).due < 2 * h
    unfolding job_of
    job_due_below i j is = omega (arith, job_release_below i j is, (kept.task i is.known).due, le_of_dvd some (divides i is.known))

  within_limits : hyperperiod tasks ≤ 10000 → length (all_jobs tasks (hyperperiod tasks)) ≤ 128
      → WithinLimits tasks pairs (hyperperiod tasks) (planned tasks (hyperperiod tasks))
  unfolding jobs_in
  within_limits few_ticks few_jobs =
      let h = hyperperiod tasks in
      let some : 0 < h = hyperperiod_pos tasks readable_periodic in
      let divides : (i : ℕ) → i < length tasks → period_of tasks i ∣ h = hyperperiod_divides tasks in
      record {
        readable = kept;
        h_is = refl;
        h_pos = some;
        h_few = few_ticks;
        jobs_are = refl;
        jobs_few = rw planned_length few_jobs;
        in_order = planned_in_order tasks h readable_periodic;
        period_divides = divides;
        period_le = λ i k. le_of_dvd some (divides i k);
        has_job = λ i k. quotient_pos h (period_of tasks i) some (divides i k);
        release_below = job_release_below h some divides;
        due_below = job_due_below h some divides;
      }

pub request_number_pos : {number : ℕ} → RequestNumber number → 1 ≤ number
request_number_pos (inl n) = n.0
request_number_pos (inr n) = omega arith

pub request_number_few : {number : ℕ} → RequestNumber number → number ≤ 17
request_number_few (inl n) = omega (arith, n.1)
request_number_few (inr n) = omega arith

-- none of the numbers of a plan or of a table
pub request_number_own : {number : ℕ} → RequestNumber number → 8 < number → number < 17 → ⊥
request_number_own (inl n) l h = omega (arith, n.1)
request_number_own (inr n) l h = omega arith

-- what the cycle of a reading keeps, which has the tasks, the pairs and the silent ticks that were read; the number of a refusal
abbrev Kept : Reading → Cycle → Type 0
Kept r (cycle tasks pairs g h jobs) = WithinLimits tasks pairs h jobs × (r ≡ readable tasks pairs g)
Kept r (no_cycle number) = RequestNumber number

after_kept : (r : Reading) → KeptReading r → Kept r (after_reading r)
after_kept (unreadable number) k = ⊎_elim (λ n. inl (n.0, omega (arith, n.1))) (λ n. inr n) k
after_kept (readable tasks pairs g) k = go (ltb 10000 (hyperperiod tasks)) (ltb 128 (length (all_jobs tasks (hyperperiod tasks)))) refl refl
  where
    go : (s t : Bool) → ltb 10000 (hyperperiod tasks) ≡ s → ltb 128 (length (all_jobs tasks (hyperperiod tasks))) ≡ t
        → Kept (readable tasks pairs g) (cond s (no_cycle 7) (cond t (no_cycle 8) (cycle tasks pairs g (hyperperiod tasks) (planned tasks (hyperperiod tasks)))))
    go true t p q = inl (omega arith, omega arith)
    go false true p q = inl (omega arith, omega arith)
    go false false p q = (within_limits tasks pairs k (ltb-false _ _ p) (ltb-false _ _ q), refl)

module _ (r : Reading) (k : KeptReading r) where
  pub after_within : (tasks : List Task) (pairs : List Pair) (g h : ℕ) (jobs : List Job)
      → after_reading r ≡ cycle tasks pairs g h jobs → WithinLimits tasks pairs h jobs
  after_within tasks pairs g h jobs e = (subst (Kept r) e (after_kept r k)).0

  pub after_number : (number : ℕ) → after_reading r ≡ no_cycle number → RequestNumber number
  after_number number e = subst (Kept r) e (after_kept r k)

cycle_kept : (bytes : List ℕ) → Kept (reading bytes) (cycle_of bytes)
unfolding cycle_of
cycle_kept bytes = after_kept (reading bytes) (reading_kept bytes)

pub cycle_within : (bytes : List ℕ) (tasks : List Task) (pairs : List Pair) (g h : ℕ) (jobs : List Job)
    → cycle_of bytes ≡ cycle tasks pairs g h jobs → WithinLimits tasks pairs h jobs
cycle_within bytes tasks pairs g h jobs e = (subst (Kept (reading bytes)) e (cycle_kept bytes)).0

pub no_cycle_number : (bytes : List ℕ) (number : ℕ) → cycle_of bytes ≡ no_cycle number → RequestNumber number
no_cycle_number bytes number e = subst (Kept (reading bytes)) e (cycle_kept bytes)

-- a cycle has the tasks, the pairs and the silent ticks that were read
pub cycle_reading : (bytes : List ℕ) (tasks : List Task) (pairs : List Pair) (g h : ℕ) (jobs : List Job)
    → cycle_of bytes ≡ cycle tasks pairs g h jobs → reading bytes ≡ readable tasks pairs g
cycle_reading bytes tasks pairs g h jobs e = (subst (Kept (reading bytes)) e (cycle_kept bytes)).1
