-- What 'successive' comes to. Counted through all cycles, job j of cycle q is number j + q·N of its task, where N is H/T, and it is released at P + (j + q·N)·T.
-- So two jobs of a task are released some whole number of periods apart, and one period means the next number.
use Rattle.std.specs.Prelude.{ℕ, ◌+◌, ◌*◌, ◌/◌, ◌%◌, ◌≤◌, ◌<◌, ◌≡◌, refl, ◌⊎◌, List, length}
use Rattle.std.proofs.Math.Path.{ap}
use Rattle.std.proofs.Common.{inl, inr, ⊎_elim, mod-eq_of_lt, mul-le-mul_right, arith}
use Rattle.std.proofs.Math.Nat.{div-eq_of_lt, div-mul_cancel, eq_of_mul-eq-mul_right}
use Rattle.cursor.specs.ChoiceLaws.{lt_or_ge}
use Rattle.request.specs.Readable.{TaskKept}
use Rattle.cycle.specs.Cycle.{jobs_in, job_of}
use Rattle.cycle.specs.Planned.{IsJob}
use Rattle.model.specs.Plan.{Instance, task_at}
use Rattle.model.specs.Good.{Good}
use Rattle.model.specs.Within.{Within}
use Rattle.model.specs.WithinLaws.{within_good}
use Rattle.model.specs.Disjoint.{row_and_cycle}
use Rattle.flight.specs.Timing.{released_in}
use Rattle.flight_spacing.specs.Spacing.{Successive, NextNumber, NextCycle, SuccessiveMeans}

module _ (x : Instance) (g : Good x) (i : ℕ) (known : i < length x.tasks) where
  abbrev T : ℕ
  T = (task_at x i).t

  abbrev N : ℕ
  N = jobs_in x.tasks x.h i

  -- 1 ≤ C ≤ D ≤ T
  pub task_kept : TaskKept (task_at x i)
  task_kept = g.readable.task i known

  some_period : 0 < T
  some_period = omega (arith, task_kept.some, task_kept.room, task_kept.due)

  whole : N * T ≡ x.h
  unfolding jobs_in
  whole = div-mul_cancel T (g.whole_periods i known)

  released : (j q : ℕ) → released_in x q i j ≡ (task_at x i).p + (j + q * N) * T
  unfolding job_of
  released j q = let cycles = ap (λ (z : ℕ). q * z) whole in omega (arith, cycles)

  -- the release tells the number
  same_number : (j q k r : ℕ) → released_in x q i j ≡ released_in x r i k → j + q * N ≡ k + r * N
  same_number j q k r e = eq_of_mul-eq-mul_right T some_period (j + q * N) (k + r * N) (omega (arith, released j q, released k r, e))

  -- and the number tells the job and the cycle
  same_job : (j q k r : ℕ) → j < N → k < N → j + q * N ≡ k + r * N → (j ≡ k) × (q ≡ r)
  same_job j q k r hj hk e =
      let some : 0 < N = omega (arith, hj) in
      let a = (row_and_cycle N j (j + q * N) q some).0 refl in
      let b = (row_and_cycle N k (j + q * N) r some).0 e in
      let ja : j % N ≡ j = mod-eq_of_lt hj in
      let jb : j / N ≡ 0 = div-eq_of_lt hj in
      let ka : k % N ≡ k = mod-eq_of_lt hk in
      let kb : k / N ≡ 0 = div-eq_of_lt hk in
      (omega (arith, a.0, b.0), omega (arith, a.1, b.1))

  pub same_release : (j q k r : ℕ) → IsJob x.tasks x.h i j → IsJob x.tasks x.h i k → released_in x q i j ≡ released_in x r i k → (j ≡ k) × (q ≡ r)
  same_release j q k r one two e = same_job j q k r one.early two.early (same_number j q k r e)

  -- what is released later is released a period later, or more
  pub period_later : (j q k r : ℕ) → released_in x q i j < released_in x r i k → released_in x q i j + T ≤ released_in x r i k
  period_later j q k r h = ⊎_elim below above (lt_or_ge (j + q * N) (k + r * N))
    where
      below : j + q * N < k + r * N → released_in x q i j + T ≤ released_in x r i k
      below l =
          let w : (j + q * N + 1) * T ≤ (k + r * N) * T = mul-le-mul_right T (let n : j + q * N + 1 ≤ k + r * N = omega arith in n) in
          omega (arith, released j q, released k r)

      above : k + r * N ≤ j + q * N → released_in x q i j + T ≤ released_in x r i k
      above l =
          let w : (k + r * N) * T ≤ (j + q * N) * T = mul-le-mul_right T l in
          absurd (omega (arith, released j q, released k r))

  module _ (j q : ℕ) (is : IsJob x.tasks x.h i j) where
    next_number : (k r : ℕ) → released_in x r i k ≡ released_in x q i j + T → k + r * N ≡ j + 1 + q * N
    next_number k r e = same_number k r (j + 1) q (omega (arith, e, released j q, released (j + 1) q))

    period_after : (k r : ℕ) → k + r * N ≡ j + 1 + q * N → released_in x r i k ≡ released_in x q i j + T
    period_after k r e = omega (arith, released j q, released k r, ap (λ (z : ℕ). z * T) e)

    next : (k r : ℕ) → Successive x i j q k r → NextNumber x i j q k r ⊎ NextCycle x i j q k r
    next k r s = ⊎_elim in_same (λ w. in_next (omega (arith, is.early))) (lt_or_ge (j + 1) N)
      where
        number : k + r * N ≡ j + 1 + q * N
        number = next_number k r s.one_period

        low : k < N
        low = s.second_is.early

        in_same : j + 1 < N → NextNumber x i j q k r ⊎ NextCycle x i j q k r
        in_same w = let e = same_job k r (j + 1) q low w number in inl (e.0, low, e.1)

        in_next : j + 1 ≡ N → NextNumber x i j q k r ⊎ NextCycle x i j q k r
        in_next last = let e = same_job k r 0 (q + 1) low (omega (arith, low)) (omega (arith, number)) in inr (last, e.0, e.1)

    in_cycle_lem : (k r : ℕ) → NextNumber x i j q k r → Successive x i j q k r
    in_cycle_lem k r w =
        let same : r * N ≡ q * N = ap (λ (z : ℕ). z * N) w.2 in
        record { first_is = is; second_is = record { known = known; early = w.1 }; one_period = period_after k r (omega (arith, w.0, same)) }

    over_cycle : (k r : ℕ) → NextCycle x i j q k r → Successive x i j q k r
    over_cycle k r w =
        let same : r * N ≡ (q + 1) * N = ap (λ (z : ℕ). z * N) w.2 in
        let early : k < N = omega (arith, w.1, is.early) in
        record { first_is = is; second_is = record { known = known; early = early }; one_period = period_after k r (omega (arith, w.0, w.1, same)) }

    means : SuccessiveMeans x i j q
    means = record {
      exactly = λ k r. (next k r, ⊎_elim (in_cycle_lem k r) (over_cycle k r));
      some_one = ⊎_elim
          (λ (w : j + 1 < N). (j + 1, q, in_cycle_lem (j + 1) q (refl, w, refl)))
          (λ (w : N ≤ j + 1). (0, q + 1, over_cycle 0 (q + 1) (let last : j + 1 ≡ N = omega (arith, is.early) in last, refl, refl)))
          (lt_or_ge (j + 1) N);
    }

-- For every request within the limits and every job of every cycle.
pub successive_means : (request_bytes : List ℕ) (x : Instance) → Within request_bytes x → (i j q : ℕ) → IsJob x.tasks x.h i j → SuccessiveMeans x i j q
successive_means request_bytes x within i j q is = means x (within_good request_bytes x within) i is.known j q is
