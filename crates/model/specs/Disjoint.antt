-- The windows of one task are disjoint, and stay so modulo the cycle: a row never holds a task twice.
-- Number a task's jobs through all cycles: the window of job n opens at P + n·T and is no longer than T, so no frame lies in two of
-- them. One cycle later is H / T jobs and H / f frames later, so two jobs in equal rows become two such numbers with one frame.
use Rattle.std.specs.Prelude.{◌≡◌, ◌↔◌, ℕ, ◌+◌, ◌*◌, ◌/◌, ◌%◌, ◌≤◌, ◌<◌}
use Rattle.std.proofs.Common.{sym, ap, ◌∙◌, mod-eq_of_lt, div-add-mod', mul-le-mul_right, lt_of_mul-lt-mul_right, arith}
use Rattle.std.specs.Int.{◌∣◌}
use Rattle.std.proofs.Math.Nat.{eq_of_mul-eq-mul_right, add-mul-mod_self_right, add-mul-div_right, pos_of_dvd_of_pos}
use Rattle.arith.specs.Residue.{congruent, periods_frames}
use Rattle.model.specs.Plan.{InWindow}

-- frame k lies in the window of the job n, counted through all cycles
abbrev pub InJob : ℕ → ℕ → ℕ → ℕ → ℕ → ℕ → Type 0
InJob f T D P n k = InWindow f (P + n * T) (P + n * T + D) k

module _ (f T D P : ℕ) (f_pos : 0 < f) (short : D ≤ T) where
  not_later : (n n' k : ℕ) → InJob f T D P n k → InJob f T D P n' k → n < n' + 1
  not_later n n' k w w' = lt_of_mul-lt-mul_right T (omega arith)

  -- no frame lies in the windows of two jobs, of whatever cycles
  pub one_window : (n n' k : ℕ) → InJob f T D P n k → InJob f T D P n' k → n ≡ n'
  one_window n n' k w w' = omega (arith, not_later n n' k w w', not_later n' n k w' w)

module _ (H f T D P : ℕ) (pos : 0 < H) (fh : f ∣ H) (th : T ∣ H) where
  f_pos : 0 < f
  f_pos = pos_of_dvd_of_pos fh pos

  -- q cycles later, a job has its window, and each frame in it, q cycles later
  pub window_later : (j k q : ℕ) → InJob f T D P j k → InJob f T D P (j + q * (H / T)) (k + q * (H / f))
  window_later j k q w =
      let whole : q * (H / T * T) ≡ q * (H / f * f) = ap (λ z. q * z) (periods_frames H f T fh th) in
      record { not_early = omega arith; not_late = omega arith }

  -- A row holds a task at most once: two jobs of it with frames in one row are one job in one frame.
  pub one_job_in_row : (j j' k k' : ℕ) → D ≤ T → j < H / T → j' < H / T → InJob f T D P j k → InJob f T D P j' k'
      → k % (H / f) ≡ k' % (H / f) → (j ≡ j') × (k ≡ k')
  one_job_in_row j j' k k' short early early' w w' row =
      let N = H / T in
      let F = H / f in
      let meet : k + k' / F * F ≡ k' + k / F * F = omega (arith, div-add-mod' k F, div-add-mod' k' F) in
      let later = window_later j k (k' / F) w in
      let later' = window_later j' k' (k / F) w' in
      let e : j + k' / F * N ≡ j' + k / F * N = one_window f T D P f_pos short _ _ _ (rw meet at later) later' in
      let job : j ≡ j' = sym (mod-eq_of_lt early) ∙ congruent N j j' _ _ e ∙ mod-eq_of_lt early' in
      let cycle : k' / F ≡ k / F = eq_of_mul-eq-mul_right N (omega arith) _ _ (omega arith) in
      (job, omega (arith, ap (λ z. z * F) cycle))

  -- A frame of a job lies in the first two cycles.
  pub frame_below : (j k : ℕ) → D ≤ T → P < T → j < H / T → InJob f T D P j k → k < 2 * (H / f)
  frame_below j k short phase early w = lt_of_mul-lt-mul_right f (omega (arith, mul-le-mul_right T early, periods_frames H f T fh th, f_pos))

-- Frame k stands in row k % F with the carry k / F, which is 0 or 1; q cycles later it is the frame of the same row q cycles later.
pub row_and_cycle : (F k m q : ℕ) → 0 < F → (m ≡ k + q * F) ↔ ((m % F ≡ k % F) × (m / F ≡ k / F + q))
row_and_cycle F k m q F-pos = (
  λ e. (rw e (add-mul-mod_self_right k q F), rw e (add-mul-div_right k q F-pos)),
  λ s. omega (arith, div-add-mod' m F, div-add-mod' k F, ap (λ z. z * F) s.1),
)
