-- One window: which frames lie in it, and when it holds any.
-- Let `since f r`, from 1 to f, be the time from the last frame start before r to r. The first frame that starts at r or later ends
-- 2·f − since f r after r, so the window of length D holds a frame exactly if 2·f ≤ D + since f r.
use Rattle.std.specs.Prelude.{◌≡◌, refl, ◌↔◌, ◌⊎◌, ℕ, zero, suc, ◌+◌, ◌*◌, ◌-◌, ◌/◌, ◌%◌, ◌≤◌, ◌<◌}
use Rattle.std.proofs.Common.{◌∙◌, inl, inr, mod-lt, mod-eq_of_lt, div-add-mod', mul-le-mul_right, div-lt_iff_lt-mul, le-div_iff_mul-le, eq-zero-or-pos, arith}
use Rattle.arith.specs.Residue.{congruent}
use Rattle.model.specs.Plan.{InWindow}
use Rattle.model.specs.Window.{first_from}

-- the frames that begin at r or later
pub starts_from : (f r k : ℕ) → 0 < f → (r ≤ k * f) ↔ (first_from f r ≤ k)
unfolding first_from
starts_from f r k pos =
    let low = div-lt_iff_lt-mul {x = r + (f - 1)} {y = suc k} pos in
    (λ h. omega (arith, low.1 (omega arith)), λ h. omega (arith, low.0 (omega arith)))

-- the frames that end at e or earlier
pub ends_by : (f e k : ℕ) → 0 < f → ((k + 1) * f ≤ e) ↔ (k < e / f)
ends_by f e k pos =
    let high = le-div_iff_mul-le {x = suc k} {y = e} pos in
    (λ h. high.1 (omega arith), λ h. omega (arith, high.0 h))

-- the frames of the window from r to e are those from first_from f r up to, and without, e / f
pub window_frames : (f r e k : ℕ) → 0 < f → InWindow f r e k ↔ ((first_from f r ≤ k) × (k < e / f))
window_frames f r e k pos =
    let from = starts_from f r k pos in
    let by = ends_by f e k pos in
    (λ w. (from.0 w.not_early, by.0 w.not_late), λ b. record { not_early = from.1 b.0; not_late = by.1 b.1 })

or_whole : ℕ → ℕ → ℕ
or_whole n zero = n
or_whole n (suc r) = suc r

-- the time from the last multiple of n before m to m: m % n, or n if that is 0
unfoldable pub since : ℕ → ℕ → ℕ
unfolding or_whole
since n m = or_whole n (m % n)

pub since_multiple : (n m : ℕ) → m % n ≡ 0 → since n m ≡ n
unfolding since or_whole
since_multiple n m e = rw e

pub since_other : (n m : ℕ) → 0 < m % n → since n m ≡ m % n
unfolding since
since_other n m h = positive n (m % n) h
  where
    positive : (n r : ℕ) → 0 < r → or_whole n r ≡ r
    positive n zero h = absurd (omega arith)
    positive n (suc r) h = refl

-- the same in one formula
pub since_is : (n m : ℕ) → 0 < n → since n m ≡ suc ((m + (n - 1)) % n)
since_is n m pos = go (eq-zero-or-pos (m % n))
  where
    counted : (s q : ℕ) → 0 < s → s ≤ n → m + n ≡ s + q * n → (m + (n - 1)) % n ≡ s - 1
    counted s q h le e = congruent n (m + (n - 1)) (s - 1) 0 q (omega arith) ∙ mod-eq_of_lt (omega arith)

    go : (m % n ≡ 0) ⊎ (0 < m % n) → since n m ≡ suc ((m + (n - 1)) % n)
    go (inl e) = omega (arith, since_multiple n m e, counted n (m / n) pos (omega arith) (omega (arith, div-add-mod' m n)))
    go (inr h) = omega (arith, since_other n m h, counted (m % n) (m / n + 1) h (omega (arith, mod-lt m pos)) (omega (arith, div-add-mod' m n)))

pub since_le : (n m : ℕ) → 0 < n → since n m ≤ n
since_le n m pos = rw (since_is n m pos) (mod-lt (m + (n - 1)) pos)

pub window_holds : (f r D : ℕ) → 0 < f → ((k : ℕ) × InWindow f r (r + D) k) ↔ (2 * f ≤ D + since f r)
unfolding first_from
window_holds f r D pos =
    let first = first_from f r in
    let split : first * f + since f r ≡ r + f = omega (arith, since_is f r pos, div-add-mod' (r + (f - 1)) f) in (
      λ w. omega (arith, w.1, mul-le-mul_right f ((window_frames f r (r + D) w.0 pos).0 w.1).0),
      λ h. (first, record { not_early = omega (arith, since_le f r pos); not_late = omega arith }),
    )
