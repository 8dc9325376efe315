-- The releases P, P + T, P + 2·T, .. of a cycle H reach, modulo f, every residue that agrees with P modulo gcd f T.
-- By Bézout some w·T is gcd f T modulo f, so m·w·T is m·gcd f T, and with the right m it leads from P to the residue. The job number m·w
-- is then cut down modulo H / T: that changes m·w·T by multiples of H, hence of f.
use Rattle.std.specs.Prelude.{◌≡◌, ℕ, zero, suc, ◌+◌, ◌*◌, ◌/◌, ◌%◌, ◌<◌}
use Rattle.std.proofs.Common.{sym, ap, ◌∙◌, mod-lt, mod-eq_of_lt, div-add-mod', lt_of_mul-lt-mul_right, arith}
use Rattle.std.specs.Int.{◌∣◌}
use Rattle.std.proofs.Math.Nat.{div-mul_cancel, add-mul-mod_self_right}
use Rattle.arith.specs.Gcd.{gcd_of}
use Rattle.arith.specs.GcdLaws.{bezout}

-- equal up to multiples of f, so equal modulo f
pub congruent : (f a b x y : ℕ) → a + x * f ≡ b + y * f → a % f ≡ b % f
congruent f a b x y e = sym (add-mul-mod_self_right a x f) ∙ ap (λ n. n % f) e ∙ add-mul-mod_self_right b y f

-- a cycle is a whole number of periods and a whole number of frames
pub periods_frames : (H f T : ℕ) → f ∣ H → T ∣ H → H / T * T ≡ H / f * f
periods_frames H f T fh th = div-mul_cancel T th ∙ sym (div-mul_cancel f fh)

pub quotient_pos : (H d : ℕ) → 0 < H → d ∣ H → 0 < H / d
quotient_pos H d pos dh = lt_of_mul-lt-mul_right d (omega (arith, div-mul_cancel d dh))

gcd_reached : (f T : ℕ) → 0 < f → (w : ℕ) × (x : ℕ) × (y : ℕ) × (w * T + x * f ≡ gcd_of f T + y * f)
gcd_reached zero T pos = absurd (omega arith)
gcd_reached (suc n) T pos =
    let (u, v, u', v', e) = bezout (suc n) T in
    (v + v' * n, u, u' + v' * T, omega arith)

residue_reached : (f T P ρ : ℕ) → ρ < f → ρ % gcd_of f T ≡ P % gcd_of f T → (j : ℕ) × ((P + j * T) % f ≡ ρ)
residue_reached zero T P ρ below agrees = absurd (omega arith)
residue_reached (suc n) T P ρ below agrees =
    let g = gcd_of (suc n) T in
    let (w, x, y, e) = gcd_reached (suc n) T (omega arith) in
    let m = ρ / g + P / g * n in
    let leads : P + m * w * T + m * x * suc n ≡ ρ + (m * y + P / g * g) * suc n =
    omega (arith, ap (λ z. m * z) e, div-add-mod' ρ g, div-add-mod' P g) in
    (m * w, congruent (suc n) _ ρ _ _ leads ∙ mod-eq_of_lt below)

-- The residue law.
pub residues_reached : (H f T P ρ : ℕ) → 0 < H → f ∣ H → T ∣ H → ρ < f → ρ % gcd_of f T ≡ P % gcd_of f T
    → (j : ℕ) × (j < H / T) × ((P + j * T) % f ≡ ρ)
residues_reached H f T P ρ pos fh th below agrees =
    let N = H / T in
    let (j, e) = residue_reached f T P ρ below agrees in
    let cut : P + j % N * T + j / N * (H / f) * f ≡ P + j * T + 0 * f =
    omega (arith, ap (λ z. z * T) (div-add-mod' j N), ap (λ z. j / N * z) (periods_frames H f T fh th)) in
    (j % N, mod-lt j (quotient_pos H T pos th), congruent f _ _ _ 0 cut ∙ e)
