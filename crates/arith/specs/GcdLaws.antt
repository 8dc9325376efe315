-- Induction along Euclid's rule, and the gcd's laws: it divides both numbers, every common divisor divides it, and it is a combination of the two (Bézout).
use Rattle.std.specs.Prelude.{◌≡◌, refl, ℕ, zero, suc, ◌+◌, ◌*◌, ◌/◌, ◌%◌, ◌≤◌, ◌<◌}
use Rattle.std.proofs.Common.{ap, mod-lt, le_refl, div-add-mod', arith}
use Rattle.std.specs.Int.{◌∣◌}
use Rattle.std.proofs.Math.Nat.{dvd_refl, dvd-zero, dvd-mod_iff, dvd_antisymm, le_of_dvd, pos_of_dvd_of_pos}
use Rattle.arith.specs.Gcd.{gcd_steps, gcd_of}

mod_le_pred : (a b k : ℕ) → suc b ≤ suc k → a % suc b ≤ k
mod_le_pred a b k h = let m : a % suc b < suc b = mod-lt a (omega arith) in omega arith

-- steps beyond b change nothing
steps : (k j a b : ℕ) → b ≤ k → b ≤ j → gcd_steps k a b ≡ gcd_steps j a b
unfolding gcd_steps
steps zero zero a b h i = refl
steps zero (suc j) a zero h i = refl
steps zero (suc j) a (suc b) h i = absurd (omega arith)
steps (suc k) zero a zero h i = refl
steps (suc k) zero a (suc b) h i = absurd (omega arith)
steps (suc k) (suc j) a zero h i = refl
steps (suc k) (suc j) a (suc b) h i = steps k j (suc b) (a % suc b) (mod_le_pred a b k h) (mod_le_pred a b j i)

pub gcd_zero : (a : ℕ) → gcd_of a 0 ≡ a
unfolding gcd_of gcd_steps
gcd_zero a = refl

pub gcd_step : (a b : ℕ) → 0 < b → gcd_of a b ≡ gcd_of b (a % b)
unfolding gcd_of gcd_steps
gcd_step a zero h = absurd (omega arith)
gcd_step a (suc b) h = steps b (a % suc b) (suc b) (a % suc b) (mod_le_pred a b b (le_refl (suc b))) (le_refl (a % suc b))

-- Euclid's induction: what holds of a, 0, and of a, b whenever it holds of b, a % b, holds of every pair.
pub euclid : (Q : ℕ → ℕ → Type 0) → ((a : ℕ) → Q a 0) → ((a b : ℕ) → 0 < b → Q b (a % b) → Q a b) → (a b : ℕ) → Q a b
euclid Q base step a b = go b a b (le_refl b)
  where
    go : (k a b : ℕ) → b ≤ k → Q a b
    go zero a zero h = base a
    go zero a (suc b) h = absurd (omega arith)
    go (suc k) a zero h = base a
    go (suc k) a (suc b) h = step a (suc b) (omega arith) (go k (suc b) (a % suc b) (mod_le_pred a b k h))

-- it divides both
pub gcd_dvd : (a b : ℕ) → (gcd_of a b ∣ a) × (gcd_of a b ∣ b)
gcd_dvd =
    euclid
    (λ a b. (gcd_of a b ∣ a) × (gcd_of a b ∣ b))
    (λ a. rw (gcd_zero a) (dvd_refl a, dvd-zero a))
    (λ a b pos divides. rw (gcd_step a b pos) ((dvd-mod_iff _ divides.0).0 divides.1, divides.0))

-- every common divisor divides it
pub dvd_gcd : (d a b : ℕ) → d ∣ a → d ∣ b → d ∣ gcd_of a b
dvd_gcd d =
    euclid
    (λ a b. d ∣ a → d ∣ b → d ∣ gcd_of a b)
    (λ a p q. rw (gcd_zero a) p)
    (λ a b pos divides p q. rw (gcd_step a b pos) (divides q ((dvd-mod_iff d q).1 p)))

pub gcd_pos : (a b : ℕ) → 0 < a → 0 < gcd_of a b
gcd_pos a b pos = pos_of_dvd_of_pos (gcd_dvd a b).0 pos

-- it is the greatest common divisor
pub gcd_greatest : (d a b : ℕ) → 0 < a → d ∣ a → d ∣ b → d ≤ gcd_of a b
gcd_greatest d a b pos p q = le_of_dvd (gcd_pos a b pos) (dvd_gcd d a b p q)

pub gcd_comm : (a b : ℕ) → gcd_of a b ≡ gcd_of b a
gcd_comm a b =
    dvd_antisymm (dvd_gcd _ b a (gcd_dvd a b).1 (gcd_dvd a b).0) (dvd_gcd _ a b (gcd_dvd b a).1 (gcd_dvd b a).0)

-- d is a difference of sums of a's and b's
abbrev pub Combines : ℕ → ℕ → ℕ → Type 0
Combines d a b = (u : ℕ) × (v : ℕ) × (u' : ℕ) × (v' : ℕ) × (u * a + v * b ≡ d + u' * a + v' * b)

-- Bézout's law, without negative numbers
pub bezout : (a b : ℕ) → Combines (gcd_of a b) a b
bezout =
    euclid
    (λ a b. Combines (gcd_of a b) a b)
    (λ a. (1, 0, 0, 0, omega (arith, gcd_zero a)))
    (λ a b pos r.
    let (u, v, u', v', e) = r in
    let split : (n : ℕ) → n * (a / b * b + a % b) ≡ n * a = λ n. ap (λ x. n * x) (div-add-mod' a b) in
    (v, u + v' * (a / b), v', u' + v * (a / b), omega (arith, split v, split v', gcd_step a b pos)))
