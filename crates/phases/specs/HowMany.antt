-- The counts, one phase more at a time: what they are for phases below n, and for phases below n + 1.
use Rattle.std.specs.Prelude.{ℕ, zero, suc, ◌+◌, ◌≤◌, ◌<◌, ◌≡◌, Bool, true, false}
use Rattle.std.proofs.Math.Path.{refl}
use Rattle.std.proofs.Common.{ap, ap₂, add-one, arith}
use Rattle.std.proofs.Math.Dec.{eqb}
use Rattle.cursor.specs.Choice.{bit}
use Rattle.phases.specs.Phases.{how_many, phase_counts, uncounted}
use Rattle.phases.specs.Counting.{Room, one_more}

bit_most : (b : Bool) → bit b ≤ 1
bit_most true = omega arith
bit_most false = omega arith

pub how_many_most : (n : ℕ) (test : ℕ → Bool) → how_many n test ≤ n
unfolding how_many
how_many_most zero test = omega arith
how_many_most (suc n) test = omega (arith, how_many_most n test, bit_most (test n))

-- tests that agree below n count the same
pub how_many_same : (n : ℕ) (f g : ℕ → Bool) → ((p : ℕ) → p < n → f p ≡ g p) → how_many n f ≡ how_many n g
unfolding how_many
how_many_same zero f g same = refl
how_many_same (suc n) f g same = ap₂ ◌+◌ (how_many_same n f g (λ p h. same p (omega arith))) (ap bit (same n (omega arith)))

-- a test that lets more through counts no fewer
pub how_many_le : (n : ℕ) (f g : ℕ → Bool) → ((p : ℕ) → p < n → f p ≡ true → g p ≡ true) → how_many n f ≤ how_many n g
unfolding how_many
how_many_le zero f g more = omega arith
how_many_le (suc n) f g more = omega (arith, how_many_le n f g (λ p h. more p (omega arith)), go (f n) (g n) (more n (omega arith)))
  where
    go : (b c : Bool) → (b ≡ true → c ≡ true) → bit b ≤ bit c
    go true c e = rw (e refl) (omega arith)
    go false c e = omega arith

module _ (number : ℕ → ℕ) where
  abbrev below : ℕ → ℕ → ℕ
  below n k = how_many n (λ p. eqb (number p) k)

  pub none_counted : uncounted 0 ≡ phase_counts number 0
  unfolding phase_counts how_many
  none_counted = refl

  pub one_counted : (n : ℕ) → one_more (phase_counts number n) (number n) ≡ phase_counts number (n + 1)
  unfolding phase_counts how_many one_more
  one_counted n = rw (add-one n)

  pub counts_room : (n : ℕ) → n < 65535 → Room (phase_counts number n)
  unfolding phase_counts
  counts_room n h =
      let most : (k : ℕ) → below n k ≤ n = λ k. how_many_most n (λ p. eqb (number p) k) in
      record { tables = omega (arith, most 0); nines = omega (arith, most 9); tens = omega (arith, most 10); ended = omega (arith, most 23) }

-- numbers that agree below n count the same
pub counted_same : (n : ℕ) (f g : ℕ → ℕ) → ((p : ℕ) → p < n → f p ≡ g p) → phase_counts f n ≡ phase_counts g n
unfolding phase_counts
counted_same n f g same =
    let each : (k : ℕ) → how_many n (λ p. eqb (f p) k) ≡ how_many n (λ p. eqb (g p) k)
    = λ k. how_many_same n (λ p. eqb (f p) k) (λ p. eqb (g p) k) (λ p h. ap (λ (m : ℕ). eqb m k) (same p h)) in
    λ q. record { refusal = 0; tables = each 0 q; nines = each 9 q; tens = each 10 q; ended = each 23 q }
