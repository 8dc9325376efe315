-- A test of every number below n, or of some: what it says, and one turn of a loop that makes it.
use Rattle.std.specs.Prelude.{ℕ, zero, suc, ◌+◌, ◌-◌, ◌≤◌, ◌<◌, ◌≡◌, refl, Bool, true, false, cond, ◌&&◌}
use Rattle.std.proofs.Common.{sym, ap, ◌∙◌, ⊎_elim, eq-or-lt_of_le, add-zero, zero-add, add-one, arith}
use Rattle.std.proofs.lemmas.Bool.{false≢true}
use mathlib.Core.List.{map, foldr}
use Rattle.cursor.specs.Range.{range}
use Rattle.cursor.specs.ParsedLaws.{never, both_true}
use Rattle.table.specs.Left.{less_one, none_left}
use Rattle.plan_rules.specs.Every.{every, some}

pub both_all : (a : Bool) → a && true ≡ a
both_all true = refl
both_all false = refl

both_assoc : (a b c : Bool) → a && (b && c) ≡ (a && b) && c
both_assoc true b c = refl
both_assoc false b c = refl

-- n numbers from i on: each keeps the test, or some one does
abbrev pub all_from : (ℕ → Bool) → ℕ → ℕ → Bool
all_from test n i = foldr ◌&&◌ true (map test (range i n))

abbrev pub some_from : (ℕ → Bool) → ℕ → ℕ → Bool
some_from test n i = foldr (λ this later. cond this true later) false (map test (range i n))

module _ (test : ℕ → Bool) where
  all_say : (n i : ℕ) → all_from test n i ≡ true → (y : ℕ) → i ≤ y → y < i + n → test y ≡ true
  all_say zero i e y low high = absurd (omega arith)
  all_say (suc n) i e y low high =
      let b = both_true (test i) (all_from test n (i + 1)) e in
      ⊎_elim (λ q. ap test (sym q) ∙ b.0) (λ h. all_say n (i + 1) b.1 y (omega arith) (omega arith)) (eq-or-lt_of_le low)

  say_all : (n i : ℕ) → ((y : ℕ) → i ≤ y → y < i + n → test y ≡ true) → all_from test n i ≡ true
  say_all zero i h = refl
  say_all (suc n) i h = rw (h i (omega arith) (omega arith)) (say_all n (i + 1) (λ y low high. h y (omega arith) (omega arith)))

  some_say : (n i : ℕ) → some_from test n i ≡ true → (y : ℕ) × (i ≤ y) × (y < i + n) × (test y ≡ true)
  some_say zero i e = absurd (never (cc))
  some_say (suc n) i e = go (test i) refl e (some_say n (i + 1))
    where
      go : (b : Bool) → test i ≡ b → cond b true (some_from test n (i + 1)) ≡ true
          → (some_from test n (i + 1) ≡ true → (y : ℕ) × (i + 1 ≤ y) × (y < i + 1 + n) × (test y ≡ true))
          → (y : ℕ) × (i ≤ y) × (y < i + suc n) × (test y ≡ true)
      go true q s rest = (i, omega arith, omega arith, q)
      go false q s rest = let (y, low, high, t) = rest s in (y, omega arith, omega arith, t)

  say_some : (n i y : ℕ) → i ≤ y → y < i + n → test y ≡ true → some_from test n i ≡ true
  say_some zero i y low high e = absurd (omega arith)
  say_some (suc n) i y low high e =
      ⊎_elim (λ q. let here : test i ≡ true = ap test q ∙ e in rw here)
      (λ h. go (test i) (say_some n (i + 1) y (omega arith) (omega arith) e)) (eq-or-lt_of_le low)
    where
      go : (b : Bool) → some_from test n (i + 1) ≡ true → cond b true (some_from test n (i + 1)) ≡ true
      go true rest = refl
      go false rest = rest

  pub every_says : (n : ℕ) → every n test ≡ true → (y : ℕ) → y < n → test y ≡ true
  every_says n e y h = all_say n 0 e y (omega arith) (omega arith)

  pub says_every : (n : ℕ) → ((y : ℕ) → y < n → test y ≡ true) → every n test ≡ true
  says_every n h = say_all n 0 (λ y low high. h y (omega arith))

  -- one number more
  all_snoc : (n i : ℕ) → test i && all_from test n (i + 1) ≡ all_from test n i && test (i + n)
  all_snoc zero i = rw (add-zero i) (both_all (test i))
  all_snoc (suc n) i =
      let place : i + 1 + n ≡ i + suc n = omega arith in
      rw (all_snoc n (i + 1), place) (both_assoc (test i) (all_from test n (i + 1)) (test (i + suc n)))

  pub every_snoc : (n : ℕ) → every (n + 1) test ≡ every n test && test n
  every_snoc n = rw add-one (all_snoc n 0 ∙ ap (λ (k : ℕ). every n test && test k) (zero-add n))

  -- one that fails is enough
  pub every_fails : (n y : ℕ) → y < n → test y ≡ false → every n test ≡ false
  every_fails n y h e = go (every n test) refl
    where
      go : (b : Bool) → every n test ≡ b → every n test ≡ false
      go true q = absurd (false≢true (sym e ∙ every_says n q y h))
      go false q = q

  pub some_says : (n : ℕ) → some n test ≡ true → (y : ℕ) × (y < n) × (test y ≡ true)
  some_says n e = let (y, low, high, t) = some_say n 0 e in (y, omega arith, t)

  pub says_some : (n y : ℕ) → y < n → test y ≡ true → some n test ≡ true
  says_some n y h e = say_some n 0 y (omega arith) (omega arith) e

  -- i of n numbers have been tested, and those left decide whether some one keeps the test
  module _ (n i : ℕ) where
    pub some_next : i < n → test i ≡ false → some_from test (n - (i + 1)) (i + 1) ≡ some_from test (n - i) i
    some_next h e = rw (less_one n i h, e)

    pub some_here : i < n → test i ≡ true → true ≡ some_from test (n - i) i
    some_here h e = rw (less_one n i h, e)

    pub some_none : n ≤ i → false ≡ some_from test (n - i) i
    some_none h = rw (none_left n i h)
