-- A list over a range: its length, its element at a place, one number more, and two that agree number by number.
use Rattle.std.specs.Prelude.{ℕ, zero, suc, ◌+◌, ◌≤◌, ◌<◌, ◌≡◌, refl, List, [], ◌∷◌, ◌++◌, map, length, get_or}
use Rattle.std.proofs.Common.{ap, ◌∙◌, zero-add, arith}
use Rattle.cursor.specs.Range.{range}

module _ {A : Type 0} (f : ℕ → A) where
  pub over_length : (i n : ℕ) → length (map f (range i n)) ≡ n
  over_length i zero = refl
  over_length i (suc n) = ap suc (over_length (i + 1) n)

  pub over_at : (d : A) (i n j : ℕ) → j < n → get_or (map f (range i n)) j d ≡ f (i + j)
  over_at d i zero j h = absurd (omega arith)
  over_at d i (suc n) zero h = ap f (omega arith)
  over_at d i (suc n) (suc j) h = over_at d (i + 1) n j (omega arith) ∙ ap f (omega arith)

  -- of the numbers below n
  pub over_here : (d : A) (n j : ℕ) → j < n → get_or (map f (range 0 n)) j d ≡ f j
  over_here d n j h = over_at d 0 n j h ∙ ap f (zero-add j)

  pub over_last : (i n : ℕ) → map f (range i (suc n)) ≡ map f (range i n) ++ (f (i + n) ∷ [])
  over_last i zero = ap (λ (k : ℕ). f k ∷ []) (omega arith)
  over_last i (suc n) = ap (λ (l : List A). f i ∷ l) (over_last (i + 1) n ∙ ap (λ (k : ℕ). map f (range (i + 1) n) ++ (f k ∷ [])) (omega arith))

pub over_same : {A : Type 0} (f g : ℕ → A) (i n : ℕ) → ((y : ℕ) → i ≤ y → y < i + n → f y ≡ g y) → map f (range i n) ≡ map g (range i n)
over_same f g i zero h = refl
over_same f g i (suc n) h =
    let here = h i (omega arith) (omega arith) in
    let rest = over_same f g (i + 1) n (λ y low high. h y (omega arith) (omega arith)) in
    λ j. here j ∷ rest j
