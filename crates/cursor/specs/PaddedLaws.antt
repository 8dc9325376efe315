-- A list in an array: how long it is, what stands at a place, one element more, and that its first places hold the list. The values of a list's elements.
use Prim.Native.Nat.{ℕ, zero, suc, ◌+◌, ◌-◌, ◌≤◌, ◌<◌}
use Rattle.std.specs.Prelude.{◌≡◌, List, [], ◌∷◌, ◌++◌, map, take, set, replicate}
use Rattle.std.proofs.Math.Path.{refl, sym}
use Rattle.std.proofs.Common.{ap, ◌∙◌, eq-or-lt_of_le, add-one, ext_get_or, length-take-le, take-suc, take_all}
use Rattle.std.proofs.lemmas.List.{map-append, length-replicate, length-map, take-append-le}
use Rattle.std.proofs.Math.Logic.{⊎_elim}
use Rattle.std.proofs.Math.Nat.{sub-zero}
use native.Mathlib.Omega.{arith}
use Rattle.std.proofs.Math.ListN.{length, get_or, length-append, get_or-append}
use Rattle.std.proofs.Math.Seq.{set-append_seam, take-append_seam, append_snoc, get_or-append_seam}
use Rattle.cursor.specs.Padded.{padded, firsts}

pub padded_none : {A : Type 0} (size : ℕ) (blank : A) → padded size blank [] ≡ replicate size blank
unfolding padded
padded_none size blank = rw sub-zero

-- blanks behind a list are what is found there anyway
pub get_or_blanks : {A : Type 0} (n : ℕ) (blank : A) (xs : List A) (i : ℕ) → get_or (xs ++ replicate n blank) i blank ≡ get_or xs i blank
get_or_blanks n blank (x ∷ xs) zero = refl
get_or_blanks n blank (x ∷ xs) (suc i) = get_or_blanks n blank xs i
get_or_blanks zero blank [] i = refl
get_or_blanks (suc n) blank [] zero = refl
get_or_blanks (suc n) blank [] (suc i) = get_or_blanks n blank [] i

-- no list leaves blanks alone
module _ {A : Type 0} (size : ℕ) (blank : A) (xs : List A) where
  pub padded_length : length xs ≤ size → length (padded size blank xs) ≡ size
  unfolding padded
  padded_length h = simp (length-append, length-replicate) (omega arith)

  pub take_padded : take (length xs) (padded size blank xs) ≡ xs
  unfolding padded
  take_padded = take-append_seam xs (replicate (size - length xs) blank)

  pub get_or_padded : (i : ℕ) → i < length xs → get_or (padded size blank xs) i blank ≡ get_or xs i blank
  unfolding padded
  get_or_padded i h = get_or-append xs (replicate (size - length xs) blank) blank i h

  -- a place behind the list holds a blank
  pub get_or_padded_any : (i : ℕ) → get_or (padded size blank xs) i blank ≡ get_or xs i blank
  unfolding padded
  get_or_padded_any i = get_or_blanks (size - length xs) blank xs i

  -- one element more, stored in the first unused place
  pub set_padded : (x : A) → length xs < size → set (padded size blank xs) (length xs) x ≡ padded size blank (xs ++ (x ∷ []))
  unfolding padded
  set_padded x h =
      let one : length (xs ++ (x ∷ [])) ≡ suc (length xs) = omega (arith, length-append xs (x ∷ [])) in
      let left : size - length xs ≡ suc (size - suc (length xs)) = omega arith in
      rw (left, one) (set-append_seam xs blank (replicate (size - suc (length xs)) blank) x ∙ sym (append_snoc xs x (replicate (size - suc (length xs)) blank)))

-- the values of a list's elements, with one more in the first unused place
pub set_mapped : {A B : Type 0} (value : A → B) (size : ℕ) (blank : B) (xs : List A) (x : A) (k : ℕ) → length xs ≡ k → k < size
    → set (padded size blank (map value xs)) k (value x) ≡ padded size blank (map value (xs ++ (x ∷ [])))
set_mapped value size blank xs x k e room =
    let place : length (map value xs) ≡ k = length-map xs value ∙ e in
    rw (map-append value xs (x ∷ []), ← place) (set_padded size blank (map value xs) (value x) (omega arith))

module _ {A : Type 0} (blank : A) (xs : List A) where
  pub firsts_length : (k : ℕ) → length (firsts k blank xs) ≡ k
  unfolding firsts
  firsts_length zero = refl
  firsts_length (suc k) = omega (arith, length-append (firsts k blank xs) (get_or xs k blank ∷ []), firsts_length k)

  pub get_or_firsts : (k i : ℕ) → i < k → get_or (firsts k blank xs) i blank ≡ get_or xs i blank
  unfolding firsts
  get_or_firsts zero i h = absurd (omega arith)
  get_or_firsts (suc k) i h = let below : i ≤ k = omega arith in ⊎_elim here (λ l. there l ∙ get_or_firsts k i l) (eq-or-lt_of_le below)
    where
      there : i < k → get_or (firsts k blank xs ++ (get_or xs k blank ∷ [])) i blank ≡ get_or (firsts k blank xs) i blank
      there l = get_or-append (firsts k blank xs) (get_or xs k blank ∷ []) blank i (omega (arith, firsts_length k))

      here : i ≡ k → get_or (firsts k blank xs ++ (get_or xs k blank ∷ [])) i blank ≡ get_or xs i blank
      here e =
          let last : i ≡ length (firsts k blank xs) = omega (arith, firsts_length k) in
          ap (λ (j : ℕ). get_or (firsts k blank xs ++ (get_or xs k blank ∷ [])) j blank) last
          ∙ get_or-append_seam (firsts k blank xs) (get_or xs k blank) [] blank
          ∙ ap (λ (j : ℕ). get_or xs j blank) (sym e)

-- the first of the first places
pub take_firsts : {A : Type 0} (blank : A) (xs : List A) (k n : ℕ) → k ≤ n → take k (firsts n blank xs) ≡ firsts k blank xs
unfolding firsts
take_firsts blank xs zero zero h = refl
take_firsts blank xs (suc k) zero h = absurd (omega arith)
take_firsts blank xs k (suc n) h =
    ⊎_elim (λ e. rw e (take_all (suc n) (firsts (suc n) blank xs) (omega (arith, firsts_length blank xs (suc n)))))
    (λ l. take-append-le k (firsts n blank xs) (get_or xs n blank ∷ []) (omega (arith, firsts_length blank xs n)) ∙ take_firsts blank xs k n (omega arith))
    (eq-or-lt_of_le h)

-- a list in an array is what its first places hold
pub firsts_padded : {A : Type 0} (size : ℕ) (blank : A) (xs : List A) → firsts (length xs) blank (padded size blank xs) ≡ xs
firsts_padded size blank xs =
    let places = padded size blank xs in
    let count = firsts_length blank places (length xs) in
    ext_get_or blank (firsts (length xs) blank places) xs count
    (λ i h. let l : i < length xs = omega (arith, count) in get_or_firsts blank places (length xs) i l ∙ get_or_padded size blank xs i l)

-- the value at a place is that of the element there
pub map_at : {A B : Type 0} (value : A → B) (blank : B) (none : A) (xs : List A) (i : ℕ) → i < length xs
    → get_or (map value xs) i blank ≡ value (get_or xs i none)
map_at value blank none [] i h = absurd (omega arith)
map_at value blank none (x ∷ xs) zero h = refl
map_at value blank none (x ∷ xs) (suc i) h = map_at value blank none xs i (omega arith)

-- the values of one element more
pub mapped_more : {A B : Type 0} (value : A → B) (size : ℕ) (blank : B) (none : A) (xs : List A) (k : ℕ) → k < length xs → k < size
    → set (padded size blank (map value (take k xs))) k (value (get_or xs k none)) ≡ padded size blank (map value (take (k + 1) xs))
mapped_more value size blank none xs k h room =
    rw (add-one k, take-suc xs k none h) (set_mapped value size blank (take k xs) (get_or xs k none) k (length-take-le k xs (omega arith)) room)
