-- Slices of arrays: whether two are equal and whether one has a lifted job, place by place.
use Rattle.std.specs.Prelude.{ℕ, ◌≤◌, ◌<◌, ◌≡◌, refl, Bool, true, false, not, ◌&&◌, ◌||◌, List, [], ◌∷◌, length, take, eqb}
use Rattle.std.specs.List.{list_all, list_any, zip}
use Rattle.std.specs.Cmp.Lexicographic.{pointwise}
use Rattle.std.proofs.Common.{sym, ap, ap₂, ◌∙◌, arith}
use Rattle.std.proofs.lemmas.List.{length-take, get_or-take}
use Rattle.plan_rules.specs.Every.{every}
use Rattle.plan_rules.specs.Slices.{all_is_every, both_is_every}
use Rattle.draft.specs.Draft.{is_lifted, is_down}
use Rattle.draft.specs.Answers.{same_at}

pairs_equal : (xs ys : List ℕ) → length ys ≡ length xs → pointwise eqb xs ys ≡ list_all (λ (p : ℕ × ℕ). eqb p.0 p.1) (zip xs ys)
pairs_equal [] [] e = refl
pairs_equal [] (y ∷ ys) e = absurd (omega arith)
pairs_equal (x ∷ xs) [] e = absurd (omega arith)
pairs_equal (x ∷ xs) (y ∷ ys) e = ap (λ (b : Bool). eqb x y && b) (pairs_equal xs ys (omega arith))

-- the first n of two arrays
pub first_equal : (n : ℕ) (loads sums : List ℕ) → n ≤ length loads → n ≤ length sums
    → pointwise eqb (take n loads) (take n sums) ≡ every n (same_at loads sums)
unfolding same_at
first_equal n loads sums h g =
    let size : length (take n loads) ≡ n = omega (arith, length-take n loads) in
    let same : length (take n sums) ≡ length (take n loads) = omega (arith, length-take n loads, length-take n sums) in
    let each = both_is_every 0 0 (take n loads) (take n sums) same (λ (p : ℕ × ℕ). eqb p.0 p.1) (same_at loads sums)
    (λ r low. let below : r < n = omega (arith, size) in
    ap₂ eqb (sym (get_or-take n loads r 0 below)) (sym (get_or-take n sums r 0 below))) in
    pairs_equal (take n loads) (take n sums) same ∙ each ∙ ap (λ (k : ℕ). every k (same_at loads sums)) size

not_or : (a b : Bool) → not (a || b) ≡ not a && not b
not_or true b = refl
not_or false b = refl

not_any : (p : ℕ → Bool) (xs : List ℕ) → not (list_any p xs) ≡ list_all (λ x. not (p x)) xs
not_any p [] = refl
not_any p (x ∷ xs) = not_or (p x) (list_any p xs) ∙ ap (λ (b : Bool). not (p x) && b) (not_any p xs)

-- none of the first n is lifted
pub first_down : (n : ℕ) (ks : List ℕ) → n ≤ length ks → (b : Bool) → b ≡ list_any (λ k. is_lifted k) (take n ks) → every n (is_down ks) ≡ not b
unfolding is_down
first_down n ks h b is =
    let size : length (take n ks) ≡ n = omega (arith, length-take n ks) in
    let each = all_is_every 0 (take n ks) (λ (k : ℕ). not (is_lifted k)) (is_down ks)
    (λ y low. let below : y < n = omega (arith, size) in ap (λ (k : ℕ). not (is_lifted k)) (sym (get_or-take n ks y 0 below))) in
    ap (λ (k : ℕ). every k (is_down ks)) (sym size) ∙ sym each ∙ sym (not_any (λ k. is_lifted k) (take n ks)) ∙ ap not (sym is)
