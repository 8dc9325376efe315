-- A list read from its front: a test of each element is a test of each place, and the first places of an array are the front of its list.
use Prim.Native.Nat.{ℕ, zero, suc, ◌≤◌, ◌<◌}
use Rattle.std.specs.Prelude.{◌≡◌, refl, Bool, List, length, get_or, take}
use Rattle.std.specs.List.{list_all, zip}
use Rattle.std.proofs.Common.{sym, ap, subst, ◌∙◌, add-one, arith, ext_get_or, take_all}
use Rattle.std.proofs.lemmas.List.{length-take, get_or-take}
use Rattle.std.proofs.lemmas.List.Folds.{list_all_more}
use Rattle.std.proofs.lemmas.Slice.Zip.{length-zip, get_or-zip}
use Rattle.cursor.specs.Padded.{firsts}
use Rattle.cursor.specs.PaddedLaws.{firsts_length, get_or_firsts}
use Rattle.plan_rules.specs.Every.{every}
use Rattle.plan_rules.specs.EveryLaws.{every_snoc}

module _ {A : Type 0} (blank : A) (xs : List A) where
  pub firsts_take : (n : ℕ) → n ≤ length xs → firsts n blank xs ≡ take n xs
  firsts_take n h =
      let long : length (take n xs) ≡ n = omega (arith, length-take n xs) in
      ext_get_or blank (firsts n blank xs) (take n xs) (omega (arith, firsts_length blank xs n))
      (λ i l. let low : i < n = omega (arith, firsts_length blank xs n) in get_or_firsts blank xs n i low ∙ sym (get_or-take n xs i blank low))

  pub firsts_all : firsts (length xs) blank xs ≡ xs
  firsts_all = firsts_take (length xs) (omega arith) ∙ take_all (length xs) xs (omega arith)

  -- the first elements
  first_ones : (p : A → Bool) (test : ℕ → Bool) → ((y : ℕ) → y < length xs → test y ≡ p (get_or xs y blank))
      → (i : ℕ) → i ≤ length xs → list_all p (take i xs) ≡ every i test
  first_ones p test same zero h = refl
  first_ones p test same (suc i) h =
      let turn : i < length xs = omega arith in
      let here = list_all_more p xs i blank turn ∙ rw (first_ones p test same i (omega arith), ← same i turn) (sym (every_snoc test i)) in
      subst (λ (k : ℕ). list_all p (take k xs) ≡ every k test) (add-one i) here

  pub all_is_every : (p : A → Bool) (test : ℕ → Bool) → ((y : ℕ) → y < length xs → test y ≡ p (get_or xs y blank))
      → list_all p xs ≡ every (length xs) test
  all_is_every p test same =
      ap (λ (ys : List A). list_all p ys) (sym (take_all (length xs) xs (omega arith))) ∙ first_ones p test same (length xs) (omega arith)

-- two lists side by side
pub both_is_every : {A B : Type 0} (a : A) (b : B) (xs : List A) (ys : List B) → length ys ≡ length xs
    → (p : A × B → Bool) (test : ℕ → Bool) → ((y : ℕ) → y < length xs → test y ≡ p (get_or xs y a, get_or ys y b))
    → list_all p (zip xs ys) ≡ every (length xs) test
both_is_every a b xs ys long p test same =
    let size : length (zip xs ys) ≡ length xs = omega (arith, length-zip xs ys) in
    rw (← size)
    (all_is_every (a, b) (zip xs ys) p test
    (λ y h. same y (omega arith) ∙ ap p (sym (get_or-zip xs ys y (a, b) (omega arith) (omega arith)))))
