-- A list in an array: an element changed, an array that is blank behind its first places, and a part that has blanks of its own.
use Rattle.std.specs.Prelude.{ℕ, zero, suc, ◌+◌, ◌-◌, ◌≤◌, ◌<◌, ◌≡◌, List, ◌++◌, take, drop, set}
use Rattle.std.proofs.Math.Path.{sym, ap}
use Rattle.std.proofs.Common.{◌∙◌, append_assoc, length-set, take-append-drop, length-take-le}
use native.Mathlib.Omega.{arith}
use Rattle.std.proofs.Math.ListN.{length, replicate, length-append, replicate-append-replicate}
use Rattle.std.proofs.lemmas.List.{set-append_left}
use Rattle.cursor.specs.Padded.{padded}
use Rattle.cursor.specs.PaddedLaws.{padded_length}

blanks_left : {A : Type 0} (blank : A) (k n : ℕ) → drop n (replicate k blank) ≡ replicate (k - n) blank
blanks_left blank k zero = let all : k - 0 ≡ k = omega arith in rw all
blanks_left blank zero (suc n) = let none : 0 - suc n ≡ 0 = omega arith in rw none
blanks_left blank (suc k) (suc n) = let fewer : suc k - suc n ≡ k - n = omega arith in rw fewer (blanks_left blank k n)

module _ {A : Type 0} (size : ℕ) (blank : A) where
  pub set_inside : (xs : List A) (i : ℕ) (x : A) → i < length xs → set (padded size blank xs) i x ≡ padded size blank (set xs i x)
  unfolding padded
  set_inside xs i x h = rw (length-set xs i x) (set-append_left xs (replicate (size - length xs) blank) i x h)

  -- an array that is blank from place n on holds its first n elements
  pub blank_behind : (xs : List A) (n : ℕ) → n ≤ length xs → drop n xs ≡ drop n (replicate size blank) → padded size blank (take n xs) ≡ xs
  unfolding padded
  blank_behind xs n h e = rw (length-take-le n xs h, ← blanks_left blank size n, ← e) (take-append-drop n xs)

  -- a blank behind the elements of a part is one behind those of the whole
  pub padded_part : (k : ℕ) (xs ys : List A) → length ys ≤ k → length xs + k ≤ size
      → padded size blank (xs ++ ys) ≡ padded size blank (xs ++ padded k blank ys)
  unfolding padded
  padded_part k xs ys few room =
      let part = replicate (k - length ys) blank in
      let rest = replicate (size - (length xs + k)) blank in
      let long : length (xs ++ (ys ++ part)) ≡ length xs + k = omega (arith, length-append xs (ys ++ part), padded_length k blank ys few) in
      let split : size - (length xs + length ys) ≡ (k - length ys) + (size - (length xs + k)) = omega arith in
      rw (long, length-append xs ys, split, ← replicate-append-replicate (k - length ys) (size - (length xs + k)) blank)
      (append_assoc xs ys (part ++ rest) ∙ ap (λ l. xs ++ l) (sym (append_assoc ys part rest)) ∙ sym (append_assoc xs (ys ++ part) rest))
