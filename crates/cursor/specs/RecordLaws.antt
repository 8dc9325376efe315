-- The reading of a row of records, as a loop has it that stores them in an array: i of n are read, those stand in `done`, the next one
-- begins at `at`, and reading the rest gives what the whole reading gives.
use Prim.Native.Nat.{ℕ, zero, suc, ◌+◌, ◌-◌, ◌≤◌, ◌<◌}
use Rattle.std.specs.Prelude.{◌≡◌, refl, drop, set, replicate}
use Rattle.std.proofs.Math.Path.{sym, subst}
use Rattle.std.proofs.Common.{ap, ◌∙◌, eq-or-lt_of_le}
use mathlib.Core.List.{List, [], ◌∷◌, ◌++◌}
use Rattle.std.proofs.Math.Logic.{⊎_elim}
use Rattle.std.proofs.Math.Nat.{sub-zero}
use native.Mathlib.Omega.{arith}
use Rattle.std.proofs.Math.ListN.{length, get_or, length-append, get_or-append}
use Rattle.std.proofs.Math.Seq.{get_or-append_seam}
use Rattle.cursor.specs.Parsed.{Parsed, got, refused, records}
use Rattle.cursor.specs.ParsedLaws.{then_got}
use Rattle.cursor.specs.Padded.{padded}
use Rattle.cursor.specs.PaddedLaws.{padded_none, set_padded}

pub record SoFar {A : Type 0} (one : List ℕ → Parsed A) (size : ℕ) (blank : A) (whole : Parsed (List A)) (s : List ℕ) (n i at : ℕ) (xs : List A) : Type 0 where
  pub done : List A
  pub count : length done ≡ i
  pub stored : xs ≡ padded size blank done
  pub rest : records one (n - i) done (drop at s) ≡ whole

module _ {A : Type 0} {one : List ℕ → Parsed A} {size : ℕ} {blank : A} {whole : Parsed (List A)} {s : List ℕ} {n : ℕ} where
  -- nothing is read
  pub none_read : {at : ℕ} → records one n [] (drop at s) ≡ whole → SoFar one size blank whole s n 0 at (replicate size blank)
  none_read e = record { done = []; count = refl; stored = sym (padded_none size blank); rest = rw sub-zero e }

  module _ {i at : ℕ} {xs : List A} (so_far : SoFar one size blank whole s n i at xs) where
    -- one record more
    pub one_read : i < n → i < size → (x : A) (next : ℕ) → one (drop at s) ≡ got x (drop next s)
        → SoFar one size blank whole s n (i + 1) next (set xs i x)
    unfolding records
    one_read more room x next e =
        let left : n - i ≡ suc (n - (i + 1)) = omega arith in
        let d = so_far.done in
        record {
          done = d ++ (x ∷ []);
          count = omega (arith, length-append d (x ∷ []), so_far.count);
          stored = rw (so_far.stored, ← so_far.count) (set_padded size blank d x (omega (arith, so_far.count)));
          rest = rw (left, e) at so_far.rest;
        }

    -- a record that is refused ends the reading with its number
    pub one_refused : i < n → {number : ℕ} → one (drop at s) ≡ refused number → whole ≡ refused number
    unfolding records
    one_refused more e =
        let left : n - i ≡ suc (n - (i + 1)) = omega arith in
        sym (rw (left, e) at so_far.rest)

    -- all are read
    pub all_records : n ≤ i → whole ≡ got so_far.done (drop at s)
    unfolding records
    all_records end =
        let left : n - i ≡ 0 = omega arith in
        sym (rw left at so_far.rest)

-- What holds of every record that is read holds of all of them.
module _ {A : Type 0} (one : List ℕ → Parsed A) (blank : A) (P : A → Type 0)
    (judged : (bytes : List ℕ) (x : A) (rest : List ℕ) → one bytes ≡ got x rest → P x) where
  each_from : (k : ℕ) (done : List A) (bytes : List ℕ) (xs : List A) (rest : List ℕ) → ((i : ℕ) → i < length done → P (get_or done i blank))
      → records one k done bytes ≡ got xs rest → (i : ℕ) → i < length xs → P (get_or xs i blank)
  unfolding records
  each_from zero done bytes xs rest before e = let same : done ≡ xs = cc in rw same at before
  each_from (suc k) done bytes xs rest before e =
      let s = then_got (one bytes) (λ x tail. records one k (done ++ (x ∷ [])) tail) xs rest e in
      each_from k (done ++ (s.value ∷ [])) s.tail xs rest (snoc s.value (judged bytes s.value s.tail s.first)) s.second
    where
      snoc : (x : A) → P x → (i : ℕ) → i < length (done ++ (x ∷ [])) → P (get_or (done ++ (x ∷ [])) i blank)
      snoc x p i h =
          let at_most : i ≤ length done = omega (arith, length-append done (x ∷ [])) in
          ⊎_elim
          (λ e. subst P (sym (ap (λ (j : ℕ). get_or (done ++ (x ∷ [])) j blank) e ∙ get_or-append_seam done x [] blank)) p)
          (λ l. rw (get_or-append done (x ∷ []) blank i l) (before i l))
          (eq-or-lt_of_le at_most)

  pub records_each : (k : ℕ) (bytes : List ℕ) (xs : List A) (rest : List ℕ)
      → records one k [] bytes ≡ got xs rest → (i : ℕ) → i < length xs → P (get_or xs i blank)
  records_each k bytes xs rest = each_from k [] bytes xs rest (λ i h. absurd (omega arith))
