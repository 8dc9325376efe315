-- Whether the job at place y has a frame, and the frames read, with one job more.
use Rattle.std.specs.Prelude.{ℕ, suc, ◌+◌, ◌<◌, ◌≡◌, refl, Bool, true, false, cond, ◌||◌, Some, get_or}
use Rattle.std.specs.List.{list_any, zip}
use Rattle.std.proofs.Common.{sym, ap, ◌∙◌, add-zero, zero-add, add-one, arith}
use Rattle.std.proofs.lemmas.Slice.Zip.{length-zip, get_or-zip}
use mathlib.Core.List.{List, [], ◌∷◌, ◌++◌, map, map-append}
use Rattle.std.proofs.Math.ListN.{length, set, length-map}
use Rattle.cursor.specs.Padded.{padded, firsts}
use Rattle.cursor.specs.PaddedLaws.{set_padded, firsts_length}
use Rattle.cycle.specs.Planned.{no_job}
use Rattle.cycle.specs.declared.Job.{Job}
use Rattle.plan_rules.specs.Every.{some}
use Rattle.plan_rules.specs.EveryLaws.{some_from}
use Rattle.checker.specs.Checked.{Position, position_in, frame_for, is_found, frame_at_position, frame_in, frames_in, is_placed}
use Rattle.checker.specs.Answers.{rows_of}
use Rattle.checker.specs.WalkLaws.{rows_count}

-- the frames of the first y jobs
module _ (s : List ℕ) (height : ℕ) (jobs : List Job) where
  module _ (y : ℕ) where
    pub placed_at : (place : Position) → position_in (get_or jobs y no_job) 0 (rows_of s height) ≡ place
        → is_placed (rows_of s height) jobs y ≡ is_found place
    unfolding is_placed
    placed_at place e = rw e

    pub one_read : (r k : ℕ) (carried : Bool) → y < 128 → position_in (get_or jobs y no_job) 0 (rows_of s height) ≡ Some (r, carried)
        → k ≡ frame_for height r carried
        → set (padded 128 0 (frames_in (rows_of s height) (firsts y no_job jobs))) y k ≡ padded 128 0 (frames_in (rows_of s height) (firsts (y + 1) no_job jobs))
    unfolding frames_in firsts frame_in
    one_read r k carried h e q =
        let done = map (frame_in (rows_of s height)) (firsts y no_job jobs) in
        let count : length done ≡ y = length-map (firsts y no_job jobs) (frame_in (rows_of s height)) ∙ firsts_length no_job jobs y in
        let frame : frame_at_position (length (rows_of s height)) (position_in (get_or jobs y no_job) 0 (rows_of s height)) ≡ k = rw (e, rows_count s height 7, q) in
        let stored : set (padded 128 0 done) (length done) k ≡ padded 128 0 (done ++ (k ∷ [])) = set_padded 128 0 done k (omega arith) in
        rw (add-one y, map-append (frame_in (rows_of s height)) (firsts y no_job jobs) (get_or jobs y no_job ∷ []), frame) (rw count at stored)

-- a test of each of two lists side by side, whether some place keeps it
or_cond : (a b : Bool) → a || b ≡ cond a true b
or_cond true b = refl
or_cond false b = refl

any_from : {A : Type 0} (blank : A) (p : A → Bool) (test : ℕ → Bool) (xs : List A) (i : ℕ)
    → ((y : ℕ) → y < length xs → test (i + y) ≡ p (get_or xs y blank)) → list_any p xs ≡ some_from test (length xs) i
any_from blank p test [] i same = refl
any_from blank p test (x ∷ xs) i same =
    let first : test i ≡ p x = ap test (sym (add-zero i)) ∙ same 0 (omega arith) in
    let rest = any_from blank p test xs (i + 1) (λ y h. let next : i + 1 + y ≡ i + suc y = omega arith in rw next (same (suc y) (omega arith))) in
    rw (first, rest) (or_cond (p x) (some_from test (length xs) (i + 1)))

pub both_is_some : {A B : Type 0} (a : A) (b : B) (xs : List A) (ys : List B) → length ys ≡ length xs
    → (p : A × B → Bool) (test : ℕ → Bool) → ((y : ℕ) → y < length xs → test y ≡ p (get_or xs y a, get_or ys y b))
    → list_any p (zip xs ys) ≡ some (length xs) test
both_is_some a b xs ys long p test same =
    let size : length (zip xs ys) ≡ length xs = omega (arith, length-zip xs ys) in
    rw (← size)
    (any_from (a, b) p test (zip xs ys) 0
    (λ y h. rw zero-add (same y (omega arith) ∙ ap p (sym (get_or-zip xs ys y (a, b) (omega arith) (omega arith))))))
