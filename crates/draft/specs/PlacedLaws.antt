-- The placed jobs in a loop, one job more at a time; and what holds of the placed jobs, by their places in planning order.
use Prim.Native.Nat.{ℕ, zero, suc, ◌+◌, ◌≤◌, ◌<◌}
use Rattle.std.proofs.Math.Path.{◌≡◌, refl, ap}
use Rattle.std.proofs.Common.{sym, ◌∙◌, add-one}
use Rattle.std.specs.Prelude.{Bool, not, get_or, replicate}
use Rattle.std.proofs.Math.Bool.{true, false}
use mathlib.Core.List.{List, [], ◌∷◌, ◌++◌, map, append-nil}
use native.Mathlib.Omega.{arith}
use Rattle.std.proofs.Math.ListN.{length, set, length-append}
use borrow.Author.Tests.{eq-eqb, ne_eqb, eqb-false}
use Rattle.cursor.specs.Choice.{keep}
use Rattle.cursor.specs.Padded.{padded, firsts}
use Rattle.cursor.specs.PaddedLaws.{padded_none, set_padded, firsts_length}
use Rattle.cycle.specs.Planned.{no_job}
use Rattle.cycle.specs.declared.Job.{Job}
use Rattle.draft.specs.Draft.{lifted, is_lifted, placed_of}
use Rattle.draft.specs.Answers.{placing}
use Rattle.draft.specs.declared.Placing.{Placing}

-- one element more
pub placed_snoc : {A : Type 0} (ks : List ℕ) (xs : List A) (k : ℕ) (x : A) → length ks ≡ length xs
    → placed_of (ks ++ (k ∷ [])) (xs ++ (x ∷ [])) ≡ placed_of ks xs ++ keep (not (is_lifted k)) x []
unfolding placed_of
placed_snoc [] [] k x e = refl
placed_snoc [] (z ∷ xs) k x e = absurd (omega arith)
placed_snoc (j ∷ ks) [] k x e = absurd (omega arith)
placed_snoc {A} (j ∷ ks) (z ∷ xs) k x e = rw (placed_snoc ks xs k x (omega arith)) (go (is_lifted j))
  where
    go : (b : Bool) → keep (not b) z (placed_of ks xs ++ keep (not (is_lifted k)) x []) ≡ keep (not b) z (placed_of ks xs) ++ keep (not (is_lifted k)) x []
    go true = refl
    go false = refl

-- as many of one list as of another
pub placed_count : {A B : Type 0} (ks : List ℕ) (xs : List A) (zs : List B) → length ks ≡ length xs → length ks ≡ length zs
    → length (placed_of ks xs) ≡ length (placed_of ks zs)
unfolding placed_of
placed_count [] xs zs e q = refl
placed_count (k ∷ ks) [] zs e q = absurd (omega arith)
placed_count (k ∷ ks) (x ∷ xs) [] e q = absurd (omega arith)
placed_count (k ∷ ks) (x ∷ xs) (z ∷ zs) e q = go (is_lifted k) (placed_count ks xs zs (omega arith) (omega arith))
  where
    go : (b : Bool) → length (placed_of ks xs) ≡ length (placed_of ks zs) → length (keep (not b) x (placed_of ks xs)) ≡ length (keep (not b) z (placed_of ks zs))
    go true r = r
    go false r = ap suc r

pub placed_few : {A : Type 0} (ks : List ℕ) (xs : List A) → length (placed_of ks xs) ≤ length ks
unfolding placed_of
placed_few [] xs = omega arith
placed_few (k ∷ ks) [] = omega arith
placed_few (k ∷ ks) (x ∷ xs) = go (is_lifted k) (placed_few ks xs)
  where
    go : (b : Bool) → length (placed_of ks xs) ≤ length ks → length (keep (not b) x (placed_of ks xs)) ≤ suc (length ks)
    go true r = omega arith
    go false r = omega arith

-- the values of the placed are those of the list, placed
pub placed_map : {A B : Type 0} (value : A → B) (ks : List ℕ) (xs : List A) → map value (placed_of ks xs) ≡ placed_of ks (map value xs)
unfolding placed_of
placed_map value [] xs = refl
placed_map value (k ∷ ks) [] = refl
placed_map value (k ∷ ks) (x ∷ xs) = rw (← placed_map value ks xs) (go (is_lifted k))
  where
    go : (b : Bool) → map value (keep (not b) x (placed_of ks xs)) ≡ keep (not b) (value x) (map value (placed_of ks xs))
    go true = refl
    go false = refl

-- The jobs and frames in arrays, the first y of them passed.
module _ (jobs : List Job) (frames : List ℕ) where
  abbrev pub Passed : ℕ → Placing → Type 0
  Passed y p = p ≡ placing (firsts y 0 frames) (firsts y no_job jobs)

  pub none_passed : Passed 0 (record { count = 0; jobs = replicate 128 no_job; frames = replicate 128 0 })
  unfolding placing placed_of firsts
  none_passed = rw (padded_none {A = Job} 128 no_job, padded_none {A = ℕ} 128 0)

  module _ (y : ℕ) (p : Placing) (so : Passed y p) where
    sizes : length (firsts y 0 frames) ≡ length (firsts y no_job jobs)
    sizes = firsts_length 0 frames y ∙ sym (firsts_length no_job jobs y)

    pub few_passed : p.count ≤ y
    unfolding placing
    few_passed =
        omega (arith, ap (λ (q : Placing). q.count) so, placed_few (firsts y 0 frames) (firsts y no_job jobs), firsts_length 0 frames y)

    jobs_more : placed_of (firsts (suc y) 0 frames) (firsts (suc y) no_job jobs)
        ≡ placed_of (firsts y 0 frames) (firsts y no_job jobs) ++ keep (not (is_lifted (get_or frames y 0))) (get_or jobs y no_job) []
    unfolding firsts
    jobs_more = placed_snoc (firsts y 0 frames) (firsts y no_job jobs) (get_or frames y 0) (get_or jobs y no_job) sizes

    frames_more : placed_of (firsts (suc y) 0 frames) (firsts (suc y) 0 frames)
        ≡ placed_of (firsts y 0 frames) (firsts y 0 frames) ++ keep (not (is_lifted (get_or frames y 0))) (get_or frames y 0) []
    unfolding firsts
    frames_more = placed_snoc (firsts y 0 frames) (firsts y 0 frames) (get_or frames y 0) (get_or frames y 0) refl

    pub lifted_passed : get_or frames y 0 ≡ lifted → Passed (y + 1) p
    unfolding placing
    lifted_passed e =
        let up : is_lifted (get_or frames y 0) ≡ true = eq-eqb (get_or frames y 0) lifted e in
        so ∙ rw (add-one y, jobs_more, frames_more, up, append-nil, append-nil)

    pub placed_passed : (get_or frames y 0 ≡ lifted → ⊥) → y < 128
        → Passed (y + 1) (record { count = p.count + 1; jobs = set p.jobs p.count (get_or jobs y no_job); frames = set p.frames p.count (get_or frames y 0) })
    unfolding placing
    placed_passed ne room =
        let js = placed_of (firsts y 0 frames) (firsts y no_job jobs) in
        let ks = placed_of (firsts y 0 frames) (firsts y 0 frames) in
        let down : is_lifted (get_or frames y 0) ≡ false = ne_eqb (get_or frames y 0) lifted ne in
        let size : p.count ≡ length js = ap (λ (q : Placing). q.count) so in
        let same : length js ≡ length ks = placed_count (firsts y 0 frames) (firsts y no_job jobs) (firsts y 0 frames) sizes refl in
        let js_are : p.jobs ≡ padded 128 no_job js = ap (λ (q : Placing). q.jobs) so in
        let ks_are : p.frames ≡ padded 128 0 ks = ap (λ (q : Placing). q.frames) so in
        let more_js : placed_of (firsts (y + 1) 0 frames) (firsts (y + 1) no_job jobs) ≡ js ++ (get_or jobs y no_job ∷ []) = rw (add-one y, jobs_more, down) in
        let more_ks : placed_of (firsts (y + 1) 0 frames) (firsts (y + 1) 0 frames) ≡ ks ++ (get_or frames y 0 ∷ []) = rw (add-one y, frames_more, down) in
        let js_set : set p.jobs p.count (get_or jobs y no_job) ≡ padded 128 no_job (js ++ (get_or jobs y no_job ∷ []))
        = rw (js_are, size) (set_padded 128 no_job js (get_or jobs y no_job) (omega (arith, few_passed))) in
        let ks_set : set p.frames p.count (get_or frames y 0) ≡ padded 128 0 (ks ++ (get_or frames y 0 ∷ []))
        = rw (ks_are, size, same) (set_padded 128 0 ks (get_or frames y 0) (omega (arith, few_passed))) in
        let count : p.count + 1 ≡ length (js ++ (get_or jobs y no_job ∷ [])) = counted js (get_or jobs y no_job) size in
        rw (more_js, more_ks) (λ i. record { count = count i; jobs = js_set i; frames = ks_set i })
      where
        counted : {n : ℕ} (js : List Job) (j : Job) → n ≡ length js → n + 1 ≡ length (js ++ (j ∷ []))
        counted js j e = omega (arith, length-append js (j ∷ []))

-- What holds of each placed job holds at the places of those that are not lifted, and the other way round.
module _ {A : Type 0} (none : A) (P : A → ℕ → Type 0) where
  pub of_placed : (ks : List ℕ) (xs : List A) → length ks ≡ length xs
      → ((i : ℕ) → i < length (placed_of ks xs) → P (get_or (placed_of ks xs) i none) (get_or (placed_of ks ks) i 0))
      → (y : ℕ) → y < length ks → (get_or ks y 0 ≡ lifted → ⊥) → P (get_or xs y none) (get_or ks y 0)
  unfolding placed_of
  of_placed [] xs e h y low down = absurd (omega arith)
  of_placed (k ∷ ks) [] e h y low down = absurd (omega arith)
  of_placed (k ∷ ks) (x ∷ xs) e h zero low down = go (is_lifted k) (ne_eqb k lifted down) h
    where
      go : (b : Bool) → b ≡ false
          → ((i : ℕ) → i < length (keep (not b) x (placed_of ks xs)) → P (get_or (keep (not b) x (placed_of ks xs)) i none) (get_or (keep (not b) k (placed_of ks ks)) i 0))
          → P x k
      go true q h = absurd (no q)
        where
          no : true ≡ false → ⊥
          no q = let z : ◌≡◌ {A = ℕ} 0 1 = cc in omega arith
      go false q h = h 0 (omega arith)
  of_placed (k ∷ ks) (x ∷ xs) e h (suc y) low down = of_placed ks xs (omega arith) (rest (is_lifted k) h) y (omega arith) down
    where
      rest : (b : Bool)
          → ((i : ℕ) → i < length (keep (not b) x (placed_of ks xs)) → P (get_or (keep (not b) x (placed_of ks xs)) i none) (get_or (keep (not b) k (placed_of ks ks)) i 0))
          → (i : ℕ) → i < length (placed_of ks xs) → P (get_or (placed_of ks xs) i none) (get_or (placed_of ks ks) i 0)
      rest true h i low = h i low
      rest false h i low = h (suc i) (omega arith)

  pub placed_of_lem : (ks : List ℕ) (xs : List A) → length ks ≡ length xs
      → ((y : ℕ) → y < length ks → (get_or ks y 0 ≡ lifted → ⊥) → P (get_or xs y none) (get_or ks y 0))
      → (i : ℕ) → i < length (placed_of ks xs) → P (get_or (placed_of ks xs) i none) (get_or (placed_of ks ks) i 0)
  unfolding placed_of
  placed_of_lem [] xs e h i low = absurd (omega arith)
  placed_of_lem (k ∷ ks) [] e h i low = absurd (omega arith)
  placed_of_lem (k ∷ ks) (x ∷ xs) e h i low = go (is_lifted k) refl (placed_of_lem ks xs (omega arith) (λ y low down. h (suc y) (omega arith) down)) i low
    where
      go : (b : Bool) → is_lifted k ≡ b
          → ((i : ℕ) → i < length (placed_of ks xs) → P (get_or (placed_of ks xs) i none) (get_or (placed_of ks ks) i 0))
          → (i : ℕ) → i < length (keep (not b) x (placed_of ks xs)) → P (get_or (keep (not b) x (placed_of ks xs)) i none) (get_or (keep (not b) k (placed_of ks ks)) i 0)
      go true q rest i low = rest i low
      go false q rest zero low = h 0 (omega arith) (eqb-false k lifted q)
      go false q rest (suc i) low = rest i (omega arith)
