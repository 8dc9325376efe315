-- The domains that are asked of: the placed jobs' own frames, and the windows of the others. They hold every placing that begins with the placed
-- jobs, so where they hold none, the search finds none from there on. Assumes nothing.
use mathlib.Core.Path.{◌≡◌, refl, sym, ◌∙◌}
use mathlib.Core.Bool.{Bool, true, false}
use mathlib.Core.List.{List, []}
use Prim.Native.Nat.{ℕ, ◌+◌, ◌≤◌, ◌<◌, min}
use native.Mathlib.Omega.{arith}
use lib.ListN.{length, get_or, set, take, length-set}
use lib.Seq.{get_or-take, get_or-set_same, get_or-set_other}
use lib.Dec.{ltb, eqb}
use borrow.Author.Tests.{lt-ltb, le-ltb, ltb-true, ltb-false, eqb-true, eqb-false}
use Rattle.search.specs.Search.{none}
use Rattle.search.specs.Placing.{plan_walk, Problem}
use Rattle.searcher.specs.Arrays.{jobs_in, problem_in, Ready}
use Rattle.searcher.specs.declared.Problem.{Problem as InArrays}
use Rattle.exact.specs.None.{None, Placed, none_found}
use Rattle.prune.specs.Arrays.{Packed, domains, Filled}
use Rattle.exact_searcher.specs.Arrays.{low_from, high_from, low_by, high_by, PlacedSoFar}

pub is_packed : {g : InArrays} {place load : List ℕ} → Ready (problem_in g) (jobs_in g) place load → Packed g
is_packed r = record { few = r.few; few_rows = r.few_rows; jobs = r.jobs; proper = r.proper }

-- no job is placed
pub none_placed : (x : Problem) → PlacedSoFar x [] 0
none_placed x = record { all = refl; each = λ i h. absurd (omega arith) }

-- the domains of the first jobs, one after the other
more_placed : (i j : ℕ) → (i ≡ j → ⊥) → ltb i (j + 1) ≡ ltb i j
more_placed i j ne = go (ltb i j) refl
  where
    go : (b : Bool) → ltb i j ≡ b → ltb i (j + 1) ≡ b
    go true e = lt-ltb i (j + 1) (omega (arith, ltb-true i j e))
    go false e = le-ltb i (j + 1) (omega (arith, ltb-false i j e))

module _ {f f' : ℕ → ℕ} {out : List ℕ} {j v : ℕ} where
  changed : Filled f 128 out → j < 128 → v ≡ f' j → ((i : ℕ) → (i ≡ j → ⊥) → f' i ≡ f i) → Filled f' 128 (set out j v)
  changed w h e same = record { size = length-set out j v ∙ w.size; each = λ i t. go i t (eqb i j) refl }
    where
      go : (i : ℕ) → i < 128 → (b : Bool) → eqb i j ≡ b → get_or (set out j v) i 0 ≡ f' i
      go i t true q = let z : i ≡ j = eqb-true i j q in rw z (get_or-set_same out j v 0 (omega (arith, w.size)) ∙ e)
      go i t false q = let z : i ≡ j → ⊥ = eqb-false i j q in get_or-set_other out j i v 0 z ∙ w.each i t ∙ sym (same i z)

module _ (window place : List ℕ) (i : ℕ) where
  pub low_window : get_or window i 0 ≡ low_from window place 0 i
  low_window = rw (le-ltb i 0 (omega arith))

  pub high_window : get_or window i 0 ≡ high_from window place 0 i
  high_window = rw (le-ltb i 0 (omega arith))

module _ (window place : List ℕ) (all : length window ≡ 128) where
  pub lows_none : Filled (low_from window place 0) 128 window
  lows_none = record { size = all; each = λ i h. low_window window place i }

  pub highs_none : Filled (high_from window place 0) 128 window
  highs_none = record { size = all; each = λ i h. high_window window place i }

module _ (window place : List ℕ) {j : ℕ} {out : List ℕ} {v : ℕ} where
  pub lows_more : Filled (low_from window place j) 128 out → j < 128 → v ≡ get_or place j 0 → Filled (low_from window place (j + 1)) 128 (set out j v)
  lows_more w h e = changed w h (e ∙ rw (lt-ltb j (j + 1) (omega arith))) (λ i ne. rw (more_placed i j ne))

  pub highs_more : Filled (high_from window place j) 128 out → j < 128 → v ≡ min (get_or place j 0 + 1) (get_or window j 0)
      → Filled (high_from window place (j + 1)) 128 (set out j v)
  highs_more w h e = changed w h (e ∙ rw (lt-ltb j (j + 1) (omega arith))) (λ i ne. rw (more_placed i j ne))

module _ {g : InArrays} (c : Packed g) (place : List ℕ) {m : ℕ} (le : m ≤ jobs_in g)
    (so_far : PlacedSoFar (problem_in g) (take m place) m) where
  abbrev n : ℕ
  n = jobs_in g

  size : length (take m place) ≡ m
  size = so_far.all

  module _ {low high : List ℕ} (lows : (i : ℕ) → i < n → get_or low i 0 ≡ low_by g place m i)
      (highs : (i : ℕ) → i < n → get_or high i 0 ≡ high_by g place m i) where
    placed : Placed c.proper (take m place) (domains low high)
    placed = record {
      low_placed = λ i t. low_here i (omega (arith, size));
      high_placed = λ i t w. high_here i (omega (arith, size)) w;
      low_left = λ i t h. low_there i (omega (arith, size)) (omega (arith, c.jobs));
      high_left = λ i t h. high_there i (omega (arith, size)) (omega (arith, c.jobs));
    }
      where
        frame : (i : ℕ) → i < m → get_or (take m place) i 0 ≡ get_or place i 0
        frame i h = get_or-take m place i 0 h

        low_here : (i : ℕ) → i < m → get_or low i 0 ≤ get_or (take m place) i 0
        low_here i h = let e : get_or low i 0 ≡ get_or place i 0 = lows i (omega arith) ∙ rw (lt-ltb i m h) in omega (arith, frame i h)

        high_here : (i : ℕ) → i < m → get_or (take m place) i 0 < get_or (take n g.end) i 0 → get_or (take m place) i 0 < get_or high i 0
        high_here i h w =
            let e : get_or high i 0 ≡ min (get_or place i 0 + 1) (get_or g.end i 0) = highs i (omega arith) ∙ rw (lt-ltb i m h) in
            omega (arith, frame i h, get_or-take n g.end i 0 (omega arith))

        low_there : (i : ℕ) → m ≤ i → i < n → get_or low i 0 ≤ get_or (take n g.first) i 0
        low_there i h l =
            let e : get_or low i 0 ≡ get_or g.first i 0 = lows i (omega arith) ∙ rw (le-ltb i m h) in
            omega (arith, get_or-take n g.first i 0 l)

        high_there : (i : ℕ) → m ≤ i → i < n → get_or (take n g.end) i 0 ≤ get_or high i 0
        high_there i h l =
            let e : get_or high i 0 ≡ get_or g.end i 0 = highs i (omega arith) ∙ rw (le-ltb i m h) in
            omega (arith, get_or-take n g.end i 0 l)

    pub hopeless : None (problem_in g) (domains low high) → (plan_walk (problem_in g) (take m place)).found ≡ none
    hopeless d = none_found c.proper placed (rw size so_far) (omega (arith, size, c.jobs)) d
