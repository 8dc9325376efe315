-- Laws of the sweep's tests, one for each way through their code, in terms of the arrays' lists. Assumes nothing.
use mathlib.Core.Path.{◌≡◌, refl, sym}
use mathlib.Core.Bool.{Bool, true, false, cond, ◌||◌, false≢true}
use mathlib.Core.List.{List, [], ◌∷◌}
use Rattle.std.specs.List.{list_all}
use Prim.Native.Nat.{ℕ, ◌+◌, ◌≤◌, ◌<◌}
use lib.ListN.{get_or}
use lib.Dec.{leb, ltb}
use borrow.Author.Tests.{le-leb, ltb-false, lt-ltb, le-ltb, eq-eqb, leb-true, lt-leb}
use Rattle.search.specs.Placing.{links_at}
use Rattle.search.specs.LoadLaws.{both_true}
use Rattle.searcher.specs.Arrays.{counts_in}
use Rattle.searcher.specs.declared.Problem.{Problem as InArrays}
use Rattle.sweep.specs.declared.Swept.{Swept}
use Rattle.exact.specs.Sweep.{Rules, more, skips, puts, leaves, in_order}
use Rattle.exact.specs.Sided.{all_in, put_by, leave_by}
use Rattle.sweep.specs.Arrays.{sides_in, lets_by, tied_in, rules_in}

-- the test of all numbers, in std's word
pub all_of : (t : ℕ → Bool) (ls : List ℕ) → list_all t ls ≡ all_in t ls
unfolding all_in
all_of t [] = refl
all_of t (l ∷ ls) = rw (all_of t ls)

-- the tests of a job
module _ (g : InArrays) (s : Swept) (ps : List Bool) (i : ℕ) where
  abbrev u : Rules
  u = rules_in g s

  abbrev first : ℕ
  first = get_or s.first i 0

  abbrev cost : ℕ
  cost = get_or g.cost i 0

  pub skipped_row : (p : ℕ) → get_or ps i false ≡ false → ltb p first ≡ skips u p ps i
  unfolding rules_in
  skipped_row p e = rw e

  pub no_room : (room : ℕ) → room < cost → leb cost room ≡ puts u ps room i
  unfolding rules_in
  no_room room h = rw (lt-leb cost room h)

  pub room_for : (room : ℕ) → cost ≤ room → all_in (put_by (sides_in s) ps i) (links_at (counts_in g) g.links i) ≡ puts u ps room i
  unfolding rules_in
  room_for room h = rw (le-leb cost room h)

  pub cost_within : (room : ℕ) → puts u ps room i ≡ true → cost ≤ room
  unfolding rules_in
  cost_within room e = leb-true cost room (both_true (leb cost room) (all_in (put_by (sides_in s) ps i) (links_at (counts_in g) g.links i)) e).0

  pub last_row : (p : ℕ) → get_or s.end i 0 ≤ p + 1 → ltb (p + 1) (get_or s.end i 0) ≡ leaves u p ps i
  unfolding rules_in
  last_row p h = rw (le-ltb (p + 1) (get_or s.end i 0) h)

  pub later_row : (p : ℕ) → p + 1 < get_or s.end i 0 → all_in (leave_by (sides_in s) ps i) (links_at (counts_in g) g.links i) ≡ leaves u p ps i
  unfolding rules_in
  later_row p h = rw (lt-ltb (p + 1) (get_or s.end i 0) h)

  or_false_right : (a b : Bool) → (a || b) ≡ false → (a ≡ false) × (b ≡ false)
  or_false_right true b e = (e, absurd (false≢true (sym e)))
  or_false_right false b e = (refl, e)

  -- a job that is not passed over
  pub not_skipped : (p : ℕ) → skips u p ps i ≡ false → (get_or ps i false ≡ false) × (first ≤ p)
  unfolding rules_in
  not_skipped p e = let b = or_false_right (get_or ps i false) (ltb p first) e in (b.0, ltb-false p first b.1)

  pub more_of : (p room : ℕ) → skips u p ps i ≡ false → get_or s.tied i 0 ≡ 0 → puts u ps room i ≡ true → more u p ps room i ≡ true
  unfolding rules_in more
  more_of p room e z a =
      let b = not_skipped p e in
      let c = both_true (leb cost room) (all_in (put_by (sides_in s) ps i) (links_at (counts_in g) g.links i)) a in
      rw (b.0, le-leb first p b.1, c.0, c.1, eq-eqb (get_or s.tied i 0) 0 z)

  pub free_of : (room : ℕ) → puts u ps room i ≡ true → tied_in s i ≡ false → u.free ps i ≡ true
  unfolding rules_in
  free_of room a z =
      let c = both_true (leb cost room) (all_in (put_by (sides_in s) ps i) (links_at (counts_in g) g.links i)) a in
      rw (c.1, z)

  -- between two rows
  pub order_by : all_in (lets_by (get_or ps i false) (sides_in s) ps i) (links_at (counts_in g) g.links i) ≡ in_order u ps i
  unfolding rules_in
  order_by = go (get_or ps i false)
    where
      go : (b : Bool) → all_in (lets_by b (sides_in s) ps i) (links_at (counts_in g) g.links i)
          ≡ cond b (all_in (put_by (sides_in s) ps i) (links_at (counts_in g) g.links i)) (all_in (leave_by (sides_in s) ps i) (links_at (counts_in g) g.links i))
      go true = refl
      go false = refl
