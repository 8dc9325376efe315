-- Laws of the whole search: it may begin with no job placed and no row loaded, and what it comes to is what is answered. Assumes nothing.
use mathlib.Core.Path.{◌≡◌, refl, sym, ap, subst, subst⁻¹, ◌∙◌}
use mathlib.Core.List.{List, []}
use Prim.Native.Nat.{ℕ, ◌*◌, ◌≤◌}
use native.Mathlib.Omega.{arith}
use lib.ListN.{length, take, replicate, length-replicate}
use lib.Seq.{length-take-le}
use borrow.Author.Tests.{le-ltb, lt-ltb}
use Rattle.cursor.specs.Padded.{padded}
use Rattle.cursor.specs.PaddedLaws.{take_padded, get_or_blanks}
use Rattle.cursor.specs.ArrayLaws.{blank_behind}
use Rattle.search.specs.Search.{Walk}
use Rattle.search.specs.Placing.{plan_walk, Problem, problem, Proper}
use Rattle.search.specs.LoadLaws.{loads_empty}
use Rattle.searcher.specs.Arrays.{Placeable, problem_from, problem_of, jobs_in, problem_in, placed_answer, placed_within, Placing, Tried, TriedJob}
use Rattle.searcher.specs.declared.Given.{Given}
use Rattle.searcher.specs.declared.Problem.{Problem as InArrays}
use Rattle.searcher.specs.declared.Placed.{Placed}
use Rattle.searcher.specs.declared.Placed.TheVariants.{At, Nowhere, OutOfTries}
use Rattle.searcher.specs.declared.Attempt.{Attempt}
use Rattle.searcher.specs.declared.Attempt.TheVariants.{Done, Failed, Stopped}
use Rattle.searcher.proofs.Laws.{reached, none_of_failed, out_of_stopped}

abbrev zeros : ℕ → List ℕ
zeros k = replicate k 0

zeros_length : (k : ℕ) → length (zeros k) ≡ k
zeros_length k = length-replicate k _

-- the costs fit into two bytes, and packed they are the same
module _ {g : Given} (p : Placeable g) where
  costs_size : length (take g.n g.cost) ≡ g.n
  costs_size = length-take-le g.n g.cost p.costs

  same_costs : {costs : List ℕ} → costs ≡ padded 128 0 (take g.n g.cost) → take g.n costs ≡ take g.n g.cost
  same_costs costs_are =
      ap (take g.n) costs_are
      ∙ ap (λ (k : ℕ). take k (padded 128 0 (take g.n g.cost))) (sym costs_size)
      ∙ take_padded 128 0 (take g.n g.cost)

  -- packed, the problem is the same
  pub packed_same : {costs : List ℕ} → costs ≡ padded 128 0 (take g.n g.cost)
      → problem_from costs g.first g.end g.counts g.links g.n g.rows g.f ≡ problem_of g
  packed_same costs_are =
      ap (λ (cs : List ℕ). problem cs (take g.n g.first) (take g.n g.end) (take g.n g.counts) (take (16 * g.n) g.links) g.rows g.f)
      (same_costs costs_are)

  -- so the search begins with it
  module _ (packed : InArrays) (same : (problem_in packed ≡ problem_of g) × (jobs_in packed ≡ g.n)) where
    abbrev x : Problem
    x = problem_in packed

    abbrev n : ℕ
    n = jobs_in packed

    few : n ≤ 128
    few = rw same.1 p.few

    -- no job is placed, and no row is loaded
    pub begins : Placing x n (zeros 128) (zeros 256) 0
    begins = record {
      within = omega arith;
      ready = record {
        proper = subst⁻¹ Proper same.0 p.proper;
        jobs = ap (λ (y : Problem). length y.cost) same.0 ∙ costs_size ∙ sym same.1;
        few = few;
        few_rows = rw (ap (λ (y : Problem). y.rows) same.0) p.few_rows;
        short = rw (ap (λ (y : Problem). y.f) same.0) p.short;
        places = omega (arith, zeros_length 128, few);
        row_room = rw (ap (λ (y : Problem). y.rows) same.0) (omega (arith, zeros_length 256, p.few_rows));
      };
      loads = loads_empty x (zeros 256) (λ r h. get_or_blanks {A = ℕ} 256 0 [] r);
    }

    -- what is answered
    module _ {place load : List ℕ} {a : ℕ} {r : Attempt} {left : ℕ} (e : TriedJob x n (zeros 128) (zeros 256) 0 a r place load left) where
      abbrev w : Walk
      w = plan_walk (problem_of g) []

      d : Tried x w n (zeros 128) (zeros 256) 0 a r place load left
      d = subst (λ (y : Problem). Tried x (plan_walk y []) n (zeros 128) (zeros 256) 0 a r place load left) same.0 e

      pub done_answered : r ≡ Done → ◌≡◌ {A = Placed} (At place left) (placed_within a w)
      unfolding placed_within placed_answer
      done_answered q =
          let fit : w.tries ≤ a = reached d (λ z. cc) in
          let room : n ≤ length place = omega (arith, d.size, zeros_length 128, few) in
          rw (le-ltb a w.tries fit, d.found q, blank_behind 128 0 place n room d.beyond, (d.enough fit).1) refl

      pub failed_answered : r ≡ Failed → ◌≡◌ {A = Placed} (Nowhere left) (placed_within a w)
      unfolding placed_within placed_answer
      failed_answered q =
          let (fit, found) = none_of_failed d q in
          rw (le-ltb a w.tries fit, found, (d.enough fit).1) refl

      pub stopped_answered : r ≡ Stopped → ◌≡◌ {A = Placed} OutOfTries (placed_within a w)
      unfolding placed_within
      stopped_answered q = rw (lt-ltb a w.tries (out_of_stopped d q)) refl
