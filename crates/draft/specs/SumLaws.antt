-- The sum of a row over the placed jobs: job by job it is the C + g of those in the row, and 0 for a lifted one.
use Prim.Native.Nat.{ℕ, zero, suc, ◌+◌, ◌%◌, ◌≤◌, ◌<◌}
use Rattle.std.specs.Prelude.{◌≡◌, Bool, not, ◌&&◌, length, get_or}
use Rattle.std.proofs.Math.Path.{refl}
use Rattle.std.proofs.Common.{sym, ◌∙◌}
use Rattle.std.proofs.Math.Bool.{true, false, cond}
use mathlib.Core.List.{List, [], ◌∷◌}
use native.Mathlib.Omega.{arith}
use Rattle.std.proofs.Math.Dec.{eqb}
use borrow.Author.Tests.{eq-eqb, ne_eqb}
use Rattle.cursor.specs.Choice.{keep}
use Rattle.cursor.specs.PaddedLaws.{firsts_length, get_or_firsts}
use Rattle.search.specs.Placing.{row_sum}
use Rattle.model.specs.Plan.{Instance, costs, cost_of}
use Rattle.model.specs.PlanLaws.{costs_length}
use Rattle.draft.specs.Draft.{lifted, is_lifted, placed_of, frame_of, frames_held, row_count, sum_of}
use Rattle.draft.specs.PlacedLaws.{placed_map}
use Rattle.draft.specs.declared.Draft.{Draft}

module _ (rows : ℕ) where
  unfoldable pub placed_sum : List ℕ → List ℕ → ℕ → ℕ
  placed_sum [] ks r = 0
  placed_sum (c ∷ cs) [] r = 0
  placed_sum (c ∷ cs) (k ∷ ks) r = cond (not (is_lifted k) && eqb (k % rows) r) c 0 + placed_sum cs ks r

  sum_is : (r : ℕ) (cs ks : List ℕ) → length cs ≡ length ks → row_sum rows (placed_of ks cs) (placed_of ks ks) r ≡ placed_sum cs ks r
  unfolding row_sum placed_of placed_sum
  sum_is r [] [] e = refl
  sum_is r [] (k ∷ ks) e = absurd (omega arith)
  sum_is r (c ∷ cs) [] e = absurd (omega arith)
  sum_is r (c ∷ cs) (k ∷ ks) e = rw (← sum_is r cs ks (omega arith)) (go (is_lifted k) (eqb (k % rows) r) refl)
    where
      go : (a b : Bool) → eqb (k % rows) r ≡ b → row_sum rows (keep (not a) c (placed_of ks cs)) (keep (not a) k (placed_of ks ks)) r
          ≡ cond (not a && b) c 0 + row_sum rows (placed_of ks cs) (placed_of ks ks) r
      go true b q = omega arith
      go false true q = rw q
      go false false q = rw q

  -- the load of a placed job's row has the job in it
  sum_has : (cs ks : List ℕ) (y : ℕ) → y < length cs → length cs ≡ length ks → (get_or ks y 0 ≡ lifted → ⊥) → get_or cs y 0 ≤ placed_sum cs ks (get_or ks y 0 % rows)
  unfolding placed_sum
  sum_has [] ks y h e down = absurd (omega arith)
  sum_has (c ∷ cs) [] y h e down = absurd (omega arith)
  sum_has (c ∷ cs) (k ∷ ks) zero h e down =
      let a : is_lifted k ≡ false = ne_eqb k lifted down in
      let b : eqb (k % rows) (k % rows) ≡ true = eq-eqb (k % rows) (k % rows) refl in
      rw (a, b) (omega arith)
  sum_has (c ∷ cs) (k ∷ ks) (suc y) h e down = omega (arith, sum_has cs ks y (omega arith) (omega arith) down)

module _ (x : Instance) (d : Draft) where
  lengths : length (costs x) ≡ length (frames_held x d)
  lengths = costs_length x ∙ sym (firsts_length 0 d.frames (length x.jobs))

  pub sum_by_job : (r : ℕ) → sum_of x d r ≡ placed_sum (row_count x d) (costs x) (frames_held x d) r
  unfolding costs
  sum_by_job r =
      rw (placed_map (cost_of x.g x.tasks) (frames_held x d) x.jobs) (sum_is (row_count x d) r (costs x) (frames_held x d) lengths)

  -- the sum of a placed job's row has the job in it
  pub placed_cost : (y : ℕ) → y < length x.jobs → (frame_of x d y ≡ lifted → ⊥) → get_or (costs x) y 0 ≤ sum_of x d (frame_of x d y % row_count x d)
  placed_cost y h down =
      let here : get_or (frames_held x d) y 0 ≡ frame_of x d y = get_or_firsts 0 d.frames (length x.jobs) y h in
      let has = sum_has (row_count x d) (costs x) (frames_held x d) y (omega (arith, costs_length x)) lengths (λ q. down (sym here ∙ q)) in
      rw (sum_by_job (frame_of x d y % row_count x d)) (rw here at has)
