-- From the capacity test to the capacity rule. The test with a row's kept load is the test with the sum that it stands for, since the loads
-- are kept; a job that passes it leaves no row with more than f. So no row of a placing has more than f, which is a plan's capacity rule, and
-- the kept loads say so too: each is at most f. Assumes nothing.
use Rattle.std.specs.Prelude.{◌≡◌, refl, Bool, true, false, cond, ◌&&◌, ◌↔◌, List, [], ◌∷◌, ◌++◌, ℕ, ◌+◌, ◌≤◌, ◌<◌, ◌%◌, length, get_or, eqb}
use Rattle.std.proofs.Common.{sym, ◌∙◌, mod-lt, arith, leb-true, eqb-true}
use Rattle.std.proofs.lemmas.Bool.{false≢true}
use Rattle.search.specs.Placing.{Problem, row_sum, ordered, has_room, fits, LoadsKept, RowsWithin}
use Rattle.search.specs.PlacingLaws.{row_sum_nil, row_sum_snoc}

-- both tests hold
pub both_true : (a b : Bool) → (a && b) ≡ true → (a ≡ true) × (b ≡ true)
both_true true b e = (refl, e)
both_true false b e = (e, absurd (false≢true e))

module _ (x : Problem) where
  -- no job is placed, and no row is loaded
  pub loads_empty : (load : List ℕ) → ((r : ℕ) → r < x.rows → get_or load r 0 ≡ 0) → LoadsKept x [] load
  loads_empty load empty r h = empty r h ∙ sym (row_sum_nil x.rows x.cost r)

  pub within_none : RowsWithin x []
  within_none r h = rw (row_sum_nil x.rows x.cost r) (omega arith)

  module _ (p : List ℕ) (k : ℕ) where
    abbrev row : ℕ
    row = k % x.rows

    abbrev cost : ℕ
    cost = get_or x.cost (length p) 0

    -- the test with the kept load is the search's
    pub tested_by_load : (load : List ℕ) → 0 < x.rows → LoadsKept x p load → fits x p k ≡ (has_room (get_or load row 0) x.f cost && ordered x p k)
    unfolding fits
    tested_by_load load some kept = rw (kept row (mod-lt k some))

    pub fits_room : fits x p k ≡ true → has_room (row_sum x.rows x.cost p row) x.f cost ≡ true
    unfolding fits
    fits_room e = (both_true _ _ e).0

    -- a job that passes it leaves no row with more than f
    pub within_put : RowsWithin x p → has_room (row_sum x.rows x.cost p row) x.f cost ≡ true → RowsWithin x (p ++ (k ∷ []))
    within_put within room r h = rw (row_sum_snoc x.rows x.cost p k r) (go (eqb row r) refl)
      where
        go : (b : Bool) → eqb row r ≡ b → row_sum x.rows x.cost p r + cond (eqb row r) cost 0 ≤ x.f
        go true e = rw e (rw (eqb-true row r e) at (leb-true (row_sum x.rows x.cost p row + cost) x.f room))
        go false e = rw e (omega (arith, within r h))

  -- no row has more than f exactly if no kept load is more
  pub within_by_loads : (p load : List ℕ) → LoadsKept x p load → RowsWithin x p ↔ ((r : ℕ) → r < x.rows → get_or load r 0 ≤ x.f)
  within_by_loads p load kept = (λ within r h. rw (kept r h) (within r h), λ least r h. rw (← kept r h) (least r h))
