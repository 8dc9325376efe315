-- From the capacity test to a plan's capacity rule, in the plan's words. A job that passes the test, which sees the kept load of its row, f and the
-- job's own slot alone, keeps the rule; and it holds of the frames exactly if no kept load is above f.
use Rattle.std.specs.Prelude.{◌≡◌, true, ◌↔◌, List, [], ◌∷◌, ◌++◌, ℕ, ◌≤◌, ◌<◌, ◌%◌, length, get_or}
use Rattle.std.proofs.Common.{mod-lt}
use Rattle.search.specs.Placing.{has_room, LoadsKept}
use Rattle.search.specs.LoadLaws.{within_put, within_by_loads}
use Rattle.model.specs.Plan.{Instance, rows_at, costs, Capacity}
use Rattle.model.specs.Chosen.{problem_at}

module _ (x : Instance) (f : ℕ) where
  -- the job after those in `frames` is tested in frame k
  pub capacity_put : (frames load : List ℕ) (k : ℕ) → 0 < rows_at x f → LoadsKept (problem_at x f) frames load → Capacity x f frames
      → has_room (get_or load (k % rows_at x f) 0) f (get_or (costs x) (length frames) 0) ≡ true → Capacity x f (frames ++ (k ∷ []))
  unfolding problem_at
  capacity_put frames load k some kept rule room =
      within_put (problem_at x f) frames k rule (rw (kept (k % rows_at x f) (mod-lt k some)) at room)

  pub capacity_by_loads : (frames load : List ℕ) → LoadsKept (problem_at x f) frames load
      → Capacity x f frames ↔ ((r : ℕ) → r < rows_at x f → get_or load r 0 ≤ f)
  unfolding problem_at
  capacity_by_loads frames load kept = within_by_loads (problem_at x f) frames load kept
