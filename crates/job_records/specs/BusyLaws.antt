-- The busy ticks of a plan's rows, added up, are the C of its jobs, added up. Each place has one row and one task: adding up row by row, or task by task, adds each place
-- once, as `spread_length` counts each once.
use Rattle.std.specs.Prelude.{◌≡◌, Bool, ◌≢◌, get_or}
use Rattle.std.proofs.Math.Path.{refl, sym, ap}
use Rattle.std.proofs.Common.{◌∙◌, add-zero, zero-add}
use Rattle.std.proofs.Math.Bool.{true, false}
use mathlib.Core.List.{List, [], ◌∷◌, ◌++◌, map}
use Prim.Native.Nat.{ℕ, zero, suc, ◌+◌, ◌≤◌, ◌<◌}
use native.Mathlib.Omega.{arith}
use Rattle.std.proofs.Math.ListN.{length}
use Rattle.std.proofs.Math.Dec.{eqb}
use borrow.Author.Tests.{eqb-true, eqb-false, ne_eqb}
use Rattle.cursor.specs.Choice.{keep}
use Rattle.cursor.specs.Range.{range}
use Rattle.request.specs.Request.{no_task}
use Rattle.cycle.specs.OrderLaws.{All, all_implies}
use Rattle.cycle.specs.Planned.{no_job}
use Rattle.cycle.specs.declared.Job.{Job}
use Rattle.table.specs.Table.{Table}
use Rattle.model.specs.Plan.{Instance, job_at, rows_at, IsPlan}
use Rattle.model.specs.Good.{Good}
use Rattle.model.specs.GoodLaws.{job_facts}
use Rattle.model.specs.Described.{row_for, entry_for, places_by_task, places_in, plan_table, Describes}
use Rattle.model.specs.Places.{spread, task_for, Inside, all_places, places_are, within, places_within}
use Rattle.model.specs.PlanTable.{row_below, describes_is, plan_rows}
use Rattle.model.specs.DescribedLaws.{entry_names}
use Rattle.plan_listing.specs.Listing.{busy_ticks}
use Rattle.job_records.specs.Timeline.{records_of, busy_of, rows_busy}

-- the weights of places, added up
abbrev weigh : (ℕ → ℕ) → List ℕ → ℕ
weigh w [] = 0
weigh w (y ∷ l) = w y + weigh w l

module _ (w : ℕ → ℕ) where
  weigh_append : (l m : List ℕ) → weigh w (l ++ m) ≡ weigh w l + weigh w m
  weigh_append [] m = omega arith
  weigh_append (y ∷ l) m = omega (arith, weigh_append l m)

  module _ (key : ℕ → ℕ) where
    weigh_none : (k i : ℕ) → weigh w (spread key [] k i) ≡ 0
    unfolding places_in
    weigh_none zero i = refl
    weigh_none (suc k) i = weigh_none k (i + 1)

    module _ (y : ℕ) (l : List ℕ) where
      weigh_below : (k i : ℕ) → key y < i → weigh w (spread key (y ∷ l) k i) ≡ weigh w (spread key l k i)
      unfolding places_in
      weigh_below zero i h = refl
      weigh_below (suc k) i h =
          rw (ne_eqb (key y) i (λ q. omega (arith, q)))
          (weigh_append (places_in key i l) (spread key (y ∷ l) k (i + 1))
          ∙ (ap (λ (n : ℕ). weigh w (places_in key i l) + n) (weigh_below k (i + 1) (omega arith)) ∙ sym (weigh_append (places_in key i l) (spread key l k (i + 1)))))

      weigh_one : (k i : ℕ) → i ≤ key y → key y < i + k → weigh w (spread key (y ∷ l) k i) ≡ w y + weigh w (spread key l k i)
      unfolding places_in
      weigh_one zero i low high = absurd (omega arith)
      weigh_one (suc k) i low high = go (eqb (key y) i) refl (λ h. weigh_below k (i + 1) h) (λ h. weigh_one k (i + 1) h (omega arith))
        where
          go : (t : Bool) → eqb (key y) i ≡ t → (key y < i + 1 → weigh w (spread key (y ∷ l) k (i + 1)) ≡ weigh w (spread key l k (i + 1)))
              → (i + 1 ≤ key y → weigh w (spread key (y ∷ l) k (i + 1)) ≡ w y + weigh w (spread key l k (i + 1)))
              → weigh w (keep t y (places_in key i l) ++ spread key (y ∷ l) k (i + 1)) ≡ w y + weigh w (places_in key i l ++ spread key l k (i + 1))
          go true e below one =
              let here : key y ≡ i = eqb-true (key y) i e in
              omega (arith, weigh_append (places_in key i l) (spread key (y ∷ l) k (i + 1)), weigh_append (places_in key i l) (spread key l k (i + 1)), below (omega arith))
          go false e below one =
              let other : key y ≢ i = eqb-false (key y) i e in
              omega (arith, weigh_append (places_in key i l) (spread key (y ∷ l) k (i + 1)), weigh_append (places_in key i l) (spread key l k (i + 1)), one (omega arith))

    -- each place weighs once, at its key
    spread_weigh : (k : ℕ) (l : List ℕ) → All (λ y. key y < k) l → weigh w (spread key l k 0) ≡ weigh w l
    spread_weigh k [] h = weigh_none k 0
    spread_weigh k (y ∷ l) h = weigh_one y l k 0 (omega arith) (omega (arith, h.0)) ∙ ap (λ (n : ℕ). w y + n) (spread_weigh k l h.1)

module _ (x : Instance) where
  -- the C of the job at place y
  abbrev ticks_at : ℕ → ℕ
  ticks_at y = (get_or x.tasks (job_at x y).task no_task).c

  module _ (f : ℕ) (frames : List ℕ) where
    row_weighs : (l : List ℕ) → busy_ticks x.tasks (map (entry_for x f frames) l) ≡ weigh ticks_at l
    unfolding busy_ticks
    row_weighs [] = refl
    row_weighs (y ∷ l) = rw (← (entry_names x f frames y).task_is) (ap (λ (n : ℕ). ticks_at y + n) (row_weighs l))

    rows_weigh : (n r : ℕ) → rows_busy x.tasks (plan_rows x f frames n r) ≡ weigh ticks_at (spread (row_for x f frames) (places_by_task x) n r)
    unfolding rows_busy
    rows_weigh zero r = refl
    rows_weigh (suc n) r =
        let places : List ℕ = places_in (row_for x f frames) r (places_by_task x) in
        omega (arith, row_weighs places, rows_weigh n (r + 1), weigh_append ticks_at places (spread (row_for x f frames) (places_by_task x) n (r + 1)))

  records_weigh : (jobs : List Job) (frames : List ℕ) (y : ℕ) → length frames ≡ length jobs
      → ((z : ℕ) → get_or jobs z no_job ≡ job_at x (y + z)) → busy_of x.tasks (records_of jobs frames) ≡ weigh ticks_at (range y (length jobs))
  unfolding busy_of records_of
  records_weigh [] frames y same at = refl
  records_weigh (job ∷ jobs) [] y same at = absurd (omega (arith, same))
  records_weigh (job ∷ jobs) (k ∷ frames) y same at =
      let first : job ≡ job_at x y = at 0 ∙ ap (job_at x) (add-zero y) in
      let ticks : (get_or x.tasks job.task no_task).c ≡ ticks_at y = ap (λ (j : Job). (get_or x.tasks j.task no_task).c) first in
      omega (arith, ticks, records_weigh jobs frames (y + 1) (omega (arith, same)) (λ z. at (suc z) ∙ ap (job_at x) (next z)))
    where
      next : (z : ℕ) → y + suc z ≡ y + 1 + z
      next z = omega arith

module _ (x : Instance) (g : Good x) (f : ℕ) (frames : List ℕ) (v : IsPlan x f frames) where
  tasks_weigh : weigh (ticks_at x) (places_by_task x) ≡ weigh (ticks_at x) (all_places x)
  unfolding task_for
  tasks_weigh =
      rw (places_are x)
      (spread_weigh (ticks_at x) (task_for x) (length x.tasks) (all_places x)
      (all_implies (Inside x) (λ y. task_for x y < length x.tasks) (λ y h. (job_facts x g y h).known) (all_places x) (within x)))

  -- "B is the sum of C over the printed jobs and equals the busy ticks of all rows added up"
  pub busy_same : (t : Table) → Describes x f frames t → length frames ≡ length x.jobs → busy_of x.tasks (records_of x.jobs frames) ≡ rows_busy x.tasks t.rows
  unfolding plan_table
  busy_same t d same =
      rw (describes_is x g f frames v t d)
      (records_weigh x x.jobs frames 0 same (λ z. ap (job_at x) (sym (zero-add z)))
      ∙ (sym tasks_weigh
      ∙ (sym (spread_weigh (ticks_at x) (row_for x f frames) (rows_at x f) (places_by_task x)
      (all_implies (Inside x) (λ y. row_for x f frames y < rows_at x f) (λ y h. row_below x g f frames v y) (places_by_task x) (places_within x)))
      ∙ sym (rows_weigh x f frames (rows_at x f) 0))))
