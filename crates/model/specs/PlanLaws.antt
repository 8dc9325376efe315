-- What a plan says of a job: its frame lies in its window, and its transfer fits into a row.
use Rattle.std.specs.Prelude.{◌≡◌, refl, List, [], ◌∷◌, ℕ, zero, suc, ◌+◌, ◌*◌, ◌%◌, ◌≤◌, ◌<◌, length, get_or}
use Rattle.std.proofs.Common.{mod-lt, arith, eq-eqb}
use Rattle.std.proofs.Math.Nat.{pos_of_dvd_of_pos}
use Rattle.std.proofs.lemmas.List.{length-map}
use Rattle.arith.specs.Residue.{quotient_pos}
use Rattle.cursor.specs.PaddedLaws.{map_at}
use Rattle.cycle.specs.Planned.{no_job}
use Rattle.search.specs.Placing.{row_sum}
use Rattle.model.specs.Disjoint.{InJob}
use Rattle.model.specs.Plan.{Instance, task_at, job_at, rows_at, slot, cost_of, costs, frame_at, IsPlan}
use Rattle.model.specs.Good.{Good}
use Rattle.model.specs.GoodLaws.{JobFacts, job_facts, PlaceOf, first_job}

pub costs_length : (x : Instance) → length (costs x) ≡ length x.jobs
unfolding costs
costs_length x = length-map x.jobs (cost_of x.g x.tasks)

pub cost_at_lem : (x : Instance) (y : ℕ) → y < length x.jobs → get_or (costs x) y 0 ≡ slot x.g (task_at x (job_at x y).task)
unfolding costs cost_of
cost_at_lem x y h = map_at (cost_of x.g x.tasks) 0 no_job x.jobs y h

-- the load of a job's row has the job in it
row_sum_has : (rows : ℕ) (cs ks : List ℕ) (y : ℕ) → y < length cs → y < length ks → get_or cs y 0 ≤ row_sum rows cs ks (get_or ks y 0 % rows)
unfolding row_sum
row_sum_has rows [] ks y h e = absurd (omega arith)
row_sum_has rows (c ∷ cs) [] y h e = absurd (omega arith)
row_sum_has rows (c ∷ cs) (k ∷ ks) zero h e = rw (eq-eqb (k % rows) (k % rows) refl) (omega arith)
row_sum_has rows (c ∷ cs) (k ∷ ks) (suc y) h e = omega (arith, row_sum_has rows cs ks y (omega arith) (omega arith))

module _ (x : Instance) (g : Good x) (f : ℕ) (frames : List ℕ) (v : IsPlan x f frames) where
  pub length_pos : 0 < f
  length_pos = pos_of_dvd_of_pos v.divides g.some_time

  pub rows_pos : 0 < rows_at x f
  rows_pos = quotient_pos x.h f g.some_time v.divides

  pub in_window : (y : ℕ) → y < length x.jobs
      → InJob f (task_at x (job_at x y).task).t (task_at x (job_at x y).task).d (task_at x (job_at x y).task).p (job_at x y).number (frame_at frames y)
  in_window y h =
      let facts : JobFacts x y = job_facts x g y h in
      let due : (job_at x y).due ≡ (task_at x (job_at x y).task).p + (job_at x y).number * (task_at x (job_at x y).task).t + (task_at x (job_at x y).task).d
      = rw facts.released at facts.due in
      rw (facts.released, due) at (v.window y h)

  -- a plan's frames have room for every task, since every task has a job
  pub slot_fits : (i : ℕ) → i < length x.tasks → slot x.g (task_at x i) ≤ f
  slot_fits i known =
      let there : PlaceOf x i 0 = first_job x g i known in
      let y : ℕ = there.place in
      let cost : get_or (costs x) y 0 ≡ slot x.g (task_at x i) = rw there.task at (cost_at_lem x y there.within) in
      let r : ℕ = frame_at frames y % rows_at x f in
      omega (
        arith,
        cost,
        row_sum_has (rows_at x f) (costs x) frames y (omega (arith, costs_length x, there.within)) (omega (arith, v.all, there.within)),
        v.capacity r (mod-lt (frame_at frames y) rows_pos),
      )
