-- The row and the entry of a job: what they say of the job and of its frame.
use Rattle.std.specs.Prelude.{ℕ, ◌%◌, ◌≡◌, List, leb}
use Rattle.std.proofs.Math.Path.{refl, sym}
use Rattle.std.proofs.Common.{ap, ◌∙◌}
use Rattle.table.specs.Table.{Entry}
use Rattle.model.specs.Plan.{Instance, job_at, rows_at, frame_at}
use Rattle.model.specs.NamedLaws.{Named}
use Rattle.model.specs.Described.{row_for, entry_for, StandsIn}

module _ (x : Instance) (f : ℕ) (frames : List ℕ) (y : ℕ) where
  pub row_of_frame : row_for x f frames y ≡ frame_at frames y % rows_at x f
  unfolding row_for
  row_of_frame = refl

  -- the entry names the job
  pub entry_names : Named (entry_for x f frames y).task (entry_for x f frames y).number (job_at x y)
  unfolding entry_for
  entry_names = record { task_is = refl; number_is = refl }

  -- it is carried if the frame is F or beyond
  pub entry_carried : (entry_for x f frames y).carried ≡ leb (rows_at x f) (frame_at frames y)
  unfolding entry_for
  entry_carried = refl

  -- no other entry is so
  pub names_entry : (e : Entry) → Named e.task e.number (job_at x y) → e.carried ≡ leb (rows_at x f) (frame_at frames y) → e ≡ entry_for x f frames y
  unfolding entry_for
  names_entry e named carried = λ i. record { task = sym named.task_is i; number = sym named.number_is i; carried = carried i }

-- an entry of row r that is the entry of the job at place y
module _ {x : Instance} {f : ℕ} {frames : List ℕ} {r : ℕ} {e : Entry} {y : ℕ} (s : StandsIn x f frames r e y) where
  pub stands_named : Named e.task e.number (job_at x y)
  stands_named =
      let named = entry_names x f frames y in
      let back = sym s.is_entry in
      record { task_is = named.task_is ∙ ap (λ (a : Entry). a.task) back; number_is = named.number_is ∙ ap (λ (a : Entry). a.number) back }

  pub stands_carried : e.carried ≡ leb (rows_at x f) (frame_at frames y)
  stands_carried = ap (λ (a : Entry). a.carried) s.is_entry ∙ entry_carried x f frames y

  pub stands_row : frame_at frames y % rows_at x f ≡ r
  stands_row = sym (row_of_frame x f frames y) ∙ s.in_row
