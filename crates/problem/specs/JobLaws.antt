-- A number of each job in an array. The numbers are a job's cost, or a frame of its window.
use Rattle.std.specs.Prelude.{ℕ, zero, suc, ◌+◌, ◌*◌, ◌-◌, ◌/◌, ◌≤◌, ◌<◌, ◌≡◌, get_or, set, replicate}
use Rattle.std.proofs.Math.Path.{refl, sym}
use Rattle.std.proofs.Common.{ap, ◌∙◌, div-lt_iff_lt-mul, take, take-suc}
use mathlib.Core.List.{List, [], ◌∷◌, ◌++◌}
use Rattle.std.proofs.Math.Nat.{div-zero}
use native.Mathlib.Omega.{arith}
use Rattle.std.proofs.Math.ListN.{length, get_or-eq_default}
use Rattle.cursor.specs.Padded.{padded, firsts}
use Rattle.cursor.specs.PaddedLaws.{padded_none, set_padded, firsts_length}
use Rattle.request.specs.Request.{no_task}
use Rattle.request.specs.declared.Task.{Task}
use Rattle.cycle.specs.declared.Job.{Job}
use Rattle.model.specs.Plan.{slot}
use Rattle.model.specs.Window.{first_from}
use Rattle.model.specs.Chosen.{first_frame_of, end_frame_of}

-- one element more, stored at place k
pub set_next : {A : Type 0} (size : ℕ) (blank : A) (xs : List A) (x : A) (k : ℕ) → length xs ≡ k → k < size
    → set (padded size blank xs) k x ≡ padded size blank (xs ++ (x ∷ []))
set_next size blank xs x k e h =
    ap (λ (i : ℕ). set (padded size blank xs) i x) (sym e) ∙ set_padded size blank xs x (omega arith)

pub none_stored : {A : Type 0} (size : ℕ) (blank : A) → replicate size blank ≡ padded size blank []
none_stored size blank = sym (padded_none size blank)

-- the first places of a list that has as many
pub firsts_take : {A : Type 0} (blank : A) (xs : List A) (k : ℕ) → k ≤ length xs → firsts k blank xs ≡ take k xs
unfolding firsts
firsts_take blank xs zero h = refl
firsts_take blank xs (suc k) h = rw (firsts_take blank xs k (omega arith), take-suc xs k blank h) refl

-- a task that is not known takes no time but the silent ticks
module _ (g : ℕ) (places : List Task) (n i : ℕ) where
  pub slot_unknown : n ≤ i → g ≡ slot g (get_or (firsts n no_task places) i no_task)
  unfolding slot
  slot_unknown h =
      omega arith ∙ sym (ap (slot g) (get_or-eq_default (firsts n no_task places) no_task {n = i} (omega (arith, firsts_length no_task places n))))

-- frames of length 0 have no number but 0
module _ (f : ℕ) (job : Job) where
  pub first_of_none : f ≡ 0 → 0 ≡ first_frame_of f job
  unfolding first_frame_of first_from
  first_of_none e = rw e (sym (div-zero _))

  pub end_of_none : f ≡ 0 → 0 ≡ end_frame_of f job
  unfolding end_frame_of
  end_of_none e = rw e (sym (div-zero _))

-- the first frame from r on has a number of r at most
pub first_frame_le : (f r : ℕ) → 0 < f → (r + (f - 1)) / f ≤ r
first_frame_le f r pos =
    let low = div-lt_iff_lt-mul {x = r + (f - 1)} {y = suc r} pos in
    omega (arith, low.1 (low_enough r f pos))
  where
    low_enough : (r f : ℕ) → 0 < f → r + (f - 1) < suc r * f
    low_enough zero f pos = omega arith
    low_enough (suc r) f pos = omega (arith, low_enough r f pos)
