-- The chosen plan, in the words of 01's "Choosing", with the tries that the choice takes, and what it is to be right. One recursion answers the
-- choice and the tries, those of each length that was tried up to the chosen one. Nothing in it depends on how many tries are allowed.
use Rattle.std.specs.Prelude.{◌≡◌, Bool, true, false, cond, ◌&&◌, ◌⊎◌, List, [], map, ℕ, zero, suc, ◌+◌, ◌/◌, ◌%◌, ◌<◌, eqb}
use Rattle.request.specs.declared.Task.{Task}
use Rattle.cycle.specs.declared.Job.{Job}
use Rattle.search.specs.Search.{Found, none, at, Walk}
use Rattle.search.specs.Best.{Earlier}
use Rattle.search.specs.Placing.{Problem, plan_walk}
use Rattle.model.specs.Window.{first_from}
use Rattle.model.specs.Plan.{Instance, rows_at, costs, IsPlan}
use Rattle.model.specs.Plausible.{phase_rule, plausible_by, plausible}
use Rattle.model.specs.Links.{link_counts, link_places}

-- the frames of length f in a job's window: from the first that begins at its release or later, up to, and without, the first that ends
-- behind its due time
unfoldable pub first_frame_of : ℕ → Job → ℕ
first_frame_of f job = first_from f job.release

unfoldable pub end_frame_of : ℕ → Job → ℕ
end_frame_of f job = job.due / f

-- the jobs to be placed in frames of length f
unfoldable pub problem_at : Instance → ℕ → Problem
problem_at x f = record {
  cost = costs x;
  first = map (first_frame_of f) x.jobs;
  end = map (end_frame_of f) x.jobs;
  counts = link_counts x;
  links = link_places x;
  rows = rows_at x f;
  f = f;
}

-- the length and the frames of the chosen plan; or 10: "some plausible f, no plan"; or 9: "no plausible f"
pub data Choice : Type 0 where
  chosen : ℕ → List ℕ → Choice
  no_plan : Choice
  no_plausible : Choice

-- the length of F rows is tried: F divides H, and H/F is plausible by the rule
unfoldable pub is_tried_by : (ℕ → Task → Bool) → Instance → ℕ → Bool
is_tried_by rule x rows = eqb (x.h % rows) 0 && plausible_by rule x (x.h / rows)

abbrev pub is_tried : Instance → ℕ → Bool
is_tried = is_tried_by phase_rule

-- the choice and the tries that it took
pub record ChoiceWalk : Type 0 where
  pub choice : Choice
  pub tries : ℕ

-- "it ends at the first plan": the length f came to o after t tries, and only where that is none, the lengths behind it follow; one count goes
-- through all lengths
unfoldable pub go_on_lengths : ℕ → Found → ℕ → ChoiceWalk → ChoiceWalk
go_on_lengths f (at frames) t rest = record { choice = chosen f frames; tries = t }
go_on_lengths f none t rest = record { choice = rest.choice; tries = t + rest.tries }

-- "The search takes lengths .. in 01's order": n lengths are left, the next is that of F rows; `some`: an earlier one was plausible (a `let` is
-- computed only where it is taken)
unfoldable pub walk_lengths_by : (ℕ → Task → Bool) → Instance → ℕ → ℕ → Bool → ChoiceWalk
walk_lengths_by rule x zero rows some = record { choice = cond some no_plan no_plausible; tries = 0 }
walk_lengths_by rule x (suc n) rows some =
    let next = walk_lengths_by rule x n (rows + 1) some in
    let after = walk_lengths_by rule x n (rows + 1) true in
    let w : Walk = plan_walk (problem_at x (x.h / rows)) [] in
    cond (is_tried_by rule x rows) (go_on_lengths (x.h / rows) w.found w.tries after) next

-- "Plausible lengths are tried from the largest down": those of 1, 2, .., 256 rows. "The table is that of the first length with a plan"
unfoldable pub choose_walk_by : (ℕ → Task → Bool) → Instance → ChoiceWalk
choose_walk_by rule x = walk_lengths_by rule x 256 1 false

abbrev pub choose_by : (ℕ → Task → Bool) → Instance → Choice
choose_by rule x = (choose_walk_by rule x).choice

-- by the rule of the phase: the planner's choice, with its tries
abbrev pub choose_walk : Instance → ChoiceWalk
choose_walk = choose_walk_by phase_rule

abbrev pub choose : Instance → Choice
choose = choose_by phase_rule

-- "the full search's tries": how many the choice takes, whatever is allowed
abbrev pub full_tries : Instance → ℕ
full_tries x = (choose_walk x).tries

-- "Against every other plan of the request, the chosen one has the larger f, or the same f and the earlier frame at the first job .. where
-- the two differ."
pub record IsChosen (x : Instance) (f : ℕ) (frames : List ℕ) : Type 0 where
  pub is_plan : IsPlan x f frames
  pub first : (f' : ℕ) (frames' : List ℕ) → IsPlan x f' frames' → (f' < f) ⊎ ((f' ≡ f) × ((frames ≡ frames') ⊎ Earlier frames frames'))

abbrev pub NoPlan : Instance → Type 0
NoPlan x = (f : ℕ) (frames : List ℕ) → IsPlan x f frames → ⊥

-- what each choice says, where `test` tells which lengths are plausible
unfoldable pub RightBy : (ℕ → Bool) → Instance → Choice → Type 0
RightBy test x (chosen f frames) = IsChosen x f frames
RightBy test x no_plan = NoPlan x × ((f : ℕ) × (test f ≡ true))
RightBy test x no_plausible = NoPlan x × ((f : ℕ) → test f ≡ true → ⊥)

abbrev pub RightChoice : Instance → Choice → Type 0
RightChoice x = RightBy (plausible x) x
