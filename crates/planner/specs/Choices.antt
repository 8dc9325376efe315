-- The answers of the functions that choose, and what they ask of their arguments.
use Rattle.std.specs.Prelude.{ℕ, ◌≡◌, true, cond, List, replicate, ltb}
use Rattle.cursor.specs.Padded.{padded}
use Rattle.cycle.specs.declared.Cycle.{Cycle}
use Rattle.model.specs.Plan.{costs}
use Rattle.model.specs.Answers.{instance_of}
use Rattle.model.specs.Within.{InLimits}
use Rattle.model.specs.Plausible.{plausible}
use Rattle.model.specs.Chosen.{Choice, chosen, no_plan, no_plausible, ChoiceWalk}
use Rattle.problem.specs.Answers.{links_answer}
use Rattle.problem.specs.declared.JobLinks.{JobLinks}
use Rattle.planner.specs.Numbered.{ChosenPlan}

-- number after so many tries
abbrev pub none_chosen : ℕ → ℕ → ChosenPlan
none_chosen number tries = record { refusal = number; f = 0; frames = replicate 128 0; tries = tries }

unfoldable pub choice_answer : Choice → ℕ → ChosenPlan
choice_answer (chosen f frames) tries = record { refusal = 0; f = f; frames = padded 128 0 frames; tries = tries }
choice_answer no_plan tries = none_chosen 10 tries
choice_answer no_plausible tries = none_chosen 9 tries

-- the choice where a tries are allowed: "23 .. in place of a table or 10, exactly when the full search needs more tries than allowed"
unfoldable pub choice_within : ℕ → ChoiceWalk → ChosenPlan
choice_within a w = cond (ltb a w.tries) (none_chosen 23 a) (choice_answer w.choice w.tries)

-- the cycle of a request within the limits, with the costs and the links of its jobs, and a plausible length
pub record Searchable (c : Cycle) (cost : List ℕ) (links : JobLinks) (f : ℕ) : Type 0 where
  pub planned : InLimits c
  pub plausible_is : plausible (instance_of c) f ≡ true
  pub cost_is : cost ≡ padded 128 0 (costs (instance_of c))
  pub links_are : links ≡ links_answer (instance_of c)
