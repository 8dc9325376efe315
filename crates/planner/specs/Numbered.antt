-- The planner's answers with the paper's number, where 0 is none: "A refusal returns its number, length 0 or no entries". The records of the same names
-- at `specs.declared` are those of the code.
use Rattle.std.specs.Prelude.{ℕ, List, replicate, Result, Ok, Err}
use Rattle.refusal.specs.Refusal.{number_of}
use Rattle.refusal.specs.declared.Refusal.{Refusal}
use Rattle.cursor.specs.Written.{written_said}
use Rattle.planner.specs.declared.Searched as s
use Rattle.planner.specs.declared.choose.ChosenPlan as p

-- the chosen plan, and the tries that were made
pub record ChosenPlan : Type 0 where
  pub refusal : ℕ
  pub f : ℕ
  pub frames : List ℕ
  pub tries : ℕ

-- the table's length, and the tries that were made
pub record Searched : Type 0 where
  pub refusal : ℕ
  pub length : ℕ
  pub tries : ℕ

abbrev pub plan_said : ℕ → Result p.ChosenPlan Refusal → ChosenPlan
plan_said tries (Ok p) = record { refusal = 0; f = p.f; frames = p.frames; tries = tries }
plan_said tries (Err e) = record { refusal = number_of e; f = 0; frames = replicate 128 0; tries = tries }

abbrev pub chosen_said : s.Searched p.ChosenPlan → ChosenPlan
chosen_said s = plan_said s.tries s.outcome

abbrev pub searched_said : s.Searched ℕ → Searched
searched_said s = record { refusal = (written_said s.outcome).refusal; length = (written_said s.outcome).length; tries = s.tries }
