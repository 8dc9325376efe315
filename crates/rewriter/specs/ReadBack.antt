-- Demand 2 over the answers of the public calls: a written table reads back as the same plan. The bytes that planning hands out pass the check, are read as
-- the chosen plan, and are written again as they are.
use Rattle.std.specs.Prelude.{ℕ, ◌≤◌, ◌≡◌, List, ◌++◌, length, drop}
use Rattle.cursor.specs.Padded.{padded}
use Rattle.cycle.specs.Cycle.{cycle_of}
use Rattle.cycle.specs.Answers.{cycle_answered}
use Rattle.table.specs.Table.{decode}
use Rattle.model.specs.Plan.{Instance}
use Rattle.model.specs.Within.{Within}
use Rattle.model.specs.Chosen.{IsChosen}
use Rattle.plan_writer.specs.Outcome.{outcome_answer, outcome_buffer}
use Rattle.checker.specs.Checked as checker
use Rattle.checker.specs.Answers.{read_answer}
use Rattle.rewriter.specs.Rewritten.{rewritten}

pub record ReadsBack (request bytes : List ℕ) : Type 0 where
  -- the chosen plan
  pub x : Instance
  pub within : Within request x
  pub f : ℕ
  pub frames : List ℕ
  pub is_chosen : IsChosen x f frames
  -- `checker::check` answers 0
  pub passes : checker.check_number request bytes ≡ 0
  -- `checker::read_plan` answers that plan, with the request's cycle
  pub reads : read_answer (cycle_answered (cycle_of request)) (checker.checked (cycle_of request) (decode bytes))
      ≡ record { refusal = 0; cycle = cycle_answered (cycle_of request); f = f; frames = padded 128 0 frames }
  -- `rewriter::rewrite` writes the same bytes, and those behind them stay
  pub writes : (out : List ℕ) → length bytes ≤ length out
      → (outcome_answer (rewritten request bytes) out ≡ record { refusal = 0; length = length bytes })
      × (outcome_buffer (rewritten request bytes) out ≡ bytes ++ drop (length bytes) out)
