-- The bytes that planning hands out: those that it leaves in the buffer, as many as its answer says.
use Rattle.std.specs.Prelude.{ℕ, List, take}
use Rattle.table.specs.TableBytes.{SaysTable}
use Rattle.model.specs.Plan.{Instance}
use Rattle.model.specs.Within.{Within}
use Rattle.plan_writer.specs.Outcome.{outcome_buffer}
use Rattle.planner.specs.Outcome.{outcome_within, searched_answer}
use Rattle.planner.specs.Handed.{HandedOut}

module _ (allowance : ℕ) (request out : List ℕ) where
  abbrev pub handed_bytes : List ℕ
  handed_bytes = take (searched_answer allowance request out).length (outcome_buffer (outcome_within allowance request) out)

  -- the request is within the limits, its chosen plan's table is handed out, and these are the bytes of it
  pub record ChosenBytes : Type 0 where
    pub x : Instance
    pub within : Within request x
    pub handed : HandedOut x (searched_answer allowance request out).length (outcome_buffer (outcome_within allowance request) out) out
    pub says : SaysTable handed_bytes handed.t
