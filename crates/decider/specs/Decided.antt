-- Demand 3, its first sentence, of the exact planner: a table is handed out exactly when some plan exists, and it is the one that 01 chooses; which
-- number is given where none is handed out. No allowance, so no condition on tries, and no 23.
use Rattle.std.specs.Prelude.{ℕ, ◌≡◌, ◌↔◌, List}
use Rattle.model.specs.Plan.{Instance}
use Rattle.model.specs.Chosen.{NoPlan}
use Rattle.plan_writer.specs.Outcome.{outcome_answer, outcome_buffer}
use Rattle.planner.specs.Outcome.{outcome, outcome_within, searched_answer}
use Rattle.planner.specs.Handed.{LongEnough, TooShort, SomePlan, NonePlausible, SomePlausible, HandedOut}

-- what `decide` answers: the number, 0 for none, and the length; and what it leaves in the buffer
module _ (request out : List ℕ) where
  abbrev pub NumberIs : ℕ → Type 0
  NumberIs number = (outcome_answer (outcome request) out).refusal ≡ number

  abbrev pub LengthIs : ℕ → Type 0
  LengthIs size = (outcome_answer (outcome request) out).length ≡ size

  abbrev pub BufferIs : List ℕ → Type 0
  BufferIs bytes = outcome_buffer (outcome request) out ≡ bytes

-- x is what is planned for a request within the limits
pub record Decided (x : Instance) (request out : List ℕ) : Type 0 where
  -- a table is handed out exactly when a plan exists
  pub exactly : LongEnough x out → NumberIs request out 0 ↔ SomePlan x
  -- and it is the chosen one
  pub chosen_one : NumberIs request out 0 → HandedOut x (outcome_answer (outcome request) out).length (outcome_buffer (outcome request) out) out
  -- "no plausible f"
  pub nine : NumberIs request out 9 ↔ NonePlausible x
  -- "some plausible f, no plan"
  pub ten : NumberIs request out 10 ↔ (SomePlausible x × NoPlan x)
  -- "buffer shorter than the table"
  pub eleven : NumberIs request out 11 ↔ TooShort x out
  -- it is never left open
  pub never_open : NumberIs request out 23 → ⊥
  -- "A refusal returns its number, length 0 .. and the buffer untouched."
  pub untouched : (NumberIs request out 0 → ⊥) → LengthIs request out 0 × BufferIs request out out

-- `plan` with this allowance answers as `decide` does: the number and the length; and it leaves the same in the buffer
pub record AsPlan (allowance : ℕ) (request out : List ℕ) : Type 0 where
  pub number : (searched_answer allowance request out).refusal ≡ (outcome_answer (outcome request) out).refusal
  pub size : (searched_answer allowance request out).length ≡ (outcome_answer (outcome request) out).length
  pub bytes : outcome_buffer (outcome_within allowance request) out ≡ outcome_buffer (outcome request) out
