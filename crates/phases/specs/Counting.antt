-- What the functions of this crate ask of their arguments and answer: of a request that was read, in place of its bytes.
use Rattle.std.specs.Prelude.{ℕ, ◌+◌, ◌<◌, ◌≡◌, eqb}
use Rattle.cursor.specs.Choice.{bit}
use Rattle.request.specs.Request.{period_of}
use Rattle.request.specs.declared.Request.{Request}
use Rattle.cycle.specs.Answers.{AsRead, cycle_for, cycle_answered}
use Rattle.cycle.specs.Numbered.{cycle_number}
use Rattle.cycle.specs.PhaseLaws.{request_with}
use Rattle.model.specs.Answers.{instance_of}
use Rattle.model.specs.Chosen.{choose_walk}
use Rattle.planner.specs.Choices.{choice_within}
use Rattle.phases.specs.Numbered.{PhaseCounts}

-- no count is at its end
pub record Room (counts : PhaseCounts) : Type 0 where
  pub tables : counts.tables < 65535
  pub nines : counts.nines < 65535
  pub tens : counts.tens < 65535
  pub ended : counts.ended < 65535

-- one phase more that leads to this number
unfoldable pub one_more : PhaseCounts → ℕ → PhaseCounts
one_more counts number = record {
  refusal = counts.refusal;
  tables = counts.tables + bit (eqb number 0);
  nines = counts.nines + bit (eqb number 9);
  tens = counts.tens + bit (eqb number 10);
  ended = counts.ended + bit (eqb number 23);
}

-- a request that was read and is within the limits, and one of its tasks
pub record Countable (r : Request) (i : ℕ) : Type 0 where
  pub as_read : AsRead r
  pub within : cycle_number (cycle_for r) ≡ 0
  pub known : i < r.n

abbrev pub period_in : Request → ℕ → ℕ
period_in r i = period_of r.tasks i

-- what planning the request with the phase p for task i comes to
unfoldable pub phase_number : ℕ → Request → ℕ → ℕ → ℕ
phase_number allowance r i p = (choice_within allowance (choose_walk (instance_of (cycle_answered (cycle_for (request_with r i p)))))).refusal
