-- Demand 3, its first sentence, with R-7's allowance of tries: if the allowance reaches the full search's tries, a table is handed out exactly when
-- some plan exists, and it is the one that 01 chooses; which number is given where none is handed out; and how many tries are counted.
use Rattle.std.specs.Prelude.{ℕ, ◌+◌, ◌*◌, ◌≤◌, ◌<◌, ◌≡◌, ◌↔◌, true, List, ◌++◌, length, drop}
use Rattle.table.specs.Table.{Table, encode}
use Rattle.model.specs.Plan.{Instance, IsPlan, rows_at}
use Rattle.model.specs.Plausible.{plausible}
use Rattle.model.specs.Chosen.{IsChosen, NoPlan, full_tries}
use Rattle.model.specs.Described.{Describes}
use Rattle.plan_writer.specs.Outcome.{outcome_buffer}
use Rattle.planner.specs.Outcome.{outcome_within, searched_answer}

-- "A buffer is long enough if it holds the chosen table, which has 7 + F + 2·(number of jobs) bytes; without a plan, any length is."
abbrev pub LongEnough : Instance → List ℕ → Type 0
LongEnough x out = (f : ℕ) (frames : List ℕ) → IsChosen x f frames → 7 + rows_at x f + 2 * length x.jobs ≤ length out

-- a plan exists, and the buffer is shorter than the chosen table
abbrev pub TooShort : Instance → List ℕ → Type 0
TooShort x out = (f : ℕ) × (frames : List ℕ) × IsChosen x f frames × (length out < 7 + rows_at x f + 2 * length x.jobs)

-- some f that divides H into at most 256 rows and some frame for every job satisfy the rules
abbrev pub SomePlan : Instance → Type 0
SomePlan x = (f : ℕ) × (frames : List ℕ) × IsPlan x f frames

abbrev pub NonePlausible : Instance → Type 0
NonePlausible x = (f : ℕ) → plausible x f ≡ true → ⊥

abbrev pub SomePlausible : Instance → Type 0
SomePlausible x = (f : ℕ) × (plausible x f ≡ true)

-- what is answered where so many tries are allowed: the number, 0 for none, the length and the count; and what is left in the buffer
module _ (allowance : ℕ) (request out : List ℕ) where
  abbrev pub NumberIs : ℕ → Type 0
  NumberIs number = (searched_answer allowance request out).refusal ≡ number

  abbrev pub LengthIs : ℕ → Type 0
  LengthIs size = (searched_answer allowance request out).length ≡ size

  abbrev pub TriesAre : ℕ → Type 0
  TriesAre tries = (searched_answer allowance request out).tries ≡ tries

  abbrev pub BufferIs : List ℕ → Type 0
  BufferIs bytes = outcome_buffer (outcome_within allowance request) out ≡ bytes

-- the chosen plan's table stands in the buffer, with the old bytes behind it: `out` was lent, `after` is left there, `size` is the answer's length
pub record HandedOut (x : Instance) (size : ℕ) (after out : List ℕ) : Type 0 where
  pub f : ℕ
  pub frames : List ℕ
  -- against every other plan it has the larger f, or the same f and the earlier frame at the first job where the two differ
  pub is_chosen : IsChosen x f frames
  -- the table in the buffer describes it
  pub t : Table
  pub describes : Describes x f frames t
  pub bytes_are : after ≡ encode t ++ drop (7 + rows_at x f + 2 * length x.jobs) out
  -- "The answer holds the length."
  pub length_is : size ≡ 7 + rows_at x f + 2 * length x.jobs
  pub encoded_length : length (encode t) ≡ 7 + rows_at x f + 2 * length x.jobs

-- x is what is planned for a request within the limits
pub record Handed (x : Instance) (allowance : ℕ) (request out : List ℕ) : Type 0 where
  -- "Handing out a table exactly when a plan exists holds if the allowance reaches the full search's tries."
  pub exactly : LongEnough x out → full_tries x ≤ allowance → NumberIs allowance request out 0 ↔ SomePlan x
  -- and whatever is allowed, it is the chosen one
  pub chosen_one : NumberIs allowance request out 0
      → HandedOut x (searched_answer allowance request out).length (outcome_buffer (outcome_within allowance request) out) out
  -- "no plausible f": then nothing is tried, so that no allowance is too small
  pub nine : NumberIs allowance request out 9 ↔ NonePlausible x
  -- "some plausible f, no plan"
  pub ten : NumberIs allowance request out 10 ↔ (SomePlausible x × NoPlan x × (full_tries x ≤ allowance))
  -- "buffer shorter than the table"
  pub eleven : NumberIs allowance request out 11 ↔ (TooShort x out × (full_tries x ≤ allowance))
  -- "It refuses with 23, before 11 and in place of a table or 10, exactly when the full search needs more tries than allowed."
  pub twenty_three : NumberIs allowance request out 23 ↔ (allowance < full_tries x)
  -- "A refusal returns its number, length 0 .. and the buffer untouched."
  pub untouched : (NumberIs allowance request out 0 → ⊥) → LengthIs allowance request out 0 × BufferIs allowance request out out

-- "The count is 0 with 1 to 9 and 17, the allowance with 23, and otherwise the full search's tries." 1 to 8 and 17 are those of `not_planned`.
pub record Counted (x : Instance) (allowance : ℕ) (request out : List ℕ) : Type 0 where
  pub zero : NumberIs allowance request out 9 → TriesAre allowance request out 0
  pub spent : NumberIs allowance request out 23 → TriesAre allowance request out allowance
  pub full : (NumberIs allowance request out 23 → ⊥) → TriesAre allowance request out (full_tries x)
  pub never_more : (searched_answer allowance request out).tries ≤ allowance
