-- Which number a call of the link gives, exactly, for all byte strings and every link; and what it answers where it gives none.
use Rattle.std.specs.Prelude.{ℕ, ◌≤◌, ◌<◌, ◌≡◌, ◌↔◌, List, length}
use Rattle.cursor.specs.Fields.{Bytes}
use Rattle.table.specs.Table.{decode}
use Rattle.table.specs.Answers.{Row}
use Rattle.model.specs.Plan.{Instance, pair_at}
use Rattle.model.specs.Described.{Accepted}
use Rattle.checker.specs.Checked.{check_number}
use Rattle.checker.specs.Exactly.{OfBoth}
use Rattle.dispatcher.specs.Dispatch.{next_frame, row_shown}
use Rattle.heater_link.specs.Exchange.{refused_exchange, exchange}
use Rattle.heater_link.specs.declared.Link.{Link}
use Rattle.heater_link.specs.declared.Losses.{Losses}
use Rattle.heater_link.specs.Numbered.{Exchange}

-- "a, b" is a "pair of the request": in this order, wherever it stands, and if it stands twice
pub record IsPair (x : Instance) (a b : ℕ) : Type 0 where
  pub u : ℕ
  pub within : u < length x.pairs
  pub first : (pair_at x u).a ≡ a
  pub second : (pair_at x u).b ≡ b

abbrev pub row_answered : Exchange → Row
row_answered r = record { refusal = r.refusal; count = r.count; tasks = r.tasks; jobs = r.jobs }

module _ (request bytes : List ℕ) (a b : ℕ) (lost : Losses) (s : Link) where
  abbrev pub given : Exchange
  given = exchange a b lost request bytes s

  pub record ExchangeExact : Type 0 where
    -- "after the check's numbers"
    pub check_first : (check_number request bytes ≡ 0 → ⊥) → given.refusal ≡ check_number request bytes
    -- "It refuses with 30, after the check's numbers and before 15, when a, b is no pair of the request."
    pub thirty : (given.refusal ≡ 30) ↔ OfBoth request bytes (λ x t. Accepted x t × (IsPair x a b → ⊥))
    -- "row not below F"
    pub fifteen : (given.refusal ≡ 15) ↔ OfBoth request bytes (λ x t. Accepted x t × IsPair x a b × (length t.rows ≤ s.state.row))
    pub served : (given.refusal ≡ 0) ↔ OfBoth request bytes (λ x t. Accepted x t × IsPair x a b × (s.state.row < length t.rows))
    -- "A refusal returns its number, .. no entries, the state unchanged"
    pub refused_still : (given.refusal ≡ 0 → ⊥) → given ≡ refused_exchange given.refusal s
    -- "A call serves one frame .. and answers next-frame's entries"
    pub next_frames : given.refusal ≡ 0 → row_answered given ≡ row_shown (next_frame (decode bytes) s.state)
    pub frame_after : given.refusal ≡ 0 → given.link.state ≡ (next_frame (decode bytes) s.state).state

-- for all byte strings
abbrev pub LinkExact : Type 0
LinkExact = (request bytes : List ℕ) → Bytes bytes → (a b : ℕ) (lost : Losses) (s : Link) → ExchangeExact request bytes a b lost s
