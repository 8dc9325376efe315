-- The frames that the link serves are those of the flight: one accepted table, one pair, every pattern of losses. So no call is refused, carried entries are left
-- out in the first cycle and send nothing, and the timing guarantee holds.
use Rattle.std.specs.Prelude.{ℕ, ◌≡◌, List, map}
use Rattle.cursor.specs.Fields.{Bytes}
use Rattle.table.specs.Table.{Table}
use Rattle.table.specs.TableBytes.{SaysTable}
use Rattle.model.specs.Plan.{Instance}
use Rattle.model.specs.Within.{Within}
use Rattle.checker.specs.Checked.{check_number}
use Rattle.flight.specs.Calls as flight
use Rattle.flight.specs.Flight as flown
use Rattle.flight.specs.Timing.{KeepToC}
use Rattle.heater_link.specs.Exchange.{fresh_link}
use Rattle.heater_link.specs.Exactly.{IsPair, row_answered}
use Rattle.heater_link.specs.Calls.{Ask, answers_given, link_from}
use Rattle.heater_link.specs.declared.Losses.{Losses}
use Rattle.heater_link.specs.Numbered.{Exchange}

abbrev pub ask_for : List ℕ → List ℕ → ℕ → ℕ → Losses → Ask
ask_for request table a b lost = record { request = request; table = table; a = a; b = b; lost = lost }

module _ (request table : List ℕ) (a b : ℕ) (losses : List Losses) where
  abbrev pub asks_of : List Ask
  asks_of = map (ask_for request table a b) losses

  -- one next-frame call for each
  abbrev pub frames_asked : List flight.Call
  frames_asked = map (λ (l : Losses). flight.next_frame_call) losses

  pub record SameFrames (x : Instance) (t : Table) : Type 0 where
    pub same_answers : map (λ (r : Exchange). flight.frame (row_answered r)) (answers_given asks_of) ≡ flown.answers_given table frames_asked
    pub same_state : (link_from fresh_link asks_of).state ≡ flown.state_after table frames_asked
    pub flies : (actual : ℕ → ℕ → ℕ) → KeepToC x (flown.frames_flown table frames_asked) actual → flown.Flight x table t frames_asked actual

pub record LinkFlies (request table : List ℕ) : Type 0 where
  pub x : Instance
  pub within : Within request x
  pub t : Table
  pub says : SaysTable table t
  pub frames : (a b : ℕ) → IsPair x a b → (losses : List Losses) → SameFrames request table a b losses x t

-- for every table that the check accepts
abbrev pub LinkFlight : Type 0
LinkFlight = (request table : List ℕ) → Bytes table → check_number request table ≡ 0 → LinkFlies request table
