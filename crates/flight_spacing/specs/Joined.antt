-- Spacing from what the public calls answer: of a table that the check accepts, and of the one that the planner hands out.
use Rattle.std.specs.Prelude.{ℕ, ◌≡◌, List}
use Rattle.cursor.specs.Fields.{Bytes}
use Rattle.model.specs.WithinLaws.{within_good}
use Rattle.planner.specs.Outcome.{searched_answer}
use Rattle.planner.specs.HandedBytes.{handed_bytes}
use Rattle.checker.specs.Checked.{check_number}
use Rattle.flight.specs.Joined.{checked_flight, planned_flight}
use Rattle.flight.specs.Flight.{Flies}
use Rattle.flight_spacing.specs.Spacing.{Spaced}
use Rattle.flight_spacing.specs.SpacingLaws.{spaced}
use Rattle.flight_spacing.specs.WhileLaws.{apart_while}

-- what flies is spaced
flies_spaced : (request_bytes table_bytes : List ℕ) → Flies request_bytes table_bytes → Spaced request_bytes table_bytes
flies_spaced request_bytes table_bytes w =
    let good = within_good request_bytes w.x w.within in
    record {
      x = w.x;
      within = w.within;
      t = w.t;
      says = w.says;
      spaced = λ calls actual keep. spaced w.x good table_bytes w.t calls actual (w.flies calls actual keep);
      spaced_while = λ calls. apart_while w.x good table_bytes w.t calls (w.flies calls);
    }

-- Every table that the check accepts spaces the readings.
pub checked_spacing : (request_bytes table_bytes : List ℕ) → Bytes table_bytes → check_number request_bytes table_bytes ≡ 0 → Spaced request_bytes table_bytes
checked_spacing request_bytes table_bytes are e = flies_spaced request_bytes table_bytes (checked_flight request_bytes table_bytes are e)

-- And so do the bytes that the planner hands out, whatever it was allowed.
pub planned_spacing : (allowance : ℕ) (request_bytes out : List ℕ) → (searched_answer allowance request_bytes out).refusal ≡ 0
    → Spaced request_bytes (handed_bytes allowance request_bytes out)
planned_spacing allowance request_bytes out e =
    flies_spaced request_bytes (handed_bytes allowance request_bytes out) (planned_flight allowance request_bytes out e)
