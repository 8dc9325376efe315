-- The flight from what the public calls answer: of a table that the check accepts, and of the one that the planner hands out.
-- The check accepts exactly the tables that describe a plan, and the planner hands out the table of the chosen plan, which describes it.
use Rattle.std.specs.Prelude.{ℕ, ◌≡◌, List}
use Rattle.cursor.specs.Fields.{Bytes}
use Rattle.table.specs.Table.{Table}
use Rattle.table.specs.TableBytes.{SaysTable}
use Rattle.table.specs.TableBytesLaws.{says_decodes}
use Rattle.model.specs.Plan.{Instance}
use Rattle.model.specs.Within.{Within}
use Rattle.model.specs.Described.{Accepted}
use Rattle.planner.specs.Outcome.{searched_answer}
use Rattle.planner.specs.HandedBytes.{handed_bytes}
use Rattle.planner.specs.HandedBytesLaws.{handed_chosen}
use Rattle.checker.specs.Checked.{check_number}
use Rattle.checker.specs.ExactlyLaws.{check_exact}
use Rattle.flight.specs.Flight.{Flies}
use Rattle.flight.specs.Theorem.{flight}

accepted_flies : (request_bytes table_bytes : List ℕ) (x : Instance) → Within request_bytes x → (t : Table) → SaysTable table_bytes t → Accepted x t
    → Flies request_bytes table_bytes
accepted_flies request_bytes table_bytes x within t says accepted =
    record { x = x; within = within; t = t; says = says; flies = flight request_bytes table_bytes x t within (says_decodes table_bytes t says) accepted }

-- Every table that the check accepts flies.
pub checked_flight : (request_bytes table_bytes : List ℕ) → Bytes table_bytes → check_number request_bytes table_bytes ≡ 0 → Flies request_bytes table_bytes
checked_flight request_bytes table_bytes are e =
    let c = (check_exact request_bytes table_bytes are).accepts.0 e in
    accepted_flies request_bytes table_bytes c.0 c.1 c.2 c.3 c.4

-- The bytes that the planner hands out fly, whatever it was allowed.
pub planned_flight : (allowance : ℕ) (request_bytes out : List ℕ) → (searched_answer allowance request_bytes out).refusal ≡ 0
    → Flies request_bytes (handed_bytes allowance request_bytes out)
planned_flight allowance request_bytes out e =
    let c = handed_chosen allowance request_bytes out e in
    let h = c.handed in
    accepted_flies request_bytes (handed_bytes allowance request_bytes out) c.x c.within h.t c.says
    (record { f = h.f; frames = h.frames; is_plan = h.is_chosen.is_plan; describes = h.describes })
