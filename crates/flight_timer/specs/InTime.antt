-- The timing guarantee through the registers. 02, R-12: "The timing guarantee holds for every list of calls in which run is set before the first timer event and
-- stays set, and each event is followed by its serving before any other event, the first event being tick 0, each next one f ticks later, and a frame starting
-- at its event."
use Rattle.std.specs.Prelude.{ℕ, ◌+◌, ◌<◌, ◌≡◌, Bool, true, false, not, cond, ◌&&◌, ◌⊎◌, List, [], ◌∷◌, ◌++◌, length, get_or, take, eqb}
use Rattle.cursor.specs.Choice.{keep}
use Rattle.cursor.specs.Fields.{Bytes}
use Rattle.table.specs.Table.{Table, Decoded, table, malformed, decode}
use Rattle.table.specs.TableBytes.{SaysTable}
use Rattle.model.specs.Plan.{Instance}
use Rattle.model.specs.Within.{Within}
use Rattle.planner.specs.Outcome.{searched_answer}
use Rattle.planner.specs.HandedBytes.{handed_bytes}
use Rattle.checker.specs.Checked.{check_number}
use Rattle.flight.specs.Calls as flight
use Rattle.flight.specs.Timing.{KeepToC, start_time}
use Rattle.flight.specs.Flight as flown
use Rattle.timer.specs.Registers.{is_set}
use Rattle.flight_timer.specs.Calls.{RegisterCall, on_write, on_event, on_serve, on_report, RegisterAnswer, byte, number, nothing, said, level, register_answers, timer_after}

-- The condition, of the list alone

-- run after a call: a write to address 0 says it
abbrev pub run_then : Bool → RegisterCall → Bool
run_then run c = on_write (λ address value. cond (eqb address 0) (is_set 1 value) run) run c

-- "and stays set": no call of the list clears it
unfoldable pub StaysSet : List RegisterCall → Type 0
StaysSet [] = Unit {0}
StaysSet (c ∷ cs) = (run_then true c ≡ true) × StaysSet cs

-- "run is set before the first timer event and stays set": what is written before that event is free
unfoldable pub RunKept : Bool → List RegisterCall → Type 0
RunKept run [] = Unit {0}
RunKept run (c ∷ cs) = on_event ((run ≡ true) × StaysSet cs) (RunKept (run_then run c) cs) c

abbrev pub formed : Decoded → Bool
formed (table t) = true
formed malformed = false

-- the bytes have the form of a table
abbrev pub is_table : List ℕ → Bool
is_table bytes = formed (decode bytes)

-- whether an event waits for its serving after a call; `waits` before it. Bytes that are no table are refused, and it still waits.
abbrev pub waits_then : Bool → RegisterCall → Bool
waits_then waits c = on_event true (on_serve (λ bytes. waits && not (is_table bytes)) waits c) c

-- the table of the list is `table_bytes`. No event comes while one waits; and a serving that an event waits for gets this table, or bytes that no table has.
-- A serving that none waits for may get any bytes.
module _ (table_bytes : List ℕ) where
  abbrev pub InTurn : Bool → RegisterCall → Type 0
  InTurn waits c = on_event (waits ≡ false) (on_serve (λ bytes. waits ≡ true → (bytes ≡ table_bytes) ⊎ (is_table bytes ≡ false)) (Unit {0}) c) c

  -- "each event is followed by its serving before any other event"; the last one may still wait for it
  unfoldable pub EachServed : Bool → List RegisterCall → Type 0
  EachServed waits [] = Unit {0}
  EachServed waits (c ∷ cs) = InTurn waits c × EachServed (waits_then waits c) cs

  pub record Punctual (calls : List RegisterCall) : Type 0 where
    pub run_kept : RunKept false calls
    pub each_served : EachServed false calls

-- The dispatcher's calls in such a list, again of the list alone: next-frame for the serving of each event, and every report

abbrev pub asks : Bool → RegisterCall → List flight.Call
asks waits c =
    on_serve (λ bytes. keep (waits && is_table bytes) flight.next_frame_call []) (on_report (λ bytes task ticks. flight.report bytes task ticks ∷ []) [] c) c

unfoldable pub asks_from : Bool → List RegisterCall → List flight.Call
asks_from waits [] = []
asks_from waits (c ∷ cs) = asks waits c ++ asks_from (waits_then waits c) cs

abbrev pub dispatcher_calls : List RegisterCall → List flight.Call
dispatcher_calls calls = asks_from false calls

-- the answers that the timer gave to them
abbrev pub spoken : RegisterAnswer → List flight.Answer
spoken (said a) = a ∷ []
spoken (byte r) = []
spoken (number n) = []
spoken nothing = []
spoken (level on) = []

unfoldable pub heard_from : Bool → List RegisterCall → List RegisterAnswer → List flight.Answer
heard_from waits [] given = []
heard_from waits (c ∷ cs) [] = []
heard_from waits (c ∷ cs) (a ∷ given) = take (length (asks waits c)) (spoken a) ++ heard_from (waits_then waits c) cs given

abbrev pub heard_in : List RegisterCall → List flight.Answer
heard_in calls = heard_from false calls (register_answers calls)

-- "the first event being tick 0, each next one f ticks later, and a frame starting at its event": the starts of the frames served. `next` is the tick of the
-- next event, and `at` that of the last.
module _ (f : ℕ) where
  unfoldable pub starts_from : ℕ → ℕ → Bool → List RegisterCall → List ℕ
  starts_from next at waits [] = []
  starts_from next at waits (c ∷ cs) =
      keep (on_serve (λ bytes. waits && is_table bytes) false c) at (starts_from (on_event (next + f) next c) (on_event next at c) (waits_then waits c) cs)

  abbrev pub frame_starts : List RegisterCall → List ℕ
  frame_starts calls = starts_from 0 0 false calls

-- the request with its cycle, the bytes of the table and what they say, the register calls, the actual times
module _ (x : Instance) (table_bytes : List ℕ) (t : Table) (calls : List RegisterCall) (actual : ℕ → ℕ → ℕ) where
  pub record InTime : Type 0 where
    -- what was answered to the servings of the events and to the reports is what the dispatcher answers to its calls
    pub same_answers : heard_in calls ≡ flown.answers_given table_bytes (dispatcher_calls calls)
    -- and the dispatcher in the timer stands where it does after them
    pub same_state : (timer_after calls).state ≡ flown.state_after table_bytes (dispatcher_calls calls)
    -- "a frame starting at its event": as many starts as frames, and frame m starts when the flight has it start
    pub each_starts : length (frame_starts t.f calls) ≡ length (flown.frames_flown table_bytes (dispatcher_calls calls))
    pub at_its_event : (m : ℕ) → m < length (flown.frames_flown table_bytes (dispatcher_calls calls)) → get_or (frame_starts t.f calls) m 0 ≡ start_time x.g t.f actual m 0
    -- no frame is missed
    pub none_missed : (timer_after calls).status.missed ≡ false
    -- the whole flight: the plain dispatcher's answers, release, deadline, order, exactly once
    pub flies : flown.Flight x table_bytes t (dispatcher_calls calls) actual

-- the request is within the limits, the bytes have the form of a table, and for every such list and all actual times from 0 to C the guarantee holds
pub record FliesByTimer (request_bytes table_bytes : List ℕ) : Type 0 where
  pub x : Instance
  pub within : Within request_bytes x
  pub t : Table
  pub says : SaysTable table_bytes t
  pub in_time : (calls : List RegisterCall) → Punctual table_bytes calls → (actual : ℕ → ℕ → ℕ)
      → KeepToC x (flown.frames_flown table_bytes (dispatcher_calls calls)) actual → InTime x table_bytes t calls actual

-- the statement: every table that the check accepts flies by the timer, and so do the bytes that the planner hands out
abbrev pub TimerFlight : Type 0
TimerFlight =
    ((request_bytes table_bytes : List ℕ) → Bytes table_bytes → check_number request_bytes table_bytes ≡ 0 → FliesByTimer request_bytes table_bytes)
    × ((allowance : ℕ) (request_bytes out : List ℕ) → (searched_answer allowance request_bytes out).refusal ≡ 0
    → FliesByTimer request_bytes (handed_bytes allowance request_bytes out))
