-- What the registers say after every list of calls, whatever was called: 02, R-12. Each bit is told from the list and the answers given in it, which due_served and
-- none_served fix.
use Rattle.std.specs.Prelude.{ℕ, ◌+◌, ◌*◌, ◌%◌, ◌≤◌, ◌<◌, min, ◌≡◌, true, cond, ◌↔◌, List, [], ◌∷◌, ◌++◌, length, get_or, take, eqb}
use Rattle.cursor.specs.Choice.{keep, bit}
use Rattle.request.specs.Request.{reading}
use Rattle.table.specs.Table.{decode}
use Rattle.dispatcher.specs.Dispatch.{fresh_state, next_frame, reported, overran}
use Rattle.dispatcher.specs.declared.State.{State}
use Rattle.flight.specs.Calls as flight
use Rattle.flight.specs.Overruns.{overruns}
use Rattle.timer.specs.declared.Timer.{Timer}
use Rattle.timer.specs.Registers.{is_set, sum_shown, fresh_timer, register_read, after_write, changed, due_served, none_served, serving, reporting, line_on}
use Rattle.flight_timer.specs.Calls.{RegisterCall, event, line, on_write, on_event, on_serve, on_report, nothing, turn, register_answers, timer_after, number_answered}

-- Control: as it was last written, and 0 if it never was

abbrev pub control_then : ℕ → RegisterCall → ℕ
control_then last c = on_write (λ address value. cond (eqb address 0) value last) last c

unfoldable pub control_from : ℕ → List RegisterCall → ℕ
control_from last [] = last
control_from last (c ∷ cs) = control_from (control_then last c) cs

abbrev pub control_after : List RegisterCall → ℕ
control_after calls = control_from 0 calls

abbrev pub RunSet : List RegisterCall → Type 0
RunSet calls = is_set 1 (control_after calls) ≡ true

-- Status: what sets a bit and what ends it are said of a call and the calls before it

-- some call of the list does the one, and no later call the other
pub record Since (Sets Ends : List RegisterCall → RegisterCall → Type 0) (calls : List RegisterCall) : Type 0 where
  pub i : ℕ
  pub within : i < length calls
  pub set_there : Sets (take i calls) (get_or calls i line)
  pub not_ended : (j : ℕ) → i < j → j < length calls → Ends (take j calls) (get_or calls j line) → ⊥

-- "A timer event with run set makes a frame due"
abbrev pub MakesDue : List RegisterCall → RegisterCall → Type 0
MakesDue before c = on_event (RunSet before) ⊥ c

-- "Serving a due frame .. clears bit 0, unless that call refuses"
abbrev pub Serves : List RegisterCall → RegisterCall → Type 0
Serves before c = on_serve (λ bytes. (serving (decode bytes) (timer_after before)).refusal ≡ 0) ⊥ c

-- a frame is due: an event with run set, and every later serving was refused
abbrev pub FrameDue : List RegisterCall → Type 0
FrameDue calls = Since MakesDue Serves calls

-- "writing a 1 clears bit 1 or 2": the bit of this weight
abbrev pub Clears : ℕ → List RegisterCall → RegisterCall → Type 0
Clears weight before c = on_write (λ address value. (address ≡ 1) × (is_set weight value ≡ true)) ⊥ c

-- "A report above C sets bit 1.": it is accepted, whatever the counts are
abbrev pub Overruns : List RegisterCall → RegisterCall → Type 0
Overruns before c = on_report (λ bytes task ticks. overran (reading bytes) task ticks ≡ true) ⊥ c

-- and nobody cleared it
abbrev pub OverrunMarked : List RegisterCall → Type 0
OverrunMarked calls = Since Overruns (Clears 2) calls

-- an event with run set "marks a miss if one is due already"
abbrev pub Misses : List RegisterCall → RegisterCall → Type 0
Misses before c = on_event (RunSet before × FrameDue before) ⊥ c

-- and nobody cleared it
abbrev pub MissMarked : List RegisterCall → Type 0
MissMarked calls = Since Misses (Clears 4) calls

-- The dispatcher's calls: each with the table that it gets (a report gets none)

pub record Asked : Type 0 where
  pub table : List ℕ
  pub call : flight.Call

-- "Serving a due frame is one next-frame call"; a report is one; nothing else asks the dispatcher
abbrev pub asked_by : Timer → RegisterCall → List Asked
asked_by t c =
    on_serve (λ bytes. keep t.status.due (record { table = bytes; call = flight.next_frame_call }) [])
    (on_report (λ bytes task ticks. record { table = []; call = flight.report bytes task ticks } ∷ []) [] c) c

unfoldable pub asked_from : Timer → List RegisterCall → List Asked
asked_from t [] = []
asked_from t (c ∷ cs) = asked_by t c ++ asked_from (turn t c).after cs

unfoldable pub dispatched : State → List Asked → State
dispatched s [] = s
dispatched s (a ∷ rest) = dispatched (flight.dispatch a.table s a.call).after rest

abbrev pub dispatcher_after : List RegisterCall → State
dispatcher_after calls = dispatched fresh_state (asked_from fresh_timer calls)

-- the reports of a list, and how many of them are accepted and above C, of whatever task

abbrev pub report_by : RegisterCall → List flight.Call
report_by c = on_report (λ bytes task ticks. flight.report bytes task ticks ∷ []) [] c

unfoldable pub reports_in : List RegisterCall → List flight.Call
reports_in [] = []
reports_in (c ∷ cs) = report_by c ++ reports_in cs

abbrev pub above_by : RegisterCall → ℕ
above_by c = on_report (λ bytes task ticks. bit (overran (reading bytes) task ticks)) 0 c

unfoldable pub above_in : List RegisterCall → ℕ
above_in [] = 0
above_in (c ∷ cs) = above_by c + above_in cs

-- what is read after the list: a byte, and two as a u16
abbrev pub shows : List RegisterCall → ℕ → ℕ
shows calls address = (register_read address (timer_after calls)).value

abbrev pub word : List RegisterCall → ℕ → ℕ
word calls address = shows calls address + shows calls (address + 1) * 256

-- the claim about the registers after a list of calls, whatever the calls are
pub record Told (calls : List RegisterCall) : Type 0 where
  -- each call of the list was answered as after the calls before it; so what is said here of reading, serving and reporting after a list is said of every
  -- answer in one
  pub answers_are : (i : ℕ) → i < length calls → get_or (register_answers calls) i nothing ≡ (turn (timer_after (take i calls)) (get_or calls i line)).answer
  -- "0: control, bit 0 run, bit 1 interrupt enable.", "Unnamed bits read 0."
  pub control_is : shows calls 0 ≡ control_after calls % 4
  -- "1: status, bit 0 frame due, bit 1 overrun, bit 2 frame missed"; unnamed bits read 0
  pub status_few : shows calls 1 < 8
  -- bit 0 exactly if a frame is due: "bit 0 ignores writes"
  pub due_is : (is_set 1 (shows calls 1) ≡ true) ↔ FrameDue calls
  pub overrun_is : (is_set 2 (shows calls 1) ≡ true) ↔ OverrunMarked calls
  pub missed_is : (is_set 4 (shows calls 1) ≡ true) ↔ MissMarked calls
  -- the dispatcher has been asked for each due frame that was served and for each report, and for nothing else
  pub dispatcher_is : (timer_after calls).state ≡ dispatcher_after calls
  -- "2 and 3: the row as u16."
  pub row_is : word calls 2 ≡ (dispatcher_after calls).row
  -- "4 and 5: the smaller of 65,535 and the sum of all task counts, as u16."
  pub sum_is : word calls 4 ≡ sum_shown (dispatcher_after calls).counts
  -- where each count is the number of its task's accepted reports above C in the list, or 65,535 if there were more: so the two bytes say how many there were
  -- of all tasks, or 65,535
  pub count_is : (i : ℕ) → i < 16 → get_or (dispatcher_after calls).counts i 0 ≡ min 65535 (overruns i (reports_in calls))
  pub sum_counts : word calls 4 ≡ min 65535 (above_in calls)
  -- "6 and 7 read 0."
  pub six_seven : word calls 6 ≡ 0
  -- "It refuses with 29 an address above 7.", and no other
  pub reads_eight : (address : ℕ) → address < 8 → (register_read address (timer_after calls)).refusal ≡ 0
  pub reads_no_more : (address : ℕ) → 8 ≤ address → register_read address (timer_after calls) ≡ record { refusal = 29; value = 0 }
  pub writes_eight : (address value : ℕ) → address < 8 → (after_write address value (timer_after calls)).refusal ≡ 0
  pub writes_no_more : (address value : ℕ) → 8 ≤ address → after_write address value (timer_after calls) ≡ changed 29 (timer_after calls)
  -- "Bytes 2 to 7 ignore writes."
  pub writes_ignored : (address value : ℕ) → 2 ≤ address → (after_write address value (timer_after calls)).timer ≡ timer_after calls
  -- "with run clear it does nothing"
  pub event_ignored : (RunSet calls → ⊥) → (turn (timer_after calls) event).after ≡ timer_after calls
  -- "Serving a due frame is one next-frame call and clears bit 0, unless that call refuses"
  pub due_served : FrameDue calls → (bytes : List ℕ)
      → serving (decode bytes) (timer_after calls) ≡ due_served (next_frame (decode bytes) (dispatcher_after calls)) (timer_after calls)
  -- "serving with none due refuses nothing, whatever the table, gives no entries and changes nothing"
  pub none_served : (FrameDue calls → ⊥) → (bytes : List ℕ) → serving (decode bytes) (timer_after calls) ≡ none_served (timer_after calls)
  -- a report is answered as the dispatcher answers it
  pub report_is : (bytes : List ℕ) (task ticks : ℕ)
      → (reporting (reading bytes) task ticks (timer_after calls)).refusal ≡ (reported (reading bytes) task ticks (dispatcher_after calls)).refusal
  -- 01: "A refusal returns its number, .. the state unchanged"
  pub refused_still : (c : RegisterCall) → (number_answered (turn (timer_after calls) c).answer ≡ 0 → ⊥) → (turn (timer_after calls) c).after ≡ timer_after calls
  -- "The interrupt line is on exactly if enabled and a status bit is set."
  pub line_is : (line_on (timer_after calls) ≡ true) ↔ ((is_set 2 (shows calls 0) ≡ true) × (0 < shows calls 1))

-- "Fresh, all eight bytes are 0."
abbrev pub FreshZero : Type 0
FreshZero = (address : ℕ) → address < 8 → register_read address fresh_timer ≡ record { refusal = 0; value = 0 }

-- the statement, for every list of calls
abbrev pub RegistersTold : Type 0
RegistersTold = FreshZero × ((calls : List RegisterCall) → Told calls)
