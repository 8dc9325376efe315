-- The registers of the bus timer: what each call answers, and the timer after it. 02, R-12: "The controller board shows the dispatcher as eight bytes."
use Rattle.std.specs.Prelude.{ℕ, ◌+◌, ◌*◌, ◌/◌, ◌%◌, min, Bool, true, false, not, cond, ◌&&◌, ◌||◌, get_or, replicate, ltb, eqb}
use mathlib.Core.List.{List, [], ◌∷◌, ◌++◌, map, foldr}
use Rattle.cursor.specs.Choice.{bit}
use Rattle.cursor.specs.Range.{range}
use Rattle.cursor.specs.Fields.{word_bytes}
use Rattle.request.specs.Request.{Reading}
use Rattle.table.specs.Table.{Decoded}
use Rattle.dispatcher.specs.Dispatch.{fresh_state, next_frame, reported}
use Rattle.dispatcher.specs.declared.State.{State}
use Rattle.dispatcher.specs.Numbered.{Frame}
use Rattle.dispatcher.specs.Numbered.{Reported}
use Rattle.timer.specs.declared.Control.{Control}
use Rattle.timer.specs.declared.Status.{Status}
use Rattle.timer.specs.declared.Timer.{Timer}
use Rattle.timer.specs.Numbered.{RegisterRead}
use Rattle.timer.specs.Numbered.{Changed}
use Rattle.timer.specs.Numbered.{FrameServed}

-- whether a bit of the byte is set: that of weight 1 is bit 0, of weight 2 bit 1, of weight 4 bit 2
abbrev pub is_set : ℕ → ℕ → Bool
is_set weight byte = eqb (byte / weight % 2) 1

-- fresh

-- "Fresh, all eight bytes are 0.": the dispatcher is fresh too
abbrev pub fresh_timer : Timer
fresh_timer = record { state = fresh_state; control = record { run = false; enable = false }; status = record { due = false; overrun = false; missed = false } }

-- read

-- "0: control, bit 0 run, bit 1 interrupt enable."
abbrev pub control_byte : Control → ℕ
control_byte c = bit c.run + 2 * bit c.enable

-- "1: status, bit 0 frame due, bit 1 overrun, bit 2 frame missed"
abbrev pub status_byte : Status → ℕ
status_byte s = bit s.due + 2 * bit s.overrun + 4 * bit s.missed

-- "the sum of all task counts"
unfoldable pub sum_of : List ℕ → ℕ
sum_of counts = foldr ◌+◌ 0 (map (λ i. get_or counts i 0) (range 0 16))

-- "the smaller of 65,535 and the sum of all task counts"
abbrev pub sum_shown : List ℕ → ℕ
sum_shown counts = min 65535 (sum_of counts)

-- "eight bytes": control, status, "2 and 3: the row as u16. 4 and 5: the smaller of 65,535 and the sum of all task counts, as u16. 6 and 7 read 0."
unfoldable pub registers : Timer → List ℕ
registers t =
    control_byte t.control ∷ status_byte t.status ∷ (word_bytes t.state.row ++ (word_bytes (sum_shown t.state.counts) ++ (0 ∷ 0 ∷ [])))

-- "It refuses with 29 an address above 7."
unfoldable pub register_read : ℕ → Timer → RegisterRead
register_read address t =
    cond (ltb address 8) (record { refusal = 0; value = get_or (registers t) address 0 }) (record { refusal = 29; value = 0 })

-- write

-- "Unnamed bits read 0."
abbrev pub control_of : ℕ → Control
control_of value = record { run = is_set 1 value; enable = is_set 2 value }

-- the status that a byte stands for, where it is kept in bytes
abbrev pub status_of : ℕ → Status
status_of value = record { due = is_set 1 value; overrun = is_set 2 value; missed = is_set 4 value }

-- "writing a 1 clears bit 1 or 2, and bit 0 ignores writes"
abbrev pub cleared_by : ℕ → Status → Status
cleared_by value s = record { due = s.due; overrun = s.overrun && not (is_set 2 value); missed = s.missed && not (is_set 4 value) }

abbrev pub with_control : Control → Timer → Timer
with_control c t = record { state = t.state; control = c; status = t.status }

abbrev pub with_status : Status → Timer → Timer
with_status s t = record { state = t.state; control = t.control; status = s }

-- "Bytes 2 to 7 ignore writes."
abbrev pub wrote : ℕ → ℕ → Timer → Timer
wrote address value t =
    cond (eqb address 0) (with_control (control_of value) t) (cond (eqb address 1) (with_status (cleared_by value t.status) t) t)

abbrev pub changed : ℕ → Timer → Changed
changed number t = record { refusal = number; timer = t }

unfoldable pub after_write : ℕ → ℕ → Timer → Changed
after_write address value t = cond (ltb address 8) (changed 0 (wrote address value t)) (changed 29 t)

-- event

-- "makes a frame due, or marks a miss if one is due already"
abbrev pub due_or_missed : Status → Status
due_or_missed s = record { due = true; overrun = s.overrun; missed = s.due || s.missed }

-- "A timer event with run set ..; with run clear it does nothing."
unfoldable pub after_event : Timer → Timer
after_event t = cond t.control.run (with_status (due_or_missed t.status) t) t

-- serve

-- "clears bit 0": of a timer whose frame was served, with the dispatcher's state after it
abbrev pub served_once : State → Timer → Timer
served_once s t = record { state = s; control = t.control; status = record { due = false; overrun = t.status.overrun; missed = t.status.missed } }

-- "Serving a due frame is one next-frame call and clears bit 0, unless that call refuses"
abbrev pub due_served : Frame → Timer → FrameServed
due_served a t =
    record { refusal = a.refusal; count = a.count; tasks = a.tasks; jobs = a.jobs; timer = cond (eqb a.refusal 0) (served_once a.state t) t }

-- "refuses nothing, .. gives no entries and changes nothing"
abbrev pub none_served : Timer → FrameServed
none_served t = record { refusal = 0; count = 0; tasks = replicate 16 0; jobs = replicate 16 0; timer = t }

-- "serving with none due refuses nothing, whatever the table"
unfoldable pub serving : Decoded → Timer → FrameServed
serving d t = cond t.status.due (due_served (next_frame d t.state) t) (none_served t)

-- report

-- "A report above C sets bit 1.": also if the count stands at 65,535
abbrev pub marked : Bool → Status → Status
marked over s = record { due = s.due; overrun = over || s.overrun; missed = s.missed }

abbrev pub heard_of : Reported → Timer → Changed
heard_of a t = changed a.refusal (record { state = a.state; control = t.control; status = marked a.over t.status })

abbrev pub reporting : Reading → ℕ → ℕ → Timer → Changed
reporting r task ticks t = heard_of (reported r task ticks t.state) t

-- line

-- "The interrupt line is on exactly if enabled and a status bit is set."
unfoldable pub line_on : Timer → Bool
line_on t = t.control.enable && (t.status.due || (t.status.overrun || t.status.missed))
