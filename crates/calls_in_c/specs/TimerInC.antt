-- Lists of the bus_timer calls from C, on the bytes of a timer: they answer as the timer's calls do, so the registers are as told.
use Rattle.std.specs.Prelude.{ℕ, ◌<◌, ◌≡◌, Bool, true, cond, ◌⊎◌, List, [], ◌++◌, pos, length, drop, leb}
use Rattle.cursor.specs.Choice.{bit}
use Rattle.table.specs.Answers.{Row}
use Rattle.timer.specs.Registers.{fresh_timer, register_read}
use Rattle.timer.specs.declared.Timer.{Timer}
use Rattle.flight.specs.Calls as plain
use Rattle.flight_timer.specs.Calls as below
use Rattle.flight_timer.specs.Told.{Told}
use Rattle.lent.specs.Entries.{entry_bytes}
use Rattle.lent.specs.TimerBytes.{is_timer, timer_of}
use Rattle.bus.specs.Reply.{refused_reply, reply, after}
use Rattle.bus.specs.Timer.{timer_fresh_reply, timer_fresh_bytes, byte_reply, timer_read_reply, timer_write_reply, timer_write_bytes, timer_event_reply, timer_event_bytes}
use Rattle.bus.specs.Timer.{timer_serve_reply, timer_serve_bytes, timer_serve_entries, timer_report_reply, timer_report_bytes, timer_line_reply}
use Rattle.flight_in_c.specs.CallsInC.{Seen, frame, number}
use Rattle.calls_in_c.specs.Runs.{Lending, Kind, bytes_left, fed, Runs, RunsAll}

-- bus_timer_read, with an address; bus_timer_write, with an address and a byte; bus_timer_event; bus_timer_serve, with any bytes as its table and the entries' buffer
-- as it was lent; bus_timer_report, with any bytes as its request, any task number and any ticks; and bus_timer_line
pub data TimerCall : Type 0 where
  read : ℕ → TimerCall
  write : ℕ → ℕ → TimerCall
  event : TimerCall
  serve : List ℕ → List ℕ → TimerCall
  report : List ℕ → ℕ → ℕ → TimerCall
  line : TimerCall

-- of bus_timer_serve the int32_t and the bytes of the entries' buffer, of the others the int32_t
abbrev pub seen_of_timer : TimerCall → List ℕ → Seen
seen_of_timer (read address) bytes = number (timer_read_reply address bytes)
seen_of_timer (write address value) bytes = number (timer_write_reply address value bytes)
seen_of_timer event bytes = number (timer_event_reply bytes)
seen_of_timer (serve table entries) bytes = frame (timer_serve_reply table bytes entries) (timer_serve_entries table bytes entries)
seen_of_timer (report request task ticks) bytes = number (timer_report_reply request task ticks bytes)
seen_of_timer line bytes = number (timer_line_reply bytes)

-- bus_timer_read and bus_timer_line only read the timer
abbrev pub timer_left : TimerCall → List ℕ → List ℕ
timer_left (read address) bytes = bytes
timer_left (write address value) bytes = timer_write_bytes address value bytes
timer_left event bytes = timer_event_bytes bytes
timer_left (serve table entries) bytes = timer_serve_bytes table bytes entries
timer_left (report request task ticks) bytes = timer_report_bytes request task ticks bytes
timer_left line bytes = bytes

abbrev pub entries_lent : TimerCall → Bool
entries_lent (serve table entries) = leb 32 (length entries)
entries_lent (read address) = true
entries_lent (write address value) = true
entries_lent event = true
entries_lent (report request task ticks) = true
entries_lent line = true

abbrev pub timer_sent_back : TimerCall → Seen
timer_sent_back (serve table entries) = frame (refused_reply 99) entries
timer_sent_back (read address) = number (refused_reply 99)
timer_sent_back (write address value) = number (refused_reply 99)
timer_sent_back event = number (refused_reply 99)
timer_sent_back (report request task ticks) = number (refused_reply 99)
timer_sent_back line = number (refused_reply 99)

abbrev pub timer_asked : TimerCall → below.RegisterCall
timer_asked (read address) = below.read address
timer_asked (write address value) = below.write address value
timer_asked event = below.event
timer_asked (serve table entries) = below.serve table
timer_asked (report request task ticks) = below.report request task ticks
timer_asked line = below.line

-- An answer of the timer as C sees it

abbrev pub entries_of : TimerCall → List ℕ
entries_of (serve table entries) = entries
entries_of (read address) = []
entries_of (write address value) = []
entries_of event = []
entries_of (report request task ticks) = []
entries_of line = []

-- 16 pairs of a task byte and a job byte, and the bytes behind them stay; all stay where none was due
abbrev pub entries_shown : Bool → Row → List ℕ → List ℕ
entries_shown due r entries = cond due (after r.refusal (entry_bytes r.tasks r.jobs 16 0 ++ drop 32 entries) entries) entries

abbrev pub answer_shown : List ℕ → Bool → below.RegisterAnswer → Seen
answer_shown entries due (below.byte r) = number (byte_reply r)
answer_shown entries due (below.number n) = number (reply n 0)
answer_shown entries due below.nothing = number (pos 0)
answer_shown entries due (below.said (plain.frame r)) = frame (reply r.refusal r.count) (entries_shown due r entries)
answer_shown entries due (below.said (plain.number n)) = number (reply n 0)
answer_shown entries due (below.level on) = number (pos (bit on))

abbrev pub timer_shown : TimerCall → Timer → Seen
timer_shown c t = answer_shown (entries_of c) t.status.due (below.turn t (timer_asked c)).answer

-- the state's 35 bytes, control and status
abbrev pub UsedInTimer : ℕ → Type 0
UsedInTimer i = (i < 35) ⊎ ((i ≡ 64) ⊎ (i ≡ 65))

abbrev pub timers : Kind Timer TimerCall Seen below.RegisterCall
timers = record {
  size = 72;
  Used = UsedInTimer;
  good = is_timer;
  says = timer_of;
  seen = seen_of_timer;
  leaves = timer_left;
  fits = entries_lent;
  sent_back = timer_sent_back;
  asked = timer_asked;
  shown = timer_shown;
  final = below.timer_from;
}

-- a list of calls on a timer that bus_timer_fresh made
pub record TimerToldInC (bytes : List ℕ) (calls : List (Lending TimerCall)) : Type 0 where
  pub runs : Runs timers (timer_fresh_bytes bytes) calls
  pub from_fresh : timer_of (timer_fresh_bytes bytes) ≡ fresh_timer
  -- so bus_timer_read then answers what the registers show after the calls below, and of these all is told
  pub reads : (address : ℕ) → timer_read_reply address (bytes_left timers (timer_fresh_bytes bytes) calls) ≡ byte_reply (register_read address (below.timer_after (fed timers calls)))
  pub told : Told (fed timers calls)

-- of all bytes; and of a timer to which bus_timer_fresh answered 0
abbrev pub TimerInC : Type 0
TimerInC = RunsAll timers × ((bytes : List ℕ) → timer_fresh_reply bytes ≡ pos 0 → (calls : List (Lending TimerCall)) → TimerToldInC bytes calls)
