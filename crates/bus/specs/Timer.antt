-- What each call of the timer answers and what it leaves in the buffers that it was lent. Bytes that are no timer give 99, before every other number.
use Rattle.std.specs.Prelude.{ℕ, Bool, not, cond, ◌&&◌, List, ◌++◌, ℤ, pos, length, drop, ltb}
use Rattle.cursor.specs.Choice.{bit}
use Rattle.request.specs.Request.{reading}
use Rattle.table.specs.Table.{decode}
use Rattle.timer.specs.Registers.{fresh_timer, register_read, after_write, after_event, serving, reporting, line_on}
use Rattle.timer.specs.Numbered.{Changed}
use Rattle.timer.specs.Numbered.{RegisterRead}
use Rattle.timer.specs.Numbered.{FrameServed}
use Rattle.lent.specs.Words.{zeros}
use Rattle.lent.specs.Entries.{entry_bytes}
use Rattle.lent.specs.TimerBytes.{is_timer, timer_of, timer_bytes}
use Rattle.bus.specs.Reply.{refused_reply, reply, after}

-- bus_timer_fresh sets all 72 bytes

unfoldable pub timer_fresh_reply : List ℕ → ℤ
timer_fresh_reply bytes = cond (ltb (length bytes) 72) (refused_reply 99) (pos 0)

unfoldable pub timer_fresh_bytes : List ℕ → List ℕ
timer_fresh_bytes bytes = cond (ltb (length bytes) 72) bytes (timer_bytes fresh_timer (zeros 72 ++ drop 72 bytes))

-- bus_timer_read: the byte

abbrev pub byte_reply : RegisterRead → ℤ
byte_reply r = reply r.refusal r.value

unfoldable pub timer_read_reply : ℕ → List ℕ → ℤ
timer_read_reply address bytes = cond (is_timer bytes) (byte_reply (register_read address (timer_of bytes))) (refused_reply 99)

-- bus_timer_write and bus_timer_report: 0, and the timer after it

abbrev pub changed_reply : Changed → List ℕ → ℤ
changed_reply r bytes = cond (is_timer bytes) (reply r.refusal 0) (refused_reply 99)

abbrev pub changed_bytes : Changed → List ℕ → List ℕ
changed_bytes r bytes = cond (is_timer bytes) (after r.refusal (timer_bytes r.timer bytes) bytes) bytes

unfoldable pub timer_write_reply : ℕ → ℕ → List ℕ → ℤ
timer_write_reply address value bytes = changed_reply (after_write address value (timer_of bytes)) bytes

unfoldable pub timer_write_bytes : ℕ → ℕ → List ℕ → List ℕ
timer_write_bytes address value bytes = changed_bytes (after_write address value (timer_of bytes)) bytes

unfoldable pub timer_report_reply : List ℕ → ℕ → ℕ → List ℕ → ℤ
timer_report_reply request task ticks bytes = changed_reply (reporting (reading request) task ticks (timer_of bytes)) bytes

unfoldable pub timer_report_bytes : List ℕ → ℕ → ℕ → List ℕ → List ℕ
timer_report_bytes request task ticks bytes = changed_bytes (reporting (reading request) task ticks (timer_of bytes)) bytes

-- bus_timer_event

unfoldable pub timer_event_reply : List ℕ → ℤ
timer_event_reply bytes = cond (is_timer bytes) (pos 0) (refused_reply 99)

unfoldable pub timer_event_bytes : List ℕ → List ℕ
timer_event_bytes bytes = cond (is_timer bytes) (timer_bytes (after_event (timer_of bytes)) bytes) bytes

-- bus_timer_serve: the number of entries; with none due 0, and all bytes stay as they were

module _ (table bytes entries : List ℕ) where
  abbrev pub timer_frame : FrameServed
  timer_frame = serving (decode table) (timer_of bytes)

  -- otherwise 99
  unfoldable pub can_serve_timer : Bool
  can_serve_timer = is_timer bytes && not (ltb (length entries) 32)

  -- a frame is due
  unfoldable pub frame_asked : Bool
  frame_asked = can_serve_timer && (timer_of bytes).status.due

  unfoldable pub timer_serve_reply : ℤ
  timer_serve_reply = cond can_serve_timer (reply timer_frame.refusal timer_frame.count) (refused_reply 99)

  unfoldable pub timer_serve_bytes : List ℕ
  timer_serve_bytes = cond frame_asked (after timer_frame.refusal (timer_bytes timer_frame.timer bytes) bytes) bytes

  -- 16 pairs of a task byte and a job byte, of which the unused ones are 0
  abbrev pub timer_entries : List ℕ
  timer_entries = entry_bytes timer_frame.tasks timer_frame.jobs 16 0 ++ drop 32 entries

  unfoldable pub timer_serve_entries : List ℕ
  timer_serve_entries = cond frame_asked (after timer_frame.refusal timer_entries entries) entries

-- bus_timer_line: 0 or 1

unfoldable pub timer_line_reply : List ℕ → ℤ
timer_line_reply bytes = cond (is_timer bytes) (pos (bit (line_on (timer_of bytes)))) (refused_reply 99)
