-- Each way out of a call of the timer, as its definition has it.
use Rattle.std.specs.Prelude.{ℕ, ◌≤◌, ◌<◌, ◌≡◌, true, false, List, ◌++◌, ℤ, pos, length, drop}
use borrow.Author.Tests.{lt-ltb, le-ltb}
use Rattle.cursor.specs.Choice.{bit}
use Rattle.table.specs.Table.{decode}
use Rattle.timer.specs.Registers.{fresh_timer, after_event, register_read, line_on}
use Rattle.timer.specs.RegisterLaws.{serve_none}
use Rattle.timer.specs.Numbered.{RegisterRead}
use Rattle.timer.specs.Numbered.{Changed}
use Rattle.timer.specs.Numbered.{FrameServed}
use Rattle.lent.specs.Words.{zeros}
use Rattle.lent.specs.Entries.{entry_bytes}
use Rattle.lent.specs.TimerBytes.{is_timer, timer_of, timer_bytes}
use Rattle.bus.specs.Reply.{refused_reply, reply}
use Rattle.bus.specs.ReplyLaws.{reply_refused, reply_value, after_refusal, after_value}
use Rattle.bus.specs.Timer.{timer_fresh_reply, timer_fresh_bytes, timer_read_reply, changed_reply, changed_bytes}
use Rattle.bus.specs.Timer.{timer_event_reply, timer_event_bytes, timer_frame, can_serve_timer, frame_asked, timer_serve_reply, timer_serve_bytes}
use Rattle.bus.specs.Timer.{timer_serve_entries, timer_line_reply}

-- bus_timer_fresh

module _ (bytes : List ℕ) where
  pub timer_fresh_refused : length bytes < 72 → (refused_reply 99 ≡ timer_fresh_reply bytes) × (bytes ≡ timer_fresh_bytes bytes)
  unfolding timer_fresh_reply timer_fresh_bytes
  timer_fresh_refused h = let e = lt-ltb (length bytes) 72 h in (rw e, rw e)

  pub timer_fresh_made : 72 ≤ length bytes
      → (pos 0 ≡ timer_fresh_reply bytes) × (timer_bytes fresh_timer (zeros 72 ++ drop 72 bytes) ≡ timer_fresh_bytes bytes)
  unfolding timer_fresh_reply timer_fresh_bytes
  timer_fresh_made h = let e = le-ltb (length bytes) 72 h in (rw e, rw e)

-- bus_timer_read

module _ (address : ℕ) (bytes : List ℕ) where
  pub read_no_timer : is_timer bytes ≡ false → refused_reply 99 ≡ timer_read_reply address bytes
  unfolding timer_read_reply
  read_no_timer e = rw e

  module _ (is : is_timer bytes ≡ true) (r : RegisterRead) (e : r ≡ register_read address (timer_of bytes)) where
    pub timer_read_refused : (r.refusal ≡ 0 → ⊥) → refused_reply r.refusal ≡ timer_read_reply address bytes
    unfolding timer_read_reply
    timer_read_refused h = rw (is, ← e) (reply_refused r.refusal r.value h)

    pub timer_read_made : r.refusal ≡ 0 → pos r.value ≡ timer_read_reply address bytes
    unfolding timer_read_reply
    timer_read_made h = rw (is, ← e) (reply_value r.refusal r.value h)

-- bus_timer_write and bus_timer_report: `answer` is what the timer answers

module _ (bytes : List ℕ) (answer : Changed) where
  abbrev pub ChangedSo : ℤ → List ℕ → Type 0
  ChangedSo z bytes' = (z ≡ changed_reply answer bytes) × (bytes' ≡ changed_bytes answer bytes)

  pub change_no_timer : is_timer bytes ≡ false → ChangedSo (refused_reply 99) bytes
  change_no_timer e = (rw e, rw e)

  module _ (is : is_timer bytes ≡ true) (r : Changed) (e : r ≡ answer) where
    pub change_refused : (r.refusal ≡ 0 → ⊥) → ChangedSo (refused_reply r.refusal) bytes
    change_refused h = rw (is, ← e) (reply_refused r.refusal 0 h, after_refusal r.refusal (timer_bytes r.timer bytes) bytes h)

    pub change_made : r.refusal ≡ 0 → ChangedSo (pos 0) (timer_bytes r.timer bytes)
    change_made h = rw (is, ← e) (reply_value r.refusal 0 h, after_value r.refusal (timer_bytes r.timer bytes) bytes h)

-- bus_timer_event

module _ (bytes : List ℕ) where
  pub event_no_timer : is_timer bytes ≡ false → (refused_reply 99 ≡ timer_event_reply bytes) × (bytes ≡ timer_event_bytes bytes)
  unfolding timer_event_reply timer_event_bytes
  event_no_timer e = (rw e, rw e)

  pub event_made : is_timer bytes ≡ true → (pos 0 ≡ timer_event_reply bytes) × (timer_bytes (after_event (timer_of bytes)) bytes ≡ timer_event_bytes bytes)
  unfolding timer_event_reply timer_event_bytes
  event_made e = (rw e, rw e)

-- bus_timer_serve

module _ (table bytes entries : List ℕ) where
  abbrev pub ServedSo : ℤ → List ℕ → List ℕ → Type 0
  ServedSo z bytes' entries' =
      (z ≡ timer_serve_reply table bytes entries) × (bytes' ≡ timer_serve_bytes table bytes entries) × (entries' ≡ timer_serve_entries table bytes entries)

  not_served : can_serve_timer table bytes entries ≡ false → ServedSo (refused_reply 99) bytes entries
  unfolding timer_serve_reply timer_serve_bytes timer_serve_entries frame_asked
  not_served e = (rw e, rw e, rw e)

  pub serve_no_timer : is_timer bytes ≡ false → ServedSo (refused_reply 99) bytes entries
  unfolding can_serve_timer
  serve_no_timer e = not_served (rw e)

  pub serve_no_room : is_timer bytes ≡ true → length entries < 32 → ServedSo (refused_reply 99) bytes entries
  unfolding can_serve_timer
  serve_no_room e h = not_served (rw (e, lt-ltb (length entries) 32 h))

  module _ (is : is_timer bytes ≡ true) (room : 32 ≤ length entries) where
    can : can_serve_timer table bytes entries ≡ true
    unfolding can_serve_timer
    can = rw (is, le-ltb (length entries) 32 room)

    pub serve_none_due : (timer_of bytes).status.due ≡ false → ServedSo (pos 0) bytes entries
    unfolding timer_serve_reply timer_serve_bytes timer_serve_entries frame_asked reply
    serve_none_due due = (rw (can, serve_none (decode table) (timer_of bytes) due), rw (can, due), rw (can, due))

    module _ (due : (timer_of bytes).status.due ≡ true) (frame : FrameServed) (e : frame ≡ timer_frame table bytes entries) where
      abbrev shown : List ℕ
      shown = entry_bytes frame.tasks frame.jobs 16 0 ++ drop 32 entries

      pub timer_serve_refused : (frame.refusal ≡ 0 → ⊥) → ServedSo (refused_reply frame.refusal) bytes entries
      unfolding timer_serve_reply timer_serve_bytes timer_serve_entries frame_asked
      timer_serve_refused h = rw (← e, can, due) (
        reply_refused frame.refusal frame.count h,
        after_refusal frame.refusal (timer_bytes frame.timer bytes) bytes h,
        after_refusal frame.refusal shown entries h,
      )

      pub timer_serve_made : frame.refusal ≡ 0 → ServedSo (pos frame.count) (timer_bytes frame.timer bytes) shown
      unfolding timer_serve_reply timer_serve_bytes timer_serve_entries frame_asked
      timer_serve_made h = rw (← e, can, due) (
        reply_value frame.refusal frame.count h,
        after_value frame.refusal (timer_bytes frame.timer bytes) bytes h,
        after_value frame.refusal shown entries h,
      )

-- bus_timer_line

module _ (bytes : List ℕ) where
  pub line_no_timer : is_timer bytes ≡ false → refused_reply 99 ≡ timer_line_reply bytes
  unfolding timer_line_reply
  line_no_timer e = rw e

  pub line_told : is_timer bytes ≡ true → pos (bit (line_on (timer_of bytes))) ≡ timer_line_reply bytes
  unfolding timer_line_reply
  line_told is = rw is
