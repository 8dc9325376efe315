-- What each call of the dispatcher answers and what it leaves in the buffers that it was lent.
use Rattle.std.specs.Prelude.{ℕ, Bool, not, cond, ◌&&◌, List, ◌++◌, ℤ, pos, length, drop, ltb}
use Rattle.request.specs.Request.{reading}
use Rattle.table.specs.Table.{decode}
use Rattle.dispatcher.specs.Dispatch.{fresh_state, next_frame, reported}
use Rattle.dispatcher.specs.Numbered.{Frame}
use Rattle.dispatcher.specs.Numbered.{Reported}
use Rattle.lent.specs.Words.{zeros}
use Rattle.lent.specs.State.{is_state, state_of, state_bytes}
use Rattle.lent.specs.Entries.{entry_bytes}
use Rattle.bus.specs.Reply.{refused_reply, reply, after}

-- bus_fresh

unfoldable pub fresh_reply : List ℕ → ℤ
fresh_reply state = cond (ltb (length state) 64) (refused_reply 99) (pos 0)

-- the 29 bytes behind the state are 0
unfoldable pub fresh_bytes : List ℕ → List ℕ
fresh_bytes state = cond (ltb (length state) 64) state (state_bytes fresh_state (zeros 64 ++ drop 64 state))

-- bus_next_frame

abbrev pub frame_served : List ℕ → List ℕ → Frame
frame_served table state = next_frame (decode table) (state_of state)

-- otherwise 99
unfoldable pub can_serve : List ℕ → List ℕ → Bool
can_serve state entries = is_state state && not (ltb (length entries) 32)

unfoldable pub frame_reply : List ℕ → List ℕ → List ℕ → ℤ
frame_reply table state entries =
    cond (can_serve state entries) (reply (frame_served table state).refusal (frame_served table state).count) (refused_reply 99)

unfoldable pub frame_state : List ℕ → List ℕ → List ℕ → List ℕ
frame_state table state entries =
    cond (can_serve state entries) (after (frame_served table state).refusal (state_bytes (frame_served table state).state state) state) state

-- 16 pairs of a task byte and a job byte, of which the unused ones are 0
abbrev pub shown_bytes : Frame → List ℕ → List ℕ
shown_bytes frame entries = entry_bytes frame.tasks frame.jobs 16 0 ++ drop 32 entries

unfoldable pub frame_entries : List ℕ → List ℕ → List ℕ → List ℕ
frame_entries table state entries =
    cond (can_serve state entries) (after (frame_served table state).refusal (shown_bytes (frame_served table state) entries) entries) entries

-- bus_report

abbrev pub report_of : List ℕ → ℕ → ℕ → List ℕ → Reported
report_of request task ticks state = reported (reading request) task ticks (state_of state)

unfoldable pub report_reply : List ℕ → ℕ → ℕ → List ℕ → ℤ
report_reply request task ticks state =
    cond (is_state state) (reply (report_of request task ticks state).refusal 0) (refused_reply 99)

unfoldable pub report_state : List ℕ → ℕ → ℕ → List ℕ → List ℕ
report_state request task ticks state =
    cond (is_state state) (after (report_of request task ticks state).refusal (state_bytes (report_of request task ticks state).state state) state) state
