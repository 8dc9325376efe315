-- The timer in the bytes that the caller lends: 72, of which 0 to 63 are the dispatcher's state, 64 is control, 65 is status and 66 to 71 are free.
use Rattle.std.specs.Prelude.{ℕ, Bool, false, cond, ◌&&◌, List, length, get_or, set, ltb}
use Rattle.timer.specs.Registers.{control_byte, status_byte, control_of, status_of}
use Rattle.timer.specs.declared.Timer.{Timer}
use Rattle.lent.specs.State.{state_of, state_bytes}

-- 72 bytes or more, a mark that is 0 or 1, control of at most 3 and status of at most 7
unfoldable pub is_timer : List ℕ → Bool
is_timer bytes = cond (ltb (length bytes) 72) false (ltb (get_or bytes 2 0) 2 && (ltb (get_or bytes 64 0) 4 && ltb (get_or bytes 65 0) 8))

unfoldable pub timer_of : List ℕ → Timer
timer_of bytes = record { state = state_of bytes; control = control_of (get_or bytes 64 0); status = status_of (get_or bytes 65 0) }

-- the dispatcher's state, control and status in their bytes; the free bytes, and those behind the timer, are what was there
unfoldable pub timer_bytes : Timer → List ℕ → List ℕ
timer_bytes t bytes = set (set (state_bytes t.state bytes) 64 (control_byte t.control)) 65 (status_byte t.status)
