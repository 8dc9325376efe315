-- The bytes of a timer, both ways: a timer that was written is read again and is a timer, and the bytes of a timer are those that it is written as. The free
-- bytes, and those behind the timer, stay.
use Rattle.std.specs.Prelude.{ℕ, ◌≤◌, ◌≡◌, true, List, length, get_or}
use Rattle.cursor.specs.Fields.{Bytes}
use Rattle.timer.specs.declared.Timer.{Timer}
use Rattle.lent.specs.TimerBytes.{is_timer, timer_of, timer_bytes}

pub record TimerBack (t : Timer) (bytes : List ℕ) : Type 0 where
  pub timer_length : length (timer_bytes t bytes) ≡ length bytes
  pub timer_is : is_timer (timer_bytes t bytes) ≡ true
  pub timer_read : timer_of (timer_bytes t bytes) ≡ t
  -- bytes 66 to 71, and those behind the timer
  pub rest_kept : (i : ℕ) → 66 ≤ i → get_or (timer_bytes t bytes) i 0 ≡ get_or bytes i 0

abbrev pub TimerRoundTrip : Type 0
TimerRoundTrip = ((t : Timer) (bytes : List ℕ) → 72 ≤ length bytes → length t.state.counts ≡ 16 → TimerBack t bytes)
    × ((bytes : List ℕ) → Bytes bytes → is_timer bytes ≡ true → timer_bytes (timer_of bytes) bytes ≡ bytes)
