-- The bytes of a timer are read as they were written, both ways.
use Rattle.std.specs.Prelude.{ℕ, ◌≤◌, ◌≡◌, List, length}
use Rattle.timer.specs.declared.Timer.{Timer}
use Rattle.lent.specs.TimerBytesBack.{timer_length, timer_is, timer_read, timer_kept, timer_back}
use Rattle.bus_laws.specs.TimerRoundTrip.{TimerBack, TimerRoundTrip}

written : (t : Timer) (bytes : List ℕ) → 72 ≤ length bytes → length t.state.counts ≡ 16 → TimerBack t bytes
written t bytes far all =
    record {
      timer_length = timer_length t bytes far;
      timer_is = timer_is t bytes far;
      timer_read = timer_read t bytes far all;
      rest_kept = timer_kept t bytes far;
    }

pub timer_round_trip : TimerRoundTrip
timer_round_trip = (written, timer_back)
