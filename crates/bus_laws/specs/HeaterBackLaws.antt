-- The bytes of a heater are read as they were written, both ways.
use Rattle.std.specs.Prelude.{ℕ, ◌≤◌, ◌≡◌, Bool, List, length}
use Rattle.heater_link.specs.declared.Link.{Link}
use Rattle.lent.specs.HeaterBytesBack.{heater_length, heater_is, link_read, toggled_there, answered_there, heater_kept, heater_back}
use Rattle.bus_laws.specs.HeaterBack.{HeaterBack, HeaterRoundTrip}

written : (s : Link) (toggled answered : Bool) (bytes : List ℕ) → 72 ≤ length bytes → length s.state.counts ≡ 16 → HeaterBack s toggled answered bytes
written s toggled answered bytes far all =
    record {
      heater_length = heater_length s toggled answered bytes far;
      heater_is = heater_is s toggled answered bytes far;
      link_read = link_read s toggled answered bytes far all;
      toggled_there = toggled_there s toggled answered bytes far;
      answered_there = answered_there s toggled answered bytes far;
      rest_kept = heater_kept s toggled answered bytes far;
    }

pub heater_round_trip : HeaterRoundTrip
heater_round_trip = (written, heater_back)
