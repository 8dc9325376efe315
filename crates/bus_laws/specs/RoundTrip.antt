-- The bytes of a state are read as they were written, both ways.
use Rattle.lent.specs.StateBack.{count_there, state_read, bytes_back}
use Rattle.bus_laws.specs.Trips.{StateRoundTrip}

pub state_round_trip : StateRoundTrip
state_round_trip s bytes = (state_read s bytes, count_there s bytes, bytes_back bytes)
