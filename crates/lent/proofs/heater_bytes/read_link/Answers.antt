-- The state and the two bits, each from its bytes.
use Rattle.lent.specs.HeaterBytes.{link_of}
use Rattle.lent.proofs.heater_bytes.read_link.Goals as goal

pub returns : goal.returns
unfolding link_of
returns c = rw c.read_state-state.ensures
