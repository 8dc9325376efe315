-- The state, control and status, each from its bytes.
use Rattle.lent.specs.TimerBytes.{timer_of}
use Rattle.lent.proofs.timer_bytes.read_timer.Goals as goal

pub returns : goal.returns
unfolding timer_of
returns c = rw (c.read_state-state.ensures, c.control_of-control.ensures, c.status_of-status.ensures)
