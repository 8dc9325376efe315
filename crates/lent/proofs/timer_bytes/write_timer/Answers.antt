-- The state's bytes, and two stores.
use Rattle.std.proofs.Common.{arith, length-set}
use Rattle.lent.specs.TimerBytes.{timer_bytes}
use Rattle.lent.proofs.timer_bytes.write_timer.Goals as goal

pub bounds-timer-65 : goal.bounds-timer-65
bounds-timer-65 c =
    simp length-set (omega (arith, c.write_state.auto.state, c.requires))

pub returns : goal.returns
unfolding timer_bytes
returns c = rw (c.write_state.ensures, c.control_byte.ensures, c.status_byte.ensures)
