-- Bit by bit.
use Rattle.timer.proofs.control_of.Goals as goal

pub returns : goal.returns
returns c = rw (c.is_set.ensures, c.is_set-2.ensures)
