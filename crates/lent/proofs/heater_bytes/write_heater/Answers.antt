-- The state, and four stores behind it.
use Rattle.std.proofs.Common.{arith, length-set}
use Rattle.lent.specs.HeaterByteLaws.{heater_stored}
use Rattle.lent.proofs.heater_bytes.write_heater.Goals as goal

pub bounds-heater-65 : goal.bounds-heater-65
bounds-heater-65 c =
    simp length-set (omega (arith, c.write_state.auto.state, c.requires))

pub bounds-heater-66 : goal.bounds-heater-66
bounds-heater-66 c =
    simp length-set (omega (arith, c.write_state.auto.state, c.requires))

pub bounds-heater-67 : goal.bounds-heater-67
bounds-heater-67 c =
    simp length-set (omega (arith, c.write_state.auto.state, c.requires))

pub returns : goal.returns
returns c =
    let a = c.args in
    heater_stored a.link a.toggled a.answered a.heater.now _ c.write_state.ensures (omega (arith, c.write_state.auto.state, c.requires))
