-- All 72 bytes are cleared, and the fresh link is written over them.
use Rattle.std.proofs.Common.{◌∙◌}
use Rattle.bus.specs.HeaterLaws.{heater_fresh_refused, heater_fresh_made}
use Rattle.bus.proofs.heater.bus_heater_fresh.Goals as goal

pub returns-then-heater-lt72 : goal.returns-then-heater-lt72
returns-then-heater-lt72 c = heater_fresh_refused c.args.heater.now c.if-heater-lt72.true

pub returns : goal.returns
returns c =
    let law = heater_fresh_made c.args.heater.now c.if-heater-lt72.false in
    (law.0, c.write_heater.ensures ∙ rw (c.fresh.ensures, c.clear.ensures) law.1)
