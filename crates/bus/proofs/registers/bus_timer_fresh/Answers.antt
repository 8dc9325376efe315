-- All 72 bytes are cleared, and the fresh timer is written over them.
use Rattle.std.proofs.Common.{◌∙◌}
use Rattle.bus.specs.TimerLaws.{timer_fresh_refused, timer_fresh_made}
use Rattle.bus.proofs.registers.bus_timer_fresh.Goals as goal

pub returns-then-timer-lt72 : goal.returns-then-timer-lt72
returns-then-timer-lt72 c = timer_fresh_refused c.args.timer.now c.if-timer-lt72.true

pub returns : goal.returns
returns c =
    let law = timer_fresh_made c.args.timer.now c.if-timer-lt72.false in
    (law.0, c.write_timer.ensures ∙ rw (c.fresh.ensures, c.clear.ensures) law.1)
