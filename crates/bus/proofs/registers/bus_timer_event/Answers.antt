-- The timer is read, the event happens, and the timer is written.
use Rattle.std.proofs.Common.{◌≡◌, sym, ◌∙◌, true}
use Rattle.lent.specs.TimerBytes.{is_timer}
use Rattle.lent.specs.TimerByteLaws.{timer_long}
use Rattle.bus.specs.TimerLaws.{event_no_timer, event_made}
use Rattle.bus.proofs.registers.bus_timer_event.Goals as goal
use Rattle.bus.proofs.registers.bus_timer_event.Goals.{Else-not-is_timer}

-- the lent bytes are a timer
a-timer : (c : Else-not-is_timer) → is_timer c.args.timer.now ≡ true
a-timer c = sym c.is_timer.ensures ∙ c.if-not-is_timer.false

pub returns-then-not-is_timer : goal.returns-then-not-is_timer
returns-then-not-is_timer c = event_no_timer c.args.timer.now (sym c.is_timer.ensures ∙ c.if-not-is_timer.true)

pub read_timer-old-requires : goal.read_timer-old-requires
read_timer-old-requires c = timer_long _ (a-timer c)

pub write_timer-requires : goal.write_timer-requires
write_timer-requires c = timer_long _ (a-timer (goal.at.write_timer-requires c).Else-not-is_timer)

pub returns : goal.returns
returns c =
    let law = event_made c.args.timer.now (a-timer (goal.at.returns c).Else-not-is_timer) in
    (law.0, c.write_timer.ensures ∙ rw (c.event-after.ensures, c.read_timer-old.ensures) law.1)
