-- The timer is read, and the byte is answered.
use Rattle.std.proofs.Common.{◌≡◌, sym, ◌∙◌, true, refl, Ok, Err}
use Rattle.request.specs.SectionLaws.{no_zero}
use Rattle.timer.specs.Registers.{register_read}
use Rattle.timer.specs.Numbered.{read_said}
use Rattle.lent.specs.TimerBytes.{is_timer, timer_of}
use Rattle.lent.specs.TimerByteLaws.{timer_long}
use Rattle.bus.specs.ReplyLaws.{kept}
use Rattle.bus.specs.TimerLaws.{read_no_timer, timer_read_refused, timer_read_made}
use Rattle.bus.proofs.registers.bus_timer_read.Goals as goal
use Rattle.bus.proofs.registers.bus_timer_read.Goals.{After-read, Else-not-is_timer}

-- the lent bytes are a timer
a-timer : (c : Else-not-is_timer) → is_timer c.args.timer.now ≡ true
a-timer c = sym c.is_timer.ensures ∙ c.if-not-is_timer.false

-- what the timer reads
byte_is : (c : After-read) → let a = c.args in read_said c.read.result ≡ register_read a.address (timer_of a.timer.now)
byte_is c = rw c.read_timer-old.ensures at c.read.ensures

pub returns-then-not-is_timer : goal.returns-then-not-is_timer
returns-then-not-is_timer c = read_no_timer c.args.address c.args.timer.now (sym c.is_timer.ensures ∙ c.if-not-is_timer.true)

pub read_timer-old-requires : goal.read_timer-old-requires
read_timer-old-requires c = timer_long _ (a-timer c)

pub returns-in-Ok : goal.returns-in-Ok
returns-in-Ok c =
    let law = timer_read_made c.args.address c.args.timer.now (a-timer (goal.at.returns-in-Ok c).Else-not-is_timer) (read_said (Ok c.in-Ok.value))
    (rw c.in-Ok.is at (byte_is (goal.at.returns-in-Ok c).After-read)) refl in
    kept _ c.from.type_inv ∙ c.from.ensures ∙ law

pub returns-in-Err : goal.returns-in-Err
returns-in-Err c =
    kept _ c.refused.type_inv ∙ c.refused.ensures
    ∙ timer_read_refused c.args.address c.args.timer.now (a-timer (goal.at.returns-in-Err c).Else-not-is_timer) (read_said (Err c.in-Err.refusal))
    (rw c.in-Err.is at (byte_is (goal.at.returns-in-Err c).After-read)) (no_zero c.in-Err.refusal)
