-- The timer is read, and its line is told.
use Rattle.std.proofs.Common.{◌≡◌, Bool, sym, ap, ◌∙◌, true, false, refl, pos}
use mir.Val.{bool_byte}
use Rattle.cursor.specs.Choice.{bit}
use Rattle.timer.specs.Registers.{line_on}
use Rattle.lent.specs.TimerBytes.{is_timer, timer_of}
use Rattle.lent.specs.TimerByteLaws.{timer_long}
use Rattle.bus.specs.ReplyLaws.{kept}
use Rattle.bus.specs.TimerLaws.{line_no_timer, line_told}
use Rattle.bus.proofs.registers.bus_timer_line.Goals as goal
use Rattle.bus.proofs.registers.bus_timer_line.Goals.{After-line, Else-not-is_timer}

-- the lent bytes are a timer
a-timer : (c : Else-not-is_timer) → is_timer c.args.timer.now ≡ true
a-timer c = sym c.is_timer.ensures ∙ c.if-not-is_timer.false

-- a Bool as a number, in the words of the definitions
as_bit : (b : Bool) → pos (bool_byte b) ≡ pos (bit b)
as_bit true = refl
as_bit false = refl

-- the timer's own answer
line_is : (c : After-line) → c.line.result ≡ line_on (timer_of c.args.timer.now)
line_is c = rw c.read_timer.ensures at c.line.ensures

pub returns-then-not-is_timer : goal.returns-then-not-is_timer
returns-then-not-is_timer c = line_no_timer c.args.timer.now (sym c.is_timer.ensures ∙ c.if-not-is_timer.true)

pub read_timer-requires : goal.read_timer-requires
read_timer-requires c = timer_long _ (a-timer c)

pub returns : goal.returns
returns c =
    kept _ c.from.type_inv ∙ c.from.ensures ∙ as_bit c.line.result ∙ ap (λ (b : Bool). pos (bit b)) (line_is (goal.at.returns c).After-line)
    ∙ line_told c.args.timer.now (a-timer (goal.at.returns c).Else-not-is_timer)
