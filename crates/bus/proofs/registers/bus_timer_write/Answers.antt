-- The timer is read and written to, and only an answer without a refusal is stored.
use Rattle.std.proofs.Common.{◌≡◌, ℕ, List, sym, ◌∙◌, true, refl, Ok, Err}
use Rattle.request.specs.SectionLaws.{no_zero}
use Rattle.timer.specs.Registers.{after_write}
use Rattle.timer.specs.Numbered.{Changed, changed_said}
use Rattle.lent.specs.TimerBytes.{is_timer, timer_of}
use Rattle.lent.specs.TimerByteLaws.{timer_long}
use Rattle.bus.specs.ReplyLaws.{kept}
use Rattle.bus.specs.Timer.{timer_write_reply, timer_write_bytes}
use Rattle.bus.specs.TimerLaws.{change_no_timer, change_refused, change_made}
use Rattle.bus.proofs.registers.bus_timer_write.Goals as goal
use Rattle.bus.proofs.registers.bus_timer_write.Goals.{After-write, Else-not-is_timer}

-- the lent bytes are a timer
a-timer : (c : Else-not-is_timer) → is_timer c.args.timer.now ≡ true
a-timer c = sym c.is_timer.ensures ∙ c.if-not-is_timer.false

-- what the timer answers
abbrev answer : (timer : List ℕ) (address value : ℕ) → Changed
answer timer address value = after_write address value (timer_of timer)

answer_is : (c : After-write) → let a = c.args in changed_said (timer_of a.timer.now) c.write.result ≡ answer a.timer.now a.address a.value
answer_is c = rw c.read_timer-old.ensures at c.write.ensures

pub returns-then-not-is_timer : goal.returns-then-not-is_timer
unfolding timer_write_reply timer_write_bytes
returns-then-not-is_timer c =
    let a = c.args in
    change_no_timer a.timer.now (answer a.timer.now a.address a.value) (sym c.is_timer.ensures ∙ c.if-not-is_timer.true)

pub read_timer-old-requires : goal.read_timer-old-requires
read_timer-old-requires c = timer_long _ (a-timer c)

pub write_timer-requires : goal.write_timer-requires
write_timer-requires c = timer_long _ (a-timer (goal.at.write_timer-requires c).Else-not-is_timer)

pub returns-in-Ok : goal.returns-in-Ok
unfolding timer_write_reply timer_write_bytes
returns-in-Ok c =
    let a = c.args in
    let law = change_made a.timer.now (answer a.timer.now a.address a.value) (a-timer (goal.at.returns-in-Ok c).Else-not-is_timer)
    (changed_said (timer_of a.timer.now) (Ok c.in-Ok.after)) (rw c.in-Ok.is at (answer_is (goal.at.returns-in-Ok c).After-write)) refl in
    (law.0, c.write_timer.ensures ∙ law.1)

pub returns-in-Err : goal.returns-in-Err
unfolding timer_write_reply timer_write_bytes
returns-in-Err c =
    let a = c.args in
    let law = change_refused a.timer.now (answer a.timer.now a.address a.value) (a-timer (goal.at.returns-in-Err c).Else-not-is_timer)
    (changed_said (timer_of a.timer.now) (Err c.in-Err.refusal)) (rw c.in-Err.is at (answer_is (goal.at.returns-in-Err c).After-write))
    (no_zero c.in-Err.refusal) in
    (kept _ c.refused.type_inv ∙ c.refused.ensures ∙ law.0, law.1)
