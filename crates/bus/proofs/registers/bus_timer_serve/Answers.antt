-- The timer is read. With none due that is all; else the frame is served, and only a frame is written: the entries first, then the timer.
use Rattle.std.proofs.Common.{◌≡◌, sym, ◌∙◌, true, refl, inl, inr, arith, Ok, Err}
use borrow.Author.Tests.{not-true, not-false}
use Rattle.request.specs.SectionLaws.{no_zero}
use Rattle.timer.specs.Numbered.{served_said}
use Rattle.timer.specs.RegisterLaws.{serve_few}
use Rattle.lent.specs.TimerBytes.{is_timer, timer_of}
use Rattle.lent.specs.TimerByteLaws.{timer_long}
use Rattle.bus.specs.ReplyLaws.{kept}
use Rattle.bus.specs.Timer.{timer_frame}
use Rattle.bus.specs.TimerLaws.{serve_no_timer, serve_no_room, serve_none_due, timer_serve_refused, timer_serve_made}
use Rattle.bus.proofs.registers.bus_timer_serve.Goals as goal
use Rattle.bus.proofs.registers.bus_timer_serve.Goals.{After-serve, Else-entries-lt32}

-- the lent bytes are a timer
a-timer : (c : Else-entries-lt32) → is_timer c.args.timer.now ≡ true
a-timer c = sym c.is_timer.ensures ∙ c.if-not-is_timer.false

-- a frame is due
is-due : (c : After-serve) → (timer_of c.args.timer.now).status.due ≡ true
is-due c = let t = c.read_timer-old in rw t.ensures at (not-false t.result.status.due c.if-not-old.false)

-- the timer's answer
frame_is : (c : After-serve) → let a = c.args in served_said (timer_of a.timer.now) c.serve.result ≡ timer_frame a.table.now a.timer.now a.entries.now
frame_is c = rw c.read_timer-old.ensures at c.serve.ensures

pub returns-then-not-is_timer : goal.returns-then-not-is_timer
returns-then-not-is_timer c =
    let a = c.args in
    elim c.then-not-is_timer.either [
      | inl other ↦ serve_no_timer a.table.now a.timer.now a.entries.now (sym c.is_timer.ensures ∙ other)
      | inr few ↦ serve_no_room a.table.now a.timer.now a.entries.now (sym c.is_timer.ensures ∙ few.0) few.1
    ]

pub read_timer-old-requires : goal.read_timer-old-requires
read_timer-old-requires c = timer_long _ (a-timer c)

pub returns-then-not-old : goal.returns-then-not-old
returns-then-not-old c =
    let a = c.args in
    let t = c.read_timer-old in
    let none = rw t.ensures at (not-true t.result.status.due c.if-not-old.true) in
    serve_none_due a.table.now a.timer.now a.entries.now (a-timer (goal.at.returns-then-not-old c).Else-entries-lt32) c.if-entries-lt32.false none

pub write_timer-requires : goal.write_timer-requires
write_timer-requires c = timer_long _ (a-timer (goal.at.write_timer-requires c).Else-entries-lt32)

pub value-requires : goal.value-requires
value-requires c = omega (arith, rw (← c.in-Ok.ensures) at (serve_few c.args.table.now c.read_timer-old.result))

pub returns-in-Ok : goal.returns-in-Ok
returns-in-Ok c =
    let a = c.args in
    let law = timer_serve_made a.table.now a.timer.now a.entries.now (a-timer (goal.at.returns-in-Ok c).Else-entries-lt32)
    c.if-entries-lt32.false (is-due (goal.at.returns-in-Ok c).After-serve) (served_said (timer_of a.timer.now) (Ok c.in-Ok.frame))
    (rw c.in-Ok.is at (frame_is (goal.at.returns-in-Ok c).After-serve)) refl in (
      kept _ c.value.type_inv ∙ c.value.ensures ∙ law.0,
      c.write_timer.ensures ∙ law.1,
      c.write_pairs.ensures ∙ law.2,
    )

pub returns-in-Err : goal.returns-in-Err
returns-in-Err c =
    let a = c.args in
    let law = timer_serve_refused a.table.now a.timer.now a.entries.now (a-timer (goal.at.returns-in-Err c).Else-entries-lt32)
    c.if-entries-lt32.false (is-due (goal.at.returns-in-Err c).After-serve) (served_said (timer_of a.timer.now) (Err c.in-Err.refusal))
    (rw c.in-Err.is at (frame_is (goal.at.returns-in-Err c).After-serve)) (no_zero c.in-Err.refusal) in
    (kept _ c.refused.type_inv ∙ c.refused.ensures ∙ law.0, law.1, law.2)
