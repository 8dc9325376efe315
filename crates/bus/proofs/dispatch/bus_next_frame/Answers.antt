-- The state is read, the dispatcher answers, and only a frame is written: the entries first, then the state.
use Rattle.std.proofs.Common.{◌≡◌, sym, ◌∙◌, true, refl, inl, inr, arith, Ok, Err}
use Rattle.request.specs.SectionLaws.{no_zero}
use Rattle.dispatcher.specs.Numbered.{frame_said}
use Rattle.dispatcher.specs.FrameLaws.{frame_few}
use Rattle.lent.specs.State.{is_state, state_of}
use Rattle.lent.specs.StateLaws.{state_long}
use Rattle.bus.specs.ReplyLaws.{kept}
use Rattle.bus.specs.Dispatch.{frame_served}
use Rattle.bus.specs.DispatchLaws.{no_state, no_room, frame_refused, frame_made}
use Rattle.bus.proofs.dispatch.bus_next_frame.Goals as goal
use Rattle.bus.proofs.dispatch.bus_next_frame.Goals.{After-next_frame, Else-entries-lt32}

-- the lent bytes are a state
a_state : (c : Else-entries-lt32) → is_state c.args.state.now ≡ true
a_state c = sym c.is_state.ensures ∙ c.if-not-is_state.false

-- the dispatcher's answer on that state
frame_is : (c : After-next_frame) → let a = c.args in
    frame_said (state_of a.state.now) c.next_frame.result ≡ frame_served a.table.now a.state.now
frame_is c = rw c.read_state-old.ensures at c.next_frame.ensures

pub returns-then-not-is_state : goal.returns-then-not-is_state
returns-then-not-is_state c =
    let a = c.args in
    elim c.then-not-is_state.either [
      | inl other ↦ no_state a.table.now a.state.now a.entries.now (sym c.is_state.ensures ∙ other)
      | inr few ↦ no_room a.table.now a.state.now a.entries.now (sym c.is_state.ensures ∙ few.0) few.1
    ]

pub read_state-old-requires : goal.read_state-old-requires
read_state-old-requires c = state_long _ (a_state c)

pub write_state-requires : goal.write_state-requires
write_state-requires c = state_long _ (a_state (goal.at.write_state-requires c).Else-entries-lt32)

pub value-requires : goal.value-requires
value-requires c = omega (arith, rw (← c.in-Ok.ensures) at (frame_few c.args.table.now c.read_state-old.result))

pub returns-in-Ok : goal.returns-in-Ok
returns-in-Ok c =
    let a = c.args in
    let answer = frame_said (state_of a.state.now) (Ok c.in-Ok.frame) in
    let law = frame_made a.table.now a.state.now a.entries.now (a_state (goal.at.returns-in-Ok c).Else-entries-lt32) c.if-entries-lt32.false answer
    (rw c.in-Ok.is at (frame_is (goal.at.returns-in-Ok c).After-next_frame)) refl in (
      kept _ c.value.type_inv ∙ c.value.ensures ∙ law.0,
      c.write_state.ensures ∙ law.1,
      c.write_pairs.ensures ∙ law.2,
    )

pub returns-in-Err : goal.returns-in-Err
returns-in-Err c =
    let a = c.args in
    let answer = frame_said (state_of a.state.now) (Err c.in-Err.refusal) in
    let law = frame_refused a.table.now a.state.now a.entries.now (a_state (goal.at.returns-in-Err c).Else-entries-lt32) c.if-entries-lt32.false answer
    (rw c.in-Err.is at (frame_is (goal.at.returns-in-Err c).After-next_frame)) (no_zero c.in-Err.refusal) in
    (kept _ c.refused.type_inv ∙ c.refused.ensures ∙ law.0, law.1, law.2)
