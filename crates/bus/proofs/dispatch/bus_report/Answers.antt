-- The state is read, the dispatcher answers, and only an answer without a refusal is written.
use Rattle.std.proofs.Common.{◌≡◌, sym, ◌∙◌, true, refl, Ok, Err}
use Rattle.request.specs.SectionLaws.{no_zero}
use Rattle.dispatcher.specs.Numbered.{reported_said}
use Rattle.lent.specs.State.{is_state, state_of}
use Rattle.lent.specs.StateLaws.{state_long}
use Rattle.bus.specs.ReplyLaws.{kept}
use Rattle.bus.specs.Dispatch.{report_of}
use Rattle.bus.specs.DispatchLaws.{not_taken, report_refused_lem, report_made}
use Rattle.bus.proofs.dispatch.bus_report.Goals as goal
use Rattle.bus.proofs.dispatch.bus_report.Goals.{After-report, Else-not-is_state}

-- the lent bytes are a state
a_state : (c : Else-not-is_state) → is_state c.args.state.now ≡ true
a_state c = sym c.is_state.ensures ∙ c.if-not-is_state.false

-- the dispatcher's report on that state
report_is : (c : After-report) → let a = c.args in
    reported_said (state_of a.state.now) c.report.result ≡ report_of a.request.now a.task a.ticks a.state.now
report_is c = rw c.read_state-old.ensures at c.report.ensures

pub returns-then-not-is_state : goal.returns-then-not-is_state
returns-then-not-is_state c =
    let a = c.args in
    not_taken a.request.now a.task a.ticks a.state.now (sym c.is_state.ensures ∙ c.if-not-is_state.true)

pub read_state-old-requires : goal.read_state-old-requires
read_state-old-requires c = state_long _ (a_state c)

pub write_state-requires : goal.write_state-requires
write_state-requires c = state_long _ (a_state (goal.at.write_state-requires c).Else-not-is_state)

pub returns-in-Ok : goal.returns-in-Ok
returns-in-Ok c =
    let a = c.args in
    let answer = reported_said (state_of a.state.now) (Ok c.in-Ok.reported) in
    let law = report_made a.request.now a.task a.ticks a.state.now (a_state (goal.at.returns-in-Ok c).Else-not-is_state) answer
    (rw c.in-Ok.is at (report_is (goal.at.returns-in-Ok c).After-report)) refl in
    (law.0, c.write_state.ensures ∙ law.1)

pub returns-in-Err : goal.returns-in-Err
returns-in-Err c =
    let a = c.args in
    let answer = reported_said (state_of a.state.now) (Err c.in-Err.refusal) in
    let law = report_refused_lem a.request.now a.task a.ticks a.state.now (a_state (goal.at.returns-in-Err c).Else-not-is_state) answer
    (rw c.in-Err.is at (report_is (goal.at.returns-in-Err c).After-report)) (no_zero c.in-Err.refusal) in
    (kept _ c.refused.type_inv ∙ c.refused.ensures ∙ law.0, law.1)
