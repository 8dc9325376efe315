-- What passes the check was read, and so its pairs are there. Each way out is one case of the definition.
use Rattle.std.specs.Prelude.{Ok}
use Rattle.std.proofs.Common.{subst, ◌≡◌, ◌≤◌, refl, sym, ap, ◌∙◌, arith}
use Rattle.std.proofs.lemmas.Result.{err_from_is_err_and}
use Rattle.request.specs.SectionLaws.{no_zero}
use Rattle.cycle.specs.Cycle.{cycle_of}
use Rattle.cycle.specs.Answers.{cycle_answered}
use Rattle.table.specs.Table.{decode}
use Rattle.checker.specs.Checked.{checked, check_number}
use Rattle.checker.specs.Answers.{read_answer}
use Rattle.checker.specs.ReadLaws.{ReadSays, FoundSays}
use Rattle.dispatcher.specs.Dispatch.{next_frame}
use Rattle.dispatcher.specs.FrameLaws.{frame_few}
use Rattle.dispatcher.specs.Numbered.{Frame, frame_ok}
use Rattle.heater_link.specs.Exchange.{is_pair, pairs_in}
use Rattle.heater_link.specs.StepLaws.{number_is, cycle_is, few_pairs, same_pairs, pairs_taken, check_refuses, pair_refused, pair_served, frame_refused, frame_exchanged}
use Rattle.heater_link.proofs.serve.Goals as goal
use Rattle.heater_link.proofs.serve.Goals.{In_ok-read, In_ok-read-2, After-is_pair, In_ok-frame}

-- what the check said of the request that it read,
said : (c : In_ok-read) → ReadSays c.args.request.now c.args.table.now (Ok c.in_ok-read.read)
said c = subst (ReadSays c.args.request.now c.args.table.now) c.in_ok-read.was c.read_plan.ensures

-- and of the plan that it found
was_read : (c : In_ok-read-2) → FoundSays c.args.request.now c.args.table.now c.in_ok-read.read.cycle (Ok c.in_ok-read-2.field-0)
was_read c = subst (FoundSays c.args.request.now c.args.table.now c.in_ok-read.read.cycle) c.in_ok-read-2.was (said (goal.at.In_ok-read-2 c).In_ok-read)

passes : (c : In_ok-read-2) → check_number c.args.request.now c.args.table.now ≡ 0
passes c = sym (number_is c.args.request.now c.args.table.now _ (was_read c))

cycle_was : (c : In_ok-read-2) → c.in_ok-read.read.cycle ≡ cycle_answered (cycle_of c.args.request.now)
cycle_was c = cycle_is c.args.request.now c.args.table.now _ (was_read c)

few : (c : In_ok-read-2) → c.in_ok-read.read.cycle.m ≤ 16
few c = few_pairs c.args.request.now c.args.table.now (passes c) _ (cycle_was c)

-- what is asked of the slice is asked of the request's pairs
asked : (c : After-is_pair) → c.is_pair.result ≡ is_pair c.args.a c.args.b (pairs_in (cycle_of c.args.request.now))
asked c =
    let a = c.args in
    let read = (goal.at.After-is_pair c).In_ok-read-2 in
    let cycle = c.in_ok-read.read.cycle in
    c.is_pair.ensures
    ∙ ap (is_pair a.a a.b)
    (pairs_taken cycle.pairs cycle.m (omega (arith, few read)) ∙ same_pairs a.request.now a.table.now (passes read) _ (cycle_was read))

pub returns-in_err-read : goal.returns-in_err-read
returns-in_err-read c =
    let a = c.args in
    let p = err_from_is_err_and c.from_residual.result c.from_residual.ensures.1 in
    let number = number_is a.request.now a.table.now _ (subst (ReadSays a.request.now a.table.now) c.in_err-read.was c.read_plan.ensures) in
    rw (p.1, p.2) (check_refuses a.a a.b a.lost a.request.now a.table.now a.link _ number (no_zero c.in_err-read.field-0.0))

pub returns-in_err-read-2 : goal.returns-in_err-read-2
returns-in_err-read-2 c =
    let a = c.args in
    let p = err_from_is_err_and c.from_residual-in_err-read-2.result c.from_residual-in_err-read-2.ensures.1 in
    let says = subst (FoundSays a.request.now a.table.now c.in_ok-read.read.cycle) c.in_err-read-2.was (said (goal.at.returns-in_err-read-2 c).In_ok-read) in
    rw (p.1, p.2) (check_refuses a.a a.b a.lost a.request.now a.table.now a.link _ (number_is a.request.now a.table.now _ says) (no_zero c.in_err-read-2.field-0.0))

pub shared_ref_as_front-is_pair : goal.shared_ref_as_front-is_pair
shared_ref_as_front-is_pair c = few (goal.at.shared_ref_as_front-is_pair c).In_ok-read-2

pub returns-then-not-is_pair : goal.returns-then-not-is_pair
returns-then-not-is_pair c =
    let a = c.args in
    let none = sym (asked (goal.at.returns-then-not-is_pair c).After-is_pair) ∙ c.if-not-is_pair.true in
    pair_refused a.a a.b a.lost a.request.now a.table.now a.link (passes (goal.at.returns-then-not-is_pair c).In_ok-read-2) none

pub returns-in_err-frame : goal.returns-in_err-frame
returns-in_err-frame c =
    let a = c.args in
    let p = err_from_is_err_and c.from_residual-in_err-frame.result c.from_residual-in_err-frame.ensures.1 in
    let found = sym (asked (goal.at.returns-in_err-frame c).After-is_pair) ∙ c.if-not-is_pair.false in
    let frame = rw c.in_err-frame.was at c.next_frame.ensures in
    let served = pair_served a.a a.b a.lost a.request.now a.table.now a.link (passes (goal.at.returns-in_err-frame c).In_ok-read-2) found in
    rw (p.1, p.2) (frame_refused a.a a.b a.lost _ a.link (no_zero c.in_err-frame.field-0.0) ∙ rw (← frame) at served)

frame_was : (c : In_ok-frame) → frame_ok c.in_ok-frame.frame ≡ next_frame (decode c.args.table.now) c.args.link.state
frame_was c = rw c.in_ok-frame.was at c.next_frame.ensures

pub in_frame-requires : goal.in_frame-requires
in_frame-requires c =
    let a = c.args in
    omega (arith, ap (λ (f : Frame). f.count) (frame_was (goal.at.in_frame-requires c).In_ok-frame), frame_few a.table.now a.link.state)

pub returns : goal.returns
returns c =
    let a = c.args in
    let found = sym (asked (goal.at.returns c).After-is_pair) ∙ c.if-not-is_pair.false in
    let served = pair_served a.a a.b a.lost a.request.now a.table.now a.link (passes (goal.at.returns c).In_ok-read-2) found in
    c.in_frame.ensures ∙ frame_exchanged a.a a.b a.lost _ a.link refl ∙ rw (← frame_was (goal.at.returns c).In_ok-frame) at served
