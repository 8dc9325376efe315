-- None due; due and refused, when the timer stays; due and served.
use Rattle.std.specs.Prelude.{◌≡◌, true}
use Rattle.std.proofs.Common.{refl, sym, ◌∙◌}
use Rattle.std.proofs.lemmas.Bool.{not-true, not-false}
use Rattle.std.proofs.lemmas.Result.{err_from_is_err_and}
use Rattle.request.specs.SectionLaws.{no_zero}
use Rattle.timer.specs.RegisterLaws.{serve_none, frame_refused, frame_made}
use Rattle.timer.proofs.serve.Goals as goal
use Rattle.timer.proofs.serve.Goals.{Else-not-timer}

-- a frame is due
is-due : (c : Else-not-timer) → c.args.timer.status.due ≡ true
is-due c = not-false _ c.if-not-timer.false

pub returns-then-not-timer : goal.returns-then-not-timer
returns-then-not-timer c = c.none_served.ensures ∙ sym (serve_none _ _ (not-true _ c.if-not-timer.true))

pub returns-in_err-frame : goal.returns-in_err-frame
returns-in_err-frame c =
    let p = err_from_is_err_and c.from_residual.result c.from_residual.ensures.1 in
    let due = is-due (goal.at.returns-in_err-frame c).Else-not-timer in
    rw (p.1, p.2) (frame_refused _ _ due _ (rw c.in_err-frame.was at c.next_frame.ensures) (no_zero c.in_err-frame.field-0.0))

pub returns : goal.returns
returns c =
    let due = is-due (goal.at.returns c).Else-not-timer in
    rw (c.frame_served.ensures, c.served_once-after.ensures) (frame_made _ _ due _ (rw c.in_ok-frame.was at c.next_frame.ensures) refl)
