-- Run clear, and run set.
use Rattle.std.proofs.Common.{sym}
use Rattle.std.proofs.lemmas.Bool.{not-true, not-false}
use Rattle.timer.specs.RegisterLaws.{event_ignored, event_heard}
use Rattle.timer.proofs.event.Goals as goal

pub returns-then-not-timer : goal.returns-then-not-timer
returns-then-not-timer c = sym (event_ignored c.args.timer (not-true _ c.if-not-timer.true))

pub returns : goal.returns
returns c = rw c.due_or_missed.ensures (sym (event_heard c.args.timer (not-false _ c.if-not-timer.false)))
