-- Each way out is one case of the definition: not a request, no such task, and the task's C told from the request's places.
use Rattle.std.specs.Prelude.{Ok}
use Rattle.std.proofs.Common.{◌≤◌, ◌<◌, refl, arith}
use Rattle.std.proofs.lemmas.Result.{err_from_is_err_and}
use Rattle.request.specs.Numbered.{request_said}
use Rattle.request.specs.AnswerLaws.{WasRead, was_read}
use Rattle.request.specs.SectionLaws.{no_zero}
use Rattle.dispatcher.specs.StepLaws.{report_refused_lem, task_unknown, task_placed, task_known}
use Rattle.dispatcher.proofs.report.Goals as goal
use Rattle.dispatcher.proofs.report.Goals.{In_ok-read}

there : (c : In_ok-read) → WasRead c.args.request.now (request_said (Ok c.in_ok-read.read))
there c = was_read _ _ (rw c.in_ok-read.was at c.read.ensures) refl

-- the place of a task of the request is one of 16
placed : (c : In_ok-read) → c.args.task < c.in_ok-read.read.n → c.args.task < 16
placed c below =
    let a = c.args in
    task_placed _ _ a.ticks a.state _ (there c) below

pub returns-in_err-read : goal.returns-in_err-read
returns-in_err-read c =
    let p = err_from_is_err_and c.from_residual.result c.from_residual.ensures.1 in
    rw (p.1, p.2) (report_refused_lem _ _ _ _ _ (rw c.in_err-read.was at c.read.ensures) (no_zero c.in_err-read.field-0.0))

pub returns-then-read-i : goal.returns-then-read-i
returns-then-read-i c =
    let unknown : c.in_ok-read.read.n ≤ c.args.task = omega (arith, c.if-read-i.true) in
    task_unknown _ _ _ _ _ (there (goal.at.returns-then-read-i c).In_ok-read) unknown

pub bounds-read-i : goal.bounds-read-i
bounds-read-i c = placed (goal.at.bounds-read-i c).In_ok-read (omega (arith, c.if-read-i.false))

pub bounds-counts-i : goal.bounds-counts-i
bounds-counts-i c = placed (goal.at.bounds-counts-i c).In_ok-read (omega (arith, c.if-read-i.false))

pub bounds-counts-i-2 : goal.bounds-counts-i-2
bounds-counts-i-2 c = placed (goal.at.bounds-counts-i-2 c).In_ok-read (omega (arith, c.if-read-i.false))

pub returns : goal.returns
returns c = task_known _ _ _ _ _ (there (goal.at.returns c).In_ok-read) (omega (arith, c.if-read-i.false)) _ c.count_overrun.ensures
