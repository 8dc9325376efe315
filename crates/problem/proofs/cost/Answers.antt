-- A task behind the first n is none.
use Rattle.std.proofs.Common.{◌∙◌, ap, arith, List, min, length, get_or}
use Rattle.cursor.specs.PaddedLaws.{firsts_length}
use Rattle.request.specs.Request.{no_task}
use Rattle.request.specs.declared.Task.{Task}
use Rattle.model.specs.Plan.{slot}
use Rattle.problem.specs.JobLaws.{slot_unknown}
use Rattle.problem.proofs.cost.Goals as goal

pub returns-in-Some : goal.returns-in-Some
returns-in-Some c =
    let a = c.args in
    c.slot.ensures ∙ ap (slot a.g) (c.in-Some.ensures.lookup.3.1 no_task)
    ∙ ap (λ (xs : List Task). slot a.g (get_or xs a.task no_task)) (c.first_of.ensures.those no_task)

pub returns-in-None : goal.returns-in-None
returns-in-None c =
    let a = c.args in
    let size = ap length (c.first_of.ensures.those no_task) ∙ firsts_length no_task a.tasks (min a.n 16) in
    slot_unknown a.g a.tasks (min a.n 16) a.task (omega (arith, c.in-None.ensures.lookup.3, size))
