-- The sum so far and the entries left make up the whole.
use Rattle.std.proofs.Common.{◌≡◌, ◌<◌, arith}
use Rattle.std.proofs.lemmas.List.{length-take, get_or-take}
use Rattle.table.specs.Answers.{row_ok}
use Rattle.one_off.specs.StepLaws.{used_more, used_none, used_all}
use Rattle.one_off.proofs.used.Goals as goal

pub loop-task-preserved : goal.loop-task-preserved
loop-task-preserved c =
    let l = c.loop-task in
    let a = c.args in
    let below : l.task-index < a.row.count = omega (arith, length-take a.row.count a.row.tasks) in
    let more = used_more a.cycle.tasks a.cycle.n a.cycle.g a.row.tasks a.row.count l.task-index below in
    let entry = get_or-take a.row.count a.row.tasks l.task-index 0 below in
    let cost = rw entry at c.cost.ensures in
    record {
      left = omega (arith, l.invariant.left, cost, c.from-sum.ensures);
      small = omega (arith, l.invariant.small, c.cost.type_inv, c.from-sum.ensures);
    }

pub returns : goal.returns
returns c =
    let l = c.loop-task in
    let a = c.args in
    let size = length-take a.row.count a.row.tasks in
    let all : l.task-index ≡ a.row.count = omega (arith, size, c.requires) in
    let none = used_none a.cycle.tasks a.cycle.n a.cycle.g a.row.tasks a.row.count l.task-index (omega arith) in
    (omega (arith, l.invariant.left, used_all a.cycle (row_ok a.row)), omega (arith, l.invariant.small, all, c.requires))
