-- The sum so far and the entries left make up the whole.
use Rattle.std.proofs.Common.{◌≤◌, ◌+◌, ◌*◌, ◌≡◌}
use Rattle.one_off.specs.StepLaws.{used_from}
use Rattle.one_off.proofs.used.Given as goal

abbrev pub invariant-loop-task : goal.invariant-loop-task
invariant-loop-task l =
    let c = l.fn.cycle in
    let row = l.fn.row in
    record {
      left : l.sum + used_from c.tasks c.n c.g row.tasks row.count l.task-index ≡ used_from c.tasks c.n c.g row.tasks row.count 0;
      small : l.sum ≤ l.task-index * 4294967295;
    }
