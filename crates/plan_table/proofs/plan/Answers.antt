-- The answer and the buffer are the planner's; its length is within the buffer, which keeps its length.
use Rattle.std.proofs.Common.{◌≤◌, arith, length, sym}
use Rattle.std.proofs.lemmas.List.{length-take-le}
use Rattle.planner.specs.Numbered.{searched_said}
use Rattle.planner.specs.Outcome.{program_tries}
use Rattle.planner.specs.TableLaws.{searched_length}
use Rattle.plan_table.proofs.plan.Goals as goal

pub returns-clause-prefix_len : goal.returns-clause-prefix_len
returns-clause-prefix_len c =
    let n = (searched_said c.plan.result).length in
    let size : n ≤ length c.args.out.now = searched_length program_tries c.args.request.now c.args.out.now c.plan.ensures.0 in
    let within : n ≤ length c.plan.new.out = omega (arith, size, c.plan.auto.out) in
    (within, sym (length-take-le n c.plan.new.out within))
