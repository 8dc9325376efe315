-- None takes anything at first, and each job adds its cost.
use Rattle.std.proofs.Common.{rules, sym, false, replicate}
use Rattle.sweep.specs.Arrays.{rules_in}
use Rattle.sweep.proofs.LateLaws.{end_of, cost_of_lem, sided_of, no_flag, due_none, due_more}
use Rattle.sweep.proofs.late.due_times.Goals as goal

pub loop-i-init : goal.loop-i-init
loop-i-init c = due_none (rules_in c.args.problem.now c.args.swept.now) (replicate 128 false)

pub loop-i-preserved : goal.loop-i-preserved
loop-i-preserved c =
    let loop = c.loop-i in
    let g = c.args.problem.now in
    let w = c.args.swept.now in
    due_more loop.invariant (no_flag 128 loop.i) (sided_of g w loop.i) (sym (end_of g w loop.i)) (sym (cost_of_lem g w loop.i)) (search rules)
    c.add_at.ensures
