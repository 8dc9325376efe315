-- From the first row, with no flag set and nothing noted.
use Rattle.std.proofs.Common.{arith, sym}
use Rattle.searcher.specs.Arrays.{rows_in}
use Rattle.sweep.specs.Arrays.{rules_in}
use Rattle.sweep.proofs.RunLaws.{n_is, f_is, going_first, some_of, failed_at, swept_false}
use Rattle.sweep.proofs.sweep.Goals as goal

pub returns : goal.returns
returns c = λ e.
    let some = some_of c.run-failed.result c.is_none.ensures e in
    swept_false (omega (arith, c.if-rows-eq0.false)) (sym (f_is c.args.problem.now c.args.swept.now)) (failed_at some.1 c.run-failed.ensures)

pub run-failed-requires-clause-going : goal.run-failed-requires-clause-going
run-failed-requires-clause-going c =
    let g = c.args.problem.now in
    let w = c.args.swept.now in
    going_first (rules_in g w) (rows_in g) (n_is g w) c.due_times-due.ensures c.if-words-ne-WORDS.false
