-- A job that begins in a row gets its bit; one that begins in none needs none.
use Rattle.std.proofs.Common.{arith, rules, sym, ◌∙◌, ◌<◌}
use lib.Seq.{get_or-take}
use Rattle.searcher.specs.Arrays.{jobs_in}
use Rattle.sweep.proofs.BitLaws.{first_of, beginning_none, beginning_more}
use Rattle.sweep.proofs.begun.in_first_rows.Goals as goal
use Rattle.sweep.proofs.begun.in_first_rows.Goals.{then-row-rows, else-row-rows}

pub loop-i-preserved : goal.loop-i-preserved
loop-i-preserved c =
    let loop = c.loop-i in
    let pre = c.requires.sweepable in
    let first = first_of c.args.problem.now c.args.swept.now loop.i in
    let i : loop.i < jobs_in c.args.problem.now = search rules in
    let row = get_or-take (jobs_in c.args.problem.now) c.args.swept.now.first loop.i 0 i in
    elim c.if-row-rows.branch [
      | then-row-rows w ↦ rw w.begun-is (beginning_more loop.invariant (row ∙ sym first) (omega (arith, w.if-row-rows.true, pre.few_rows))
          (omega (arith, i, pre.few)) w.add_bit.ensures)
      | else-row-rows w ↦ rw w.begun-is (beginning_none loop.invariant (omega (arith, w.if-row-rows.false, row, first)))
    ]
