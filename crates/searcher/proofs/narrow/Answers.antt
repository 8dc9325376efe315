-- `narrow` stores the numbers one after the other: the first j of them stand in the first places.
use Rattle.std.proofs.Common.{sym, refl, ◌∙◌, arith}
use Rattle.std.proofs.Math.Seq.{take_all}
use Rattle.cursor.specs.PaddedLaws.{padded_none}
use Rattle.searcher.proofs.Laws.{one_stored}
use Rattle.searcher.proofs.narrow.Goals as goal

pub loop-j-init : goal.loop-j-init
loop-j-init c = sym (padded_none 128 0)

pub loop-j-preserved : goal.loop-j-preserved
loop-j-preserved c =
    let l = c.loop-j in
    rw l.invariant (one_stored c.args.xs.now l.j c.loop-j-test.true (omega (arith, c.requires.few)))

pub returns : goal.returns
returns c = c.loop-j.invariant ∙ rw (take_all c.loop-j.j c.args.xs.now c.loop-j-test.false) refl
