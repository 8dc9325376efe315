-- The loop keeps that the first i words are in their places and those left are to come.
use Rattle.lent.specs.WordLaws.{read_start, read_more, read_end}
use Rattle.lent.proofs.words.words.Goals as goal

pub loop-i-init : goal.loop-i-init
loop-i-init g c = read_start _ _ _

pub loop-i-preserved : goal.loop-i-preserved
loop-i-preserved g c =
    let l = c.loop-i in
    rw c.word.ensures (read_more _ _ _ _ _ l.invariant c.loop-i-test.true)

pub returns : goal.returns
returns g c = read_end _ _ _ _ _ c.loop-i.invariant c.loop-i-test.false
