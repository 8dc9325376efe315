-- The loop keeps that the bytes of the first i words are in their places and those of the words left are to come.
use Rattle.lent.specs.WordLaws.{stored_start, stored_more, stored_end}
use Rattle.lent.proofs.words.store_words.Goals as goal

pub loop-i-init : goal.loop-i-init
loop-i-init c = stored_start _ _ _ _ c.requires

pub loop-i-preserved : goal.loop-i-preserved
loop-i-preserved c =
    rw c.store_word.ensures
    (stored_more _ _ _ _ _ _ c.loop-i.invariant c.loop-i-test.true)

pub returns : goal.returns
returns c = stored_end _ _ _ _ _ _ c.loop-i.invariant c.loop-i-test.false
