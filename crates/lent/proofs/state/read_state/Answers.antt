-- A word, the mark and the counts, each from its bytes.
use Rattle.lent.specs.State.{state_of}
use Rattle.lent.proofs.state.read_state.Goals as goal

pub returns : goal.returns
unfolding state_of
returns c = rw (c.words-counts.ensures, c.word.ensures)
