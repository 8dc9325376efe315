-- A word, the frames and the loads, each from its bytes.
use Rattle.lent.specs.DraftBytes.{draft_in}
use Rattle.lent.proofs.draft_bytes.read_draft.Goals as goal

pub returns : goal.returns
unfolding draft_in
returns c = rw (c.word.ensures, c.words-loads.ensures, c.words-frames.ensures)
