-- A word, the frames behind it and the loads behind these are the draft's bytes.
use Rattle.std.proofs.Common.{◌≡◌, ◌∙◌, arith, length}
use Rattle.lent.specs.DraftByteLaws.{draft_stored}
use Rattle.lent.proofs.draft_bytes.write_draft.Goals as goal

pub returns : goal.returns
returns c =
    let d = c.args.new in
    let frames : length d.frames ≡ 128 = omega arith in
    let loads : length d.loads ≡ 256 = omega arith in
    let frames_put = rw frames at c.store_words.ensures in
    let loads_put = rw loads at c.store_words-2.ensures in
    loads_put ∙ rw (frames_put, c.store_word.ensures) (draft_stored d c.args.draft.now c.requires)
