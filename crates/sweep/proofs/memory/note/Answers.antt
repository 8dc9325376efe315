-- The state is stored at two places.
use Rattle.std.proofs.Common.{arith, ◌≡◌, ◌++◌, length}
use Rattle.sweep.specs.Memo.{memo_size, noted_both}
use Rattle.sweep.proofs.memory.note.Goals as goal

pub returns : goal.returns
returns c =
    let store = c.store in
    let store2 = c.store-2 in
    let size : length (c.args.marks.now ++ c.args.words.now) ≡ 15360 = memo_size c.args.marks.now c.args.words.now c.requires.1 c.requires.2 in (
      noted_both size (omega (arith, c.slot-h.ensures)) c.free_slot-s.ensures store.ensures.0
          (memo_size store.new.marks store.new.words store.ensures.1 store.ensures.2)
          store2.ensures.0,
      store2.ensures.1,
      store2.ensures.2,
    )
