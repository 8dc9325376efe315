-- Two stores, one behind the other.
use Rattle.std.proofs.Common.{arith, length-set}
use Rattle.cursor.specs.WordBytesLaws.{bytes_stored}
use Rattle.lent.proofs.words.store_word.Goals as goal

pub bounds-bytes-at-2 : goal.bounds-bytes-at-2
bounds-bytes-at-2 c = simp length-set (omega (arith, c.requires))

pub returns : goal.returns
returns c = bytes_stored _ c.args.at c.args.w
