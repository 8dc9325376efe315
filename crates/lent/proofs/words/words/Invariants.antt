-- The loop keeps that the first i words are in their places and those left are to come.
use Rattle.lent.specs.WordLaws.{WordsRead}
use Rattle.lent.proofs.words.words.Given as goal

abbrev pub invariant-loop-i : goal.invariant-loop-i
invariant-loop-i g l = WordsRead l.bytes l.at g.row.N l.words l.i
