-- The loop keeps that the bytes of the first i words are in their places and those of the words left are to come.
use Rattle.std.proofs.Common.{length}
use Rattle.lent.specs.WordLaws.{WordsStored}
use Rattle.lent.proofs.words.store_words.Given as goal

abbrev pub invariant-loop-i : goal.invariant-loop-i
invariant-loop-i l = WordsStored l.words l.initial.bytes l.at (length l.words) l.bytes l.i
