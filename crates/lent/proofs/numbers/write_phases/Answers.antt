-- Four words, each behind the one before, are the bytes of the counts.
use Rattle.phases.specs.Numbered.{counts_ok}
use Rattle.lent.specs.NumberLaws.{counts_stored}
use Rattle.lent.proofs.numbers.write_phases.Goals as goal

pub returns : goal.returns
returns c =
    rw (c.put_word-4.ensures, c.put_word-3.ensures, c.put_word-2.ensures, c.put_word.ensures)
    (counts_stored (counts_ok c.args.found) c.args.counts.now c.requires)
