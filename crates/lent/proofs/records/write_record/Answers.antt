-- Two bytes and three words one behind the other are the eight bytes.
use Rattle.std.proofs.Common.{arith, length-set}
use Rattle.lent.specs.RecordLaws.{record_stored}
use Rattle.lent.proofs.records.write_record.Goals as goal

pub bounds-out-1 : goal.bounds-out-1
bounds-out-1 c = simp length-set (omega (arith, c.requires))

pub returns : goal.returns
returns c =
    rw (c.put_word-3.ensures, c.put_word-2.ensures, c.put_word.ensures) (record_stored c.args.out.now c.args.job c.requires)
