-- Four words one behind the other are the eight bytes.
use Rattle.request.specs.WriteLaws.{task_stored}
use Rattle.request.proofs.write.write_task.Goals as goal

pub returns : goal.returns
returns c =
    rw (c.put_word-4.ensures, c.put_word-3.ensures, c.put_word-2.ensures, c.put_word.ensures)
    (task_stored c.args.out.now c.args.x c.requires)
