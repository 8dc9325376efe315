-- Nothing is written where g is 0, and else two bytes are stored.
use Rattle.std.proofs.Common.{arith, length-set}
use Rattle.request.specs.WriteLaws.{silent_left_out, silent_room, silent_stored}
use Rattle.request.proofs.write.write_silent.Goals as goal

pub returns-then-width-eq0 : goal.returns-then-width-eq0
returns-then-width-eq0 c = silent_left_out _ _ _ c.silent_length-width.ensures c.if-width-eq0.true

pub bounds-out-1 : goal.bounds-out-1
bounds-out-1 c =
    simp length-set (omega (arith, silent_room _ c.args.out.now _ c.silent_length-width.ensures c.if-width-eq0.false, c.requires))

pub returns : goal.returns
returns c = silent_stored _ _ _ c.silent_length-width.ensures c.if-width-eq0.false c.requires
