-- One row is left at the last row, and more before it: the two laws of the definition.
use Rattle.std.proofs.Common.{◌+◌, ◌<◌, ◌≡◌, sym, arith}
use Rattle.dispatcher.specs.FrameLaws.{moved_last, moved_next}
use Rattle.dispatcher.proofs.move_on.Goals as goal

pub returns-then-height-state-eq1 : goal.returns-then-height-state-eq1
returns-then-height-state-eq1 c =
    let last : c.args.state.row + 1 ≡ c.args.height = omega (arith, c.requires, c.if-height-state-eq1.true) in
    sym (moved_last _ _ last)

pub returns : goal.returns
returns c =
    let next : c.args.state.row + 1 < c.args.height = omega (arith, c.requires, c.if-height-state-eq1.false) in
    sym (moved_next _ _ next)
