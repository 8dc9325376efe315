-- The loop keeps that the bytes of the first i pairs are in their places and those of the pairs left are to come.
use Rattle.std.proofs.Common.{◌≡◌, ◌+◌, ◌*◌, arith, length-set}
use Rattle.lent.specs.EntryLaws.{pairs_start, pairs_room, pairs_more, pairs_end}
use Rattle.lent.proofs.entries.write_pairs.Goals as goal

pub loop-i-init : goal.loop-i-init
loop-i-init c = pairs_start _ _ c.args.entries.now c.requires

pub bounds-entries-i : goal.bounds-entries-i
bounds-entries-i c = omega (arith, pairs_room _ _ _ _ _ _ c.loop-i.invariant c.loop-i-test.true)

pub bounds-entries-i-in-loop-i : goal.bounds-entries-i-in-loop-i
bounds-entries-i-in-loop-i c = simp length-set (omega (arith, pairs_room _ _ _ _ _ _ c.loop-i.invariant c.loop-i-test.true))

pub loop-i-preserved : goal.loop-i-preserved
loop-i-preserved c =
    let next : 2 * (c.loop-i.i + 1) ≡ 2 * c.loop-i.i + 2 = omega arith in
    rw next (pairs_more _ _ _ _ _ _ c.loop-i.invariant c.loop-i-test.true)

pub returns : goal.returns
returns c = pairs_end _ _ _ _ _ _ c.loop-i.invariant c.loop-i-test.false
