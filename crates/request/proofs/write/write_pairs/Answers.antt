-- The loop keeps that the count and the pairs before pair i are in their places and those from i on are to come.
use Rattle.std.proofs.Common.{◌≤◌, ◌+◌, refl, arith, length, length-set}
use Rattle.request.specs.Request.{no_pair}
use Rattle.request.specs.WriteLaws.{pair_wide, count_room, section_start, section_room, section_more, section_end, pair_stored}
use Rattle.request.proofs.write.write_pairs.Goals as goal
use Rattle.request.proofs.write.write_pairs.Goals.{In-loop-pair}

-- a pair has two places
room : (c : In-loop-pair) → let l = c.loop-pair in l.at + 2 ≤ length l.out
room c = section_room _ _ pair_wide no_pair _ _ _ _ _ c.loop-pair.invariant.part c.loop-pair-test.true

pub bounds-out-0 : goal.bounds-out-0
bounds-out-0 c = count_room _ _ pair_wide no_pair _ c.args.out.now c.requires.1

pub loop-pair-init : goal.loop-pair-init
loop-pair-init c = record { place = refl; part = section_start _ _ pair_wide no_pair _ c.args.out.now c.requires.1 }

pub bounds-out-at : goal.bounds-out-at
bounds-out-at c = omega (arith, room (goal.at.bounds-out-at c).In-loop-pair)

pub bounds-out-at-in-loop-pair : goal.bounds-out-at-in-loop-pair
bounds-out-at-in-loop-pair c = simp length-set (omega (arith, room (goal.at.bounds-out-at-in-loop-pair c).In-loop-pair))

pub loop-pair-preserved : goal.loop-pair-preserved
loop-pair-preserved c =
    let l = c.loop-pair in
    record {
      place = omega arith;
      part = section_more _ _ pair_wide no_pair _ _ _ _ _ l.invariant.part c.loop-pair-test.true _ (pair_stored _ _ _ (room (goal.at.loop-pair-preserved c).In-loop-pair));
    }

pub returns : goal.returns
returns c = section_end _ _ pair_wide no_pair _ _ _ _ _ c.loop-pair.invariant.part c.loop-pair-test.false
