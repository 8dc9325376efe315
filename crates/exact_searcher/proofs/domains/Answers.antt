-- The placed jobs one after the other: those before i have their frame alone.
use Rattle.std.proofs.Common.{arith, ◌<◌, get_or-take}
use Rattle.exact_searcher.proofs.HopelessLaws.{lows_none, highs_none, lows_more, highs_more}
use Rattle.exact_searcher.proofs.domains.Goals as goal

pub loop-i-init : goal.loop-i-init
loop-i-init c = record { lows = lows_none c.args.first.now c.args.place.now (omega arith); highs = highs_none c.args.end.now c.args.place.now (omega arith) }

pub loop-i-preserved : goal.loop-i-preserved
loop-i-preserved c =
    let few : c.loop-i.i < 128 = omega arith in
    let more : c.loop-i.i < c.args.at = omega arith in
    let frame = get_or-take c.args.at c.args.place.now c.loop-i.i 0 more in
    record {
      lows = lows_more c.args.first.now c.args.place.now c.loop-i.invariant.lows few frame;
      highs = highs_more c.args.end.now c.args.place.now c.loop-i.invariant.highs few (omega (arith, frame, c.fits-end c.loop-i.i));
    }
