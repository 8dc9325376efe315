-- The parts of the line, in their order. m is at most 767, so m·f does not wrap.
use Rattle.std.proofs.Common.{◌*◌, ◌≤◌, mul-le-mul_right, arith}
use Rattle.text.specs.TextLaws.{put_none, put_more, put_append}
use Rattle.fly_listing.specs.Flown.{frame_line}
use Rattle.fly_listing.proofs.put_frame.Goals as goal

pub overflow_mul-m : goal.overflow_mul-m
overflow_mul-m c =
    let most : c.args.m * c.args.sizes.f ≤ 767 * c.args.sizes.f = mul-le-mul_right c.args.sizes.f (omega (arith, c.requires.0)) in
    omega (arith, most)

pub returns : goal.returns
unfolding frame_line
returns c =
    rw (c.put.ensures, c.put_entries-entries.ensures, c.put_number-time.ensures, c.put_all-start.ensures, c.put_number-number.ensures, c.put_all-name.ensures)
    (simp (put_append, put_more, put_none))
