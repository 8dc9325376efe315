-- The bits of one word, or of both.
use Rattle.std.proofs.Common.{arith}
use Rattle.sweep.proofs.RunLaws.{n_is}
use Rattle.sweep.proofs.BitLaws.{low_passed, high_passed, both_passed}
use Rattle.sweep.proofs.begun.first_free.Goals as goal

pub returns-then-i-ge64 : goal.returns-then-i-ge64
returns-then-i-ge64 c =
    let g = c.args.problem.now in
    let w = c.args.swept.now in
    let free = c.free_place.ensures in (
      omega (arith, free.0, c.if-i-ge64.true),
      λ y a b h. high_passed g w c.args.flags.now c.args.p c.requires.begun c.requires.p_bound.0 c.requires.p_bound.3 free.2 y
          (omega (arith, c.if-i-ge64.true)) b (omega (arith, c.requires.sweepable.few)) (omega (arith, n_is g w)),
    )

pub returns-then-j-lt64 : goal.returns-then-j-lt64
returns-then-j-lt64 c =
    let g = c.args.problem.now in
    let w = c.args.swept.now in
    let free = c.free_place-j.ensures in (
      free.0,
      λ y a b h. low_passed g w c.args.flags.now c.args.p c.requires.begun c.requires.p_bound.0 c.requires.p_bound.2 free.2 y a b
          (omega (arith, c.if-j-lt64.true)) (omega (arith, n_is g w)),
    )

pub returns : goal.returns
returns c =
    let g = c.args.problem.now in
    let w = c.args.swept.now in
    let free = c.free_place-2.ensures in
    let none = c.free_place-j.ensures in (
      omega (arith, c.if-i-ge64.false),
      λ y a b h. both_passed g w c.args.flags.now c.args.p c.requires.begun c.requires.p_bound.0 c.requires.p_bound.2 c.requires.p_bound.3 none.2
          c.if-j-lt64.false free.2 y a b (omega (arith, c.requires.sweepable.few)) (omega (arith, n_is g w)),
    )
