-- By the step, and by the remainder.
use Rattle.std.proofs.Common.{arith, ◌+◌, ◌*◌}
use Rattle.prune.proofs.ArcLaws.{step_none, step_even, step_down, step_small, product_small, part_small}
use Rattle.prune.proofs.arcs.weight.Goals as goal

pub returns-then-k-eq0 : goal.returns-then-k-eq0
returns-then-k-eq0 c = record { is_step = step_none c.args.f c.args.k c.args.c c.if-k-eq0.true; small = omega arith }

pub overflow_mul-m : goal.overflow_mul-m
overflow_mul-m c = omega (arith, product_small (c.args.k + 1) c.args.c (omega (arith, c.requires.1)) (omega arith))

pub overflow_mul-result : goal.overflow_mul-result
overflow_mul-result c = omega (arith, product_small c.args.k c.args.c (omega (arith, c.requires.1)) (omega arith))

pub returns-then-m-f-eq0 : goal.returns-then-m-f-eq0
returns-then-m-f-eq0 c =
    let e = step_even c.args.f c.args.k c.args.c c.if-k-eq0.false c.if-m-f-eq0.true in
    record { is_step = e; small = omega (arith, e, step_small c.args.f c.args.k c.args.c c.requires.1 (omega arith)) }

pub overflow_mul-result-2 : goal.overflow_mul-result-2
overflow_mul-result-2 c =
    omega (arith, part_small ((c.args.k + 1) * c.args.c) c.args.f (product_small (c.args.k + 1) c.args.c (omega (arith, c.requires.1)) (omega arith)))

pub returns : goal.returns
returns c =
    let e = step_down c.args.f c.args.k c.args.c c.if-k-eq0.false c.if-m-f-eq0.false in
    record { is_step = e; small = omega (arith, e, step_small c.args.f c.args.k c.args.c c.requires.1 (omega arith)) }
