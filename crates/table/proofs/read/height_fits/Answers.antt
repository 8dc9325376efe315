-- Each way out is one case of the definition's tests; a product of two u16 fits a u32.
use Rattle.std.specs.Prelude.{◌≡◌, Bool, true, false, ◌&&◌, leb}
use Rattle.std.proofs.Common.{refl, ◌∙◌, ◌*◌, ◌≤◌, arith, mul-le-mul}
use Rattle.table.specs.Table.{height_fits}
use Rattle.table.proofs.Ranges.{closed}
use Rattle.table.proofs.read.height_fits.Goals as goal

last_test : (a b e : Bool) → (a && b) ≡ true → e ≡ (a && (b && e))
last_test true true e h = refl
last_test true false e h = cc
last_test false b e h = cc

no_test : (a b e : Bool) → (a && b) ≡ false → false ≡ (a && (b && e))
no_test true true e h = cc
no_test true false e h = refl
no_test false b e h = refl

pub overflow_mul-result : goal.overflow_mul-result
overflow_mul-result c =
    let a : c.args.height ≤ 65535 = omega arith in
    let b : c.args.f ≤ 65535 = omega arith in
    let h : c.args.height * c.args.f ≤ 65535 * 65535 = mul-le-mul a b in
    omega arith

pub returns-then-contains : goal.returns-then-contains
unfolding height_fits
returns-then-contains c =
    let ends = c.new.ensures in
    last_test _ _ _ (closed 1 256 c.args.height _ _ c.if-contains.true (rw (ends.start, ends.end, ends.exhausted) at c.contains.ensures.value))

pub returns-else-contains : goal.returns-else-contains
unfolding height_fits
returns-else-contains c =
    let ends = c.new.ensures in
    let outside = closed 1 256 c.args.height _ _ c.if-contains.false (rw (ends.start, ends.end, ends.exhausted) at c.contains.ensures.value) in
    c.if-contains.false ∙ no_test (leb 1 c.args.height) (leb c.args.height 256) _ outside
