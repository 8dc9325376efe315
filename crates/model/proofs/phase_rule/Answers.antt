-- The tests of the function are the definition's; the gcd of a frame length is not 0.
use Rattle.std.proofs.Common.{arith}
use native.Mathlib.Nat.{mod-le}
use Rattle.arith.specs.GcdLaws.{gcd_pos}
use Rattle.model.specs.PhaseExact.{rule_multiple, rule_other}
use Rattle.model.proofs.phase_rule.Goals as goal

pub nonzero_rem-p : goal.nonzero_rem-p
nonzero_rem-p c =
    omega (arith, c.gcd-common.ensures, gcd_pos c.args.f c.args.task.t c.requires)

pub returns-then-p-eq0 : goal.returns-then-p-eq0
returns-then-p-eq0 c =
    let a = c.args in
    rule_multiple a.f a.task _ c.gcd-common.ensures c.if-p-eq0.true

pub overflow_cast-result-4 : goal.overflow_cast-result-4
overflow_cast-result-4 c =
    let task = c.args.task in
    record { fits = omega (arith, mod-le task.p c.gcd-common.result) }

pub overflow_add-result-2 : goal.overflow_add-result-2
overflow_add-result-2 c =
    let task = c.args.task in
    record { fits = omega (arith, mod-le task.p c.gcd-common.result) }

pub returns : goal.returns
returns c =
    let a = c.args in
    rule_other a.f a.task _ c.gcd-common.ensures c.if-p-eq0.false
