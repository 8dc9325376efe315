-- The loop keeps that the pairs left decide.
use Rattle.std.proofs.Common.{refl, ◌∙◌}
use Rattle.heater_link.specs.StepLaws.{pair_here, other_first, other_second, no_pair_lem}
use Rattle.heater_link.proofs.is_pair.Goals as goal
use Rattle.heater_link.proofs.is_pair.Goals.{else-pair-a-via-then-pair-a+else-pair-b, else-pair-a-via-else-pair-a}

pub loop-pair-init : goal.loop-pair-init
loop-pair-init c = refl

pub loop-pair-preserved : goal.loop-pair-preserved
loop-pair-preserved c =
    let a = c.args in
    let l = c.loop-pair in
    let more = c.loop-pair-test.true in
    elim c.else-pair-a.branch [
      | else-pair-a-via-then-pair-a+else-pair-b w ↦ other_second a.a a.b a.pairs.now l.pair-index more w.if-pair-a.true w.if-pair-b.false ∙ l.invariant
      | else-pair-a-via-else-pair-a w ↦ other_first a.a a.b a.pairs.now l.pair-index more w.if-pair-a.false ∙ l.invariant
    ]

pub returns-then-pair-b : goal.returns-then-pair-b
returns-then-pair-b c =
    let a = c.args in
    let l = c.loop-pair in
    pair_here a.a a.b a.pairs.now l.pair-index c.loop-pair-test.true c.if-pair-a.true c.if-pair-b.true ∙ l.invariant

pub returns : goal.returns
returns c = no_pair_lem c.args.a c.args.b c.args.pairs.now c.loop-pair.pair-index c.loop-pair-test.false ∙ c.loop-pair.invariant
