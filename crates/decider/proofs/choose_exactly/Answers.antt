-- The loop keeps that the choice among the lengths left, with whether one was tried, is the choice among all.
use Rattle.std.proofs.Common.{sym, ◌∙◌, arith, ◌≤◌}
use Rattle.model.specs.Answers.{instance_of}
use Rattle.planner.specs.TriedLaws.{searchable}
use Rattle.decider.specs.ChoiceLaws.{deciding_start, skipped, none_with, one_with, passed}
use Rattle.decider.proofs.choose_exactly.Goals as goal

pub loop-rows-init : goal.loop-rows-init
loop-rows-init c = deciding_start (instance_of c.args.cycle)

pub loop-rows-preserved-then-not-is_tried : goal.loop-rows-preserved-then-not-is_tried
loop-rows-preserved-then-not-is_tried c =
    let few : c.loop-rows.rows ≤ 256 = omega (arith, c.loop-rows-test.true, c.min-most.ensures) in
    skipped c.loop-rows.invariant few (sym c.is_tried.ensures ∙ c.if-not-is_tried.true)

pub plan_with-requires : goal.plan_with-requires
plan_with-requires c =
    let is = sym c.is_tried.ensures ∙ c.if-not-is_tried.false in
    searchable c.args.cycle _ _ c.loop-rows.rows c.requires c.costs-cost.ensures c.links-links.ensures is

pub returns-in-Some : goal.returns-in-Some
returns-in-Some c =
    let few : c.loop-rows.rows ≤ 256 = omega (arith, c.loop-rows-test.true, c.min-most.ensures) in
    one_with c.loop-rows.invariant few (sym c.is_tried.ensures ∙ c.if-not-is_tried.false) (sym c.in-Some.is ∙ c.plan_with.ensures)

pub loop-rows-preserved : goal.loop-rows-preserved
loop-rows-preserved c =
    let few : c.loop-rows.rows ≤ 256 = omega (arith, c.loop-rows-test.true, c.min-most.ensures) in
    none_with c.loop-rows.invariant few (sym c.is_tried.ensures ∙ c.if-not-is_tried.false) (sym c.in_default.is ∙ c.plan_with.ensures)

pub returns : goal.returns
returns c = passed c.loop-rows.invariant (omega (arith, c.loop-rows-test.false, c.min-most.ensures)) (omega (arith, c.loop-rows.auto, c.min-most.ensures))
