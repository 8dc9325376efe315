-- 99 comes first. Then the planner's answer: its count is written, a refusal is negated, and a length is small.
use Rattle.std.proofs.Common.{◌∙◌}
use Rattle.planner.specs.Numbered.{searched_said}
use Rattle.bus.specs.ReplyLaws.{kept}
use Rattle.bus.specs.PlanLaws.{no_count, plan_few, plan_answered}
use Rattle.bus.proofs.tables.bus_plan.Goals as goal

pub returns-then-tries-lt8 : goal.returns-then-tries-lt8
returns-then-tries-lt8 c =
    let a = c.args in
    no_count a.allowance a.request.now a.out.now a.tries.now c.if-tries-lt8.true

pub length-requires : goal.length-requires
length-requires c =
    let a = c.args in
    plan_few a.allowance a.request.now a.out.now a.tries.now c.if-tries-lt8.false (searched_said c.plan-searched.result) c.plan-searched.ensures.0

pub returns : goal.returns
returns c =
    let a = c.args in
    plan_answered a.allowance a.request.now a.out.now a.tries.now c.if-tries-lt8.false (searched_said c.plan-searched.result) c.plan-searched.ensures.0
    _ _ c.plan-searched.ensures.1 c.write_number.ensures _ (kept _ c.length.type_inv ∙ c.length.ensures)
