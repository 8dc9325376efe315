-- Each test that fails breaks the rules; where windows and capacity hold, the order decides.
use Rattle.std.proofs.Common.{◌≡◌, ◌≤◌, refl, sym, ◌∙◌, arith, length}
use Rattle.plan_rules.specs.RulesAre.{no_row, many_rows, windows_broken, capacity_broken, order_decides, lent_windows, lent_capacity, lent_order}
use Rattle.plan_rules.proofs.rules_kept.Goals as goal
use Rattle.plan_rules.proofs.rules_kept.Goals.{then-rows-lt1-via-then-rows-lt1, then-rows-lt1-via-else-rows-lt1+then-rows-gt256}

pub returns-then-rows-lt1 : goal.returns-then-rows-lt1
returns-then-rows-lt1 c =
    let a = c.args in
    elim c.then-rows-lt1.branch [
      | then-rows-lt1-via-then-rows-lt1 w ↦ no_row a.cycle a.frames.now a.rows a.f _ refl w.if-rows-lt1.true
      | then-rows-lt1-via-else-rows-lt1+then-rows-gt256 w ↦ many_rows a.cycle a.frames.now a.rows a.f _ refl w.if-rows-gt256.true
    ]

pub returns-then-not-windows_kept : goal.returns-then-not-windows_kept
returns-then-not-windows_kept c =
    let a = c.args in
    let n_is = c.min-count.ensures in
    let few : c.min-count.result ≤ 128 = omega arith in
    let jobs : length a.cycle.jobs ≡ 128 = omega arith in
    let lent = lent_windows a.cycle a.frames.now a.rows a.f _ n_is few jobs c.told-frames in
    windows_broken a.cycle a.frames.now a.rows a.f _ n_is c.if-rows-lt1.false c.if-rows-gt256.false
    (sym lent ∙ sym c.windows_kept.ensures ∙ c.if-not-windows_kept.true)

pub returns-then-capacity_kept : goal.returns-then-capacity_kept
returns-then-capacity_kept c =
    let a = c.args in
    let n_is = c.min-count.ensures in
    let few : c.min-count.result ≤ 128 = omega arith in
    let low : c.min.result ≤ 16 = omega arith in
    let jobs : length a.cycle.jobs ≡ 128 = omega arith in
    let pairs : length a.cycle.pairs ≡ 16 = omega arith in
    let costs : length c.costs-cost.result ≡ 128 = omega arith in
    let windows = sym (lent_windows a.cycle a.frames.now a.rows a.f _ n_is few jobs c.told-frames) ∙ sym c.windows_kept.ensures ∙ c.if-not-windows_kept.false in
    let loaded =
    sym (lent_capacity a.cycle a.frames.now a.rows a.f _ n_is few jobs c.told-frames c.costs-cost.result costs) ∙ sym c.capacity_kept.ensures
    ∙ c.if-capacity_kept.true in
    c.pairs_kept.ensures
    ∙ lent_order a.cycle a.frames.now a.rows a.f _ n_is few jobs c.told-frames c.min.result low pairs
    ∙ order_decides a.cycle a.frames.now a.rows a.f _ n_is c.if-rows-lt1.false c.if-rows-gt256.false windows _ c.costs-cost.ensures loaded _ c.min.ensures

pub returns-else-capacity_kept : goal.returns-else-capacity_kept
returns-else-capacity_kept c =
    let a = c.args in
    let n_is = c.min-count.ensures in
    let few : c.min-count.result ≤ 128 = omega arith in
    let jobs : length a.cycle.jobs ≡ 128 = omega arith in
    let costs : length c.costs-cost.result ≡ 128 = omega arith in
    let windows = sym (lent_windows a.cycle a.frames.now a.rows a.f _ n_is few jobs c.told-frames) ∙ sym c.windows_kept.ensures ∙ c.if-not-windows_kept.false in
    let overloaded =
    sym (lent_capacity a.cycle a.frames.now a.rows a.f _ n_is few jobs c.told-frames c.costs-cost.result costs) ∙ sym c.capacity_kept.ensures
    ∙ c.if-capacity_kept.false in
    c.if-capacity_kept.false
    ∙ capacity_broken a.cycle a.frames.now a.rows a.f _ n_is c.if-rows-lt1.false c.if-rows-gt256.false windows _ c.costs-cost.ensures overloaded
