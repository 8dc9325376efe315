-- A test that fails is one of the definition's; where the rules hold, the loads decide.
use Rattle.std.proofs.Common.{◌≡◌, sym, ◌∙◌, arith, length, take}
use Rattle.std.proofs.lemmas.List.{length-take}
use Rattle.cursor.specs.Padded.{firsts}
use Rattle.cycle.specs.Planned.{no_job}
use Rattle.draft.specs.Answers.{placing}
use Rattle.draft.specs.LentLaws.{first_equal}
use Rattle.draft.specs.StepLaws.{not_plausible, some_length, rules_broken, rows_few, rows_fit_lent, loads_decide_lent, placed_lent}
use Rattle.draft.proofs.is_sound.Goals as goal
use Rattle.draft.proofs.is_sound.Goals.{After-placed-standing}

-- what is placed
so : (c : After-placed-standing) → c.placed-standing.result ≡ placing (firsts c.min-n.result 0 c.args.draft.frames) (firsts c.min-n.result no_job c.args.cycle.jobs)
so c = placed_lent c.args.cycle c.args.draft c.min-n.result (omega (arith, c.min-n.ensures)) (omega arith) (omega arith) _ c.placed-standing.ensures.placing

pub returns-then-not-plausible : goal.returns-then-not-plausible
returns-then-not-plausible c =
    let a = c.args in
    not_plausible a.cycle a.draft (sym c.plausible.ensures ∙ c.if-not-plausible.true)

pub nonzero_div-height : goal.nonzero_div-height
nonzero_div-height c =
    let a = c.args in
    some_length a.cycle a.draft (sym c.plausible.ensures ∙ c.if-not-plausible.false)

pub returns-then-not-rules_kept : goal.returns-then-not-rules_kept
returns-then-not-rules_kept c =
    let a = c.args in
    let can = sym c.plausible.ensures ∙ c.if-not-plausible.false in
    let rules = rw c.with_jobs-part.ensures at c.rules_kept.ensures in
    rules_broken a.cycle a.draft can _ c.min-n.ensures _ (so (goal.at.returns-then-not-rules_kept c).After-placed-standing)
    (sym rules ∙ c.if-not-rules_kept.true)

pub shared_ref_as_front-eq : goal.shared_ref_as_front-eq
shared_ref_as_front-eq c =
    let a = c.args in
    let can = sym c.plausible.ensures ∙ c.if-not-plausible.false in
    let rules = rw c.with_jobs-part.ensures at c.rules_kept.ensures in
    let rows =
    rows_few a.cycle a.draft can _ c.min-n.ensures _ (so (goal.at.shared_ref_as_front-eq c).After-placed-standing)
    (sym rules ∙ c.if-not-rules_kept.false) in
    omega (arith, rows, c.from-rows.ensures)

pub row_loads-sums-requires : goal.row_loads-sums-requires
row_loads-sums-requires c =
    let a = c.args in
    let can = sym c.plausible.ensures ∙ c.if-not-plausible.false in
    let rules = rw c.with_jobs-part.ensures at c.rules_kept.ensures in
    let kept = sym rules ∙ c.if-not-rules_kept.false in
    let costs = rw c.with_jobs-part.ensures at c.costs-cost.ensures in
    let cost_long : length c.costs-cost.result ≡ 128 = omega arith in
    let frames_long : length c.placed-standing.result.frames ≡ 128 = omega arith in
    let n = c.placed-standing.result.count in
    let same : length (take n c.placed-standing.result.frames) ≡ length (take n c.costs-cost.result)
    = omega (arith, length-take n c.placed-standing.result.frames, length-take n c.costs-cost.result) in (
      same,
      rows_fit_lent a.cycle a.draft can _ c.min-n.ensures _ (so (goal.at.row_loads-sums-requires c).After-placed-standing) kept _ costs cost_long
          frames_long (omega arith),
    )

pub returns : goal.returns
returns c =
    let a = c.args in
    let can = sym c.plausible.ensures ∙ c.if-not-plausible.false in
    let rules = rw c.with_jobs-part.ensures at c.rules_kept.ensures in
    let kept = sym rules ∙ c.if-not-rules_kept.false in
    let costs = rw c.with_jobs-part.ensures at c.costs-cost.ensures in
    let cost_long : length c.costs-cost.result ≡ 128 = omega arith in
    let frames_long : length c.placed-standing.result.frames ≡ 128 = omega arith in
    let here = so (goal.at.returns c).After-placed-standing in
    let rows = rows_few a.cycle a.draft can _ c.min-n.ensures _ here kept in
    c.eq.ensures
    ∙ first_equal _ a.draft.loads c.row_loads-sums.result (omega (arith, rows, c.from-rows.ensures)) (omega (arith, rows, c.from-rows.ensures))
    ∙ rw c.from-rows.ensures
    (loads_decide_lent a.cycle a.draft can _ c.min-n.ensures _ here kept _ costs cost_long frames_long _ c.row_loads-sums.ensures)
