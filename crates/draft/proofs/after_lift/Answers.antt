-- A placed job's row has it in its load, so nothing falls below 0.
use Rattle.std.proofs.Common.{arith, ◌-◌, ◌≡◌, ◌∙◌, get_or}
use Rattle.draft.specs.Draft.{lifted, touched}
use Rattle.draft.specs.MoveLaws.{in_range, rows_are, load_has, lift_is}
use Rattle.draft.proofs.after_lift.Goals as goal

pub offset_bounds-draft-y : goal.offset_bounds-draft-y
offset_bounds-draft-y c = omega (arith, in_range _ _ _ c.requires.0)

pub bounds-draft-y : goal.bounds-draft-y
bounds-draft-y c = in_range _ _ _ c.requires.0

pub row_of-row-requires : goal.row_of-row-requires
row_of-row-requires c = rows_are _ _ _ c.requires.0

pub cost_at-cost-requires : goal.cost_at-cost-requires
cost_at-cost-requires c = (c.requires.0.known, c.requires.0.limits.few_jobs)

pub offset_bounds-draft-row : goal.offset_bounds-draft-row
offset_bounds-draft-row c = omega (arith, c.row_of-row.ensures.1)

pub bounds-draft-row : goal.bounds-draft-row
bounds-draft-row c = c.row_of-row.ensures.1

pub overflow_cast-cost : goal.overflow_cast-cost
overflow_cast-cost c =
    let has = load_has _ _ _ c.requires.0 c.requires.1 in
    omega (arith, has.1, c.cost_at-cost.ensures, c.well_formed)

pub overflow_sub-draft : goal.overflow_sub-draft
overflow_sub-draft c =
    let has = load_has _ _ _ c.requires.0 c.requires.1 in
    rw (c.cost_at-cost.ensures, c.row_of-row.ensures.0) has.0

pub touched-requires : goal.touched-requires
touched-requires c = let low = in_range _ _ _ c.requires.0 in (low, omega (arith, low, c.row_of-row.ensures.1))

pub returns : goal.returns
returns c =
    let row = c.row_of-row.result in
    let less : c.touched.result ≡ touched c.args.draft c.args.y lifted row (get_or c.args.draft.loads row 0 - c.cost_at-cost.result)
    = c.touched.ensures in
    less ∙ lift_is _ _ _ c.requires.0 _ _ c.row_of-row.ensures.0 c.cost_at-cost.ensures
