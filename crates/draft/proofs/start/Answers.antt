-- The check reads the plan and its cycle, and the rows are added up; each way out is one case of the definition.
use Rattle.std.specs.Prelude.{Ok}
use Rattle.std.proofs.Common.{subst, ◌≡◌, refl, arith, length, take}
use Rattle.std.proofs.lemmas.List.{length-take}
use Rattle.std.proofs.lemmas.Result.{err_from_is_err_and}
use Rattle.request.specs.SectionLaws.{no_zero}
use Rattle.checker.specs.ReadLaws.{ReadSays, FoundSays}
use Rattle.draft.specs.MoveLaws.{start_refused, some_f, few, rows_fit_lent, start_done_lent}
use Rattle.draft.proofs.start.Goals as goal
use Rattle.draft.proofs.start.Goals.{In_ok-read, In_ok-f}

-- what the check said of the request that it read,
said : (c : In_ok-read) → ReadSays c.args.request.now c.args.table.now (Ok c.in_ok-read.read)
said c = subst (ReadSays c.args.request.now c.args.table.now) c.in_ok-read.was c.read_plan.ensures

-- and of the plan that it found
found : (c : In_ok-f) → FoundSays c.args.request.now c.args.table.now c.in_ok-read.read.cycle (Ok (c.in_ok-f.f, c.in_ok-f.frames))
found c = subst (FoundSays c.args.request.now c.args.table.now c.in_ok-read.read.cycle) c.in_ok-f.was (said (goal.at.In_ok-f c).In_ok-read)

pub returns-in_err-read : goal.returns-in_err-read
returns-in_err-read c =
    let p = err_from_is_err_and c.from_residual.result c.from_residual.ensures.1 in
    let said = subst (ReadSays c.args.request.now c.args.table.now) c.in_err-read.was c.read_plan.ensures in
    rw (p.1, p.2) (start_refused _ _ _ said (no_zero c.in_err-read.field-0.0))

pub returns-in_err-f : goal.returns-in_err-f
returns-in_err-f c =
    let p = err_from_is_err_and c.from_residual-in_err-f.result c.from_residual-in_err-f.ensures.1 in
    let said = subst (FoundSays c.args.request.now c.args.table.now c.in_ok-read.read.cycle) c.in_err-f.was (said (goal.at.returns-in_err-f c).In_ok-read) in
    rw (p.1, p.2) (start_refused _ _ _ said (no_zero c.in_err-f.field-0.0))

pub nonzero_div-cycle : goal.nonzero_div-cycle
nonzero_div-cycle c =
    some_f _ _ _ (found (goal.at.nonzero_div-cycle c).In_ok-f) refl

pub slice_bounds-cost-end : goal.slice_bounds-cost-end
slice_bounds-cost-end c = omega (arith, few _ _ _ (found (goal.at.slice_bounds-cost-end c).In_ok-f) refl)

pub slice_bounds-row_loads-end : goal.slice_bounds-row_loads-end
slice_bounds-row_loads-end c = omega (arith, few _ _ _ (found (goal.at.slice_bounds-row_loads-end c).In_ok-f) refl, length-take c.in_ok-read.read.cycle.count c.costs-cost.result)

pub slice_bounds-frames-end : goal.slice_bounds-frames-end
slice_bounds-frames-end c = omega (arith, few _ _ _ (found (goal.at.slice_bounds-frames-end c).In_ok-f) refl)

pub slice_bounds-row_loads-end-2 : goal.slice_bounds-row_loads-end-2
slice_bounds-row_loads-end-2 c = omega (arith, few _ _ _ (found (goal.at.slice_bounds-row_loads-end-2 c).In_ok-f) refl, length-take c.in_ok-read.read.cycle.count c.in_ok-f.frames)

pub row_loads-loads-requires : goal.row_loads-loads-requires
row_loads-loads-requires c =
    let read = found (goal.at.row_loads-loads-requires c).In_ok-f in
    let n = c.in_ok-read.read.cycle.count in
    let cost_long : length c.costs-cost.result ≡ 128 = omega arith in
    let frames_long : length c.in_ok-f.frames ≡ 128 = omega arith in
    let same : length (take n c.in_ok-f.frames) ≡ length (take n c.costs-cost.result)
    = omega (arith, length-take n c.in_ok-f.frames, length-take n c.costs-cost.result) in
    (same, rows_fit_lent _ _ _ read refl _ c.costs-cost.ensures cost_long frames_long (omega arith))

pub returns : goal.returns
returns c =
    let cost_long : length c.costs-cost.result ≡ 128 = omega arith in
    let frames_long : length c.in_ok-f.frames ≡ 128 = omega arith in
    start_done_lent _ _ _ (found (goal.at.returns c).In_ok-f) refl _ c.costs-cost.ensures cost_long frames_long _ c.row_loads-loads.ensures
