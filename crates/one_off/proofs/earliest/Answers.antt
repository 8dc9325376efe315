-- The frames not yet tested decide: those before do not fit.
use Rattle.std.proofs.Common.{subst, arith, mod-lt}
use Rattle.model.specs.Answers.{instance_of}
use Rattle.one_off.specs.Answers.{FitsIn}
use Rattle.one_off.specs.StepLaws.{some_row, few_rows, time_few, frame_decided, all_left, frame_found, frame_passed, none_fits}
use Rattle.one_off.proofs.earliest.Goals as goal
use Rattle.one_off.proofs.earliest.Goals.{After-fits}

-- the test is that of the frame
decided : (c : After-fits) → let l = c.loop-k in let a = c.args in
    FitsIn a.length a.from a.until (instance_of a.cycle) a.table.now l.k c.fits.result
decided c =
    let l = c.loop-k in
    let a = c.args in
    frame_decided a.length a.from a.until a.cycle a.table.now a.sizes c.requires c.used_times-times.result c.used_times-times.ensures l.k
    c.fits.result (rw c.from-row.ensures at c.fits.ensures)

pub overflow_mul-k-end : goal.overflow_mul-k-end
overflow_mul-k-end c = omega (arith, few_rows c.args.table.now c.args.sizes c.requires)

pub loop-k-init : goal.loop-k-init
loop-k-init c =
    let a = c.args in
    all_left a.length a.from a.until (instance_of a.cycle) a.table.now

pub bounds-times-row : goal.bounds-times-row
bounds-times-row c =
    let a = c.args in
    omega (arith, few_rows a.table.now a.sizes c.requires, mod-lt c.loop-k.k (some_row a.table.now a.sizes c.requires), c.from-row.ensures)

pub fits-requires : goal.fits-requires
fits-requires c =
    let a = c.args in
    rw c.from-row.ensures
    (time_few a.length a.from a.until a.cycle a.table.now a.sizes c.requires c.used_times-times.result c.used_times-times.ensures c.loop-k.k)

pub returns-then-fits : goal.returns-then-fits
returns-then-fits c =
    let l = c.loop-k in
    let a = c.args in
    let fits = subst (FitsIn a.length a.from a.until (instance_of a.cycle) a.table.now l.k) c.if-fits.true (decided (goal.at.returns-then-fits c).After-fits) in
    frame_found a.length a.from a.until (instance_of a.cycle) a.table.now a.sizes c.requires l.k l.invariant c.loop-k-test.true fits

pub loop-k-preserved : goal.loop-k-preserved
loop-k-preserved c =
    let l = c.loop-k in
    let a = c.args in
    let fits = subst (FitsIn a.length a.from a.until (instance_of a.cycle) a.table.now l.k) c.if-fits.false (decided (goal.at.loop-k-preserved c).After-fits) in
    frame_passed a.length a.from a.until (instance_of a.cycle) a.table.now a.sizes c.requires l.k l.invariant c.loop-k-test.true fits

pub returns : goal.returns
returns c =
    let l = c.loop-k in
    let a = c.args in
    none_fits a.length a.from a.until (instance_of a.cycle) a.table.now a.sizes c.requires l.k l.invariant c.loop-k-test.false
