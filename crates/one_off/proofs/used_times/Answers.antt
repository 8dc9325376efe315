-- The used times of the rows read stand in their places, and the cursor stands at the next row.
use Rattle.std.specs.Prelude.{Some}
use Rattle.std.proofs.Common.{◌≡◌, refl, sym, ap, ◌∙◌, arith, length-set}
use Rattle.cursor.specs.Fields.{Bytes}
use Rattle.table.specs.Answers.{taken_said, row_at}
use Rattle.table.specs.RowsLeft.{rows_begin}
use Rattle.model.specs.Answers.{instance_of}
use Rattle.one_off.specs.StepLaws.{few_rows, row_taken, row_short, next_row, one_used, none_used}
use Rattle.one_off.proofs.used_times.Goals as goal
use Rattle.one_off.proofs.used_times.Goals.{After-unwrap}

-- the row that is taken
taken : (c : After-unwrap) → taken_said c.loop-k.here.at (Some c.unwrap.result) ≡ row_at c.args.table.now c.loop-k.here.at
taken c = ap (taken_said c.loop-k.here.at) (sym c.unwrap.ensures) ∙ c.next_row.ensures

pub loop-k-init : goal.loop-k-init
loop-k-init c =
    let a = c.args in
    record { long = refl; used = none_used (instance_of a.cycle) a.table.now _; left = rw c.first_row-here.ensures (rows_begin a.table.now) }

pub unwrap-requires : goal.unwrap-requires
unwrap-requires c =
    let l = c.loop-k in
    let bytes : Bytes c.args.table.now = λ i. omega (arith, c.type_inv.table i) in
    row_taken c.args.table.now c.args.sizes c.requires l.here.at l.k l.invariant.left bytes c.loop-k-test.true _ c.next_row.ensures

pub used-requires : goal.used-requires
used-requires c =
    let l = c.loop-k in
    let bytes : Bytes c.args.table.now = λ i. omega (arith, c.type_inv.table i) in
    row_short c.args.table.now c.args.sizes c.requires l.here.at l.k l.invariant.left bytes c.loop-k-test.true
    _ (taken (goal.at.used-requires c).After-unwrap)

pub bounds-times-from : goal.bounds-times-from
bounds-times-from c = omega (arith, few_rows c.args.table.now c.args.sizes c.requires)

pub loop-k-preserved : goal.loop-k-preserved
loop-k-preserved c =
    let l = c.loop-k in
    let a = c.args in
    let bytes : Bytes a.table.now = λ i. omega (arith, c.type_inv.table i) in
    let row = taken (goal.at.loop-k-preserved c).After-unwrap in
    let below = c.loop-k-test.true in
    let long = l.invariant.long in
    record {
      long = simp length-set l.invariant.long;
      used =
          rw c.from.ensures
          (one_used a.table.now a.sizes c.requires l.here.at l.k l.invariant.left bytes below _ row (instance_of a.cycle) l.times
          c.used.result long l.invariant.used c.used.ensures.0 c.used.ensures.1);
      left = next_row a.table.now a.sizes c.requires l.here.at l.k l.invariant.left bytes below _ row;
    }

pub returns : goal.returns
returns c =
    let l = c.loop-k in
    let all : l.k ≡ c.args.sizes.height = omega arith in
    rw all at l.invariant.used
