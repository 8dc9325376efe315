-- The reader of the sizes tells whether the table has its form; each way out is one case of the definition.
use Rattle.std.proofs.Common.{sym, ◌∙◌, ap, arith}
use Rattle.std.proofs.lemmas.Result.{err_from_is_err_and}
use Rattle.cursor.specs.Fields.{Bytes}
use Rattle.table.specs.Answers.{sizes_said}
use Rattle.checker.specs.Answers.{read_answer}
use Rattle.checker.specs.ReadLaws.{Formed, table_unread, table_formed, height_few, other_cycle, not_plausible, rows_judged}
use Rattle.checker.proofs.judge.Goals as goal
use Rattle.checker.proofs.judge.Goals.{In_ok-sizes, then-sizes-cycle-via-then-sizes-cycle, then-sizes-cycle-via-else-sizes-cycle+then-not-plausible}

formed : (c : In_ok-sizes) → Formed c.args.table.now c.in_ok-sizes.sizes
formed c = table_formed _ (ap sizes_said (sym c.in_ok-sizes.was) ∙ c.sizes.ensures)

pub returns-in_err-sizes : goal.returns-in_err-sizes
returns-in_err-sizes c =
    let a = c.args in
    let p = err_from_is_err_and c.from_residual.result c.from_residual.ensures.1 in
    let unread = table_unread a.table.now a.cycle _ (ap sizes_said (sym c.in_err-sizes.was) ∙ c.sizes.ensures) in
    rw (p.1, p.2) (ap (read_answer a.cycle) (sym unread))

pub returns-then-sizes-cycle : goal.returns-then-sizes-cycle
returns-then-sizes-cycle c =
    let a = c.args in
    let o = formed (goal.at.returns-then-sizes-cycle c).In_ok-sizes in
    elim c.then-sizes-cycle.branch [
      | then-sizes-cycle-via-then-sizes-cycle w ↦ ap (read_answer a.cycle) (sym (other_cycle a.table.now a.cycle _ o w.if-sizes-cycle.true))
      | then-sizes-cycle-via-else-sizes-cycle+then-not-plausible w ↦
          ap (read_answer a.cycle) (sym (not_plausible a.table.now a.cycle _ o w.if-sizes-cycle.false (sym w.plausible.ensures ∙ w.if-not-plausible.true)))
    ]

pub read_rows-requires : goal.read_rows-requires
read_rows-requires c =
    (c.requires.few_jobs, height_few c.args.table.now c.args.cycle _ (formed (goal.at.read_rows-requires c).In_ok-sizes))

pub returns : goal.returns
returns c =
    let a = c.args in
    let o = formed (goal.at.returns c).In_ok-sizes in
    let bytes : Bytes a.table.now = λ i. omega (arith, c.type_inv.table i) in
    let so = sym c.plausible.ensures ∙ c.if-not-plausible.false in
    c.read_rows.ensures ∙ ap (read_answer a.cycle) (sym (rows_judged a.table.now a.cycle _ o c.if-sizes-cycle.false bytes so))
