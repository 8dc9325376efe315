-- A refusal is the table reader's, or 15 where the table has no such row; a row that is there is the definition's, with or without its carried entries by the mark.
use Rattle.std.specs.Prelude.{◌≡◌}
use Rattle.std.proofs.Common.{refl}
use Rattle.std.proofs.Common.{◌∙◌}
use Rattle.std.proofs.lemmas.Result.{err_from_is_err_and}
use Rattle.request.specs.SectionLaws.{no_zero}
use Rattle.table.specs.Table.{decode}
use Rattle.table.specs.Answers.{sizes_of, sizes_ok, row_ok}
use Rattle.table.specs.AnswerLaws.{RowFound, row_found}
use Rattle.dispatcher.specs.StepLaws.{form_refused, row_missing, few_entries, row_below, first_frame, later_frame}
use Rattle.dispatcher.proofs.next_frame.Goals as goal
use Rattle.dispatcher.proofs.next_frame.Goals.{In_ok-sizes, In-Some}

sizes_are : (c : In_ok-sizes) → sizes_ok c.in_ok-sizes.sizes ≡ sizes_of (decode c.args.table.now)
sizes_are c = rw c.in_ok-sizes.was at c.row_and_sizes.ensures.0

there : (c : In-Some) → RowFound c.args.table.now c.args.state.row (row_ok c.in-Some.row)
there c = row_found _ _ _ (rw (c.in_ok-sizes.was, c.in-Some.is) at c.row_and_sizes.ensures.1) refl

pub returns-in_err-sizes : goal.returns-in_err-sizes
returns-in_err-sizes c =
    let p = err_from_is_err_and c.from_residual.result c.from_residual.ensures.1 in
    rw (p.1, p.2) (form_refused _ _ _ (rw c.in_err-sizes.was at c.row_and_sizes.ensures.0) (no_zero c.in_err-sizes.field-0.0))

pub returns-in_default : goal.returns-in_default
returns-in_default c = row_missing _ _ (rw (c.in_ok-sizes.was, c.in_default.is) at c.row_and_sizes.ensures.1)

pub move_on-after-requires : goal.move_on-after-requires
move_on-after-requires c =
    row_below _ c.args.state _ (there (goal.at.move_on-after-requires c).In-Some) _ (sizes_are (goal.at.move_on-after-requires c).In_ok-sizes)

pub without_carried-kept-requires : goal.without_carried-kept-requires
without_carried-kept-requires c = few_entries _ c.args.state _ (there (goal.at.without_carried-kept-requires c).In-Some)

pub returns-then-state : goal.returns-then-state
returns-then-state c =
    c.frame_of.ensures
    ∙ rw c.move_on-after.ensures
    (first_frame _ c.args.state _ (there (goal.at.returns-then-state c).In-Some) _ (sizes_are (goal.at.returns-then-state c).In_ok-sizes) _ c.if-state.true
    c.without_carried-kept.ensures)

pub returns : goal.returns
returns c =
    c.frame_of-2.ensures
    ∙ rw c.move_on-after.ensures
    (later_frame _ c.args.state _ (there (goal.at.returns c).In-Some) _ (sizes_are (goal.at.returns c).In_ok-sizes) c.if-state.false)
