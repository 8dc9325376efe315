-- The line of the sizes and then those of the rows; what is read of the table and of the request are the table and the tasks of the definition.
use Rattle.std.specs.Prelude.{Ok, ◌≡◌}
use Rattle.std.proofs.Common.{refl, sym, ap, ◌∙◌, inl}
use Rattle.std.proofs.lemmas.Result.{err_from_is_err_and}
use Rattle.request.specs.Request.{reading}
use Rattle.request.specs.Answers.{request_answered}
use Rattle.request.specs.Numbered.{request_said}
use Rattle.request.specs.SectionLaws.{no_zero}
use Rattle.table.specs.Table.{decode}
use Rattle.table.specs.Answers.{sizes_ok}
use Rattle.text.specs.Text.{filled_to, put_all_of}
use Rattle.text.specs.TextLaws.{put_append}
use Rattle.plan_listing.specs.Answers.{table_in}
use Rattle.plan_listing.specs.ListingLaws.{SizesRead, sizes_read, sizes_refused_lem, tasks_size, table_lines_lem}
use Rattle.plan_listing.proofs.rows.put_table.Goals as goal
use Rattle.plan_listing.proofs.rows.put_table.Goals.{In_ok-read}

sizes_are : (c : In_ok-read) → SizesRead (table_in (decode c.args.table.now)) (sizes_ok c.in_ok-sizes.sizes)
sizes_are c = sizes_read _ _ (rw c.in_ok-sizes.was at c.sizes.ensures)

was_read : (c : In_ok-read) → request_said (Ok c.in_ok-read.read) ≡ request_answered (reading c.args.request.now)
was_read c = rw c.in_ok-read.was at c.read.ensures

pub returns-in_err-sizes : goal.returns-in_err-sizes
returns-in_err-sizes c =
    let p = err_from_is_err_and c.from_residual.result c.from_residual.ensures.1 in
    rw (p.1, p.2) (refl, inl (sizes_refused_lem _ _ (rw c.in_err-sizes.was at c.sizes.ensures) (no_zero c.in_err-sizes.field-0.0)))

pub put_rows-requires : goal.put_rows-requires
put_rows-requires c =
    let read = (goal.at.put_rows-requires c).In_ok-read in
    ((sizes_are read).height_is, tasks_size _ _ (was_read read))

pub returns : goal.returns
returns c =
    let s = c.args in
    let read = (goal.at.returns c).In_ok-read in
    let t = table_in (decode s.table.now) in
    let lines = table_lines_lem s.request.now _ (was_read read) t _ (sizes_are read) in
    rw (c.put_rows.ensures, c.put_head-head.ensures) (sym (put_append _ _ _) ∙ ap (put_all_of (filled_to 0 s.out.now)) lines)
