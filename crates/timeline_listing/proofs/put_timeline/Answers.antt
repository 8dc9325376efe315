-- The lines of the records and then that of the busy ticks: what `known` gives are the records of the definition, what is read are its tasks.
use Rattle.std.specs.Prelude.{Ok, ◌≡◌}
use Rattle.std.proofs.Common.{refl, sym, ap, ◌∙◌, inl}
use Rattle.std.proofs.lemmas.Result.{err_from_is_err_and}
use Rattle.request.specs.Request.{reading}
use Rattle.request.specs.Answers.{request_answered}
use Rattle.request.specs.Numbered.{request_said}
use Rattle.text.specs.Text.{filled_to, put_all_of}
use Rattle.text.specs.TextLaws.{put_append}
use Rattle.plan_listing.specs.ListingLaws.{tasks_size}
use Rattle.job_records.specs.Timeline.{filling}
use Rattle.job_records.specs.KnownLaws.{KnownFor, known_for}
use Rattle.job_records.specs.Numbered.{JobsKnown}
use Rattle.timeline_listing.specs.PutLaws.{lines_are}
use Rattle.timeline_listing.proofs.put_timeline.Goals as goal
use Rattle.timeline_listing.proofs.put_timeline.Goals.{In_ok-read}

known : (c : In_ok-read) → KnownFor (filling c.args.request.now c.args.table.now 128) c.in_ok-known.known
known c = known_for c.args.request.now c.args.table.now 128 _ (rw c.in_ok-known.was at c.known.ensures)

was_read : (c : In_ok-read) → request_said (Ok c.in_ok-read.read) ≡ request_answered (reading c.args.request.now)
was_read c = rw c.in_ok-read.was at c.read.ensures

pub returns-in_err-known : goal.returns-in_err-known
returns-in_err-known c =
    let p = err_from_is_err_and c.from_residual.result c.from_residual.ensures.1 in
    rw (p.1, p.2) (refl, inl (ap (λ (k : JobsKnown). k.refusal) (rw c.in_err-known.was at c.known.ensures)))

pub put_records-end-requires : goal.put_records-end-requires
put_records-end-requires c = (known (goal.at.put_records-end-requires c).In_ok-read).few

pub busy-requires : goal.busy-requires
busy-requires c =
    let read = (goal.at.busy-requires c).In_ok-read in
    ((known read).few, tasks_size _ _ (was_read read))

pub returns : goal.returns
returns c =
    let s = c.args in
    let read = (goal.at.returns c).In_ok-read in
    let are = lines_are s.request.now _ (was_read read) _ c.in_ok-known.known (known read) in
    rw (c.put_busy.ensures, c.busy.ensures, c.put_records-end.ensures) (sym (put_append _ _ _) ∙ ap (put_all_of (filled_to 0 s.out.now)) are)
