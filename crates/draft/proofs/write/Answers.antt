-- Each way out is one case of the definition; the plan is written by the writer of planned tables.
use Rattle.std.proofs.Common.{◌≤◌, sym, ◌∙◌, ap, not, arith, length}
use Rattle.std.proofs.lemmas.List.{length-take}
use Rattle.std.proofs.lemmas.Result.{err_from_is_err_and}
use Rattle.cycle.specs.Numbered.{cycle_said}
use Rattle.model.specs.WithinLaws.{Taken, read_taken, read_refused}
use Rattle.draft.specs.LentLaws.{first_down}
use Rattle.draft.specs.MoveLaws.{write_refused, write_lifted, write_unsound, write_done}
use Rattle.draft.proofs.write.Goals as goal
use Rattle.draft.proofs.write.Goals.{In_ok-cycle, then-contains-via-then-contains, then-contains-via-else-contains+then-not-is_sound}

taken : (c : In_ok-cycle) → Taken c.args.request.now c.in_ok-cycle.cycle
taken c = read_taken _ _ (ap cycle_said (sym c.in_ok-cycle.was) ∙ c.read.ensures)

pub returns-in_err-cycle : goal.returns-in_err-cycle
returns-in_err-cycle c =
    let p = err_from_is_err_and c.from_residual.result c.from_residual.ensures.1 in
    rw (p.1, p.2) (write_refused _ _ _ _ (read_refused _ _ (ap cycle_said (sym c.in_err-cycle.was) ∙ c.read.ensures)))

pub slice_bounds-frames-end : goal.slice_bounds-frames-end
slice_bounds-frames-end c = omega (arith, (taken (goal.at.slice_bounds-frames-end c).In_ok-cycle).limits.few_jobs)

pub slice_bounds-contains-end : goal.slice_bounds-contains-end
slice_bounds-contains-end c =
    let few = (taken (goal.at.slice_bounds-contains-end c).In_ok-cycle).limits.few_jobs in
    omega (arith, few, length-take c.in_ok-cycle.cycle.count c.args.draft.frames)

pub returns-then-contains : goal.returns-then-contains
returns-then-contains c =
    let t = taken (goal.at.returns-then-contains c).In_ok-cycle in
    let room : c.in_ok-cycle.cycle.count ≤ length c.args.draft.frames = omega (arith, t.limits.few_jobs) in
    let down = first_down c.in_ok-cycle.cycle.count c.args.draft.frames room c.contains.result c.contains.ensures.value in
    elim c.then-contains.branch [
      | then-contains-via-then-contains w ↦ write_lifted _ _ _ _ t (down ∙ ap not w.if-contains.true)
      | then-contains-via-else-contains+then-not-is_sound w ↦
          write_unsound _ _ _ _ t (down ∙ ap not w.if-contains.false) (sym w.is_sound.ensures ∙ w.if-not-is_sound.true)
    ]

pub write-requires : goal.write-requires
write-requires c =
    (taken (goal.at.write-requires c).In_ok-cycle).limits

pub returns : goal.returns
returns c =
    let t = taken (goal.at.returns c).In_ok-cycle in
    let room : c.in_ok-cycle.cycle.count ≤ length c.args.draft.frames = omega (arith, t.limits.few_jobs) in
    let down = first_down c.in_ok-cycle.cycle.count c.args.draft.frames room c.contains.result c.contains.ensures.value in
    let done = write_done _ _ _ _ t (down ∙ ap not c.if-contains.false) (sym c.is_sound.ensures ∙ c.if-not-is_sound.false) in
    (c.write.ensures.0 ∙ done.0, c.write.ensures.1 ∙ done.1)
