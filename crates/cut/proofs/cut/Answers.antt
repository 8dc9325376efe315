-- The request is read, the cut is judged, and the cut request is written; each way out is one of the definition's cases.
use Rattle.std.specs.Prelude.{◌<◌, Ok, length, take}
use Rattle.std.proofs.Common.{refl, sym, ap, ◌∙◌, arith, length-take}
use Rattle.std.proofs.lemmas.Result.{err_from_is_err_and}
use Rattle.request.specs.Numbered.{request_said}
use Rattle.request.specs.Places.{ReadAs, read_as, counts_few}
use Rattle.request.specs.SectionLaws.{no_zero}
use Rattle.cut.specs.CutLaws.{was_refused, not_cut, tasks_full, pairs_full, can_means, few_taken, was_cut}
use Rattle.cut.proofs.cut.Goals as goal
use Rattle.cut.proofs.cut.Goals.{Else-x-eq16-2, In_ok-x}

was_read : (c : In_ok-x) → ReadAs c.args.request.now (request_said (Ok c.in_ok-x.x))
was_read c = read_as _ _ (ap request_said (sym c.in_ok-x.was) ∙ c.read.ensures) refl

few : (c : Else-x-eq16-2) → let x = c.in_ok-x.x in
    (x.n < 16) × (x.m < 16)
few c =
    let most = counts_few _ _ (was_read (goal.at.Else-x-eq16-2 c).In_ok-x) in
    (omega (arith, most.0), omega (arith, most.1))

pub returns-in_err-x : goal.returns-in_err-x
returns-in_err-x c =
    let p = err_from_is_err_and c.from_residual.result c.from_residual.ensures.1 in
    rw (p.1, p.2) (was_refused _ _ _ _ _ (ap request_said (sym c.in_err-x.was) ∙ c.read.ensures) (no_zero c.in_err-x.field-0.0))

pub shared_ref_as_front-tasks : goal.shared_ref_as_front-tasks
shared_ref_as_front-tasks c = (counts_few _ _ (was_read (goal.at.shared_ref_as_front-tasks c).In_ok-x)).0

pub returns-then-not-can_cut : goal.returns-then-not-can_cut
returns-then-not-can_cut c = not_cut _ _ _ _ _ (was_read (goal.at.returns-then-not-can_cut c).In_ok-x) _ c.can_cut.ensures c.if-not-can_cut.true

pub returns-then-x-eq16 : goal.returns-then-x-eq16
returns-then-x-eq16 c = tasks_full _ _ _ _ _ (was_read (goal.at.returns-then-x-eq16 c).In_ok-x) _ c.can_cut.ensures c.if-not-can_cut.false c.if-x-eq16.true

pub returns-then-x-eq16-2 : goal.returns-then-x-eq16-2
returns-then-x-eq16-2 c =
    pairs_full _ _ _ _ _ (was_read (goal.at.returns-then-x-eq16-2 c).In_ok-x) _ c.can_cut.ensures c.if-not-can_cut.false c.if-x-eq16.false c.if-x-eq16-2.true

pub cut_tasks-pieces-requires : goal.cut_tasks-pieces-requires
cut_tasks-pieces-requires c =
    let can = can_means _ _ _ (sym c.can_cut.ensures ∙ c.if-not-can_cut.false) in
    (simp length-take (omega (arith, (few c).0)), can.0, can.2)

pub shared_ref_as_front-cut_pairs : goal.shared_ref_as_front-cut_pairs
shared_ref_as_front-cut_pairs c = (counts_few _ _ (was_read (goal.at.shared_ref_as_front-cut_pairs c).In_ok-x)).1

pub cut_pairs-links-requires : goal.cut_pairs-links-requires
cut_pairs-links-requires c =
    let can = can_means _ _ _ (sym c.can_cut.ensures ∙ c.if-not-can_cut.false) in
    let h = few (goal.at.cut_pairs-links-requires c).Else-x-eq16-2 in
    let known : c.args.task < length (take c.in_ok-x.x.n c.in_ok-x.x.tasks) = can.0 in
    (simp length-take (omega (arith, h.1)), omega (arith, simp length-take at known, h.0), few_taken _ _ (was_read (goal.at.cut_pairs-links-requires c).In_ok-x))

pub returns : goal.returns
returns c =
    let done = was_cut _ _ _ _ _ (was_read (goal.at.returns c).In_ok-x) _ c.can_cut.ensures c.if-not-can_cut.false c.if-x-eq16.false c.if-x-eq16-2.false _ _
    c.cut_tasks-pieces.ensures c.cut_pairs-links.ensures in
    (c.write.ensures.0 ∙ done.0, c.write.ensures.1 ∙ done.1)
