-- Each way out is one case of the definition.
use Rattle.std.proofs.Common.{sym, ap, ◌∙◌}
use Rattle.std.proofs.lemmas.Result.{err_from_is_err_and}
use Rattle.cycle.specs.Numbered.{cycle_said}
use Rattle.model.specs.WithinLaws.{Taken, read_taken, read_refused}
use Rattle.draft.specs.MoveLaws.{movable, in_range, put_refused, put_not, put_placed, put_done}
use Rattle.draft.proofs.put.Goals as goal
use Rattle.draft.proofs.put.Goals.{In_ok-cycle, then-not-can_move-via-then-not-can_move, then-not-can_move-via-else-not-can_move+then-draft-y}

taken : (c : In_ok-cycle) → Taken c.args.request.now c.in_ok-cycle.cycle
taken c = read_taken _ _ (ap cycle_said (sym c.in_ok-cycle.was) ∙ c.read.ensures)

pub returns-in_err-cycle : goal.returns-in_err-cycle
returns-in_err-cycle c =
    let p = err_from_is_err_and c.from_residual.result c.from_residual.ensures.1 in
    rw (p.1, p.2) (put_refused _ _ _ _ _ (read_refused _ _ (ap cycle_said (sym c.in_err-cycle.was) ∙ c.read.ensures)))

pub returns-then-not-can_move : goal.returns-then-not-can_move
returns-then-not-can_move c =
    let t = taken (goal.at.returns-then-not-can_move c).In_ok-cycle in
    rw (← c.from-y.ensures)
    (elim c.then-not-can_move.branch [
      | then-not-can_move-via-then-not-can_move w ↦ put_not _ _ _ _ t _ (sym c.can_move.ensures ∙ w.if-not-can_move.true)
      | then-not-can_move-via-else-not-can_move+then-draft-y w ↦
          put_placed _ _ _ _ t (sym c.can_move.ensures ∙ w.if-not-can_move.false) _ w.if-draft-y.true
    ])

pub bounds-draft-y : goal.bounds-draft-y
bounds-draft-y c =
    let t = taken (goal.at.bounds-draft-y c).In_ok-cycle in
    in_range _ _ _ (movable _ _ _ _ t (sym c.can_move.ensures ∙ c.if-not-can_move.false))

pub put_there-requires : goal.put_there-requires
put_there-requires c =
    let t = taken (goal.at.put_there-requires c).In_ok-cycle in
    movable _ _ _ _ t (sym c.can_move.ensures ∙ c.if-not-can_move.false)

pub returns : goal.returns
returns c =
    let t = taken (goal.at.returns c).In_ok-cycle in
    let can = sym c.can_move.ensures ∙ c.if-not-can_move.false in
    rw (← c.from-y.ensures) (c.put_there.ensures ∙ put_done _ _ _ _ t can _ c.if-draft-y.false)
