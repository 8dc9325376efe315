-- A job that is known may be moved where the draft is sound.
use Rattle.std.proofs.Common.{◌∙◌, arith, le-ltb}
use Rattle.draft.specs.MoveLaws.{unknown, sound_decides}
use Rattle.draft.proofs.can_move.Goals as goal

pub returns-then-y-min : goal.returns-then-y-min
returns-then-y-min c =
    let a = c.args in
    c.is_sound.ensures ∙ sound_decides a.cycle a.draft a.y (omega (arith, c.min.ensures, c.if-y-min.true))

pub returns-else-y-min : goal.returns-else-y-min
returns-else-y-min c =
    let a = c.args in
    le-ltb _ _ c.if-y-min.false ∙ unknown a.cycle a.draft a.y (omega (arith, c.min.ensures, c.if-y-min.false))
