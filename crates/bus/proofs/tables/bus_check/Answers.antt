-- 0, or the check's refusal, which is negated.
use Rattle.std.proofs.Common.{◌∙◌, refl}
use Rattle.request.specs.SectionLaws.{no_zero}
use Rattle.bus.specs.ReplyLaws.{kept}
use Rattle.bus.specs.CheckLaws.{check_refused, check_passed}
use Rattle.bus.proofs.tables.bus_check.Goals as goal

pub returns-in-Ok : goal.returns-in-Ok
returns-in-Ok c = check_passed c.args.request.now c.args.table.now 0 c.in-Ok.ensures refl

pub returns-in-Err : goal.returns-in-Err
returns-in-Err c =
    kept _ c.refused.type_inv ∙ c.refused.ensures
    ∙ check_refused c.args.request.now c.args.table.now _ c.in-Err.ensures (no_zero c.in-Err.refusal)
