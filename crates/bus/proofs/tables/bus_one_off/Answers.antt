-- The frame that is found, a small number, or a refusal, which is negated.
use Rattle.std.proofs.Common.{ap, ◌∙◌, pos, refl, Ok, Err}
use Rattle.request.specs.SectionLaws.{no_zero}
use Rattle.one_off.specs.Numbered.{found_said}
use Rattle.bus.specs.ReplyLaws.{kept}
use Rattle.bus.specs.OneOffLaws.{one_off_refused, one_off_found}
use Rattle.bus.proofs.tables.bus_one_off.Goals as goal

pub returns-in-Ok : goal.returns-in-Ok
returns-in-Ok c =
    let a = c.args in
    kept _ c.value.type_inv ∙ c.value.ensures ∙ ap pos c.from.ensures
    ∙ one_off_found a.length a.from a.until a.request.now a.table.now (found_said (Ok c.in-Ok.frame)) c.in-Ok.ensures refl

pub returns-in-Err : goal.returns-in-Err
returns-in-Err c =
    let a = c.args in
    let answer = found_said (Err c.in-Err.refusal) in
    kept _ c.refused.type_inv ∙ c.refused.ensures
    ∙ one_off_refused a.length a.from a.until a.request.now a.table.now answer c.in-Err.ensures (no_zero c.in-Err.refusal)
