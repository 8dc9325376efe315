-- 99 comes first. Then a refusal is negated and changes nothing, and else the counts are written.
use Rattle.std.proofs.Common.{◌∙◌, refl, Ok, Err}
use Rattle.request.specs.SectionLaws.{no_zero}
use Rattle.phases.specs.Numbered.{counts_said}
use Rattle.bus.specs.ReplyLaws.{kept}
use Rattle.bus.specs.PhaseLaws.{no_room, phases_refused, phases_counted}
use Rattle.bus.proofs.requests.bus_phases.Goals as goal

pub returns-then-counts-lt8 : goal.returns-then-counts-lt8
returns-then-counts-lt8 c =
    let a = c.args in
    no_room a.allowance a.request.now a.task a.counts.now c.if-counts-lt8.true

pub returns-in-Ok : goal.returns-in-Ok
returns-in-Ok c =
    let a = c.args in
    let answer = counts_said (Ok c.in-Ok.found) in
    let law = phases_counted a.allowance a.request.now a.task a.counts.now c.if-counts-lt8.false answer c.in-Ok.ensures refl in
    (law.0, c.write_phases.ensures ∙ law.1)

pub returns-in-Err : goal.returns-in-Err
returns-in-Err c =
    let a = c.args in
    let answer = counts_said (Err c.in-Err.refusal) in
    let law = phases_refused a.allowance a.request.now a.task a.counts.now c.if-counts-lt8.false answer c.in-Err.ensures (no_zero c.in-Err.refusal) in
    (kept _ c.refused.type_inv ∙ c.refused.ensures ∙ law.0, law.1)
