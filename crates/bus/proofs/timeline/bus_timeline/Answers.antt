-- A refusal, which is negated and leaves the list as it was; or the records, and their number, which is small.
use Rattle.std.proofs.Common.{◌∙◌, arith}
use Rattle.bus.specs.ReplyLaws.{kept}
use Rattle.bus.specs.TimelineLaws.{known, places_there, timeline_refused, timeline_written}
use Rattle.bus.proofs.timeline.bus_timeline.Goals as goal

pub write_records-requires : goal.write_records-requires
write_records-requires c =
    let a = c.args in (
      (known a.request.now a.table.now a.records.now c.in-Ok.known c.in-Ok.ensures).few,
      places_there a.request.now a.table.now a.records.now c.in-Ok.known c.in-Ok.ensures,
    )

pub value-requires : goal.value-requires
value-requires c =
    let a = c.args in
    omega (arith, (known a.request.now a.table.now a.records.now c.in-Ok.known c.in-Ok.ensures).few)

pub returns-in-Ok : goal.returns-in-Ok
returns-in-Ok c =
    let a = c.args in
    let law = timeline_written a.request.now a.table.now a.records.now c.in-Ok.known c.in-Ok.ensures _ c.write_records.ensures in
    (kept _ c.value.type_inv ∙ c.value.ensures ∙ law.0, law.1)

pub returns-in-Err : goal.returns-in-Err
returns-in-Err c =
    let a = c.args in
    let law = timeline_refused a.request.now a.table.now a.records.now c.in-Err.refusal c.in-Err.ensures in
    (kept _ c.refused.type_inv ∙ c.refused.ensures ∙ law.0, law.1)
