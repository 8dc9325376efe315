-- The link is read, one frame is served, and only an answer without a refusal is written: the entries first, then the heater.
use Rattle.std.proofs.Common.{◌≡◌, sym, ◌∙◌, true, refl, inl, inr, arith, Ok, Err}
use Rattle.request.specs.SectionLaws.{no_zero}
use Rattle.heater_link.specs.Numbered.{exchange_said}
use Rattle.heater_link.specs.StepLaws.{few_entries}
use Rattle.lent.specs.HeaterBytes.{is_heater, link_of}
use Rattle.lent.specs.HeaterByteLaws.{heater_long}
use Rattle.bus.specs.ReplyLaws.{kept}
use Rattle.bus.specs.Heater.{heater_exchange}
use Rattle.bus.specs.HeaterLaws.{no_heater, heater_no_room, exchange_refused, exchange_made}
use Rattle.bus.proofs.heater.bus_heater_serve.Goals as goal
use Rattle.bus.proofs.heater.bus_heater_serve.Goals.{After-serve, Else-entries-lt32}

-- the lent bytes are a heater
a-heater : (c : Else-entries-lt32) → is_heater c.args.heater.now ≡ true
a-heater c = sym c.is_heater.ensures ∙ c.if-not-is_heater.false

-- the link's answer on that heater
answer_is : (c : After-serve)
    → let a = c.args in
    exchange_said (link_of a.heater.now) c.serve.result ≡ heater_exchange a.request.now a.table.now a.a a.b a.lost a.heater.now a.entries.now
answer_is c = rw (c.told.ensures, c.read_link-old.ensures) at c.serve.ensures

pub returns-then-not-is_heater : goal.returns-then-not-is_heater
returns-then-not-is_heater c =
    let a = c.args in
    elim c.then-not-is_heater.either [
      | inl other ↦ no_heater a.request.now a.table.now a.a a.b a.lost a.heater.now a.entries.now (sym c.is_heater.ensures ∙ other)
      | inr few ↦ heater_no_room a.request.now a.table.now a.a a.b a.lost a.heater.now a.entries.now (sym c.is_heater.ensures ∙ few.0) few.1
    ]

pub read_link-old-requires : goal.read_link-old-requires
read_link-old-requires c = heater_long _ (a-heater c)

pub write_heater-requires : goal.write_heater-requires
write_heater-requires c = heater_long _ (a-heater (goal.at.write_heater-requires c).Else-entries-lt32)

pub value-requires : goal.value-requires
value-requires c =
    let a = c.args in
    omega (arith, rw (← c.in-Ok.ensures) at (few_entries a.a a.b c.told.result a.request.now a.table.now c.read_link-old.result))

pub returns-in-Ok : goal.returns-in-Ok
returns-in-Ok c =
    let a = c.args in
    let law = exchange_made a.request.now a.table.now a.a a.b a.lost a.heater.now a.entries.now (a-heater (goal.at.returns-in-Ok c).Else-entries-lt32)
    c.if-entries-lt32.false (exchange_said (link_of a.heater.now) (Ok c.in-Ok.served)) (rw c.in-Ok.is at (answer_is (goal.at.returns-in-Ok c).After-serve))
    refl in (
      kept _ c.value.type_inv ∙ c.value.ensures ∙ law.0,
      c.write_heater.ensures ∙ law.1,
      c.write_pairs.ensures ∙ law.2,
    )

pub returns-in-Err : goal.returns-in-Err
returns-in-Err c =
    let a = c.args in
    let law = exchange_refused a.request.now a.table.now a.a a.b a.lost a.heater.now a.entries.now (a-heater (goal.at.returns-in-Err c).Else-entries-lt32)
    c.if-entries-lt32.false (exchange_said (link_of a.heater.now) (Err c.in-Err.refusal))
    (rw c.in-Err.is at (answer_is (goal.at.returns-in-Err c).After-serve)) (no_zero c.in-Err.refusal) in
    (kept _ c.refused.type_inv ∙ c.refused.ensures ∙ law.0, law.1, law.2)
