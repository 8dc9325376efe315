-- What passes the check was read: so the cycle and the sizes are there. Each way out is one case of the definition.
use Rattle.std.specs.Prelude.{Ok}
use Rattle.std.proofs.Common.{subst, sym, ap, ◌∙◌}
use Rattle.std.proofs.lemmas.Result.{err_from_is_err_and}
use Rattle.request.specs.SectionLaws.{no_zero}
use Rattle.table.specs.Answers.{sizes_said}
use Rattle.checker.specs.ReadLaws.{ReadSays, FoundSays, found_passes, found_cycle, table_refused, refused_number, table_formed}
use Rattle.one_off.specs.Answers.{offer_answer}
use Rattle.one_off.specs.StepLaws.{check_refuses, sizes_there, badly_asked, earliest_answers}
use Rattle.one_off.proofs.one_off.Goals as goal
use Rattle.one_off.proofs.one_off.Goals.{In_ok-read, In_ok-read-2}

-- what the check said of the request that it read,
said : (c : In_ok-read) → ReadSays c.args.request.now c.args.table.now (Ok c.in_ok-read.read)
said c = subst (ReadSays c.args.request.now c.args.table.now) c.in_ok-read.was c.read_plan.ensures

-- and of the plan that it found
found : (c : In_ok-read-2) → FoundSays c.args.request.now c.args.table.now c.in_ok-read.read.cycle (Ok c.in_ok-read-2.field-0)
found c = subst (FoundSays c.args.request.now c.args.table.now c.in_ok-read.read.cycle) c.in_ok-read-2.was (said (goal.at.In_ok-read-2 c).In_ok-read)

pub returns-in_err-read : goal.returns-in_err-read
returns-in_err-read c =
    let a = c.args in
    let p = err_from_is_err_and c.from_residual.result c.from_residual.ensures.1 in
    let said = subst (ReadSays a.request.now a.table.now) c.in_err-read.was c.read_plan.ensures in
    let number = refused_number _ a.table.now _ said in
    rw (p.1, p.2) (ap offer_answer (check_refuses a.length a.from a.until a.request.now a.table.now _ number (no_zero c.in_err-read.field-0.0)))

pub returns-in_err-read-2 : goal.returns-in_err-read-2
returns-in_err-read-2 c =
    let a = c.args in
    let p = err_from_is_err_and c.from_residual-in_err-read-2.result c.from_residual-in_err-read-2.ensures.1 in
    let said = subst (FoundSays a.request.now a.table.now c.in_ok-read.read.cycle) c.in_err-read-2.was (said (goal.at.returns-in_err-read-2 c).In_ok-read) in
    let number = table_refused _ a.table.now _ said in
    rw (p.1, p.2) (ap offer_answer (check_refuses a.length a.from a.until a.request.now a.table.now _ number (no_zero c.in_err-read-2.field-0.0)))

pub returns-then-not-well_asked : goal.returns-then-not-well_asked
returns-then-not-well_asked c =
    let a = c.args in
    let read = found (goal.at.returns-then-not-well_asked c).In_ok-read-2 in
    let bad = sym c.well_asked.ensures ∙ c.if-not-well_asked.true in
    ap offer_answer (badly_asked a.length a.from a.until a.request.now a.table.now (found_passes _ _ read) _ (found_cycle _ a.table.now read) bad)

pub returns-in_err-sizes : goal.returns-in_err-sizes
returns-in_err-sizes c =
    let a = c.args in
    let read = found (goal.at.returns-in_err-sizes c).In_ok-read-2 in
    absurd (sizes_there a.length a.from a.until a.request.now a.table.now (found_passes _ _ read) _ (ap sizes_said (sym c.in_err-sizes.was) ∙ c.sizes.ensures))

pub earliest-requires : goal.earliest-requires
earliest-requires c = table_formed _ (ap sizes_said (sym c.in_ok-sizes.was) ∙ c.sizes.ensures)

pub returns : goal.returns
returns c =
    let a = c.args in
    let read = found (goal.at.returns c).In_ok-read-2 in
    let well = sym c.well_asked.ensures ∙ c.if-not-well_asked.false in
    earliest_answers a.length a.from a.until a.request.now a.table.now (found_passes _ _ read) _ (found_cycle _ a.table.now read) well _ c.earliest.ensures
