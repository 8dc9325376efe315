-- The check reads the plan; each way out is one of the laws of `known`.
use Rattle.std.specs.Prelude.{Ok}
use Rattle.std.proofs.Common.{subst, refl, ◌∙◌}
use Rattle.std.proofs.lemmas.Result.{err_from_is_err_and}
use Rattle.refusal.specs.declared.Refusal.TheVariants.{ShortBuffer}
use Rattle.request.specs.SectionLaws.{no_zero}
use Rattle.checker.specs.ReadLaws.{ReadSays, FoundSays}
use Rattle.job_records.specs.KnownLaws.{refused_said, not_known, too_few, all_known}
use Rattle.job_records.proofs.known.Goals as goal
use Rattle.job_records.proofs.known.Goals.{In_ok-read, In_ok-frames}

-- what the check said of the request that it read,
said : (c : In_ok-read) → ReadSays c.args.request.now c.args.table.now (Ok c.in_ok-read.read)
said c = subst (ReadSays c.args.request.now c.args.table.now) c.in_ok-read.was c.read_plan.ensures

-- and of the plan that it found
found : (c : In_ok-frames) → FoundSays c.args.request.now c.args.table.now c.in_ok-read.read.cycle (Ok (c.in_ok-frames.field-0-0, c.in_ok-frames.frames))
found c = subst (FoundSays c.args.request.now c.args.table.now c.in_ok-read.read.cycle) c.in_ok-frames.was (said (goal.at.In_ok-frames c).In_ok-read)

pub returns-in_err-read : goal.returns-in_err-read
returns-in_err-read c =
    let p = err_from_is_err_and c.from_residual.result c.from_residual.ensures.1 in
    let said = subst (ReadSays c.args.request.now c.args.table.now) c.in_err-read.was c.read_plan.ensures in
    let e = c.in_err-read.field-0.0 in
    rw (p.1, p.2) (refused_said e ∙ not_known _ _ _ _ said (no_zero e))

pub returns-in_err-frames : goal.returns-in_err-frames
returns-in_err-frames c =
    let p = err_from_is_err_and c.from_residual-in_err-frames.result c.from_residual-in_err-frames.ensures.1 in
    let said = subst (FoundSays c.args.request.now c.args.table.now c.in_ok-read.read.cycle) c.in_err-frames.was (said (goal.at.returns-in_err-frames c).In_ok-read) in
    let e = c.in_err-frames.field-0.0 in
    rw (p.1, p.2) (refused_said e ∙ not_known _ _ _ _ said (no_zero e))

pub returns-then-places-cycle : goal.returns-then-places-cycle
returns-then-places-cycle c =
    refused_said ShortBuffer ∙ too_few _ _ _ _ (found (goal.at.returns-then-places-cycle c).In_ok-frames) refl c.if-places-cycle.true

pub returns : goal.returns
returns c = all_known _ _ _ _ (found (goal.at.returns c).In_ok-frames) refl c.if-places-cycle.false
