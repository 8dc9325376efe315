-- The check reads the plan, and the plan is written; each way out is one of the definition's cases.
use Rattle.std.specs.Prelude.{Ok}
use Rattle.std.proofs.Common.{subst, refl, ◌∙◌}
use Rattle.std.proofs.lemmas.Result.{err_from_is_err_and}
use Rattle.request.specs.SectionLaws.{no_zero}
use Rattle.checker.specs.ReadLaws.{ReadSays, FoundSays}
use Rattle.rewriter.specs.RewriteLaws.{not_read, cycle_read, was_read}
use Rattle.rewriter.proofs.rewrite.Goals as goal
use Rattle.rewriter.proofs.rewrite.Goals.{In_ok-read, In_ok-f}

-- what the check said of the request that it read,
said : (c : In_ok-read) → ReadSays c.args.request.now c.args.table.now (Ok c.in_ok-read.read)
said c = subst (ReadSays c.args.request.now c.args.table.now) c.in_ok-read.was c.read_plan.ensures

-- and of the plan that it found
found : (c : In_ok-f) → FoundSays c.args.request.now c.args.table.now c.in_ok-read.read.cycle (Ok (c.in_ok-f.f, c.in_ok-f.frames))
found c = subst (FoundSays c.args.request.now c.args.table.now c.in_ok-read.read.cycle) c.in_ok-f.was (said (goal.at.In_ok-f c).In_ok-read)

pub returns-in_err-read : goal.returns-in_err-read
returns-in_err-read c =
    let p = err_from_is_err_and c.from_residual.result c.from_residual.ensures.1 in
    let said = subst (ReadSays c.args.request.now c.args.table.now) c.in_err-read.was c.read_plan.ensures in
    rw (p.1, p.2) (not_read _ _ _ said _ (no_zero c.in_err-read.field-0.0))

pub returns-in_err-f : goal.returns-in_err-f
returns-in_err-f c =
    let p = err_from_is_err_and c.from_residual-in_err-f.result c.from_residual-in_err-f.ensures.1 in
    let said = subst (FoundSays c.args.request.now c.args.table.now c.in_ok-read.read.cycle) c.in_err-f.was (said (goal.at.returns-in_err-f c).In_ok-read) in
    rw (p.1, p.2) (not_read _ _ _ said _ (no_zero c.in_err-f.field-0.0))

pub write-requires : goal.write-requires
write-requires c = cycle_read _ _ _ (found (goal.at.write-requires c).In_ok-f) refl

pub returns : goal.returns
returns c =
    let read = was_read _ _ _ (found (goal.at.returns c).In_ok-f) refl _ in
    (c.write.ensures.0 ∙ read.0, c.write.ensures.1 ∙ read.1)
