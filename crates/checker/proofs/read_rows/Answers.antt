-- Each way out is one case of the definition's tests.
use Rattle.std.proofs.Common.{◌≡◌, sym, ◌∙◌, ap, arith, length}
use Rattle.cycle.specs.Planned.{no_job}
use Rattle.plan_rules.specs.Slices.{firsts_take}
use Rattle.checker.specs.Answers.{read_answer}
use Rattle.checker.specs.ReadLaws.{job_missing, entry_wrong, rule_broken, plan_read_lem}
use Rattle.checker.proofs.read_rows.Goals as goal

pub returns-in_default : goal.returns-in_default
returns-in_default c =
    let a = c.args in
    let jobs : length a.cycle.jobs ≡ 128 = omega arith in
    let missing =
    job_missing a.cycle c.requires.0 a.table.now a.height a.f _ (sym (firsts_take no_job a.cycle.jobs a.cycle.count (omega arith))) _ c.read_frames.ensures
    c.in_default.is in
    ap (read_answer a.cycle) (sym missing)

pub returns-then-not-rows_kept : goal.returns-then-not-rows_kept
returns-then-not-rows_kept c =
    let a = c.args in
    let jobs : length a.cycle.jobs ≡ 128 = omega arith in
    let places : length c.in-Some.frames ≡ 128 = omega arith in
    let wrong =
    entry_wrong a.cycle c.requires.0 a.table.now a.height a.f _ (sym (firsts_take no_job a.cycle.jobs a.cycle.count (omega arith))) _ c.read_frames.ensures
    c.in-Some.frames c.in-Some.is _ (sym (firsts_take 0 c.in-Some.frames a.cycle.count (omega arith))) (sym c.rows_kept.ensures ∙ c.if-not-rows_kept.true) in
    ap (read_answer a.cycle) (sym wrong)

pub returns-then-not-rules_kept : goal.returns-then-not-rules_kept
returns-then-not-rules_kept c =
    let a = c.args in
    let jobs : length a.cycle.jobs ≡ 128 = omega arith in
    let places : length c.in-Some.frames ≡ 128 = omega arith in
    let wrong =
    rule_broken a.cycle c.requires.0 a.table.now a.height a.f _ (sym (firsts_take no_job a.cycle.jobs a.cycle.count (omega arith))) _ c.read_frames.ensures
    c.in-Some.frames c.in-Some.is _ (sym (firsts_take 0 c.in-Some.frames a.cycle.count (omega arith))) (sym c.rows_kept.ensures ∙ c.if-not-rows_kept.false)
    (sym c.rules_kept.ensures ∙ c.if-not-rules_kept.true) in
    ap (read_answer a.cycle) (sym wrong)

pub returns : goal.returns
returns c =
    let a = c.args in
    let jobs : length a.cycle.jobs ≡ 128 = omega arith in
    let places : length c.in-Some.frames ≡ 128 = omega arith in
    plan_read_lem a.cycle c.requires.0 a.table.now a.height a.f _ (sym (firsts_take no_job a.cycle.jobs a.cycle.count (omega arith))) _ c.read_frames.ensures
    c.in-Some.frames c.in-Some.is _ (sym (firsts_take 0 c.in-Some.frames a.cycle.count (omega arith))) (sym c.rows_kept.ensures ∙ c.if-not-rows_kept.false)
    (sym c.rules_kept.ensures ∙ c.if-not-rules_kept.false)
