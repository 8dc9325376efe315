-- The tests of the function are the definition's.
use Rattle.std.proofs.Common.{◌∙◌, sym, arith}
use Rattle.problem.specs.LinkLaws.{first_linked, first_not_before, second_linked, second_not_before, not_linked}
use Rattle.problem.proofs.link_by.Goals as goal

pub returns-in_err-first : goal.returns-in_err-first
returns-in_err-first c =
    let a = c.args in
    rw c.from_residual.ensures (first_not_before a.jobs.now a.y a.pair (omega arith) c.if-job-pair.true (sym c.place_of.ensures ∙ c.in_err-first.was))

pub returns-then-job-pair : goal.returns-then-job-pair
returns-then-job-pair c =
    let a = c.args in
    first_linked a.jobs.now a.y a.pair (omega arith) c.if-job-pair.true (sym c.place_of.ensures ∙ c.in_ok-first.was)

pub returns-in_err-second : goal.returns-in_err-second
returns-in_err-second c =
    let a = c.args in
    rw c.from_residual-in_err-second.ensures (second_not_before a.jobs.now a.y a.pair (omega arith) c.if-job-pair.false c.if-job-pair-2.true (sym c.place_of-then-job-pair-2.ensures ∙ c.in_err-second.was))

pub returns-then-job-pair-2 : goal.returns-then-job-pair-2
returns-then-job-pair-2 c =
    let a = c.args in
    second_linked a.jobs.now a.y a.pair (omega arith) c.if-job-pair.false c.if-job-pair-2.true (sym c.place_of-then-job-pair-2.ensures ∙ c.in_ok-second.was)

pub returns : goal.returns
returns c = not_linked c.args.jobs.now c.args.y c.args.pair c.if-job-pair.false c.if-job-pair-2.false
