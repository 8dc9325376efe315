-- The answer of `known` is what filling goes by: few enough jobs for its arrays and for the records that are lent; each turn fills the next place.
use Rattle.std.proofs.Common.{length, arith, length-set, sym, ap, ◌∙◌}
use Rattle.std.proofs.lemmas.Result.{err_from_is_err_and}
use Rattle.job_records.specs.Timeline.{filling}
use Rattle.job_records.specs.Numbered.{known_said}
use Rattle.job_records.specs.KnownLaws.{KnownFor, known_for}
use Rattle.job_records.specs.FillLaws.{filling_few, fill_more, fill_end, fill_answer, fill_refused}
use Rattle.job_records.proofs.fill.Goals as goal
use Rattle.job_records.proofs.fill.Goals.{In_ok-known}

known_so : (c : In_ok-known) → let a = c.args in KnownFor (filling a.request.now a.table.now (length a.records.now)) c.in_ok-known.known
known_so c =
    let a = c.args in
    known_for a.request.now a.table.now (length a.records.now) _ (ap known_said (sym c.in_ok-known.was) ∙ c.known.ensures)

pub returns-in_err-known : goal.returns-in_err-known
returns-in_err-known c =
    let a = c.args in
    let p = err_from_is_err_and c.from_residual.result c.from_residual.ensures.1 in
    let tl = filling a.request.now a.table.now (length a.records.now) in
    rw (p.1, p.2) (fill_refused tl a.records.now _ (ap known_said (sym c.in_err-known.was) ∙ c.known.ensures))

pub record_at-requires : goal.record_at-requires
record_at-requires c =
    let a = c.args in
    let k = known_so (goal.at.record_at-requires c).In_ok-known in
    omega (arith, k.few, k.count_is)

pub bounds-records-i : goal.bounds-records-i
bounds-records-i c =
    let a = c.args in
    let k = known_so (goal.at.bounds-records-i c).In_ok-known in
    omega (arith, k.count_is, filling_few a.request.now a.table.now (length a.records.now))

pub loop-i-preserved : goal.loop-i-preserved
loop-i-preserved c =
    let a = c.args in
    let l = c.loop-i in
    let tl = filling a.request.now a.table.now (length a.records.now) in
    let k = known_so (goal.at.loop-i-preserved c).In_ok-known in
    let few = filling_few a.request.now a.table.now (length a.records.now) in (
      length-set l.records l.i c.record_at.result ∙ l.invariant.0,
      rw (l.invariant.1, c.record_at.ensures) (fill_more tl a.records.now c.in_ok-known.known k l.i few c.loop-i-test.true),
    )

pub returns : goal.returns
returns c =
    let a = c.args in
    let l = c.loop-i in
    let tl = filling a.request.now a.table.now (length a.records.now) in
    let k = known_so (goal.at.returns c).In_ok-known in (
      fill_answer tl a.records.now c.in_ok-known.known k,
      l.invariant.1 ∙ fill_end tl a.records.now c.in_ok-known.known k l.i (omega arith) c.loop-i-test.false,
    )
