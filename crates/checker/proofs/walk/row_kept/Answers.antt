-- The entries left decide.
use Rattle.std.proofs.Common.{◌≡◌, ◌+◌, ◌*◌, sym, ◌∙◌, arith, length}
use Rattle.table.specs.Table.{entry_of}
use Rattle.checker.specs.Checked.{entry_kept}
use Rattle.checker.specs.WalkLaws.{entry_kept_lem, entry_broken, entries_done}
use Rattle.checker.proofs.walk.row_kept.Goals as goal

pub returns-then-not-is_there : goal.returns-then-not-is_there
unfolding entry_kept entry_of
returns-then-not-is_there c =
    let l = c.loop-e in
    let a = c.args in
    let e = rw (c.frame-k.ensures, c.is_carried.ensures, c.number.ensures, c.byte_or_zero-task.ensures, c.byte_or_zero-byte.ensures, c.from.ensures)
    at (sym c.is_there.ensures ∙ c.if-not-is_there.true) in
    entry_broken a.jobs.now a.frames.now (length a.jobs.now) a.height a.table.now a.row a.n l.e (a.first + 2 * l.e) c.loop-e-test.true e ∙ l.invariant

pub loop-e-preserved : goal.loop-e-preserved
unfolding entry_kept entry_of
loop-e-preserved c =
    let l = c.loop-e in
    let a = c.args in
    let e = rw (c.frame-k.ensures, c.is_carried.ensures, c.number.ensures, c.byte_or_zero-task.ensures, c.byte_or_zero-byte.ensures, c.from.ensures)
    at (sym c.is_there.ensures ∙ c.if-not-is_there.false) in
    let next : a.first + 2 * (l.e + 1) ≡ a.first + 2 * l.e + 2 = omega arith in
    let kept = entry_kept_lem a.jobs.now a.frames.now (length a.jobs.now) a.height a.table.now a.row a.n l.e (a.first + 2 * l.e) c.loop-e-test.true e in
    rw next (kept ∙ l.invariant)

pub returns : goal.returns
returns c =
    let l = c.loop-e in
    let a = c.args in
    entries_done a.jobs.now a.frames.now (length a.jobs.now) a.height a.table.now a.row a.n l.e (a.first + 2 * l.e) c.loop-e-test.false ∙ l.invariant
