-- The three tests are the definition's.
use Rattle.std.proofs.Common.{◌<◌, arith, lt-ltb, le-ltb, le-leb}
use borrow.Author.Tests.{lt-leb}
use Rattle.one_off.specs.OneOff.{well_asked}
use Rattle.one_off.proofs.well_asked.Goals as goal
use Rattle.one_off.proofs.well_asked.Goals.{then-length-ge1, else-length-ge1}

pub returns-then-from-until : goal.returns-then-from-until
unfolding well_asked
returns-then-from-until c =
    let a = c.args in
    rw (c.from.ensures, lt-ltb 0 a.length c.if-from-until.true.0, le-leb a.from a.until c.if-from-until.true.1)

pub returns-else-from-until : goal.returns-else-from-until
unfolding well_asked
returns-else-from-until c =
    let a = c.args in
    elim c.if-length-ge1.branch [
      | then-length-ge1 w ↦
          let turned : a.until < a.from = omega (arith, c.if-from-until.either, w.if-length-ge1.true) in
          let no = lt-leb a.from a.until turned in
          rw (lt-ltb 0 a.length w.if-length-ge1.true, no) (cc)
      | else-length-ge1 w ↦
          let none = lt-leb 1 a.length w.if-length-ge1.false in
          rw (le-ltb 0 a.length (omega (arith, w.if-length-ge1.false))) (cc)
    ]
