-- The three tests are the definition's; a product of two u16 fits a u32, and the last sum a u64.
use Rattle.std.proofs.Common.{sym, ◌∙◌, leb-true, leb-false}
use Rattle.std.proofs.lemmas.Bool.{false≢true}
use borrow.Author.Tests.{lt-leb}
use Rattle.one_off.specs.StepLaws.{too_early, too_late, room_decides}
use Rattle.one_off.proofs.fits.Goals as goal
use Rattle.one_off.proofs.fits.Goals.{then-start-from, else-start-from}

pub returns-then-start-frame : goal.returns-then-start-frame
returns-then-start-frame c =
    let a = c.args in
    elim c.if-start-from.branch [
      | then-start-from w ↦
          let early = rw (c.from.ensures, c.from-frame.ensures) at w.if-start-from.true in
          let late = rw (c.from.ensures, c.from-frame.ensures) at (leb-true _ _ (sym w.value-is ∙ c.if-start-frame.true)) in
          rw (c.from-2.ensures, c.from-3.ensures, c.from-then-start-frame.ensures) (room_decides a.length a.from a.until a.f a.g a.used a.k early late)
      | else-start-from w ↦ absurd (false≢true (sym (lt-leb _ _ w.if-start-from.false) ∙ sym w.value-is ∙ c.if-start-frame.true))
    ]

pub returns-else-start-frame : goal.returns-else-start-frame
returns-else-start-frame c =
    let a = c.args in
    c.if-start-frame.false
    ∙ elim c.if-start-from.branch [
      | then-start-from w ↦
          let early = rw (c.from.ensures, c.from-frame.ensures) at w.if-start-from.true in
          let late = rw (c.from.ensures, c.from-frame.ensures) at (leb-false _ _ (sym w.value-is ∙ c.if-start-frame.false)) in
          too_late a.length a.from a.until a.f a.g a.used a.k early late
      | else-start-from w ↦
          too_early a.length a.from a.until a.f a.g a.used a.k (rw (c.from.ensures, c.from-frame.ensures) at w.if-start-from.false)
    ]
