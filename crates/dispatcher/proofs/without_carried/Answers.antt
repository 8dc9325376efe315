-- The loop keeps that what is kept of the places passed, and behind it what is kept of those left, is what is kept of all.
use Rattle.std.proofs.Common.{◌<◌, sym, ◌∙◌, arith}
use Rattle.dispatcher.specs.StepLaws.{kept_start, kept_more, kept_passed, kept_all}
use Rattle.dispatcher.proofs.without_carried.Goals as goal
use Rattle.dispatcher.proofs.without_carried.Goals.{then-not-is_carried, else-not-is_carried}

pub loop-i-init : goal.loop-i-init
loop-i-init c = (omega arith, kept_start _ _ _)

pub loop-i-preserved : goal.loop-i-preserved
loop-i-preserved c =
    let carry = sym c.is_carried.ensures in
    let more = c.loop-i-test.true in
    let so = c.loop-i.invariant in
    let room : c.loop-i.count < 16 = omega (arith, so.0, c.requires) in
    elim c.if-not-is_carried.branch [
      | then-not-is_carried w ↦
          let kept = kept_more _ _ _ _ _ _ _ so.1 more room (carry ∙ w.if-not-is_carried.true) in
          (rw w.count-is (omega (arith, so.0)), rw (w.tasks-is, w.jobs-is, w.count-is) kept)
      | else-not-is_carried w ↦
          let passed = kept_passed _ _ _ _ _ _ _ so.1 more (carry ∙ w.if-not-is_carried.false) in
          (rw w.count-is (omega (arith, so.0)), rw (w.tasks-is, w.jobs-is, w.count-is) passed)
    ]

pub returns : goal.returns
returns c = kept_all _ _ _ _ _ _ _ c.loop-i.invariant.1 c.loop-i-test.false
