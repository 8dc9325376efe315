-- Each job passed has a frame, and their frames are in their places.
use Rattle.std.proofs.Common.{◌≡◌, sym, ◌∙◌, ap, arith, below_more, length}
use Rattle.cycle.specs.Planned.{no_job}
use Rattle.cursor.specs.Padded.{firsts}
use Rattle.cursor.specs.PaddedLaws.{padded_none}
use Rattle.checker.specs.Checked.{frames_in}
use Rattle.checker.specs.Answers.{rows_of, frames_answer}
use Rattle.plan_rules.specs.EveryLaws.{says_every, every_fails}
use Rattle.plan_rules.specs.Slices.{firsts_all}
use Rattle.checker.specs.WalkLaws.{found_below}
use Rattle.checker.specs.LoopLaws.{placed_at, one_read}
use Rattle.checker.proofs.walk.read_frames.Goals as goal

pub loop-y-init : goal.loop-y-init
unfolding frames_in firsts
loop-y-init c = record { placed = λ y h. absurd (omega arith); frames_are = sym (padded_none 128 0) }

pub returns-in_err-row : goal.returns-in_err-row
returns-in_err-row c =
    let a = c.args in
    let l = c.loop-y in
    let missing = placed_at a.table.now a.height a.jobs.now l.y _ (sym c.find.ensures ∙ c.in_err-row.was) in
    c.from_residual.ensures
    ∙ sym
    (ap (λ b. frames_answer b (frames_in (rows_of a.table.now a.height) a.jobs.now)) (every_fails _ (length a.jobs.now) l.y c.loop-y-test.true missing))

pub frame-requires : goal.frame-requires
frame-requires c =
    (found_below c.args.table.now c.args.height _ _ _ (sym c.find.ensures ∙ c.in_ok-row.was), c.requires.0)

pub loop-y-preserved : goal.loop-y-preserved
loop-y-preserved c =
    let a = c.args in
    let l = c.loop-y in
    let at = sym c.find.ensures ∙ c.in_ok-row.was in
    record {
      placed = below_more _ l.y l.invariant.placed (placed_at a.table.now a.height a.jobs.now l.y _ at);
      frames_are = rw l.invariant.frames_are (one_read a.table.now a.height a.jobs.now l.y _ _ _ (omega arith) at c.frame.ensures);
    }

pub returns : goal.returns
returns c =
    let a = c.args in
    let l = c.loop-y in
    let last : l.y ≡ length a.jobs.now = omega arith in
    let all = says_every _ (length a.jobs.now) (λ y h. l.invariant.placed y (omega arith)) in
    rw (all, l.invariant.frames_are, last, firsts_all no_job a.jobs.now)
