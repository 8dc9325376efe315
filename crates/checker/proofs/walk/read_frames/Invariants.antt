-- Each job passed has a frame, and their frames are in their places.
use Rattle.std.proofs.Common.{◌<◌, ◌≡◌, ℕ, true}
use Rattle.cycle.specs.Planned.{no_job}
use Rattle.cursor.specs.Padded.{padded, firsts}
use Rattle.checker.specs.Checked.{is_placed, frames_in}
use Rattle.checker.specs.Answers.{rows_of}
use Rattle.checker.proofs.walk.read_frames.Given as goal

abbrev pub invariant-loop-y : goal.invariant-loop-y
invariant-loop-y l = record {
  placed : (y : ℕ) → y < l.y → is_placed (rows_of l.table l.height) l.jobs y ≡ true;
  frames_are : l.frames ≡ padded 128 0 (frames_in (rows_of l.table l.height) (firsts l.y no_job l.jobs));
}
