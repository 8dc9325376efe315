-- The table of silent ticks holds: computed in the same way as the bench sheet, from the bytes of each request.
use Rattle.std.specs.Prelude.{◌≡◌, refl, map}
use Rattle.planner.specs.Outcome.{program_outcome}
use Rattle.bench_sheet.specs.Computed.{planning_open}
use Rattle.bench_sheet.specs.Silent.{SilentLine, silent_sheet}

pub silent_sheet_holds : map (λ (l : SilentLine). program_outcome l.bytes) silent_sheet ≡ map (λ (l : SilentLine). l.comes_to) silent_sheet
unfolding planning_open
silent_sheet_holds = refl
