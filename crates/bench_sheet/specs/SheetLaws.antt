-- The bench sheet holds: one theorem, computed from the bytes of each request.
use Rattle.std.specs.Prelude.{refl}
use Rattle.std.proofs.Common.{arith}
use Rattle.table.specs.Table.{job_byte, entry_of, entry_from, entries_from, row_from, sizes_from, height_fits, rows_from, decode, entries_bytes, row_bytes, head_bytes, encode}
use Rattle.table.specs.Answers as table
use Rattle.planner.specs.Outcome.{outcome_by}
use Rattle.plan_rules.specs.Rules as rules
use Rattle.checker.specs.Checked as checker
use Rattle.dispatcher.specs.Dispatch.{uncarried, moved, next_frame}
use Rattle.bench_sheet.specs.Computed.{planning_open}
use Rattle.bench_sheet.specs.Sheet.{SheetHolds, SheetMoved, SheetTries}

pub sheet_holds : SheetHolds × SheetMoved × SheetTries
unfolding planning_open outcome_by
    encode head_bytes row_bytes entries_bytes job_byte decode rows_from height_fits sizes_from row_from entries_from entry_from entry_of
    checker.checked_by checker.judged_by checker.plan_of rules.rules_right rules.height_right rules.order_right rules.capacity_right rules.windows_right checker.entries_right
    rules.capacity_kept checker.rows_kept checker.row_kept checker.entry_kept rules.pair_kept rules.one_kept rules.other_kept rules.window_kept
    checker.is_there rules.in_window checker.is_placed checker.frames_in checker.frame_in checker.frame_for checker.position_in checker.position_in_row
    next_frame moved uncarried table.row_given
sheet_holds = (
  record {
    planned_as = refl;
    p1_request_bytes = refl;
    p1_table_bytes = refl;
    p4_refused = refl;
    p7_frame_0 = refl;
    p7_frame_1 = refl;
    p7_frame_2 = refl;
    p8_cycle = refl;
    p8_by_01 = refl;
    p8_plausible = refl;
    p8_no_plan = λ frames v. omega (arith, (v.window 0 (omega arith)).not_early, (v.window 0 (omega arith)).not_late);
  },
  record {
    p8_five_refused = refl;
    p8_five_by_01 = refl;
    p8_longer_by_01 = refl;
  },
  record {
    tries_are = refl;
    p1_allowed = refl;
    p5_allowed = refl;
  },
)
