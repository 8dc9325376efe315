-- Both bounds are reached: the flights are computed.
use Rattle.std.specs.Prelude.{ℕ, zero, suc, ◌+◌, ◌≡◌, refl}
use mathlib.Core.List.{flat_map}
use Rattle.std.proofs.Common.{arith}
use Rattle.cursor.specs.Parsed.{records}
use Rattle.cursor.specs.Fields.{byte_of, word_of}
use Rattle.cursor.specs.Padded.{padded}
use Rattle.arith.specs.Gcd.{gcd_of, gcd_steps}
use Rattle.arith.specs.Lcm.{lcm_of}
use Rattle.request.specs.Request.{task_rule, judged_task, task_of, tasks_of, pairs_of, silent_of, reading}
use Rattle.cycle.specs.Cycle.{lcm_with, hyperperiod, jobs_in, job_of, all_jobs, before, insert, in_order, planned, cycle_of}
use Rattle.cycle.specs.Planned.{IsJob}
use Rattle.table.specs.Table.{job_byte, entry_of, entry_from, entries_from, row_from, sizes_from, height_fits, rows_from, decode}
use Rattle.table.specs.Answers.{row_given}
use Rattle.search.specs.Placing.{row_sum}
use Rattle.model.specs.Plan.{task_at, slot, cost_of, costs}
use Rattle.model.specs.Plausible.{common_rule, phase_rule, frame_rule, frame_rules, plausible_by}
use Rattle.model.specs.Named.{is_job}
use Rattle.plan_rules.specs.Rules as rules
use Rattle.checker.specs.Checked as checker
use Rattle.dispatcher.specs.Dispatch.{uncarried, moved, next_frame}
use Rattle.flight.specs.Calls.{dispatch, answers, frames_shown}
use Rattle.flight.specs.Timing.{KeepToC, start_time, released_in}
use Rattle.flight.specs.Flight.{frames_flown, starts}
use Rattle.flight_spacing.specs.Spacing.{Successive}
use Rattle.flight_spacing.specs.Reached.{Example, Readings, one_row, slower, faster, P7, Reached}

-- job 0 of the task, of cycle 0 and of cycle 1
from_first_to_second : (e : Example) (i : ℕ) → IsJob e.x.tasks e.x.h i 0 → released_in e.x 1 i 0 ≡ released_in e.x 0 i 0 + (task_at e.x i).t
    → Successive e.x i 0 0 0 1
from_first_to_second e i is period = record { first_is = is; second_is = is; one_period = period }

pub reached : Reached
unfolding cycle_of reading tasks_of task_of judged_task task_rule pairs_of silent_of records byte_of word_of
    costs cost_of slot plausible_by frame_rules frame_rule phase_rule common_rule is_job padded row_sum
    planned in_order insert before all_jobs flat_map job_of jobs_in hyperperiod lcm_with lcm_of gcd_of gcd_steps
    job_byte decode rows_from height_fits sizes_from row_from entries_from entry_from entry_of
    checker.checked_by checker.judged_by checker.plan_of rules.rules_right rules.height_right rules.order_right rules.capacity_right rules.windows_right checker.entries_right
    rules.capacity_kept checker.rows_kept checker.row_kept checker.entry_kept rules.window_kept
    checker.is_there rules.in_window checker.is_placed checker.frames_in checker.frame_in checker.frame_for checker.position_in checker.position_in_row
    next_frame moved uncarried row_given
    dispatch answers frames_shown start_time slower faster
reached = record {
  row_checked = record { within = refl; says = refl; accepted = refl };
  most = second_task slower keep_most 0 17 refl refl;
  most_is = refl;
  least = second_task faster keep_least 7 10 refl refl;
  least_is = refl;
  p7_checked = record { within = refl; says = refl; accepted = refl };
  carried = record {
    keep = λ m p s. omega arith;
    successive = from_first_to_second P7 0 (record { known = omega arith; early = omega arith }) refl;
    m = 2;
    p = 0;
    first = record { served_there = record { frame_flown = omega arith; place_filled = omega arith }; stands = refl };
    first_at = refl;
    n = 4;
    o = 0;
    second = record { served_there = record { frame_flown = omega arith; place_filled = omega arith }; stands = refl };
    second_at = refl;
  };
}
  where
    -- task 1 starts at place 1 of frames 0 and 1
    second_task : (actual : ℕ → ℕ → ℕ) → KeepToC one_row.x (frames_flown one_row.bytes one_row.calls) actual → (one two : ℕ)
        → starts one_row.x one_row.bytes one_row.t one_row.calls actual 0 1 ≡ one
        → starts one_row.x one_row.bytes one_row.t one_row.calls actual 1 1 ≡ two
        → Readings one_row actual 1 0 0 0 1 one two
    second_task actual keep one two first_at second_at = record {
      keep = keep;
      successive = from_first_to_second one_row 1 (record { known = omega arith; early = omega arith }) refl;
      m = 0;
      p = 1;
      first = record { served_there = record { frame_flown = omega arith; place_filled = omega arith }; stands = refl };
      first_at = first_at;
      n = 1;
      o = 1;
      second = record { served_there = record { frame_flown = omega arith; place_filled = omega arith }; stands = refl };
      second_at = second_at;
    }

    keep_most : KeepToC one_row.x (frames_flown one_row.bytes one_row.calls) slower
    keep_most zero p s = omega arith
    keep_most (suc zero) zero s = omega arith
    keep_most (suc zero) (suc p) s = omega arith
    keep_most (suc (suc m)) p s = omega arith

    keep_least : KeepToC one_row.x (frames_flown one_row.bytes one_row.calls) faster
    keep_least zero zero s = omega arith
    keep_least zero (suc p) s = omega arith
    keep_least (suc m) p s = omega arith
