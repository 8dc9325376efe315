-- It prints so: what planning comes to is taken from the sheet, and the lines are computed.
use Rattle.std.specs.Prelude.{ℕ, ◌≡◌, List, map, get_or}
use Rattle.std.proofs.Common.{ap}
use Rattle.request.specs.Request.{reading}
use Rattle.plan_writer.specs.Outcome.{Outcome, refusal}
use Rattle.planner.specs.Outcome.{program_outcome}
use Rattle.text.specs.Text.{decimal_steps, decimal_of}
use Rattle.plan_listing.specs.Listing.{refused_line, head_line, busy_ticks, named, entry_text, each, row_line, row_lines, table_lines, tasks_in, printed, listing}
use Rattle.bench_sheet.specs.Computed.{request_open}
use Rattle.bench_sheet.specs.Sheet.{bytes_of, P2, P7, p1_printed, sheet}
use Rattle.bench_sheet.specs.SheetLaws.{sheet_holds}
use Rattle.bench_sheet.specs.Listed.{Listed}

-- what line k of the sheet is planned as
planned_at : (k : ℕ) → get_or (map (λ p. program_outcome (bytes_of p)) sheet) k (refusal 0) ≡ get_or (map (λ p. p.comes_to) sheet) k (refusal 0)
planned_at k = ap (λ (os : List Outcome). get_or os k (refusal 0)) sheet_holds.0.planned_as

pub listed : Listed
unfolding
    listing refused_line table_lines head_line row_lines row_line busy_ticks each entry_text named decimal_of decimal_steps
    request_open
listed = record {
  p1_listed = ap (printed (tasks_in (reading p1_printed))) (planned_at 0);
  p7_listed = ap (printed (tasks_in (reading (bytes_of P7)))) (planned_at 5);
  p2_listed = ap (printed (tasks_in (reading (bytes_of P2)))) (planned_at 1);
}
