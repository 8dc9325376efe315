-- What `timeline` prints, from what `fill` leaves for the planned table.
use Rattle.std.specs.Prelude.{ℕ, ◌≡◌, List, length, drop, replicate}
use Rattle.std.proofs.Common.{sym, ap, ◌∙◌}
use Rattle.std.proofs.Math.Seq.{take-append_seam}
use Rattle.request.specs.Request.{reading}
use Rattle.table.specs.Table.{Table, encode}
use Rattle.model.specs.WithinLaws.{within_good}
use Rattle.plan_writer.specs.Outcome.{handed}
use Rattle.planner.specs.Outcome.{program_outcome}
use Rattle.plan_listing.specs.Listing.{tasks_in}
use Rattle.job_records.specs.Timeline.{Timeline, timeline, no_record, filling, filled_answer, filled_records, busy_of, rows_busy}
use Rattle.job_records.specs.BusyLaws.{busy_same}
use Rattle.job_records.specs.declared.JobRecord.{JobRecord}
use Rattle.timeline_listing.specs.Printed.{timeline_lines, timeline_text, records_filled, TimelinePrinted}
use Rattle.timeline_listing.specs.PrintedLaws.{Planned, handed_planned, records, own_bytes, filling_planned, tasks_planned, timeline_refused, text_handed}
use Rattle.timeline_listing.specs.ShortLaws.{timeline_short}

module _ (request : List ℕ) (t : Table) (e : program_outcome request ≡ handed t) where
  abbrev p : Planned request t
  p = handed_planned request t e

  abbrev rs : List JobRecord
  rs = records request t p

  filled : filling request (encode t) 128 ≡ timeline rs
  filled = filling_planned request t p (encode t) (own_bytes request t p)

  records_are : records_filled request t ≡ rs
  unfolding filled_records
  records_are = rw filled (take-append_seam rs (drop (length rs) (replicate 128 no_record)))

  lines : timeline_text request ≡ timeline_lines (tasks_in (reading request)) (records_filled request t)
  lines = sym (text_handed request (encode t) t e (own_bytes request t p)) ∙ rw (records_are, filled)

  busy : busy_of (tasks_in (reading request)) (records_filled request t) ≡ rows_busy (tasks_in (reading request)) t.rows
  busy =
      rw (records_are, tasks_planned request t p)
      (busy_same p.x (within_good request p.x p.within) p.f p.frames p.is_plan t p.describes p.is_plan.all)

-- THE THEOREM
pub timeline_printed : TimelinePrinted
timeline_printed request = record {
  refused_line = λ number e. sym (timeline_refused request number e);
  never_refused = λ t e. ap (λ (tl : Timeline). (filled_answer tl).refusal) (filled request t e);
  lines_are = lines request;
  busy_is = busy request;
  short = timeline_short request;
}
