-- Every timeline has at most 4,096 bytes: at most 25 for the line of each of at most 128 jobs, and 13 for the line of the busy ticks. So `timeline` never cuts one.
use Rattle.std.specs.Prelude.{ℕ, suc, ◌+◌, ◌*◌, ◌≤◌, ◌<◌, ◌≡◌, refl, List, [], ◌∷◌, ◌++◌, length, drop, get_or}
use Rattle.std.proofs.Common.{sym, ap, subst, mul-le-mul_left, arith, length-append}
use Rattle.request.specs.Request.{reading, no_task}
use Rattle.request.specs.declared.Task.{Task}
use Rattle.cycle.specs.Cycle.{cycle_of, job_of}
use Rattle.cycle.specs.LimitLaws.{WithinLimits}
use Rattle.cycle.specs.declared.Job.{Job}
use Rattle.table.specs.Table.{Table}
use Rattle.model.specs.Plan.{job_at, frame_at}
use Rattle.model.specs.PlanLaws.{length_pos}
use Rattle.model.specs.Good.{Good}
use Rattle.model.specs.GoodLaws.{job_facts}
use Rattle.model.specs.Places.{number_small}
use Rattle.model.specs.WithinLaws.{within_limits, within_good}
use Rattle.plan_writer.specs.Outcome.{Outcome, handed, refusal}
use Rattle.planner.specs.Outcome.{program_tries, program_outcome}
use Rattle.planner.specs.TableLaws.{GoodOutcome, outcome_within_good}
use Rattle.text.specs.Text.{PutIn}
use Rattle.text.specs.TextLaws.{decimal_length, put_whole}
use Rattle.plan_listing.specs.Listing.{tasks_in}
use Rattle.plan_listing.specs.ShortLaws.{refused_length}
use Rattle.job_records.specs.Timeline.{record_of, no_record, busy_of}
use Rattle.job_records.specs.KnownLaws.{records_count, record_at}
use Rattle.job_records.specs.declared.JobRecord.{JobRecord}
use Rattle.timeline_listing.specs.Printed.{record_line, record_lines, busy_line, timeline_lines, printed_timeline, timeline_planned, timeline_text}
use Rattle.timeline_listing.specs.PrintedLaws.{Planned, handed_planned, records, timeline_planned_lem, tasks_planned}

-- the fields of a record have few digits
record Small (r : JobRecord) : Type 0 where
  task : r.task < 100
  job : r.job < 1000
  release : r.release < 100000
  due : r.due < 100000
  frame : r.frame < 100000

line_length : (r : JobRecord) → Small r → length (record_line r) ≤ 25
unfolding record_line
line_length r s =
    simp length-append
    (omega (
      arith,
      decimal_length 1 r.task s.task,
      decimal_length 2 r.job s.job,
      decimal_length 4 r.release s.release,
      decimal_length 4 r.due s.due,
      decimal_length 4 r.frame s.frame,
    ))

lines_length : (rs : List JobRecord) → ((y : ℕ) → y < length rs → Small (get_or rs y no_record)) → length (record_lines rs) ≤ 25 * length rs
unfolding record_lines
lines_length [] small = omega arith
lines_length (r ∷ rs) small =
    simp length-append (omega (arith, line_length r (small 0 (omega arith)), lines_length rs (λ y h. small (suc y) (omega arith))))

busy_few : (tasks : List Task) (rs : List JobRecord) → ((y : ℕ) → y < length rs → (get_or tasks (get_or rs y no_record).task no_task).c ≤ 10000)
    → busy_of tasks rs ≤ 10000 * length rs
unfolding busy_of
busy_few tasks [] small = omega arith
busy_few tasks (r ∷ rs) small = omega (arith, small 0 (omega arith), busy_few tasks rs (λ y h. small (suc y) (omega arith)))

busy_length : (b : ℕ) → b < 10000000 → length (busy_line b) ≤ 13
unfolding busy_line
busy_length b h = simp length-append (omega (arith, decimal_length 6 b h))

module _ (request : List ℕ) (t : Table) (p : Planned request t) where
  abbrev w : WithinLimits p.x.tasks p.x.pairs p.x.h p.x.jobs
  w = within_limits request p.x p.within

  abbrev good : Good p.x
  good = within_good request p.x p.within

  many : length (records request t p) ≡ length p.x.jobs
  many = records_count p.x.jobs p.frames p.is_plan.all

  module _ (y : ℕ) (h : y < length p.x.jobs) where
    record_is : get_or (records request t p) y no_record ≡ record_of (job_at p.x y) (frame_at p.frames y)
    record_is = record_at p.x.jobs p.frames y p.is_plan.all h

    -- released before H, due before 2H, and in a frame that ends by then
    job_small : Small (record_of (job_at p.x y) (frame_at p.frames y))
    job_small =
        let (i, j, is, stands) = good.in_order.each y h in
        let here : job_at p.x y ≡ job_of p.x.tasks i j = stands.here in
        let release : (job_at p.x y).release ≡ (job_of p.x.tasks i j).release = ap (λ (b : Job). b.release) here in
        let due : (job_at p.x y).due ≡ (job_of p.x.tasks i j).due = ap (λ (b : Job). b.due) here in
        let ends : (frame_at p.frames y + 1) * 1 ≤ (frame_at p.frames y + 1) * p.f =
        mul-le-mul_left (frame_at p.frames y + 1) (length_pos p.x good p.f p.frames p.is_plan) in
        record {
          task = omega (arith, (job_facts p.x good y h).known, w.readable.few_tasks);
          job = omega (arith, number_small p.x good y h);
          release = omega (arith, release, w.release_below i j is, w.h_few);
          due = omega (arith, due, w.due_below i j is, w.h_few);
          frame = omega (arith, ends, (p.is_plan.window y h).not_late, due, w.due_below i j is, w.h_few);
        }

    -- C is at most D, T and H
    ticks_small : (get_or p.x.tasks (job_at p.x y).task no_task).c ≤ 10000
    ticks_small =
        let known = (job_facts p.x good y h).known in
        let kept = w.readable.task (job_at p.x y).task known in
        omega (arith, kept.room, kept.due, w.period_le (job_at p.x y).task known, w.h_few)

  lines_few : length (timeline_lines (tasks_in (reading request)) (records request t p)) ≤ 4096
  lines_few =
      let rs = records request t p in
      let lines = lines_length rs (λ y h. subst Small (sym (record_is y (omega (arith, many)))) (job_small y (omega (arith, many)))) in
      let busy = busy_few p.x.tasks rs (λ y h. rw (record_is y (omega (arith, many))) (ticks_small y (omega (arith, many)))) in
      rw (tasks_planned request t p, length-append)
      (omega (arith, lines, busy_length (busy_of p.x.tasks rs) (omega (arith, busy, many, w.jobs_few)), many, w.jobs_few))

pub timeline_short : (request : List ℕ) → length (timeline_text request) ≤ 4096
unfolding timeline_text
timeline_short request = go (program_outcome request) refl (outcome_within_good program_tries request)
  where
    go : (o : Outcome) → program_outcome request ≡ o → GoodOutcome o → length (printed_timeline (tasks_in (reading request)) (timeline_planned (cycle_of request) o)) ≤ 4096
    go (handed t) is good = let p = handed_planned request t is in rw (timeline_planned_lem request t p) (lines_few request t p)
    go (refusal number) is good = omega (arith, refused_length number (omega (arith, good.1)))

-- so a buffer of 4,096 bytes or more holds it whole, with the old bytes behind it
pub timeline_whole : (request out new : List ℕ) (end : ℕ) → 4096 ≤ length out → PutIn (timeline_text request) out end new
    → (end ≡ length (timeline_text request)) × (new ≡ timeline_text request ++ drop (length (timeline_text request)) out)
timeline_whole request out new end room put = put_whole (timeline_text request) out new end (omega (arith, timeline_short request)) put
