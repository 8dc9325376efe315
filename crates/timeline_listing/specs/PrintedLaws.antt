-- What is printed for a planned table is what `fill` leaves for it: the table describes a plan, so the check accepts it, and 128 places are enough.
use Rattle.std.specs.Prelude.{ℕ, ◌≤◌, ◌≡◌, List}
use Rattle.std.proofs.Math.Path.{refl, subst}
use Rattle.std.proofs.Common.{sym, ap, arith}
use Rattle.cursor.specs.ParsedLaws.{never}
use Rattle.request.specs.Request.{reading}
use Rattle.cycle.specs.Cycle.{Cycle, cycle, no_cycle, cycle_of}
use Rattle.cycle.specs.LimitLaws.{cycle_within, cycle_reading}
use Rattle.table.specs.Table.{Table, Decoded, table, malformed, decode, encode}
use Rattle.table.specs.Inverse.{decode_encode}
use Rattle.model.specs.Plan.{Instance, IsPlan}
use Rattle.model.specs.Good.{Good}
use Rattle.model.specs.Answers.{instance}
use Rattle.model.specs.AnswerLaws.{instance_good}
use Rattle.model.specs.Within.{Within}
use Rattle.model.specs.WithinLaws.{within_limits}
use Rattle.model.specs.Chosen.{Choice, chosen, no_plan, no_plausible, choose, RightBy, RightChoice}
use Rattle.model.specs.ChosenLaws.{choose_right}
use Rattle.model.specs.Described.{plan_table, Describes}
use Rattle.model.specs.PlanTable.{plan_table_describes}
use Rattle.plan_writer.specs.Outcome as outcome
use Rattle.plan_writer.specs.Outcome.{Outcome}
use Rattle.planner.specs.Outcome as planned
use Rattle.planner.specs.Outcome.{by_choice, in_cycle, program_tries, program_outcome}
use Rattle.planner.specs.TableLaws.{handed_within}
use Rattle.checker.specs.Checked as checker
use Rattle.checker.specs.Checked.{checked}
use Rattle.checker.specs.Accepts.{accepts_described}
use Rattle.plan_listing.specs.Listing.{refused_line, tasks_in}
use Rattle.plan_listing.specs.Answers.{table_in}
use Rattle.job_records.specs.Timeline.{timeline, records_of, timeline_of, filling, records_in, filled_answer}
use Rattle.job_records.specs.KnownLaws.{long_enough}
use Rattle.job_records.specs.declared.JobRecord.{JobRecord}
use Rattle.timeline_listing.specs.Printed.{timeline_lines, printed_timeline, timeline_planned, timeline_text}

-- the plan that a table describes which planning hands out
pub record Planned (request : List ℕ) (t : Table) : Type 0 where
  pub x : Instance
  pub within : Within request x
  pub f : ℕ
  pub frames : List ℕ
  pub is_plan : IsPlan x f frames
  pub describes : Describes x f frames t

module _ (request : List ℕ) (t : Table) where
  pub handed_planned : program_outcome request ≡ outcome.handed t → Planned request t
  unfolding planned.outcome RightBy
  handed_planned e = by_cycle (cycle_of request) refl (handed_within program_tries request t e)
    where
      by_choice_lem : (x : Instance) → Within request x → Good x → x.h ≤ 10000 → (o : Choice) → RightChoice x o → by_choice x o ≡ outcome.handed t → Planned request t
      by_choice_lem x within good few (chosen f frames) r q =
          let same : plan_table x f frames ≡ t = cc in
          let describes = subst (Describes x f frames) same (plan_table_describes x good f frames r.is_plan few) in
          record { x = x; within = within; f = f; frames = frames; is_plan = r.is_plan; describes = describes }
      by_choice_lem x within good few no_plan r q = absurd (never (cc))
      by_choice_lem x within good few no_plausible r q = absurd (never (cc))

      by_cycle : (c : Cycle) → cycle_of request ≡ c → in_cycle c ≡ outcome.handed t → Planned request t
      by_cycle (cycle tasks pairs g h jobs) is q =
          let w = cycle_within request tasks pairs g h jobs is in
          let x = instance tasks pairs g h jobs in
          let good = instance_good tasks pairs g h jobs w in
          by_choice_lem x is good w.h_few (choose x) (choose_right x good) q
      by_cycle (no_cycle number) is q = absurd (never (cc))

  module _ (p : Planned request t) where
    abbrev pub records : List JobRecord
    records = records_of p.x.jobs p.frames

    verdict : (bytes : List ℕ) → decode bytes ≡ table t → checked (cycle_of request) (decode bytes) ≡ checker.accepted p.f p.frames
    verdict bytes e = (accepts_described request bytes p.x t p.within e p.f p.frames).1 (p.is_plan, p.describes)

    pub own_bytes : decode (encode t) ≡ table t
    own_bytes = decode_encode t p.describes.form

    -- every list of 128 records is filled
    pub filling_planned : (bytes : List ℕ) → decode bytes ≡ table t → filling request bytes 128 ≡ timeline records
    filling_planned bytes e =
        long_enough request bytes p.x p.within p.f p.frames (verdict bytes e) p.is_plan 128 (within_limits request p.x p.within).jobs_few

    pub timeline_planned_lem : timeline_of (cycle_of request) (table t) ≡ timeline records
    unfolding timeline_of
    timeline_planned_lem =
        let read : checked (cycle_of request) (table t) ≡ checker.accepted p.f p.frames =
        subst (λ (d : Decoded). checked (cycle_of request) d ≡ checker.accepted p.f p.frames) own_bytes (verdict (encode t) own_bytes) in
        rw (read, p.within)

    pub tasks_planned : tasks_in (reading request) ≡ p.x.tasks
    tasks_planned = ap tasks_in (cycle_reading request p.x.tasks p.x.pairs p.x.g p.x.h p.x.jobs p.within)

-- the two ways
pub timeline_refused : (request : List ℕ) (number : ℕ) → program_outcome request ≡ outcome.refusal number → refused_line number ≡ timeline_text request
unfolding timeline_text
timeline_refused request number e = sym (ap (λ (o : Outcome). printed_timeline (tasks_in (reading request)) (timeline_planned (cycle_of request) o)) e)

-- of any bytes that say the table
pub text_handed : (request bytes : List ℕ) (t : Table) → program_outcome request ≡ outcome.handed t → decode bytes ≡ table t
    → timeline_lines (tasks_in (reading request)) (records_in (filling request bytes 128)) ≡ timeline_text request
unfolding timeline_text
text_handed request bytes t e read =
    let p = handed_planned request t e in
    rw (e, filling_planned request t p bytes read, timeline_planned_lem request t p)

pub timeline_handed : (request bytes : List ℕ) → program_outcome request ≡ outcome.handed (table_in (decode bytes))
    → timeline_lines (tasks_in (reading request)) (records_in (filling request bytes 128)) ≡ timeline_text request
timeline_handed request bytes e = go (decode bytes) refl e
  where
    go : (d : Decoded) → decode bytes ≡ d → program_outcome request ≡ outcome.handed (table_in d)
        → timeline_lines (tasks_in (reading request)) (records_in (filling request bytes 128)) ≡ timeline_text request
    go (table t) is q = text_handed request bytes t q is
    go malformed is q = absurd (omega (arith, (handed_planned request _ q).describes.form.some_rows))

-- a list of 128 records is filled from it
pub handed_filled : (request bytes : List ℕ) → program_outcome request ≡ outcome.handed (table_in (decode bytes))
    → (filled_answer (filling request bytes 128)).refusal ≡ 0
handed_filled request bytes e = go (decode bytes) refl e
  where
    go : (d : Decoded) → decode bytes ≡ d → program_outcome request ≡ outcome.handed (table_in d) → (filled_answer (filling request bytes 128)).refusal ≡ 0
    go (table t) is q = rw (filling_planned request t (handed_planned request t q) bytes is)
    go malformed is q = absurd (omega (arith, (handed_planned request _ q).describes.form.some_rows))
