-- Every accepted table flies as promised, whatever the calls and the actual times.
use Rattle.std.specs.Prelude.{◌≡◌, List, [], ℕ, ◌+◌, ◌*◌, ◌-◌, ◌%◌, ◌≤◌, ◌<◌, min, length, get_or}
use Rattle.std.proofs.Common.{sym, ap, subst, ◌∙◌, le_of_mul-le-mul_right, zero-add, arith}
use Rattle.table.specs.Table.{Entry, Table, table, decode, row_of}
use Rattle.model.specs.Plan.{Instance, frame_at, IsPlan}
use Rattle.model.specs.Good.{Good}
use Rattle.model.specs.GoodLaws.{PlaceOf}
use Rattle.model.specs.Slots.{slots}
use Rattle.model.specs.Within.{Within}
use Rattle.model.specs.WithinLaws.{within_good}
use Rattle.model.specs.Described.{Describes, Accepted}
use Rattle.dispatcher.specs.declared.State.{State}
use Rattle.flight.specs.Calls.{Call, begin, height, plain_frame, frames_shown}
use Rattle.flight.specs.Timing.{KeepToC, start_time, times_run}
use Rattle.flight.specs.Flight.{frames_flown, plain_after, Flight}
use Rattle.flight.specs.Same.{all_answers, final_state, frames_from, frames_from_length, frames_from_at, asked, m_after, frames_served}
use Rattle.flight.specs.Serving.{place_of_job, job_there, some_row, some_length, whole, frame_read_off, runs_from_lem}
use Rattle.flight.specs.Counted.{overruns_counted}
use Rattle.flight.specs.OnTime.{starts_next, ends_by_slots, in_frame, some_job, after_release, before_due, leaves_time, ended}

module _ (x : Instance) (g : Good x) (bytes : List ℕ) (t : Table) (says : decode bytes ≡ table t)
    (ks : List ℕ) (v : IsPlan x t.f ks) (d : Describes x t.f ks t) (calls : List Call) where
  frames_are : frames_flown bytes calls ≡ frames_from t 0 (asked calls)
  frames_are = ap frames_shown (all_answers bytes t says (some_row x g t ks v d) calls) ∙ frames_served t (frame_read_off x g t ks v d) begin calls

  m_is : (plain_after t calls).m ≡ asked calls
  m_is = m_after t begin calls ∙ zero-add (asked calls)

  frames_length : length (frames_flown bytes calls) ≡ asked calls
  frames_length = ap length frames_are ∙ frames_from_length t 0 (asked calls)

  frame_is : (m : ℕ) → m < length (frames_flown bytes calls) → get_or (frames_flown bytes calls) m [] ≡ plain_frame t m
  frame_is m h =
      ap (λ (l : List (List Entry)). get_or l m []) frames_are ∙ frames_from_at t 0 (asked calls) m (omega (arith, frames_length)) ∙ ap (plain_frame t) (zero-add m)

  -- a job of a cycle has run once if its frame was served, and else not at all
  runs_are : (i j : ℕ) (w : PlaceOf x i j) (q : ℕ)
      → times_run (height t) (frames_flown bytes calls) i j q ≡ min 1 (asked calls - (frame_at ks w.place + q * height t))
  runs_are i j w q =
      let r = runs_from_lem x g t ks v d i j w q (asked calls) 0 in
      rw frames_are (omega arith)

  module _ (actual : ℕ → ℕ → ℕ) (keep : KeepToC x (frames_flown bytes calls) actual) where
    flies : Flight x bytes t calls actual
    flies =
        let state = final_state bytes t says (some_row x g t ks v d) calls in
        record {
          same_answers = all_answers bytes t says (some_row x g t ks v d) calls;
          row_is = ap (λ (s : State). s.row) state;
          mark_is = ap (λ (s : State). s.first) state;
          counts_are = ap (λ (s : State). s.counts) state;
          count_is = λ i few. overruns_counted i bytes few calls;
          frames_are = frames_length ∙ sym m_is;
          each_stands = some_job x g t ks v d actual (frames_flown bytes calls) frame_is keep;
          silent_between = λ m p s. starts_next x.g t.f actual m p;
          ends_in_frame = in_frame x g t ks v d actual (frames_flown bytes calls) frame_is keep;
          not_before_release = after_release x g t ks v d actual (frames_flown bytes calls) frame_is keep;
          by_deadline = before_due x g t ks v d actual (frames_flown bytes calls) frame_is keep;
          leaves_time = leaves_time x g t ks v d actual (frames_flown bytes calls) frame_is keep;
          pairs_keep_order = ended x g t ks v d actual (frames_flown bytes calls) frame_is keep;
          -- where it is due by the end of the last frame served, its frame was served
          due_ran_once = λ i j is q h.
              let w = place_of_job x g i j is in
              let k = frame_at ks w.place + q * height t in
              let cycles = ap (λ (z : ℕ). q * z) (whole x g t ks v d) in
              let by : (k + 1) * t.f ≤ (plain_after t calls).m * t.f = omega (arith, (v.window w.place w.within).not_late, (job_there x g i j w).1) in
              let served : k + 1 ≤ (plain_after t calls).m = le_of_mul-le-mul_right by (some_length x g t ks v d) in
              omega (arith, runs_are i j w q, m_is);
          none_twice = λ i j is q. omega (arith, runs_are i j (place_of_job x g i j is) q);
        }

module _ (request_bytes table_bytes : List ℕ) (x : Instance) (t : Table) (within : Within request_bytes x) (says : decode table_bytes ≡ table t) (a : Accepted x t)
    (calls : List Call) (actual : ℕ → ℕ → ℕ) (keep : KeepToC x (frames_flown table_bytes calls) actual) where
  good : Good x
  good = within_good request_bytes x within

  own_plan : IsPlan x t.f a.frames
  own_plan = subst (λ (f : ℕ). IsPlan x f a.frames) (sym a.describes.same_f) a.is_plan

  own_table : Describes x t.f a.frames t
  own_table = subst (λ (f : ℕ). Describes x f a.frames t) (sym a.describes.same_f) a.describes

  -- THE THEOREM: for every request within the limits, every table accepted for it, every list of calls and all actual times from 0 to C.
  pub flight : Flight x table_bytes t calls actual
  flight = flies x good table_bytes t says a.frames own_plan own_table calls actual keep

  -- and behind the entries served in a frame what is left of its row's time is left
  pub time_left : (m : ℕ) → m < length (frames_flown table_bytes calls)
      → start_time x.g t.f actual m (length (get_or (frames_flown table_bytes calls) m [])) ≤ m * t.f + slots x (row_of t (m % height t))
  time_left =
      ends_by_slots x good t a.frames own_plan own_table actual (frames_flown table_bytes calls)
      (frame_is x good table_bytes t says a.frames own_plan own_table calls) keep
