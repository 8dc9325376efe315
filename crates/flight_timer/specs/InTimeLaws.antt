-- A punctual list asks the dispatcher for one frame at each event, and it never refuses: the flight through the registers is the flight.
use Rattle.std.specs.Prelude.{ℕ, zero, suc, ◌+◌, ◌*◌, ◌≤◌, ◌<◌, ◌≡◌, cond, ◌&&◌, ◌⊎◌, length, get_or, eqb}
use Rattle.std.proofs.Math.Path.{refl, ap}
use Rattle.std.proofs.Common.{sym, ◌∙◌, inl, inr}
use Rattle.std.proofs.Math.Bool.{Bool, true, false, not}
use Rattle.std.proofs.lemmas.Bool.{false≢true}
use mathlib.Core.List.{List, [], ◌∷◌, ◌++◌}
use native.Mathlib.Omega.{arith}
use Rattle.std.proofs.Math.ListN.{take}
use Rattle.cursor.specs.Choice.{keep}
use Rattle.cursor.specs.ChoiceLaws.{lt_or_ge}
use Rattle.request.specs.Request.{Reading, readable, unreadable, reading}
use Rattle.table.specs.Table.{Table, Decoded, table, malformed, decode, row_of}
use Rattle.table.specs.TableBytesLaws.{says_decodes}
use Rattle.table.specs.AnswerLaws.{given_refusal}
use Rattle.dispatcher.specs.Dispatch.{served, moved, next_frame, reported}
use Rattle.dispatcher.specs.FrameLaws.{frame_served_lem, frame_malformed, moved_next, moved_last}
use Rattle.dispatcher.specs.ReportLaws.{report_counted, report_unknown, report_unreadable}
use Rattle.dispatcher.specs.declared.State.{State}
use Rattle.dispatcher.specs.Numbered.{Frame}
use Rattle.flight.specs.Calls as flight
use Rattle.flight.specs.Timing.{KeepToC, start_time}
use Rattle.flight.specs.Flight as flown
use Rattle.flight.specs.Same.{asked, m_after}
use Rattle.flight.specs.Joined.{checked_flight, planned_flight}
use Rattle.flight.specs.Flight.{Flies}
use Rattle.timer.specs.Registers.{is_set, control_of, cleared_by, served_once, serving, fresh_timer}
use Rattle.timer.specs.RegisterLaws.{write_parts, event_parts, serve_none, serve_refused, serve_made, answered_with}
use Rattle.timer.specs.declared.Timer.{Timer}
use Rattle.timer.specs.declared.Control.{Control}
use Rattle.timer.specs.declared.Status.{Status}
use Rattle.flight_timer.specs.Calls.{RegisterCall, read, write, event, serve, report, line, on_event, turn, register_answers_from, timer_from}
use Rattle.flight_timer.specs.InTime.{run_then, StaysSet, RunKept, formed, is_table, waits_then, InTurn, EachServed, Punctual, asks, asks_from}
use Rattle.flight_timer.specs.InTime.{dispatcher_calls, spoken, heard_from, starts_from, InTime, FliesByTimer, TimerFlight}

-- run that stays set is kept
stays_kept : (cs : List RegisterCall) → StaysSet cs → RunKept true cs
unfolding StaysSet RunKept
stays_kept [] s = tt
stays_kept (event ∷ cs) s = (refl, s.1)
stays_kept (write address value ∷ cs) s = rw s.0 (stays_kept cs s.1)
stays_kept (read address ∷ cs) s = stays_kept cs s.1
stays_kept (serve bytes ∷ cs) s = stays_kept cs s.1
stays_kept (report bytes task ticks ∷ cs) s = stays_kept cs s.1
stays_kept (line ∷ cs) s = stays_kept cs s.1

-- a report moves no row
report_row : (r : Reading) (task ticks : ℕ) (s : State) → (reported r task ticks s).state.row ≡ s.row
report_row (unreadable number) task ticks s = rw (report_unreadable (unreadable number) task ticks s number refl)
report_row (readable tasks pairs g) task ticks s = go (lt_or_ge task (length tasks))
  where
    go : (task < length tasks) ⊎ (length tasks ≤ task) → (reported (readable tasks pairs g) task ticks s).state.row ≡ s.row
    go (inl h) = rw (report_counted (readable tasks pairs g) task ticks s tasks pairs g refl h)
    go (inr h) = rw (report_unknown (readable tasks pairs g) task ticks s tasks pairs g refl h)

module _ (table_bytes : List ℕ) (t : Table) (says : decode table_bytes ≡ table t) where
  -- the timer of a punctual list: bit 0 says whether an event waits, and the row is one of the table's
  pub record Ready (waits run : Bool) (u : Timer) : Type 0 where
    pub due_is : u.status.due ≡ waits
    pub run_is : u.control.run ≡ run
    pub none_missed : u.status.missed ≡ false
    pub row_below : u.state.row < length t.rows

  -- the next frame of a row that is there: it is not refused, and the row after it is there too
  module _ (s : State) (below : s.row < length t.rows) where
    abbrev frame : Frame
    frame = next_frame (decode table_bytes) s

    not_refused : frame.refusal ≡ 0
    not_refused = rw (frame_served_lem table_bytes s t says below) (given_refusal (served s.first (row_of t s.row)))

    below_again : frame.state.row < length t.rows
    below_again = rw (frame_served_lem table_bytes s t says below) (go (lt_or_ge (s.row + 1) (length t.rows)))
      where
        go : (s.row + 1 < length t.rows) ⊎ (length t.rows ≤ s.row + 1) → (moved (length t.rows) s).row < length t.rows
        go (inl h) = rw (moved_next (length t.rows) s h) h
        go (inr h) = let last : s.row + 1 ≡ length t.rows = omega arith in rw (moved_last (length t.rows) s last) (omega arith)

  -- what a serving in turn is: the serving of an event, or one that changes nothing
  data ServeCase (waits : Bool) (u : Timer) (bytes : List ℕ) : Type 0 where
    of_event : waits && is_table bytes ≡ true → waits && not (is_table bytes) ≡ false
        → serving (decode bytes) u ≡ answered_with (next_frame (decode table_bytes) u.state) (served_once (next_frame (decode table_bytes) u.state).state u)
        → ServeCase waits u bytes
    of_none : waits && is_table bytes ≡ false → waits && not (is_table bytes) ≡ waits → (serving (decode bytes) u).timer ≡ u → ServeCase waits u bytes

  serve_case : (waits run : Bool) (u : Timer) (bytes : List ℕ) → Ready waits run u → InTurn table_bytes waits (serve bytes) → ServeCase waits u bytes
  serve_case false run u bytes r in_turn = of_none refl refl (rw (serve_none (decode bytes) u r.due_is))
  serve_case true run u bytes r in_turn = go (in_turn refl)
    where
      no_table : (d : Decoded) → decode bytes ≡ d → formed d ≡ false → ServeCase true u bytes
      no_table (table t) is e = absurd (false≢true (sym e))
      no_table malformed is e =
          let refused = frame_malformed bytes u.state is in
          of_none (rw is) (rw is) (rw (serve_refused (decode bytes) u r.due_is (λ z. omega (arith, sym (ap (λ (a : Frame). a.refusal) refused) ∙ z))))

      go : (bytes ≡ table_bytes) ⊎ (is_table bytes ≡ false) → ServeCase true u bytes
      go (inl e) =
          let a_table : is_table bytes ≡ true = rw (e, says) in
          let made = serve_made (decode table_bytes) u r.due_is (not_refused u.state r.row_below) in
          of_event (rw a_table) (rw a_table) (rw e made)
      go (inr e) = no_table (decode bytes) refl e

  -- Each call leaves the timer ready
  ready_step : (waits run : Bool) (u : Timer) (c : RegisterCall) → Ready waits run u → InTurn table_bytes waits c → on_event (run ≡ true) (Unit {0}) c
      → Ready (waits_then waits c) (run_then run c) (turn u c).after
  unfolding turn
  ready_step waits run u (read address) r i k = r
  ready_step waits run u line r i k = r
  ready_step waits run u (write address value) r i k =
      let w = write_parts address value u in
      record {
        due_is = ap (λ (s : Status). s.due) w.1 ∙ due (eqb address 1);
        run_is = ap (λ (s : Control). s.run) w.0 ∙ running (eqb address 0);
        none_missed = ap (λ (s : Status). s.missed) w.1 ∙ missed (eqb address 1);
        row_below = rw w.2 r.row_below;
      }
    where
      due : (b : Bool) → (cond b (cleared_by value u.status) u.status).due ≡ waits
      due true = r.due_is
      due false = r.due_is

      running : (b : Bool) → (cond b (control_of value) u.control).run ≡ cond b (is_set 1 value) run
      running true = refl
      running false = r.run_is

      missed : (b : Bool) → (cond b (cleared_by value u.status) u.status).missed ≡ false
      missed true = rw r.none_missed
      missed false = r.none_missed
  ready_step waits run u event r i k =
      let w = event_parts u in
      let set : u.control.run ≡ true = r.run_is ∙ k in
      record {
        due_is = ap (λ (s : Status). s.due) w.1 ∙ rw set;
        run_is = ap (λ (s : Control). s.run) w.0 ∙ r.run_is;
        none_missed = ap (λ (s : Status). s.missed) w.1 ∙ rw (set, r.due_is, i, r.none_missed);
        row_below = rw w.2 r.row_below;
      }
  ready_step waits run u (serve bytes) r i k = go (serve_case waits run u bytes r i)
    where
      go : ServeCase waits u bytes → Ready (waits && not (is_table bytes)) run (serving (decode bytes) u).timer
      go (of_event e w is) =
          rw (w, is) (record { due_is = refl; run_is = r.run_is; none_missed = r.none_missed; row_below = below_again u.state r.row_below })
      go (of_none e w is) = rw (w, is) r
  ready_step waits run u (report bytes task ticks) r i k = record {
    due_is = r.due_is;
    run_is = r.run_is;
    none_missed = r.none_missed;
    row_below = rw (report_row (reading bytes) task ticks u.state) r.row_below;
  }

  -- and the dispatcher is asked what the list asks, and answers
  abbrev D : State → flight.Call → flight.Turn State
  D = flight.dispatch table_bytes

  pub record AskedOf (waits : Bool) (u : Timer) (c : RegisterCall) (rest : List flight.Call) : Type 0 where
    pub heard : take (length (asks waits c)) (spoken (turn u c).answer) ++ flight.answers D (turn u c).after.state rest ≡ flight.answers D u.state (asks waits c ++ rest)
    pub stands : flight.final D (turn u c).after.state rest ≡ flight.final D u.state (asks waits c ++ rest)

  asked_step : (waits run : Bool) (u : Timer) (c : RegisterCall) (rest : List flight.Call) → Ready waits run u → InTurn table_bytes waits c → AskedOf waits u c rest
  unfolding turn flight.answers flight.final flight.dispatch
  asked_step waits run u (read address) rest r i = record { heard = refl; stands = refl }
  asked_step waits run u line rest r i = record { heard = refl; stands = refl }
  asked_step waits run u (write address value) rest r i = let w = (write_parts address value u).2 in record { heard = rw w; stands = rw w }
  asked_step waits run u event rest r i = let w = (event_parts u).2 in record { heard = rw w; stands = rw w }
  asked_step waits run u (report bytes task ticks) rest r i = record { heard = refl; stands = refl }
  asked_step waits run u (serve bytes) rest r i = go (serve_case waits run u bytes r i)
    where
      go : ServeCase waits u bytes → AskedOf waits u (serve bytes) rest
      go (of_event e w is) = record { heard = rw (e, is); stands = rw (e, is) }
      go (of_none e w is) = record { heard = rw (e, is); stands = rw (e, is) }

  -- the whole list
  pub record Followed (waits : Bool) (u : Timer) (cs : List RegisterCall) : Type 0 where
    pub heard : heard_from waits cs (register_answers_from u cs) ≡ flight.answers D u.state (asks_from waits cs)
    pub stands : (timer_from u cs).state ≡ flight.final D u.state (asks_from waits cs)
    pub none_missed : (timer_from u cs).status.missed ≡ false

  -- run before an event, and after any call
  run_now : (run : Bool) (c : RegisterCall) (cs : List RegisterCall) → RunKept run (c ∷ cs) → on_event (run ≡ true) (Unit {0}) c × RunKept (run_then run c) cs
  unfolding RunKept
  run_now run event cs k = (k.0, rw k.0 (stays_kept cs k.1))
  run_now run (read address) cs k = (tt, k)
  run_now run (write address value) cs k = (tt, k)
  run_now run (serve bytes) cs k = (tt, k)
  run_now run (report bytes task ticks) cs k = (tt, k)
  run_now run line cs k = (tt, k)

  followed : (waits run : Bool) (u : Timer) (cs : List RegisterCall) → Ready waits run u → RunKept run cs → EachServed table_bytes waits cs → Followed waits u cs
  unfolding heard_from register_answers_from timer_from asks_from EachServed flight.answers flight.final
  followed waits run u [] r k e = record { heard = refl; stands = refl; none_missed = r.none_missed }
  followed waits run u (c ∷ cs) r k e =
      let now = run_now run c cs k in
      let rest = followed (waits_then waits c) (run_then run c) (turn u c).after cs (ready_step waits run u c r e.0 now.0) now.1 e.1 in
      let step = asked_step waits run u c (asks_from (waits_then waits c) cs) r e.0 in
      record {
        heard = ap (λ (l : List flight.Answer). take (length (asks waits c)) (spoken (turn u c).answer) ++ l) rest.heard ∙ step.heard;
        stands = rest.stands ∙ step.stands;
        none_missed = rest.none_missed;
      }

-- The starts: one for each frame asked for, and frame k at k·f

module _ (f : ℕ) where
  starts_length : (next at : ℕ) (waits : Bool) (cs : List RegisterCall) → length (starts_from f next at waits cs) ≡ asked (asks_from waits cs)
  unfolding starts_from asks_from asked
  starts_length next at waits [] = refl
  starts_length next at waits (event ∷ cs) = starts_length (next + f) next true cs
  starts_length next at waits (serve bytes ∷ cs) = go (waits && is_table bytes) (starts_length next at (waits && not (is_table bytes)) cs)
    where
      still : Bool
      still = waits && not (is_table bytes)

      go : (b : Bool) → length (starts_from f next at still cs) ≡ asked (asks_from still cs)
          → length (keep b at (starts_from f next at still cs)) ≡ asked (keep b flight.next_frame_call [] ++ asks_from still cs)
      go true e = ap suc e
      go false e = e
  starts_length next at waits (read address ∷ cs) = starts_length next at waits cs
  starts_length next at waits (write address value ∷ cs) = starts_length next at waits cs
  starts_length next at waits (report bytes task ticks ∷ cs) = starts_length next at waits cs
  starts_length next at waits (line ∷ cs) = starts_length next at waits cs

  -- k frames were served: the event that waits is that of frame k, and the next one comes f later
  abbrev Ticks : Bool → ℕ → ℕ → ℕ → Type 0
  Ticks true k next at = (at ≡ k * f) × (next ≡ (k + 1) * f)
  Ticks false k next at = next ≡ k * f

  -- the frame that is served starts at the event that waits; the starts behind it are told of one frame more
  served_at_lem : (next at k : ℕ) (waits is : Bool) (behind : List ℕ) → Ticks waits k next at
      → ((n : ℕ) → Ticks (waits && not is) n next at → (m : ℕ) → m < length behind → get_or behind m 0 ≡ (n + m) * f)
      → (m : ℕ) → m < length (keep (waits && is) at behind) → get_or (keep (waits && is) at behind) m 0 ≡ (k + m) * f
  served_at_lem next at k true true behind tick later zero h = omega (arith, tick.0)
  served_at_lem next at k true true behind tick later (suc m) h = later (k + 1) tick.1 m (omega arith) ∙ ap (λ (n : ℕ). n * f) (omega arith)
  served_at_lem next at k true false behind tick later m h = later k tick m h
  served_at_lem next at k false is behind tick later m h = later k tick m h

  module _ (table_bytes : List ℕ) where
    starts_at : (next at : ℕ) (waits : Bool) (cs : List RegisterCall) (k : ℕ) → Ticks waits k next at → EachServed table_bytes waits cs
        → (m : ℕ) → m < length (starts_from f next at waits cs) → get_or (starts_from f next at waits cs) m 0 ≡ (k + m) * f
    unfolding starts_from EachServed
    starts_at next at waits [] k tick e m h = absurd (omega arith)
    starts_at next at waits (event ∷ cs) k tick e m h =
        let due : next ≡ k * f = rw e.0 at tick in
        let later : next + f ≡ (k + 1) * f = omega arith in
        starts_at (next + f) next true cs k (due, later) e.1 m h
    starts_at next at waits (serve bytes ∷ cs) k tick e m h =
        served_at_lem next at k waits (is_table bytes) (starts_from f next at (waits && not (is_table bytes)) cs) tick
        (λ n later i l. starts_at next at (waits && not (is_table bytes)) cs n later e.1 i l) m h
    starts_at next at waits (read address ∷ cs) k tick e m h = starts_at next at waits cs k tick e.1 m h
    starts_at next at waits (write address value ∷ cs) k tick e m h = starts_at next at waits cs k tick e.1 m h
    starts_at next at waits (report bytes task ticks ∷ cs) k tick e m h = starts_at next at waits cs k tick e.1 m h
    starts_at next at waits (line ∷ cs) k tick e m h = starts_at next at waits cs k tick e.1 m h

-- THE THEOREM

module _ (request_bytes table_bytes : List ℕ) (fl : Flies request_bytes table_bytes) where
  says : decode table_bytes ≡ table fl.t
  says = says_decodes table_bytes fl.t fl.says

  -- the fresh timer is ready
  fresh_ready : Ready table_bytes fl.t says false false fresh_timer
  fresh_ready = record { due_is = refl; run_is = refl; none_missed = refl; row_below = fl.says.form.some_rows }

  module _ (calls : List RegisterCall) (p : Punctual table_bytes calls) (actual : ℕ → ℕ → ℕ)
      (keeps : KeepToC fl.x (flown.frames_flown table_bytes (dispatcher_calls calls)) actual) where
    flies : flown.Flight fl.x table_bytes fl.t (dispatcher_calls calls) actual
    flies = fl.flies (dispatcher_calls calls) actual keeps

    as_many : length (flown.frames_flown table_bytes (dispatcher_calls calls)) ≡ asked (dispatcher_calls calls)
    as_many = flies.frames_are ∙ m_after fl.t flight.begin (dispatcher_calls calls) ∙ omega arith

    each_starts : length (starts_from fl.t.f 0 0 false calls) ≡ length (flown.frames_flown table_bytes (dispatcher_calls calls))
    each_starts = starts_length fl.t.f 0 0 false calls ∙ sym as_many

    in_time : InTime fl.x table_bytes fl.t calls actual
    unfolding start_time
    in_time =
        let f = followed table_bytes fl.t says false false fresh_timer calls fresh_ready p.run_kept p.each_served in
        record {
          same_answers = f.heard;
          same_state = f.stands;
          each_starts = each_starts;
          at_its_event = λ m h. starts_at fl.t.f table_bytes 0 0 false calls 0 (omega arith) p.each_served m (omega (arith, each_starts)) ∙ omega arith;
          none_missed = f.none_missed;
          flies = flies;
        }

  flies_by_timer : FliesByTimer request_bytes table_bytes
  flies_by_timer = record { x = fl.x; within = fl.within; t = fl.t; says = fl.says; in_time = in_time }

pub timer_flight : TimerFlight
timer_flight = (
  λ request_bytes table_bytes are e. flies_by_timer request_bytes table_bytes (checked_flight request_bytes table_bytes are e),
  λ allowance request_bytes out e. flies_by_timer request_bytes _ (planned_flight allowance request_bytes out e),
)
