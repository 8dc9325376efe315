-- What one call does to each part of the timer, told from the call, and from the timer before it.
use Rattle.std.specs.Prelude.{ℕ, ◌≡◌, refl, Bool, true, false, not, cond, ◌&&◌, ◌||◌, ◌↔◌, List, [], ◌++◌, eqb}
use Rattle.std.proofs.Common.{ap, ◌∙◌, eqb-true, eq-eqb}
use Rattle.std.proofs.lemmas.Bool.{false≢true}
use Rattle.cursor.specs.Choice.{keep}
use Rattle.request.specs.Request.{reading}
use Rattle.table.specs.Table.{decode}
use Rattle.dispatcher.specs.Dispatch.{next_frame, overran}
use Rattle.dispatcher.specs.ReportLaws.{report_over}
use Rattle.dispatcher.specs.declared.State.{State}
use Rattle.flight.specs.Calls as flight
use Rattle.timer.specs.Registers.{is_set, control_of, cleared_by, due_or_missed, serving}
use Rattle.timer.specs.RegisterLaws.{write_parts, event_parts, serve_parts}
use Rattle.timer.specs.declared.Timer.{Timer}
use Rattle.timer.specs.declared.Status.{Status}
use Rattle.flight_timer.specs.Calls.{RegisterCall, read, write, event, serve, report, line, on_write, on_event, on_serve, on_report, turn}
use Rattle.flight_timer.specs.Told.{control_then, asked_by, dispatched, Asked}

-- The tests of a call

-- a 1 is written to the status bit of this weight
abbrev pub clearing : ℕ → RegisterCall → Bool
clearing weight c = on_write (λ address value. eqb address 1 && is_set weight value) false c

-- a serving that is answered with no number
abbrev pub answering : Timer → RegisterCall → Bool
answering t c = on_serve (λ bytes. eqb (serving (decode bytes) t).refusal 0) false c

-- an accepted report above C
abbrev pub overrunning : RegisterCall → Bool
overrunning c = on_report (λ bytes task ticks. overran (reading bytes) task ticks) false c

-- Each test decides what it tests

abbrev Decides : Bool → Type 0 → Type 0
Decides b T = (b ≡ true) ↔ T

no_way : Decides false ⊥
no_way = (false≢true, λ e. absurd e)

pub event_decides : (b : Bool) (T : Type 0) → Decides b T → (c : RegisterCall) → Decides (on_event b false c) (on_event T ⊥ c)
event_decides b T d event = d
event_decides b T d (read address) = no_way
event_decides b T d (write address value) = no_way
event_decides b T d (serve bytes) = no_way
event_decides b T d (report bytes task ticks) = no_way
event_decides b T d line = no_way

pub answer_decides : (t : Timer) (c : RegisterCall) → Decides (answering t c) (on_serve (λ bytes. (serving (decode bytes) t).refusal ≡ 0) ⊥ c)
answer_decides t (serve bytes) = (eqb-true (serving (decode bytes) t).refusal 0, eq-eqb (serving (decode bytes) t).refusal 0)
answer_decides t event = no_way
answer_decides t (read address) = no_way
answer_decides t (write address value) = no_way
answer_decides t (report bytes task ticks) = no_way
answer_decides t line = no_way

pub clear_decides : (weight : ℕ) (c : RegisterCall) → Decides (clearing weight c) (on_write (λ address value. (address ≡ 1) × (is_set weight value ≡ true)) ⊥ c)
clear_decides weight (write address value) = go (eqb address 1) (eqb-true address 1) (eq-eqb address 1)
  where
    go : (b : Bool) → (b ≡ true → address ≡ 1) → (address ≡ 1 → b ≡ true) → Decides (b && is_set weight value) ((address ≡ 1) × (is_set weight value ≡ true))
    go true is says = (λ e. (is refl, e), λ w. w.1)
    go false is says = (λ e. absurd (false≢true e), λ w. says w.0)
clear_decides weight event = no_way
clear_decides weight (read address) = no_way
clear_decides weight (serve bytes) = no_way
clear_decides weight (report bytes task ticks) = no_way
clear_decides weight line = no_way

pub overrun_decides : (c : RegisterCall) → Decides (overrunning c) (on_report (λ bytes task ticks. overran (reading bytes) task ticks ≡ true) ⊥ c)
overrun_decides (report bytes task ticks) = (λ e. e, λ e. e)
overrun_decides event = no_way
overrun_decides (read address) = no_way
overrun_decides (write address value) = no_way
overrun_decides (serve bytes) = no_way
overrun_decides line = no_way

-- Control is as it was last written

pub control_step : (last : ℕ) (t : Timer) (c : RegisterCall) → t.control ≡ control_of last → (turn t c).after.control ≡ control_of (control_then last c)
unfolding turn
control_step last t (write address value) h = (write_parts address value t).0 ∙ go (eqb address 0)
  where
    go : (b : Bool) → cond b (control_of value) t.control ≡ control_of (cond b value last)
    go true = refl
    go false = h
control_step last t event h = (event_parts t).0 ∙ h
control_step last t (serve bytes) h = (serve_parts (decode bytes) t).0 ∙ h
control_step last t (read address) h = h
control_step last t (report bytes task ticks) h = h
control_step last t line h = h

-- A bit of status is set here, or it was set and is not ended here

stays : (b : Bool) → b ≡ b && not false
stays true = refl
stays false = refl

pub due_step : (t : Timer) (c : RegisterCall) → (turn t c).after.status.due ≡ on_event t.control.run false c || (t.status.due && not (answering t c))
unfolding turn
due_step t (write address value) = ap (λ (s : Status). s.due) (write_parts address value t).1 ∙ go (eqb address 1)
  where
    go : (b : Bool) → (cond b (cleared_by value t.status) t.status).due ≡ t.status.due && not false
    go true = stays t.status.due
    go false = stays t.status.due
due_step t event = ap (λ (s : Status). s.due) (event_parts t).1 ∙ go t.control.run
  where
    go : (b : Bool) → (cond b (due_or_missed t.status) t.status).due ≡ b || (t.status.due && not false)
    go true = refl
    go false = stays t.status.due
due_step t (serve bytes) = ap (λ (s : Status). s.due) (serve_parts (decode bytes) t).1
due_step t (read address) = stays t.status.due
due_step t (report bytes task ticks) = stays t.status.due
due_step t line = stays t.status.due

pub overrun_step : (t : Timer) (c : RegisterCall) → (turn t c).after.status.overrun ≡ overrunning c || (t.status.overrun && not (clearing 2 c))
unfolding turn
overrun_step t (write address value) = ap (λ (s : Status). s.overrun) (write_parts address value t).1 ∙ go (eqb address 1)
  where
    go : (b : Bool) → (cond b (cleared_by value t.status) t.status).overrun ≡ t.status.overrun && not (b && is_set 2 value)
    go true = refl
    go false = stays t.status.overrun
overrun_step t event = ap (λ (s : Status). s.overrun) (event_parts t).1 ∙ go t.control.run
  where
    go : (b : Bool) → (cond b (due_or_missed t.status) t.status).overrun ≡ t.status.overrun && not false
    go true = stays t.status.overrun
    go false = stays t.status.overrun
overrun_step t (serve bytes) = ap (λ (s : Status). s.overrun) (serve_parts (decode bytes) t).1 ∙ stays t.status.overrun
overrun_step t (report bytes task ticks) = rw (report_over (reading bytes) task ticks t.state) (ap (◌||◌ (overran (reading bytes) task ticks)) (stays t.status.overrun))
overrun_step t (read address) = stays t.status.overrun
overrun_step t line = stays t.status.overrun

pub missed_step : (t : Timer) (c : RegisterCall)
    → (turn t c).after.status.missed ≡ on_event (t.control.run && t.status.due) false c || (t.status.missed && not (clearing 4 c))
unfolding turn
missed_step t (write address value) = ap (λ (s : Status). s.missed) (write_parts address value t).1 ∙ go (eqb address 1)
  where
    go : (b : Bool) → (cond b (cleared_by value t.status) t.status).missed ≡ t.status.missed && not (b && is_set 4 value)
    go true = refl
    go false = stays t.status.missed
missed_step t event = ap (λ (s : Status). s.missed) (event_parts t).1 ∙ go t.control.run
  where
    go : (b : Bool) → (cond b (due_or_missed t.status) t.status).missed ≡ (b && t.status.due) || (t.status.missed && not false)
    go true = ap (◌||◌ t.status.due) (stays t.status.missed)
    go false = stays t.status.missed
missed_step t (serve bytes) = ap (λ (s : Status). s.missed) (serve_parts (decode bytes) t).1 ∙ stays t.status.missed
missed_step t (read address) = stays t.status.missed
missed_step t (report bytes task ticks) = stays t.status.missed
missed_step t line = stays t.status.missed

-- The dispatcher is asked by a due serving and by a report

pub state_step : (t : Timer) (c : RegisterCall) (rest : List Asked) → dispatched (turn t c).after.state rest ≡ dispatched t.state (asked_by t c ++ rest)
unfolding turn dispatched flight.dispatch
state_step t (write address value) rest = ap (λ (s : State). dispatched s rest) (write_parts address value t).2
state_step t event rest = ap (λ (s : State). dispatched s rest) (event_parts t).2
state_step t (serve bytes) rest = ap (λ (s : State). dispatched s rest) (serve_parts (decode bytes) t).2 ∙ go t.status.due
  where
    go : (b : Bool) → dispatched (cond b (next_frame (decode bytes) t.state).state t.state) rest
        ≡ dispatched t.state (keep b (record { table = bytes; call = flight.next_frame_call }) [] ++ rest)
    go true = refl
    go false = refl
state_step t (report bytes task ticks) rest = refl
state_step t (read address) rest = refl
state_step t line rest = refl
