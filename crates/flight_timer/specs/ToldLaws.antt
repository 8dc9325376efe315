-- The registers after every list: the bits by one call more behind a list, the dispatcher's state and the answers from the front.
use Rattle.std.specs.Prelude.{ℕ, zero, suc, ◌/◌, ◌%◌, ◌<◌, ◌≡◌, Bool, true, false, ◌&&◌, ◌↔◌, length, get_or, take, eqb}
use Rattle.std.proofs.Math.Path.{refl}
use Rattle.std.proofs.Common.{ap, ◌∙◌, arith}
use Rattle.std.proofs.lemmas.Bool.{false≢true}
use mathlib.Core.List.{List, [], ◌∷◌, ◌++◌}
use Rattle.cursor.specs.Choice.{bit}
use Rattle.request.specs.Request.{reading}
use Rattle.table.specs.Table.{decode}
use Rattle.dispatcher.specs.Dispatch.{reported}
use Rattle.dispatcher.specs.ReportLaws.{report_refused_still, report_refused_below}
use Rattle.dispatcher.specs.declared.State.{State}
use Rattle.timer.specs.Registers.{control_byte, control_of, sum_shown, fresh_timer}
use Rattle.timer.specs.Registers.{serving}
use Rattle.timer.specs.RegisterLaws.{status_few, read_eight, read_no_more, write_no_more, event_ignored}
use Rattle.timer.specs.RegisterLaws.{serve_none, serve_refused, serve_made}
use Rattle.timer.specs.ShownLaws.{control_shown, status_shown, row_shown_lem, sum_is_shown, free_shown, due_bit, overrun_bit, missed_bit, line_shown}
use Rattle.timer.specs.ShownLaws.{fresh_read, write_eight, write_above, write_refused_still, serve_due}
use Rattle.timer.specs.declared.Timer.{Timer}
use Rattle.flight_timer.specs.Calls.{RegisterCall, read, write, event, serve, report, line, nothing, turn, register_answers_from, timer_from, timer_after, number_answered}
use Rattle.flight_timer.specs.Told.{control_then, control_from, control_after, RunSet, MakesDue, Serves, FrameDue, Clears, Overruns, OverrunMarked}
use Rattle.flight_timer.specs.Told.{Misses, MissMarked, asked_from, dispatched, Told, RegistersTold}
use Rattle.flight_timer.specs.SinceLaws.{every, bit_step}
use Rattle.flight_timer.specs.StepLaws.{event_decides, answer_decides, clear_decides, overrun_decides}
use Rattle.flight_timer.specs.StepLaws.{control_step, due_step, overrun_step, missed_step, state_step}
use Rattle.flight_timer.specs.SumLaws.{counts_are, sum_of_all}

-- One call more behind a list

module _ (c : RegisterCall) where
  timer_more : (t : Timer) (calls : List RegisterCall) → timer_from t (calls ++ (c ∷ [])) ≡ (turn (timer_from t calls) c).after
  unfolding timer_from
  timer_more t [] = refl
  timer_more t (d ∷ calls) = timer_more (turn t d).after calls

  control_more : (last : ℕ) (calls : List RegisterCall) → control_from last (calls ++ (c ∷ [])) ≡ control_then (control_from last calls) c
  unfolding control_from
  control_more last [] = refl
  control_more last (d ∷ calls) = control_more (control_then last d) calls

-- control and the bits of status are as told
pub record Kept (calls : List RegisterCall) : Type 0 where
  pub control_kept : (timer_after calls).control ≡ control_of (control_after calls)
  pub due_kept : ((timer_after calls).status.due ≡ true) ↔ FrameDue calls
  pub overrun_kept : ((timer_after calls).status.overrun ≡ true) ↔ OverrunMarked calls
  pub missed_kept : ((timer_after calls).status.missed ≡ true) ↔ MissMarked calls

-- no call has set a bit
kept_none : Kept []
unfolding timer_from control_from
kept_none = record {
  control_kept = refl;
  due_kept = (λ e. absurd (false≢true e), λ s. absurd (omega (arith, s.within)));
  overrun_kept = (λ e. absurd (false≢true e), λ s. absurd (omega (arith, s.within)));
  missed_kept = (λ e. absurd (false≢true e), λ s. absurd (omega (arith, s.within)));
}

both_decide : (a b : Bool) (A B : Type 0) → (a ≡ true) ↔ A → (b ≡ true) ↔ B → (a && b ≡ true) ↔ (A × B)
both_decide true b A B p q = (λ e. (p.0 refl, q.0 e), λ w. q.1 w.1)
both_decide false b A B p q = (λ e. absurd (false≢true e), λ w. p.1 w.0)

kept_more : (calls : List RegisterCall) (c : RegisterCall) → Kept calls → Kept (calls ++ (c ∷ []))
kept_more calls c k =
    let t = timer_after calls in
    let after = timer_more c fresh_timer calls in
    let run_is : (t.control.run ≡ true) ↔ RunSet calls = rw k.control_kept (λ e. e, λ e. e) in
    let missing = both_decide t.control.run t.status.due (RunSet calls) (FrameDue calls) run_is k.due_kept in
    record {
      control_kept = rw (after, control_more c 0 calls) (control_step (control_after calls) t c k.control_kept);
      due_kept = rw after (bit_step calls c MakesDue Serves t.status.due _ _ _ (due_step t c) (event_decides t.control.run (RunSet calls) run_is c)
          (answer_decides t c) k.due_kept);
      overrun_kept = rw after (bit_step calls c Overruns (Clears 2) t.status.overrun _ _ _ (overrun_step t c) (overrun_decides c) (clear_decides 2 c)
          k.overrun_kept);
      missed_kept = rw after (bit_step calls c Misses (Clears 4) t.status.missed _ _ _ (missed_step t c)
          (event_decides (t.control.run && t.status.due) (RunSet calls × FrameDue calls) missing c) (clear_decides 4 c) k.missed_kept);
    }

kept : (calls : List RegisterCall) → Kept calls
kept calls = every Kept kept_none kept_more calls

-- From the front: the dispatcher's state, and the answers

state_from : (t : Timer) (calls : List RegisterCall) → (timer_from t calls).state ≡ dispatched t.state (asked_from t calls)
unfolding timer_from asked_from dispatched
state_from t [] = refl
state_from t (c ∷ cs) = state_from (turn t c).after cs ∙ state_step t c (asked_from (turn t c).after cs)

answers_from : (t : Timer) (calls : List RegisterCall) (i : ℕ) → i < length calls
    → get_or (register_answers_from t calls) i nothing ≡ (turn (timer_from t (take i calls)) (get_or calls i line)).answer
unfolding register_answers_from timer_from
answers_from t [] i h = absurd (omega arith)
answers_from t (c ∷ cs) zero h = refl
answers_from t (c ∷ cs) (suc i) h = answers_from (turn t c).after cs i (omega arith)

-- control reads as the last byte written, without its unnamed bits
bit_of : (n : ℕ) → n < 2 → bit (eqb n 1) ≡ n
bit_of zero h = refl
bit_of (suc zero) h = refl
bit_of (suc (suc n)) h = absurd (omega arith)

bits_of : (value : ℕ) → control_byte (control_of value) ≡ value % 4
bits_of value = omega (arith, bit_of (value / 1 % 2) (omega arith), bit_of (value / 2 % 2) (omega arith))

not_set : (b : Bool) → (b ≡ true → ⊥) → b ≡ false
not_set true ne = absurd (ne refl)
not_set false ne = refl

-- A refused call changes nothing

pub still : (t : Timer) (c : RegisterCall) → (number_answered (turn t c).answer ≡ 0 → ⊥) → (turn t c).after ≡ t
unfolding turn
still t (read address) ne = refl
still t (write address value) ne = write_refused_still address value t ne
still t event ne = absurd (ne refl)
still t (serve bytes) ne = go t.status.due refl
  where
    go : (b : Bool) → t.status.due ≡ b → (serving (decode bytes) t).timer ≡ t
    go true e = rw (serve_refused (decode bytes) t e (λ z. ne (rw (serve_made (decode bytes) t e z) z)))
    go false e = absurd (ne (rw (serve_none (decode bytes) t e)))
still t (report bytes task ticks) ne =
    rw (report_refused_below (reading bytes) task ticks t.state ne, report_refused_still (reading bytes) task ticks t.state ne)
still t line ne = refl

-- THE THEOREM: for every list of calls.

pub registers_told : RegistersTold
unfolding turn
registers_told = (fresh_read, told)
  where
    told : (calls : List RegisterCall) → Told calls
    told calls =
        let t = timer_after calls in
        let k = kept calls in
        let state_is = state_from fresh_timer calls in
        record {
          answers_are = answers_from fresh_timer calls;
          control_is = control_shown t ∙ ap control_byte k.control_kept ∙ bits_of (control_after calls);
          status_few = rw (status_shown t) (status_few t.status);
          due_is = rw (due_bit t) k.due_kept;
          overrun_is = rw (overrun_bit t) k.overrun_kept;
          missed_is = rw (missed_bit t) k.missed_kept;
          dispatcher_is = state_is;
          row_is = row_shown_lem t ∙ ap (λ (s : State). s.row) state_is;
          sum_is = sum_is_shown t ∙ ap (λ (s : State). sum_shown s.counts) state_is;
          count_is = λ i h. rw (← state_is) (counts_are calls i h);
          sum_counts = sum_is_shown t ∙ sum_of_all calls;
          six_seven = free_shown t;
          reads_eight = λ address h. rw (read_eight address t h);
          reads_no_more = λ address h. read_no_more address t h;
          writes_eight = λ address value h. write_eight address value t h;
          writes_no_more = λ address value h. write_no_more address value t h;
          writes_ignored = λ address value h. write_above address value t h;
          event_ignored = λ clear. event_ignored t (not_set t.control.run (λ e. clear (rw k.control_kept at e)));
          due_served = λ due bytes. rw (← state_is) (serve_due (decode bytes) t (k.due_kept.1 due));
          none_served = λ none bytes. serve_none (decode bytes) t (not_set t.status.due (λ e. none (k.due_kept.0 e)));
          report_is = λ bytes task ticks. ap (λ (s : State). (reported (reading bytes) task ticks s).refusal) state_is;
          refused_still = still t;
          line_is = line_shown t;
        }
