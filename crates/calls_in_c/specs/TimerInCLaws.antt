-- One bus_timer call is one call of the timer on what the bytes say; so is every list of them.
use Rattle.std.specs.Prelude.{ℕ, ◌+◌, ◌≤◌, ◌<◌, ◌≡◌, refl, Bool, cond, ◌&&◌, List, [], ◌∷◌, ◌++◌, pos, length, get_or, set, drop, eqb}
use Rattle.std.proofs.Common.{sym, ap, ◌∙◌, inl, inr, ⊎_elim, arith, length-append, get_or-set_other}
use Rattle.std.proofs.Math.Bool.{true, false}
use Rattle.std.proofs.lemmas.Bool.{false≢true}
use Rattle.std.proofs.lemmas.List.{length-replicate}
use borrow.Author.Tests.{le-ltb, lt-ltb, eqb-true, eqb-false, leb-true, leb-false}
use Rattle.cursor.specs.ChoiceLaws.{lt_or_ge}
use Rattle.request.specs.Request.{reading}
use Rattle.table.specs.Table.{decode}
use Rattle.dispatcher.specs.Dispatch.{next_frame}
use Rattle.dispatcher.specs.FrameLaws.{frame_counts}
use Rattle.dispatcher.specs.ReportLaws.{report_as_many}
use Rattle.dispatcher.specs.declared.State.{State}
use Rattle.timer.specs.Registers.{control_byte, status_byte, fresh_timer, after_write, after_event, serving, reporting}
use Rattle.timer.specs.RegisterLaws.{write_parts, event_parts, serve_parts, serve_none}
use Rattle.timer.specs.declared.Timer.{Timer}
use Rattle.flight_timer.specs.Calls as below
use Rattle.flight_timer.specs.ToldLaws.{still, registers_told}
use Rattle.lent.specs.Words.{zeros}
use Rattle.lent.specs.State.{state_bytes}
use Rattle.lent.specs.StateBack.{same_state, counts_read, state_kept}
use Rattle.lent.specs.TimerBytes.{is_timer, timer_of, timer_bytes}
use Rattle.lent.specs.TimerByteLaws.{timer_long}
use Rattle.lent.specs.TimerBytesBack.{timer_length, timer_is, timer_read}
use Rattle.bus.specs.Reply.{after}
use Rattle.bus.specs.ReplyLaws.{after_refusal, after_value}
use Rattle.bus.specs.Timer.{timer_fresh_reply, timer_fresh_bytes, timer_read_reply, timer_write_reply, timer_write_bytes, timer_event_reply, timer_event_bytes}
use Rattle.bus.specs.Timer.{can_serve_timer, frame_asked, timer_serve_reply, timer_serve_bytes, timer_serve_entries, timer_report_reply, timer_report_bytes, timer_line_reply}
use Rattle.bus.specs.TimerLaws.{timer_fresh_refused, timer_fresh_made}
use Rattle.bus_laws.specs.Answered.{not_refused}
use Rattle.calls_in_c.specs.Runs.{Lending, fed, Runs}
use Rattle.calls_in_c.specs.RunLaws.{Stands, OneCall, runs_all}
use Rattle.calls_in_c.specs.TimerInC.{TimerCall, read, write, event, serve, report, line, seen_of_timer, timer_left, entries_lent, timer_sent_back}
use Rattle.calls_in_c.specs.TimerInC.{timer_asked, timer_shown, UsedInTimer, timers, TimerToldInC, TimerInC}

used_few : (i : ℕ) → UsedInTimer i → i < 72
used_few i (inl h) = omega (arith, h)
used_few i (inr (inl e)) = omega (arith, e)
used_few i (inr (inr e)) = omega (arith, e)

-- the used bytes decide whether bytes are a timer, and what they say
alike : (a b : List ℕ) → 72 ≤ length a → 72 ≤ length b → ((i : ℕ) → UsedInTimer i → get_or a i 0 ≡ get_or b i 0) → (is_timer a ≡ is_timer b) × (timer_of a ≡ timer_of b)
unfolding is_timer timer_of
alike a b long_a long_b same = (
  rw (le-ltb (length a) 72 long_a, le-ltb (length b) 72 long_b, same 2 (inl (omega arith)), same 64 (inr (inl refl)), same 65 (inr (inr refl))),
  rw (same_state a b (λ i h. same i (inl h)), same 64 (inr (inl refl)), same 65 (inr (inr refl))),
)

-- no other is written
kept : (t : Timer) (bytes : List ℕ) (i : ℕ) → (UsedInTimer i → ⊥) → get_or (timer_bytes t bytes) i 0 ≡ get_or bytes i 0
unfolding timer_bytes
kept t bytes i h =
    let control = set (state_bytes t.state bytes) 64 (control_byte t.control) in
    get_or-set_other control 65 i (status_byte t.status) 0 (λ e. h (inr (inr e)))
    ∙ get_or-set_other (state_bytes t.state bytes) 64 i (control_byte t.control) 0 (λ e. h (inr (inl e)))
    ∙ state_kept t.state bytes i (⊎_elim (λ low. absurd (h (inl low))) (λ far. far) (lt_or_ge i 35))

-- 16 counts stay 16
as_many : (t : Timer) (c : below.RegisterCall) → length (below.turn t c).after.state.counts ≡ length t.state.counts
unfolding below.turn
as_many t (below.read address) = refl
as_many t (below.write address value) = ap (λ (s : State). length s.counts) (write_parts address value t).2
as_many t below.event = ap (λ (s : State). length s.counts) (event_parts t).2
as_many t (below.serve bytes) = ap (λ (s : State). length s.counts) (serve_parts (decode bytes) t).2 ∙ go t.status.due
  where
    go : (b : Bool) → length (cond b (next_frame (decode bytes) t.state).state t.state).counts ≡ length t.state.counts
    go true = ap (λ (l : List ℕ). length l) (frame_counts (decode bytes) t.state)
    go false = refl
as_many t (below.report bytes task ticks) = report_as_many (reading bytes) task ticks t.state
as_many t below.line = refl

module _ (bytes : List ℕ) (is : is_timer bytes ≡ true) where
  same : Stands timers bytes (timer_of bytes) bytes
  same = record { good = is; said = refl; as_long = refl; kept = λ i h. refl }

  -- a timer is written
  wrote : (t : Timer) → length t.state.counts ≡ 16 → Stands timers bytes t (timer_bytes t bytes)
  wrote t all =
      let far = timer_long bytes is in
      record { good = timer_is t bytes far; said = timer_read t bytes far all; as_long = timer_length t bytes far; kept = kept t bytes }

  -- unless the call is refused, and then there is the timer that was
  wrote_after : (refusal : ℕ) (t : Timer) → length t.state.counts ≡ 16 → ((refusal ≡ 0 → ⊥) → t ≡ timer_of bytes)
      → Stands timers bytes t (after refusal (timer_bytes t bytes) bytes)
  wrote_after refusal t all still = go (eqb refusal 0) refl
    where
      go : (b : Bool) → eqb refusal 0 ≡ b → Stands timers bytes t (after refusal (timer_bytes t bytes) bytes)
      go true e = rw (← after_value refusal (timer_bytes t bytes) bytes (eqb-true refusal 0 e)) (wrote t all)
      go false e = let ne = eqb-false refusal 0 e in rw (← after_refusal refusal (timer_bytes t bytes) bytes ne, still ne) same

  abbrev now : Timer
  now = timer_of bytes

  sixteen : (c : below.RegisterCall) → length (below.turn now c).after.state.counts ≡ 16
  unfolding timer_of
  sixteen c = as_many now c ∙ counts_read bytes

  made_seen : (c : TimerCall) → entries_lent c ≡ true → seen_of_timer c bytes ≡ timer_shown c now
  unfolding below.turn timer_read_reply timer_write_reply timer_event_reply timer_serve_reply timer_serve_entries can_serve_timer frame_asked timer_report_reply timer_line_reply
  made_seen (read address) lent = rw is
  made_seen (write address value) lent = rw is
  made_seen event lent = rw is
  made_seen (serve table entries) lent = rw (is, le-ltb (length entries) 32 (leb-true 32 (length entries) lent))
  made_seen (report request task ticks) lent = rw is
  made_seen line lent = rw is

  made_left : (c : TimerCall) → entries_lent c ≡ true → Stands timers bytes (below.timer_from now (timer_asked c ∷ [])) (timer_left c bytes)
  unfolding below.timer_from below.turn timer_write_bytes timer_event_bytes timer_serve_bytes can_serve_timer frame_asked timer_report_bytes
  made_left (read address) lent = same
  made_left (write address value) lent =
      rw is (wrote_after (after_write address value now).refusal (after_write address value now).timer (sixteen (below.write address value))
      (still now (below.write address value)))
  made_left event lent = rw is (wrote (after_event now) (sixteen below.event))
  made_left (serve table entries) lent = rw (is, le-ltb (length entries) 32 (leb-true 32 (length entries) lent)) (go now.status.due refl)
    where
      go : (b : Bool) → now.status.due ≡ b
          → Stands timers bytes (serving (decode table) now).timer
          (cond b (after (serving (decode table) now).refusal (timer_bytes (serving (decode table) now).timer bytes) bytes) bytes)
      go true e = wrote_after (serving (decode table) now).refusal (serving (decode table) now).timer (sixteen (below.serve table)) (still now (below.serve table))
      go false e = rw (serve_none (decode table) now e) same
  made_left (report request task ticks) lent =
      rw is (wrote_after (reporting (reading request) task ticks now).refusal (reporting (reading request) task ticks now).timer
      (sixteen (below.report request task ticks)) (still now (below.report request task ticks)))
  made_left line lent = same

-- a call on bytes that are no timer, or with too few bytes for the entries

abbrev SentBack : TimerCall → List ℕ → Type 0
SentBack c bytes = (seen_of_timer c bytes ≡ timer_sent_back c) × (timer_left c bytes ≡ bytes)

no_timer_seen : (c : TimerCall) (bytes : List ℕ) → is_timer bytes ≡ false → seen_of_timer c bytes ≡ timer_sent_back c
unfolding timer_read_reply timer_write_reply timer_event_reply timer_serve_reply timer_serve_entries can_serve_timer frame_asked timer_report_reply timer_line_reply
no_timer_seen (read address) bytes bad = rw bad
no_timer_seen (write address value) bytes bad = rw bad
no_timer_seen event bytes bad = rw bad
no_timer_seen (serve table entries) bytes bad = rw bad
no_timer_seen (report request task ticks) bytes bad = rw bad
no_timer_seen line bytes bad = rw bad

no_timer_left : (c : TimerCall) (bytes : List ℕ) → is_timer bytes ≡ false → timer_left c bytes ≡ bytes
unfolding timer_write_bytes timer_event_bytes timer_serve_bytes can_serve_timer frame_asked timer_report_bytes
no_timer_left (read address) bytes bad = refl
no_timer_left (write address value) bytes bad = rw bad
no_timer_left event bytes bad = rw bad
no_timer_left (serve table entries) bytes bad = rw bad
no_timer_left (report request task ticks) bytes bad = rw bad
no_timer_left line bytes bad = refl

no_room : (c : TimerCall) (bytes : List ℕ) → is_timer bytes ≡ true → entries_lent c ≡ false → SentBack c bytes
unfolding timer_serve_reply timer_serve_bytes timer_serve_entries can_serve_timer frame_asked
no_room (serve table entries) bytes is short =
    let few = lt-ltb (length entries) 32 (leb-false 32 (length entries) short) in
    (rw (is, few), rw (is, few))
no_room (read address) bytes is short = absurd (false≢true (sym short))
no_room (write address value) bytes is short = absurd (false≢true (sym short))
no_room event bytes is short = absurd (false≢true (sym short))
no_room (report request task ticks) bytes is short = absurd (false≢true (sym short))
no_room line bytes is short = absurd (false≢true (sym short))

sent_back : (c : TimerCall) (bytes : List ℕ) → is_timer bytes && entries_lent c ≡ false → SentBack c bytes
sent_back c bytes short = go (is_timer bytes) refl short
  where
    go : (b : Bool) → is_timer bytes ≡ b → b && entries_lent c ≡ false → SentBack c bytes
    go true is short = no_room c bytes is short
    go false bad short = (no_timer_seen c bytes bad, no_timer_left c bytes bad)

one_call : OneCall timers
unfolding below.timer_from
one_call = record {
  used_few = used_few;
  long = timer_long;
  alike = alike;
  refused = sent_back;
  made = λ c bytes is lent. (made_seen bytes is c lent, made_left bytes is c lent);
  none = λ t. refl;
  more = λ t b bs. refl;
}

-- a timer that bus_timer_fresh made
module _ (bytes : List ℕ) (made : timer_fresh_reply bytes ≡ pos 0) (calls : List (Lending TimerCall)) where
  far : 72 ≤ length bytes
  far = ⊎_elim (λ h. absurd (not_refused 98 0 ((timer_fresh_refused bytes h).0 ∙ made))) (λ h. h) (lt_or_ge (length bytes) 72)

  abbrev behind : List ℕ
  behind = zeros 72 ++ drop 72 bytes

  room : 72 ≤ length behind
  room = omega (arith, length-append (zeros 72) (drop 72 bytes), length-replicate {A = ℕ} 72 0)

  fresh_is : timer_fresh_bytes bytes ≡ timer_bytes fresh_timer behind
  fresh_is = sym (timer_fresh_made bytes far).1

  good : is_timer (timer_fresh_bytes bytes) ≡ true
  good = rw fresh_is (timer_is fresh_timer behind room)

  said : timer_of (timer_fresh_bytes bytes) ≡ fresh_timer
  said = rw fresh_is (timer_read fresh_timer behind room refl)

  all_told : TimerToldInC bytes calls
  unfolding timer_read_reply
  all_told =
      let run : Runs timers (timer_fresh_bytes bytes) calls = (runs_all timers one_call (timer_fresh_bytes bytes) calls).0 good in
      record {
        runs = run;
        from_fresh = said;
        reads = λ address. rw (run.still_good, run.same_said, said);
        told = registers_told.1 (fed timers calls);
      }

-- THE THEOREM: every list of bus_timer calls.
pub timer_in_c : TimerInC
timer_in_c = (runs_all timers one_call, all_told)
