-- The calls from C are the dispatcher's: each reads the state that the last one wrote, so over every list of calls they see what the dispatcher
-- answers; and the dispatcher is the plain one, by the flight's theorem. A call that lends too few bytes leaves all as it was, and the dispatcher
-- is not asked.
use Rattle.std.specs.Prelude.{◌≡◌, Bool, ℕ, zero, suc, ◌+◌, ◌≤◌, pos, get_or, drop, eqb}
use Rattle.std.proofs.Math.Path.{refl}
use Rattle.std.proofs.Common.{sym, ap, subst, ◌∙◌, zero-add, arith, length-append}
use Rattle.std.proofs.Math.Bool.{true, false}
use Rattle.std.proofs.lemmas.Bool.{false≢true}
use mathlib.Core.List.{List, [], ◌∷◌, ◌++◌}
use Rattle.std.proofs.Math.ListN.{length}
use Rattle.std.proofs.lemmas.List.{length-replicate}
use borrow.Author.Tests.{le-ltb, leb-true, leb-false, eqb-true, eqb-false, ne_eqb}
use Rattle.cursor.specs.Choice.{keep}
use Rattle.cursor.specs.RangeLaws.{over_same}
use Rattle.request.specs.Request.{reading}
use Rattle.table.specs.Table.{Entry, entry_of, decode}
use Rattle.table.specs.AnswerLaws.{entries_at}
use Rattle.table.specs.Answers.{Row}
use Rattle.dispatcher.specs.Dispatch.{fresh_state, next_frame, reported, row_shown}
use Rattle.dispatcher.specs.FrameLaws.{frame_refused_still, frame_few}
use Rattle.dispatcher.specs.ReportLaws.{report_refused_still}
use Rattle.dispatcher.specs.declared.State.{State}
use Rattle.flight.specs.Calls as plain
use Rattle.flight.specs.Timing.{KeepToC}
use Rattle.flight.specs.Counted.{as_many}
use Rattle.flight.specs.Flight.{frames_flown, Flight, Flies}
use Rattle.flight.specs.Joined.{checked_flight, planned_flight}
use Rattle.lent.specs.Words.{zeros}
use Rattle.lent.specs.State.{state_bytes}
use Rattle.lent.specs.StateBack.{state_is, count_there, state_read, state_over}
use Rattle.lent.specs.Entries.{entry_bytes}
use Rattle.lent.specs.EntryLaws.{pair_there}
use Rattle.bus.specs.Reply.{after}
use Rattle.bus.specs.Dispatch.{fresh_reply, fresh_bytes, can_serve, frame_reply, frame_state, frame_entries, report_reply, report_state}
use Rattle.bus.specs.ReplyLaws.{reply_refused, reply_value, after_refusal, after_value}
use Rattle.bus.specs.DispatchLaws.{fresh_made, no_room}
use Rattle.bus_laws.specs.Answered.{check_told, fresh_told, plan_told}
use Rattle.flight_in_c.specs.CallsInC.{CallInC, next_frame_call, report, Seen, frame, seen, leaves, all_seen, state_left}
use Rattle.flight_in_c.specs.CallsInC.{entries_read, with_seen, frames_read, lends, asked, fed, shown_in_c, sent_back, shown_next, all_shown}
use Rattle.flight_in_c.specs.CallsInC.{frames_in_c, plain_state, FlightInC, FliesInC, CheckedInC, PlannedInC}

-- The entries of a frame, read off their bytes

entries_read_lem : (tasks jobs behind : List ℕ) (n : ℕ) → n ≤ 16 → entries_read (entry_bytes tasks jobs 16 0 ++ behind) n ≡ entries_at tasks jobs n 0
unfolding entries_read
entries_read_lem tasks jobs behind n h =
    over_same _ (λ p. entry_of (get_or tasks p 0) (get_or jobs p 0)) 0 n (λ p low high.
    let there = rw (zero-add p) at (pair_there tasks jobs behind 16 0 p (omega arith)) in
    rw (there.0, there.1))

row_read : (r : Row) → r.count ≤ 16 → (entries : List ℕ) (rest : List (List Entry))
    → with_seen (shown_in_c (next_frame_call entries) (plain.frame r)) rest ≡ plain.with_frame (plain.frame r) rest
row_read r few entries rest = go r.refusal refl
  where
    go : (k : ℕ) → r.refusal ≡ k → with_seen (shown_in_c (next_frame_call entries) (plain.frame r)) rest ≡ plain.with_frame (plain.frame r) rest
    go zero e =
        rw (e, ← reply_value 0 r.count refl, ← after_value 0 (entry_bytes r.tasks r.jobs 16 0 ++ drop 32 entries) entries refl)
        (ap (λ (l : List Entry). l ∷ rest) (entries_read_lem r.tasks r.jobs (drop 32 entries) r.count few))
    go (suc k) e =
        let some : suc k ≡ 0 → ⊥ = λ z. omega arith in
        rw (e, ← reply_refused (suc k) r.count some, ne_eqb (suc k) 0 some)

-- a call that lends too few bytes shows none
sent_back_lem : (c : CallInC) (rest : List (List Entry)) → with_seen (sent_back c) rest ≡ rest
sent_back_lem (next_frame_call entries) rest = refl
sent_back_lem (report request task ticks) rest = refl

-- a call that is refused writes no state, and the dispatcher's state is then the old one
written : (refusal : ℕ) (s new : State) (behind : List ℕ) → ((refusal ≡ 0 → ⊥) → new ≡ s)
    → after refusal (state_bytes new (state_bytes s behind)) (state_bytes s behind) ≡ state_bytes new behind
written refusal s new behind still = go (eqb refusal 0) refl
  where
    go : (b : Bool) → eqb refusal 0 ≡ b → after refusal (state_bytes new (state_bytes s behind)) (state_bytes s behind) ≡ state_bytes new behind
    go true e = sym (after_value refusal _ _ (eqb-true refusal 0 e)) ∙ state_over new behind s
    go false e =
        let ne : refusal ≡ 0 → ⊥ = eqb-false refusal 0 e in
        sym (after_refusal refusal _ _ ne) ∙ ap (λ (k : State). state_bytes k behind) (sym (still ne))

module _ (table behind : List ℕ) (room : 64 ≤ length behind) where
  -- One call, on the bytes of a state

  module _ (s : State) (all : length s.counts ≡ 16) where
    one_seen : (c : CallInC) → lends c ≡ true → seen table (state_bytes s behind) c ≡ shown_in_c c (plain.dispatch table s (asked c)).answer
    unfolding plain.dispatch frame_reply frame_entries report_reply can_serve
    one_seen (next_frame_call entries) lent = rw (state_is s behind room, le-ltb (length entries) 32 (leb-true 32 (length entries) lent), state_read s behind all)
    one_seen (report request task ticks) lent = rw (state_is s behind room, state_read s behind all)

    one_left : (c : CallInC) → lends c ≡ true → leaves table (state_bytes s behind) c ≡ state_bytes (plain.dispatch table s (asked c)).after behind
    unfolding plain.dispatch frame_state report_state can_serve
    one_left (next_frame_call entries) lent =
        rw (state_is s behind room, le-ltb (length entries) 32 (leb-true 32 (length entries) lent), state_read s behind all)
        (written (next_frame (decode table) s).refusal s (next_frame (decode table) s).state behind (frame_refused_still (decode table) s))
    one_left (report request task ticks) lent =
        rw (state_is s behind room, state_read s behind all)
        (written (reported (reading request) task ticks s).refusal s (reported (reading request) task ticks s).state behind (report_refused_still (reading request) task ticks s))

    one_back : (c : CallInC) → lends c ≡ false → (seen table (state_bytes s behind) c ≡ sent_back c) × (leaves table (state_bytes s behind) c ≡ state_bytes s behind)
    one_back (next_frame_call entries) short =
        let law = no_room table (state_bytes s behind) entries (state_is s behind room) (leb-false 32 (length entries) short) in
        (λ i. frame (sym law.0 i) (sym law.2 i), sym law.1)
    one_back (report request task ticks) short = absurd (false≢true (sym short))

    one_read : (c : CallInC) (rest : List (List Entry))
        → with_seen (shown_in_c c (plain.dispatch table s (asked c)).answer) rest ≡ plain.with_frame (plain.dispatch table s (asked c)).answer rest
    unfolding plain.dispatch
    one_read (next_frame_call entries) rest = row_read (row_shown (next_frame (decode table) s)) (frame_few table s) entries rest
    one_read (report request task ticks) rest = refl

  -- A list of calls

  abbrev Answered : State → List CallInC → List plain.Answer
  Answered s cs = plain.answers (plain.dispatch table) s (fed cs)

  all_seen_lem : (cs : List CallInC) (s : State) → length s.counts ≡ 16 → all_seen table (state_bytes s behind) cs ≡ all_shown cs (Answered s cs)
  unfolding all_seen all_shown plain.answers fed
  all_seen_lem [] s all = refl
  all_seen_lem (c ∷ cs) s all = go (lends c) refl (all_seen_lem cs)
    where
      go : (b : Bool) → lends c ≡ b
          → ((s : State) → length s.counts ≡ 16 → all_seen table (state_bytes s behind) cs ≡ all_shown cs (Answered s cs))
          → (seen table (state_bytes s behind) c ∷ all_seen table (leaves table (state_bytes s behind) c) cs)
          ≡ shown_next b c (all_shown cs) (plain.answers (plain.dispatch table) s (keep b (asked c) (fed cs)))
      go true q rest =
          rw (one_seen s all c q, one_left s all c q)
          (ap (λ (l : List Seen). shown_in_c c (plain.dispatch table s (asked c)).answer ∷ l) (rest (plain.dispatch table s (asked c)).after (as_many table s (asked c) ∙ all)))
      go false q rest = rw ((one_back s all c q).0, (one_back s all c q).1) (ap (λ (l : List Seen). sent_back c ∷ l) (rest s all))

  all_left : (cs : List CallInC) (s : State) → length s.counts ≡ 16
      → state_left table (state_bytes s behind) cs ≡ state_bytes (plain.final (plain.dispatch table) s (fed cs)) behind
  unfolding state_left plain.final fed
  all_left [] s all = refl
  all_left (c ∷ cs) s all = go (lends c) refl (all_left cs)
    where
      go : (b : Bool) → lends c ≡ b
          → ((s : State) → length s.counts ≡ 16 → state_left table (state_bytes s behind) cs ≡ state_bytes (plain.final (plain.dispatch table) s (fed cs)) behind)
          → state_left table (leaves table (state_bytes s behind) c) cs ≡ state_bytes (plain.final (plain.dispatch table) s (keep b (asked c) (fed cs))) behind
      go true q rest = rw (one_left s all c q) (rest (plain.dispatch table s (asked c)).after (as_many table s (asked c) ∙ all))
      go false q rest = rw (one_back s all c q).1 (rest s all)

  all_read : (cs : List CallInC) (s : State) → length s.counts ≡ 16 → frames_read (all_seen table (state_bytes s behind) cs) ≡ plain.frames_shown (Answered s cs)
  unfolding all_seen frames_read plain.answers plain.frames_shown fed
  all_read [] s all = refl
  all_read (c ∷ cs) s all = go (lends c) refl (all_read cs)
    where
      go : (b : Bool) → lends c ≡ b
          → ((s : State) → length s.counts ≡ 16 → frames_read (all_seen table (state_bytes s behind) cs) ≡ plain.frames_shown (Answered s cs))
          → with_seen (seen table (state_bytes s behind) c) (frames_read (all_seen table (leaves table (state_bytes s behind) c) cs))
          ≡ plain.frames_shown (plain.answers (plain.dispatch table) s (keep b (asked c) (fed cs)))
      go true q rest =
          let next = plain.dispatch table s (asked c) in
          rw (one_seen s all c q, one_left s all c q, rest next.after (as_many table s (asked c) ∙ all)) (one_read s all c (plain.frames_shown (Answered next.after cs)))
      go false q rest = rw ((one_back s all c q).0, (one_back s all c q).1) (sent_back_lem c (frames_read (all_seen table (state_bytes s behind) cs)) ∙ rest s all)

-- the bytes that bus_fresh makes
module _ (state : List ℕ) (made : fresh_reply state ≡ pos 0) where
  abbrev behind : List ℕ
  behind = zeros 64 ++ drop 64 state

  behind_room : 64 ≤ length behind
  behind_room = omega (arith, length-append (zeros 64) (drop 64 state), length-replicate {A = ℕ} 64 0)

  fresh_is : fresh_bytes state ≡ state_bytes fresh_state behind
  fresh_is = sym (fresh_made state (fresh_told state made)).1

module _ (request table : List ℕ) (f : Flies request table) (state : List ℕ) (made : fresh_reply state ≡ pos 0) (calls : List CallInC) where
  room : 64 ≤ length (behind state made)
  room = behind_room state made

  claim : Flight f.x table f.t (fed calls) (λ m p. 0)
  claim = f.flies (fed calls) (λ m p. 0) (λ m p served. omega arith)

  read : frames_in_c table state calls ≡ frames_flown table (fed calls)
  read = rw (fresh_is state made) (all_read table (behind state made) room calls fresh_state refl)

  left : state_left table (fresh_bytes state) calls ≡ state_bytes (plain.final (plain.dispatch table) fresh_state (fed calls)) (behind state made)
  left = rw (fresh_is state made) (all_left table (behind state made) room calls fresh_state refl)

  after_all : plain.final (plain.dispatch table) fresh_state (fed calls) ≡ plain_state f.t state calls
  after_all = λ i. record { row = claim.row_is i; first = claim.mark_is i; counts = claim.counts_are i }

  claimed : FlightInC f.x table f.t state calls
  claimed = record {
    same_seen = rw (fresh_is state made) (all_seen_lem table (behind state made) room calls fresh_state refl) ∙ ap (all_shown calls) claim.same_answers;
    same_state = left ∙ ap (λ (s : State). state_bytes s (behind state made)) after_all;
    count_is = λ i few. rw left (count_there _ (behind state made) i few ∙ claim.count_is i few);
    same_frames = read;
    flies = λ actual keep. f.flies (fed calls) actual (subst (λ (l : List (List Entry)). KeepToC f.x l actual) read keep);
  }

in_c : (request table : List ℕ) → Flies request table → FliesInC request table
in_c request table f = record { x = f.x; within = f.within; t = f.t; says = f.says; in_c = claimed request table f }

-- THE THEOREM: a table to which bus_check answers 0 flies through C: for every list of calls, on a state to which bus_fresh answered 0, every answer, every byte
-- of the entries and the state's bytes are the plain dispatcher's, and what the caller reads off keeps the flight's claim.
pub flight_in_c_lem : CheckedInC
flight_in_c_lem request table are e = in_c request table (checked_flight request table are (check_told request table e))

-- So do the bytes that bus_plan handed out: as many as it answered, from the front of the buffer.
pub planned_in_c : PlannedInC
planned_in_c allowance request out tries n e =
    let told = plan_told allowance request out tries n e in
    rw (told.buffer_is, ← told.length_is) (in_c request _ (planned_flight allowance request out told.handed_out))
