-- The state after a call differs from the state before it only where Changed says.
use Rattle.std.specs.Prelude.{ℕ, ◌+◌, ◌*◌, ◌≤◌, ◌<◌, ◌≡◌, refl, Bool, true, false, not, cond, ◌&&◌, List, length, get_or, ltb, eqb}
use Rattle.std.proofs.Common.{sym, ap, ◌∙◌, inl, inr, arith, eqb-true, ltb-true, ltb-false, ne_eqb}
use Rattle.std.proofs.lemmas.Bool.{eqb-false}
use Rattle.request.specs.Request.{Reading, readable, unreadable, reading}
use Rattle.table.specs.Table.{decode}
use Rattle.dispatcher.specs.Dispatch.{exceeds, raised_at, next_frame, reported}
use Rattle.dispatcher.specs.FrameLaws.{frame_counts}
use Rattle.dispatcher.specs.ReportLaws.{report_counted, report_unknown, report_unreadable, raised_only}
use Rattle.dispatcher.specs.declared.State.{State}
use Rattle.lent.specs.State.{is_state, state_of, state_bytes}
use Rattle.lent.specs.StateLaws.{state_long}
use Rattle.lent.specs.StateBack.{counts_read, count_read, state_length, bytes_back, same_behind, states_agree}
use Rattle.bus.specs.Reply.{after}
use Rattle.bus.specs.ReplyLaws.{after_refusal, after_value}
use Rattle.bus.specs.Dispatch.{can_serve, frame_state, report_state}
use Rattle.bus_laws.specs.Changed.{ChangesOnly, RowOrMark, OwnCount, FrameChanges, ReportChanges}

unchanged : {Named : ℕ → Type 0} (bytes : List ℕ) → ChangesOnly Named bytes bytes
unchanged bytes = (refl, λ k other. refl)

-- a refusal changes nothing
after_only : (Named : ℕ → Type 0) (refusal : ℕ) (new old : List ℕ) → (refusal ≡ 0 → ChangesOnly Named old new) → ChangesOnly Named old (after refusal new old)
after_only Named refusal new old h = go (eqb refusal 0) refl
  where
    go : (b : Bool) → eqb refusal 0 ≡ b → ChangesOnly Named old (after refusal new old)
    go true e = let none = eqb-true refusal 0 e in rw (← after_value refusal new old none) (h none)
    go false e = rw (← after_refusal refusal new old (eqb-false refusal 0 e)) (unchanged old)

-- bus_next_frame

pub frame_changes : FrameChanges
unfolding frame_state can_serve
frame_changes table state entries are = go (is_state state) refl (not (ltb (length entries) 32))
  where
    new : State
    new = (next_frame (decode table) (state_of state)).state

    go : (is : Bool) → is_state state ≡ is → (room : Bool)
        → ChangesOnly RowOrMark state (cond (is && room) (after (next_frame (decode table) (state_of state)).refusal (state_bytes new state) state) state)
    go true is true = after_only RowOrMark (next_frame (decode table) (state_of state)).refusal (state_bytes new state) state (λ none. (
      state_length new state (state_long state is),
      λ k other. same_behind new (state_of state) state (frame_counts (decode table) (state_of state)) k (omega arith) ∙ ap (λ (l : List ℕ). get_or l k 0) (bytes_back state is are),
    ))
    go true is false = unchanged state
    go false is room = unchanged state

-- bus_report

-- the state after a report differs in the count of its task alone
pub record OneCount (task : ℕ) (new old : State) : Type 0 where
  pub row : new.row ≡ old.row
  pub first : new.first ≡ old.first
  pub others : (i : ℕ) → i < 16 → (i ≡ task → ⊥) → get_or new.counts i 0 ≡ get_or old.counts i 0

module _ (task ticks : ℕ) (s : State) (all : length s.counts ≡ 16) (small : (i : ℕ) → i < 16 → get_or s.counts i 0 ≤ 65535) where
  none_changed : OneCount task s s
  none_changed = record { row = refl; first = refl; others = λ i h ne. refl }

  one_count : (r : Reading) → OneCount task (reported r task ticks s).state s
  one_count (unreadable number) = rw (report_unreadable (unreadable number) task ticks s number refl) none_changed
  one_count (readable tasks pairs g) = go (ltb task (length tasks)) refl
    where
      r : Reading
      r = readable tasks pairs g

      over : Bool
      over = exceeds tasks task ticks

      kept : (i : ℕ) → i < 16 → (i ≡ task → ⊥) → get_or (raised_at over task s.counts) i 0 ≡ get_or s.counts i 0
      kept i h ne =
          let other : eqb task i ≡ false = ne_eqb task i (λ e. ne (sym e)) in
          (rw other at (raised_only over task s.counts i (omega arith) (small i h))) ∙ (let fits = small i h in omega arith)

      go : (b : Bool) → ltb task (length tasks) ≡ b → OneCount task (reported r task ticks s).state s
      go true q = rw (report_counted r task ticks s tasks pairs g refl (ltb-true task (length tasks) q)) (record { row = refl; first = refl; others = kept })
      go false q = rw (report_unknown r task ticks s tasks pairs g refl (ltb-false task (length tasks) q)) none_changed

pub report_changes : ReportChanges
unfolding report_state
report_changes request task ticks state are = go (is_state state) refl
  where
    new : State
    new = (reported (reading request) task ticks (state_of state)).state

    small : (i : ℕ) → i < 16 → get_or (state_of state).counts i 0 ≤ 65535
    small i h = omega (arith, count_read state i h, are (3 + 2 * i), are (4 + 2 * i))

    one : OneCount task new (state_of state)
    one = one_count task ticks (state_of state) (counts_read state) small (reading request)

    go : (is : Bool) → is_state state ≡ is
        → ChangesOnly (OwnCount task) state (cond is (after (reported (reading request) task ticks (state_of state)).refusal (state_bytes new state) state) state)
    go true is = after_only (OwnCount task) (reported (reading request) task ticks (state_of state)).refusal (state_bytes new state) state (λ none. (
      state_length new state (state_long state is),
      λ k other. states_agree task new (state_of state) one.others state one.row one.first k (λ few e. other (inl e, few)) (λ few e. other (inr e, few))
          ∙ ap (λ (l : List ℕ). get_or l k 0) (bytes_back state is are),
    ))
    go false is = unchanged state
