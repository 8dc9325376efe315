-- The laws of the registers: each way out of a call, as its definition has it.
use Rattle.std.specs.Prelude.{ℕ, zero, suc, ◌+◌, ◌-◌, ◌%◌, ◌/◌, ◌≤◌, ◌<◌, ◌≡◌, not, ◌&&◌, get_or, ltb}
use Rattle.std.proofs.Math.Path.{refl, sym}
use Rattle.std.proofs.Math.Bool.{Bool, true, false, cond}
use mathlib.Core.List.{List, [], ◌∷◌, map, foldr}
use Rattle.std.proofs.Common.{arith}
use Rattle.std.proofs.Math.Dec.{eqb}
use borrow.Author.Tests.{lt-ltb, le-ltb, eq-eqb, ne_eqb, ltb-false, eqb-true, eqb-false}
use mir.Val.{bool_byte}
use Rattle.cursor.specs.Choice.{bit}
use Rattle.cursor.specs.Range.{range}
use Rattle.cursor.specs.WordBytesLaws.{word_parts}
use Rattle.table.specs.Left.{less_one, none_left}
use Rattle.table.specs.Table.{Decoded, decode}
use Rattle.dispatcher.specs.Dispatch.{next_frame}
use Rattle.dispatcher.specs.FrameLaws.{frame_few, frame_refused_still}
use Rattle.dispatcher.specs.Numbered.{Frame}
use Rattle.timer.specs.Registers.{control_byte, status_byte, sum_of, sum_shown, registers, register_read, with_control, with_status, control_of, status_of, cleared_by, changed, after_write}
use Rattle.timer.specs.Registers.{due_or_missed, after_event, served_once, due_served, none_served, serving}
use Rattle.timer.specs.declared.Control.{Control}
use Rattle.timer.specs.declared.Status.{Status}
use Rattle.timer.specs.declared.Timer.{Timer}
use Rattle.timer.specs.Numbered.{RegisterRead}
use Rattle.timer.specs.Numbered.{FrameServed}

-- a bit as a number
pub bit_is : (b : Bool) → bool_byte b ≡ bit b
bit_is true = refl
bit_is false = refl

pub bit_few : (b : Bool) → bool_byte b ≤ 1
bit_few true = omega arith
bit_few false = omega arith

-- control and status are read back from their bytes
pub control_back : (c : Control) → control_of (control_byte c) ≡ c
control_back c = go c.run c.enable
  where
    of : Bool → Bool → Control
    of run enable = record { run = run; enable = enable }

    go : (run enable : Bool) → control_of (control_byte (of run enable)) ≡ of run enable
    go true true = refl
    go true false = refl
    go false true = refl
    go false false = refl

pub status_back : (s : Status) → status_of (status_byte s) ≡ s
status_back s = go s.due s.overrun s.missed
  where
    of : Bool → Bool → Bool → Status
    of due overrun missed = record { due = due; overrun = overrun; missed = missed }

    go : (due overrun missed : Bool) → status_of (status_byte (of due overrun missed)) ≡ of due overrun missed
    go true true true = refl
    go true true false = refl
    go true false true = refl
    go true false false = refl
    go false true true = refl
    go false true false = refl
    go false false true = refl
    go false false false = refl

-- and no other bit is set
pub control_few : (c : Control) → control_byte c < 4
control_few c = omega (arith, bit_is c.run, bit_is c.enable, bit_few c.run, bit_few c.enable)

pub status_few : (s : Status) → status_byte s < 8
status_few s = omega (arith, bit_is s.due, bit_is s.overrun, bit_is s.missed, bit_few s.due, bit_few s.overrun, bit_few s.missed)

-- such a byte is that of its bits
pub control_bits : (n : ℕ) → n < 4 → control_byte (control_of n) ≡ n
control_bits zero h = refl
control_bits (suc zero) h = refl
control_bits (suc (suc zero)) h = refl
control_bits (suc (suc (suc zero))) h = refl
control_bits (suc (suc (suc (suc n)))) h = absurd (omega arith)

pub status_bits : (n : ℕ) → n < 8 → status_byte (status_of n) ≡ n
status_bits zero h = refl
status_bits (suc zero) h = refl
status_bits (suc (suc zero)) h = refl
status_bits (suc (suc (suc zero))) h = refl
status_bits (suc (suc (suc (suc zero)))) h = refl
status_bits (suc (suc (suc (suc (suc zero))))) h = refl
status_bits (suc (suc (suc (suc (suc (suc zero)))))) h = refl
status_bits (suc (suc (suc (suc (suc (suc (suc zero))))))) h = refl
status_bits (suc (suc (suc (suc (suc (suc (suc (suc n)))))))) h = absurd (omega arith)

-- read

abbrev pub a_byte : ℕ → RegisterRead
a_byte value = record { refusal = 0; value = value }

-- the eight bytes, one by one
abbrev pub eight_bytes : Timer → List ℕ
eight_bytes t =
    let row = t.state.row in
    let sum = sum_shown t.state.counts in
    control_byte t.control ∷ status_byte t.status ∷ (row % 256) ∷ (row / 256) ∷ (sum % 256) ∷ (sum / 256) ∷ 0 ∷ 0 ∷ []

pub registers_are : (t : Timer) → registers t ≡ eight_bytes t
unfolding registers
registers_are t = rw (word_parts t.state.row, word_parts (sum_shown t.state.counts))

module _ (address : ℕ) (t : Timer) where
  pub read_eight : address < 8 → register_read address t ≡ a_byte (get_or (registers t) address 0)
  unfolding register_read
  read_eight h = rw (lt-ltb address 8 h)

  -- 29
  pub read_no_more : 8 ≤ address → register_read address t ≡ record { refusal = 29; value = 0 }
  unfolding register_read
  read_no_more h = rw (le-ltb address 8 h)

  pub read_at : (i value : ℕ) → address ≡ i → i < 8 → value ≡ get_or (eight_bytes t) i 0 → a_byte value ≡ register_read address t
  unfolding register_read
  read_at i value e h v = rw (e, lt-ltb i 8 h, v, registers_are t)

  -- "6 and 7 read 0."
  pub read_free : 6 ≤ address → address < 8 → a_byte 0 ≡ register_read address t
  read_free l h = go (eqb address 6) refl
    where
      go : (b : Bool) → eqb address 6 ≡ b → a_byte 0 ≡ register_read address t
      go true q = read_at 6 0 (eqb-true address 6 q) (omega arith) refl
      go false q = let ne = eqb-false address 6 q in let seven : address ≡ 7 = omega arith in read_at 7 0 seven (omega arith) refl

-- the sum of the counts: of n of them, from that of task i on
unfoldable pub sum_from : List ℕ → ℕ → ℕ → ℕ
sum_from counts n i = foldr ◌+◌ 0 (map (λ j. get_or counts j 0) (range i n))

pub sum_is : (counts : List ℕ) → sum_of counts ≡ sum_from counts 16 0
unfolding sum_of sum_from
sum_is counts = refl

-- i are added
module _ (counts : List ℕ) (i : ℕ) where
  pub sum_more : i < 16 → get_or counts i 0 + sum_from counts (16 - (i + 1)) (i + 1) ≡ sum_from counts (16 - i) i
  unfolding sum_from
  sum_more h = rw (less_one 16 i h)

  pub sum_end : 16 ≤ i → sum_from counts (16 - i) i ≡ 0
  unfolding sum_from
  sum_end h = rw (none_left 16 i h)

-- write

module _ (address value : ℕ) (t : Timer) where
  -- 29
  pub write_no_more : 8 ≤ address → after_write address value t ≡ changed 29 t
  unfolding after_write
  write_no_more h = rw (le-ltb address 8 h)

  pub write_control : address ≡ 0 → after_write address value t ≡ changed 0 (with_control (control_of value) t)
  unfolding after_write
  write_control e = rw e

  pub write_status : address ≡ 1 → after_write address value t ≡ changed 0 (with_status (cleared_by value t.status) t)
  unfolding after_write
  write_status e = rw e

  -- "Bytes 2 to 7 ignore writes."
  pub write_ignored : (address ≡ 0 → ⊥) → (address ≡ 1 → ⊥) → address < 8 → after_write address value t ≡ changed 0 t
  unfolding after_write
  write_ignored n0 n1 h = rw (lt-ltb address 8 h, ne_eqb address 0 n0, ne_eqb address 1 n1)

  -- control, status and state after it, whatever the address
  abbrev pub Wrote : Bool → Bool → Timer → Type 0
  Wrote control status after =
      (after.control ≡ cond control (control_of value) t.control) × (after.status ≡ cond status (cleared_by value t.status) t.status)
      × (after.state ≡ t.state)

  pub write_parts : Wrote (eqb address 0) (eqb address 1) (after_write address value t).timer
  unfolding after_write
  write_parts = go (ltb address 8) (eqb address 0) (eqb address 1) refl refl refl
    where
      to : Bool → Bool → Timer
      to control status = cond control (with_control (control_of value) t) (cond status (with_status (cleared_by value t.status) t) t)

      go : (l z o : Bool) → ltb address 8 ≡ l → eqb address 0 ≡ z → eqb address 1 ≡ o → Wrote z o (cond l (changed 0 (to z o)) (changed 29 t)).timer
      go l true true e f g = absurd (omega (arith, eqb-true address 0 f, eqb-true address 1 g))
      go true true false e f g = (refl, refl, refl)
      go true false true e f g = (refl, refl, refl)
      go true false false e f g = (refl, refl, refl)
      go false true false e f g = absurd (omega (arith, ltb-false address 8 e, eqb-true address 0 f))
      go false false true e f g = absurd (omega (arith, ltb-false address 8 e, eqb-true address 1 g))
      go false false false e f g = (refl, refl, refl)

-- event

module _ (t : Timer) where
  pub event_ignored : t.control.run ≡ false → after_event t ≡ t
  unfolding after_event
  event_ignored e = rw e

  pub event_heard : t.control.run ≡ true → after_event t ≡ with_status (due_or_missed t.status) t
  unfolding after_event
  event_heard e = rw e

  -- control, status and state after it
  pub event_parts : ((after_event t).control ≡ t.control) × ((after_event t).status ≡ cond t.control.run (due_or_missed t.status) t.status)
      × ((after_event t).state ≡ t.state)
  unfolding after_event
  event_parts = go t.control.run
    where
      to : Bool → Timer
      to run = cond run (with_status (due_or_missed t.status) t) t

      go : (b : Bool) → ((to b).control ≡ t.control) × ((to b).status ≡ cond b (due_or_missed t.status) t.status) × ((to b).state ≡ t.state)
      go true = (refl, refl, refl)
      go false = (refl, refl, refl)

-- serve

-- a frame as it is answered, with the timer after it
abbrev pub answered_with : Frame → Timer → FrameServed
answered_with a t = record { refusal = a.refusal; count = a.count; tasks = a.tasks; jobs = a.jobs; timer = t }

module _ (d : Decoded) (t : Timer) where
  pub serve_none : t.status.due ≡ false → serving d t ≡ none_served t
  unfolding serving
  serve_none e = rw e

  module _ (due : t.status.due ≡ true) where
    -- 12 and 15
    pub serve_refused : ((next_frame d t.state).refusal ≡ 0 → ⊥) → serving d t ≡ answered_with (next_frame d t.state) t
    unfolding serving
    serve_refused ne = rw (due, ne_eqb (next_frame d t.state).refusal 0 ne)

    pub serve_made : (next_frame d t.state).refusal ≡ 0
        → serving d t ≡ answered_with (next_frame d t.state) (served_once (next_frame d t.state).state t)
    unfolding serving
    serve_made e = rw (due, eq-eqb (next_frame d t.state).refusal 0 e)

    -- and by the frame that next-frame answers
    module _ (a : Frame) (is : a ≡ next_frame d t.state) where
      pub frame_refused : (a.refusal ≡ 0 → ⊥) → answered_with a t ≡ serving d t
      frame_refused ne = rw is (sym (serve_refused (rw is at ne)))

      pub frame_made : a.refusal ≡ 0 → answered_with a (served_once a.state t) ≡ serving d t
      frame_made z = rw is (sym (serve_made (rw is at z)))

-- the status after a serving that was answered with this number
abbrev pub served_status : ℕ → Status → Status
served_status number s = record { due = s.due && not (eqb number 0); overrun = s.overrun; missed = s.missed }

same_but_due : (s : Status) (due : Bool) → s.due ≡ due → s ≡ record { due = due; overrun = s.overrun; missed = s.missed }
same_but_due s due e = λ i. record { due = e i; overrun = s.overrun; missed = s.missed }

module _ (d : Decoded) (t : Timer) where
  -- control, status and state after it
  pub serve_parts : ((serving d t).timer.control ≡ t.control) × ((serving d t).timer.status ≡ served_status (serving d t).refusal t.status)
      × ((serving d t).timer.state ≡ cond t.status.due (next_frame d t.state).state t.state)
  unfolding serving
  serve_parts = go t.status.due refl (eqb (next_frame d t.state).refusal 0) refl
    where
      go : (due : Bool) → t.status.due ≡ due → (none : Bool) → eqb (next_frame d t.state).refusal 0 ≡ none
          → ((serving d t).timer.control ≡ t.control) × ((serving d t).timer.status ≡ served_status (serving d t).refusal t.status)
          × ((serving d t).timer.state ≡ cond due (next_frame d t.state).state t.state)
      go false e none f = rw (serve_none d t e) (refl, same_but_due t.status _ (rw e), refl)
      go true e true f = rw (serve_made d t e (eqb-true _ _ f)) (refl, rw (e, f), refl)
      go true e false f =
          let ne = eqb-false (next_frame d t.state).refusal 0 f in
          rw (serve_refused d t e ne) (refl, same_but_due t.status _ (rw (e, f)), sym (frame_refused_still d t.state ne))

-- at most 16 entries
pub serve_few : (bytes : List ℕ) (t : Timer) → (serving (decode bytes) t).count ≤ 16
unfolding serving
serve_few bytes t = go t.status.due
  where
    go : (b : Bool) → (cond b (due_served (next_frame (decode bytes) t.state) t) (none_served t)).count ≤ 16
    go true = frame_few bytes t.state
    go false = omega arith
