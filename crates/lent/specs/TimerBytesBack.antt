-- The bytes of a timer, both ways: a timer that was written is read again and is a timer, and the bytes of a timer are those that it is written as. The free
-- bytes, and those behind the timer, stay.
use Rattle.std.specs.Prelude.{ℕ, ◌≤◌, ◌<◌, ◌≡◌, refl, Bool, true, false, ◌&&◌, List, length, get_or, set, ltb}
use Rattle.std.proofs.Common.{sym, ◌∙◌, arith, ltb-true, lt-ltb, le-ltb}
use Rattle.std.proofs.lemmas.Bool.{false≢true}
use Rattle.std.proofs.Math.ListN.{length-set}
use Rattle.std.proofs.Math.Seq.{get_or-set_same, get_or-set_other, set-get_or}
use Rattle.cursor.specs.Fields.{Bytes}
use Rattle.timer.specs.Registers.{control_byte, status_byte}
use Rattle.timer.specs.RegisterLaws.{control_back, status_back, control_few, status_few, control_bits, status_bits}
use Rattle.timer.specs.declared.Timer.{Timer}
use Rattle.lent.specs.State.{is_state, state_of, state_bytes}
use Rattle.lent.specs.StateLaws.{long}
use Rattle.lent.specs.StateBack.{same_state, state_kept, state_length, state_is, state_read, bytes_back}
use Rattle.lent.specs.TimerBytes.{is_timer, timer_of, timer_bytes}
use Rattle.lent.specs.TimerByteLaws.{timer_long, status_decides}

module _ (t : Timer) (bytes : List ℕ) (far : 72 ≤ length bytes) where
  abbrev state : List ℕ
  state = state_bytes t.state bytes

  abbrev control : List ℕ
  control = set state 64 (control_byte t.control)

  as_long : length state ≡ length bytes
  as_long = state_length t.state bytes (omega arith)

  pub timer_length : length (timer_bytes t bytes) ≡ length bytes
  unfolding timer_bytes
  timer_length = length-set control 65 (status_byte t.status) ∙ length-set state 64 (control_byte t.control) ∙ as_long

  status_there : get_or (timer_bytes t bytes) 65 0 ≡ status_byte t.status
  unfolding timer_bytes
  status_there = get_or-set_same control 65 (status_byte t.status) 0 (omega (arith, length-set state 64 (control_byte t.control), as_long))

  control_there : get_or (timer_bytes t bytes) 64 0 ≡ control_byte t.control
  unfolding timer_bytes
  control_there =
      get_or-set_other control 65 64 (status_byte t.status) 0 (λ e. omega arith)
      ∙ get_or-set_same state 64 (control_byte t.control) 0 (omega (arith, as_long))

  other_there : (i : ℕ) → (i ≡ 64 → ⊥) → (i ≡ 65 → ⊥) → get_or (timer_bytes t bytes) i 0 ≡ get_or state i 0
  unfolding timer_bytes
  other_there i n m = get_or-set_other control 65 i (status_byte t.status) 0 m ∙ get_or-set_other state 64 i (control_byte t.control) 0 n

  state_there : state_of (timer_bytes t bytes) ≡ state_of state
  state_there = same_state (timer_bytes t bytes) state (λ i h. other_there i (λ e. omega arith) (λ e. omega arith))

  marked : get_or (timer_bytes t bytes) 2 0 < 2
  marked =
      let mark : get_or state 2 0 < 2 = ltb-true (get_or state 2 0) 2 (long state (omega (arith, as_long)) ∙ state_is t.state bytes (omega arith)) in
      rw (other_there 2 (λ e. omega arith) (λ e. omega arith)) mark

  pub timer_is : is_timer (timer_bytes t bytes) ≡ true
  timer_is =
      sym (status_decides (timer_bytes t bytes) (omega (arith, timer_length)) marked (rw control_there (control_few t.control)))
      ∙ rw status_there (lt-ltb (status_byte t.status) 8 (status_few t.status))

  pub timer_read : length t.state.counts ≡ 16 → timer_of (timer_bytes t bytes) ≡ t
  unfolding timer_of
  timer_read all = rw (state_there, state_read t.state bytes all, control_there, status_there, control_back t.control, status_back t.status)

  -- bytes 66 to 71, and those behind the timer
  pub timer_kept : (i : ℕ) → 66 ≤ i → get_or (timer_bytes t bytes) i 0 ≡ get_or bytes i 0
  timer_kept i h = other_there i (λ e. omega arith) (λ e. omega arith) ∙ state_kept t.state bytes i (omega arith)

-- The bytes of a timer

module _ (bytes : List ℕ) (are : Bytes bytes) (is : is_timer bytes ≡ true) where
  far : 72 ≤ length bytes
  far = timer_long bytes is

  -- each test of a timer has passed
  judged : (a b c : Bool) → a && (b && c) ≡ true → (a ≡ true) × (b ≡ true) × (c ≡ true)
  judged true true c e = (refl, refl, e)
  judged true false c e = absurd (false≢true e)
  judged false b c e = absurd (false≢true e)

  passed : (ltb (get_or bytes 2 0) 2 ≡ true) × (ltb (get_or bytes 64 0) 4 ≡ true) × (ltb (get_or bytes 65 0) 8 ≡ true)
  unfolding is_timer
  passed = judged _ _ _ (rw (le-ltb (length bytes) 72 far) at is)

  a_state : is_state bytes ≡ true
  a_state = sym (long bytes (omega (arith, far))) ∙ passed.0

  pub timer_back : timer_bytes (timer_of bytes) bytes ≡ bytes
  unfolding timer_bytes timer_of
  timer_back =
      rw (
        bytes_back bytes a_state are,
        control_bits (get_or bytes 64 0) (ltb-true (get_or bytes 64 0) 4 passed.1),
        status_bits (get_or bytes 65 0) (ltb-true (get_or bytes 65 0) 8 passed.2),
        set-get_or bytes 64 0,
        set-get_or bytes 65 0,
      )
