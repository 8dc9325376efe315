-- The bytes of a heater, both ways: a link that was written is read again, with what the call said, and the bytes of a heater are those that it is written as.
use Rattle.std.specs.Prelude.{ℕ, zero, suc, ◌+◌, ◌-◌, ◌≤◌, ◌<◌, ◌≡◌, refl, Bool, false, ◌&&◌, List, [], ◌∷◌, length, get_or, take, drop, ltb, eqb}
use Rattle.std.proofs.Common.{sym, ap, ◌∙◌, arith, take-append-drop, length-take-le, get_or-append-add, get_or-drop}
use Rattle.std.proofs.Math.Bool.{true}
use Rattle.std.proofs.Math.ListN.{length-append, length-drop, get_or-append}
use Rattle.std.proofs.Math.Seq.{drop-cons, get_or-take}
use borrow.Author.Tests.{le-ltb, ltb-true}
use Rattle.cursor.specs.Choice.{bit}
use Rattle.cursor.specs.ParsedLaws.{both_true}
use Rattle.cursor.specs.Fields.{Bytes}
use Rattle.heater_link.specs.declared.Link.{Link}
use Rattle.lent.specs.State.{is_state, state_of, state_bytes}
use Rattle.lent.specs.StateLaws.{long}
use Rattle.lent.specs.StateBack.{same_state, state_length, state_is, state_read, bytes_back}
use Rattle.lent.specs.HeaterBytes.{is_bit, is_heater, link_of, heater_bytes}
use Rattle.lent.specs.HeaterByteLaws.{heater_long}

-- a bit in its byte, both ways
small_bit : (b : Bool) → ltb (bit b) 2 ≡ true
small_bit true = refl
small_bit false = refl

bit_read : (b : Bool) → eqb (bit b) 1 ≡ b
bit_read true = refl
bit_read false = refl

bit_back : (n : ℕ) → n < 2 → bit (eqb n 1) ≡ n
bit_back zero h = refl
bit_back (suc zero) h = refl
bit_back (suc (suc n)) h = absurd (omega arith)

module _ (s : Link) (toggled answered : Bool) (bytes : List ℕ) (far : 72 ≤ length bytes) where
  abbrev state : List ℕ
  state = state_bytes s.state bytes

  abbrev front : List ℕ
  front = take 64 state

  abbrev behind : List ℕ
  behind = bit s.master ∷ bit s.obeyed ∷ bit toggled ∷ bit answered ∷ drop 68 bytes

  as_long : length state ≡ length bytes
  as_long = state_length s.state bytes (omega arith)

  front_length : length front ≡ 64
  front_length = length-take-le 64 state (omega (arith, as_long))

  pub heater_length : length (heater_bytes s toggled answered bytes) ≡ length bytes
  unfolding heater_bytes
  heater_length = omega (arith, length-append front behind, front_length, length-drop 68 bytes)

  -- the first 64 bytes are the state's
  before_64 : (i : ℕ) → i < 64 → get_or (heater_bytes s toggled answered bytes) i 0 ≡ get_or state i 0
  unfolding heater_bytes
  before_64 i h = get_or-append front behind 0 i (omega (arith, front_length)) ∙ get_or-take 64 state i 0 h

  state_there : state_of (heater_bytes s toggled answered bytes) ≡ state_of state
  state_there = same_state (heater_bytes s toggled answered bytes) state (λ i h. before_64 i (omega arith))

  a_state_there : is_state (heater_bytes s toggled answered bytes) ≡ true
  a_state_there =
      sym (long (heater_bytes s toggled answered bytes) (omega (arith, heater_length)))
      ∙ rw (before_64 2 (omega arith)) (long state (omega (arith, as_long)) ∙ state_is s.state bytes (omega arith))

  -- the bytes from 64 on
  from_64 : (k : ℕ) → get_or (heater_bytes s toggled answered bytes) (64 + k) 0 ≡ get_or behind k 0
  unfolding heater_bytes
  from_64 k = rw front_length at (get_or-append-add front behind k 0)

  pub heater_is : is_heater (heater_bytes s toggled answered bytes) ≡ true
  unfolding is_heater
  heater_is =
      rw (
        le-ltb (length (heater_bytes s toggled answered bytes)) 72 (omega (arith, heater_length)),
        a_state_there,
        from_64 0,
        from_64 1,
        from_64 2,
        from_64 3,
        small_bit s.master,
        small_bit s.obeyed,
        small_bit toggled,
      ) (small_bit answered)

  pub link_read : length s.state.counts ≡ 16 → link_of (heater_bytes s toggled answered bytes) ≡ s
  unfolding link_of
  link_read all = rw (state_there, state_read s.state bytes all, from_64 0, from_64 1, bit_read s.master, bit_read s.obeyed)

  pub toggled_there : get_or (heater_bytes s toggled answered bytes) 66 0 ≡ bit toggled
  toggled_there = from_64 2

  pub answered_there : get_or (heater_bytes s toggled answered bytes) 67 0 ≡ bit answered
  answered_there = from_64 3

  -- the bytes behind are those that were there
  kept_from : (k : ℕ) → get_or (heater_bytes s toggled answered bytes) (64 + (4 + k)) 0 ≡ get_or bytes (68 + k) 0
  kept_from k =
      let four = bit s.master ∷ bit s.obeyed ∷ bit toggled ∷ bit answered ∷ [] in
      from_64 (4 + k) ∙ get_or-append-add four (drop 68 bytes) k 0 ∙ get_or-drop 68 bytes k 0

  pub heater_kept : (i : ℕ) → 68 ≤ i → get_or (heater_bytes s toggled answered bytes) i 0 ≡ get_or bytes i 0
  heater_kept i h =
      let there : i ≡ 64 + (4 + (i - 68)) = omega (arith, h) in
      let here : 68 + (i - 68) ≡ i = omega (arith, h) in
      ap (λ (j : ℕ). get_or (heater_bytes s toggled answered bytes) j 0) there ∙ kept_from (i - 68) ∙ ap (λ (j : ℕ). get_or bytes j 0) here

module _ (bytes : List ℕ) (are : Bytes bytes) (is : is_heater bytes ≡ true) where
  far : 72 ≤ length bytes
  far = heater_long bytes is

  -- what the test found
  bits : (is_state bytes ≡ true) × (get_or bytes 64 0 < 2) × (get_or bytes 65 0 < 2) × (get_or bytes 66 0 < 2) × (get_or bytes 67 0 < 2)
  unfolding is_heater
  bits =
      let q : is_state bytes && ((is_bit bytes 64 && is_bit bytes 65) && (is_bit bytes 66 && is_bit bytes 67)) ≡ true
      = rw (le-ltb (length bytes) 72 far) at is in
      let a = both_true (is_state bytes) _ q in
      let b = both_true (is_bit bytes 64 && is_bit bytes 65) _ a.1 in
      let c = both_true (is_bit bytes 64) _ b.0 in
      let d = both_true (is_bit bytes 66) _ b.1 in
      (a.0, ltb-true _ 2 c.0, ltb-true _ 2 c.1, ltb-true _ 2 d.0, ltb-true _ 2 d.1)

  pub heater_back : heater_bytes (link_of bytes) (eqb (get_or bytes 66 0) 1) (eqb (get_or bytes 67 0) 1) bytes ≡ bytes
  unfolding heater_bytes link_of
  heater_back =
      rw (
        bytes_back bytes bits.0 are,
        bit_back (get_or bytes 64 0) bits.1,
        bit_back (get_or bytes 65 0) bits.2,
        bit_back (get_or bytes 66 0) bits.3,
        bit_back (get_or bytes 67 0) bits.4,
        ← drop-cons bytes 67 0 (omega (arith, far)),
        ← drop-cons bytes 66 0 (omega (arith, far)),
        ← drop-cons bytes 65 0 (omega (arith, far)),
        ← drop-cons bytes 64 0 (omega (arith, far)),
      ) (take-append-drop 64 bytes)
