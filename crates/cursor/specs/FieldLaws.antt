-- What the cursor's answer at a place says of the bytes from there on: `drop at s` begins with the field, or is too short for it.
use Rattle.std.specs.Prelude.{ℕ, ◌+◌, ◌*◌, ◌≤◌, ◌<◌, ◌≡◌, Bool, ◌⊎◌, List, drop, Option, Some, None}
use Rattle.std.proofs.Math.Path.{refl, sym, ap}
use Rattle.std.proofs.Common.{◌∙◌, inl, inr, arith, drop_of_length-le, drop-cons}
use Rattle.std.proofs.Math.Bool.{true, false, cond}
use Rattle.std.proofs.Math.Numerals.{add-one}
use Rattle.std.proofs.Math.ListN.{length, get_or}
use Rattle.std.proofs.Math.Dec.{ltb}
use borrow.Author.Tests.{lt-ltb, le-ltb, ltb-true, ltb-false}
use Rattle.std.proofs.lemmas.Option.{same_Some}
use Rattle.cursor.specs.ChoiceLaws.{lt_or_ge}
use Rattle.cursor.specs.Parsed.{got, refused, then}
use Rattle.cursor.specs.ParsedLaws.{never}
use Rattle.cursor.specs.Fields.{byte_of, word_of, byte_read, word_read, byte_at, word_at}
use Rattle.cursor.specs.declared.Cursor.{Cursor}

module _ (short : ℕ) (s : List ℕ) (at : ℕ) where
  pub byte_here : at < length s → byte_of short (drop at s) ≡ got (get_or s at 0) (drop (at + 1) s)
  unfolding byte_of
  byte_here h = rw (drop-cons s at 0 h, add-one at)

  pub byte_none : length s ≤ at → byte_of short (drop at s) ≡ refused short
  unfolding byte_of
  byte_none h = rw (drop_of_length-le s h)

-- and for two bytes
module _ (short : ℕ) (s : List ℕ) (at : ℕ) where
  pub word_here : at + 1 < length s → word_of short (drop at s) ≡ got (get_or s at 0 + get_or s (at + 1) 0 * 256) (drop (at + 1 + 1) s)
  unfolding word_of
  word_here h = rw (byte_here short s at (omega arith)) (rw (byte_here short s (at + 1) h))

  pub word_none : length s ≤ at + 1 → word_of short (drop at s) ≡ refused short
  unfolding word_of
  word_none h = go (lt_or_ge at (length s))
    where
      go : (at < length s) ⊎ (length s ≤ at)
          → then (byte_of short (drop at s)) (λ low rest. then (byte_of short rest) (λ high rest. got (low + high * 256) rest)) ≡ refused short
      go (inl low) = rw (byte_here short s at low) (rw (byte_none short s (at + 1) h))
      go (inr none) = rw (byte_none short s at none)

-- The cursor's answer by the length of the bytes; no number is in it.
module _ (s : List ℕ) (at : ℕ) where
  pub byte_at_lem : (short : ℕ) → byte_read at (byte_of short (drop at s)) ≡ cond {A = Option (ℕ × Cursor)} (ltb at (length s)) (Some (get_or s at 0, record { at = at + 1 })) None
  byte_at_lem short = go (lt_or_ge at (length s))
    where
      go : (at < length s) ⊎ (length s ≤ at)
          → byte_read at (byte_of short (drop at s)) ≡ cond {A = Option (ℕ × Cursor)} (ltb at (length s)) (Some (get_or s at 0, record { at = at + 1 })) None
      go (inl h) = rw (lt-ltb at (length s) h, byte_here short s at h)
      go (inr h) = rw (le-ltb at (length s) h, byte_none short s at h)

  pub word_at_lem : (short : ℕ)
      → word_read at (word_of short (drop at s)) ≡ cond {A = Option (ℕ × Cursor)} (ltb (at + 1) (length s)) (Some (get_or s at 0 + get_or s (at + 1) 0 * 256, record { at = at + 1 + 1 })) None
  word_at_lem short = go (lt_or_ge (at + 1) (length s))
    where
      go : (at + 1 < length s) ⊎ (length s ≤ at + 1)
          → word_read at (word_of short (drop at s)) ≡ cond {A = Option (ℕ × Cursor)} (ltb (at + 1) (length s)) (Some (get_or s at 0 + get_or s (at + 1) 0 * 256, record { at = at + 1 + 1 })) None
      go (inl h) = rw (lt-ltb (at + 1) (length s) h, word_here short s at h)
      go (inr h) = rw (le-ltb (at + 1) (length s) h, word_none short s at h)

  -- so it is the same for every number
  pub byte_any : (short : ℕ) → byte_at s at ≡ byte_read at (byte_of short (drop at s))
  unfolding byte_at
  byte_any short = byte_at_lem 1 ∙ sym (byte_at_lem short)

  pub word_any : (short : ℕ) → word_at s at ≡ word_read at (word_of short (drop at s))
  unfolding word_at
  word_any short = word_at_lem 1 ∙ sym (word_at_lem short)

-- A byte that was read.
pub record ByteTaken (short : ℕ) (s : List ℕ) (at b : ℕ) (next : Cursor) : Type 0 where
  pub field : byte_of short (drop at s) ≡ got b (drop next.at s)
  pub value : b ≡ get_or s at 0
  pub moved : next.at ≡ at + 1
  pub within : at < length s

module _ (short : ℕ) (s : List ℕ) (at : ℕ) where
  pub byte_taken : (b : ℕ) (next : Cursor) → byte_at s at ≡ Some (b, next) → ByteTaken short s at b next
  unfolding byte_at
  byte_taken b next e = go (ltb at (length s)) refl (sym (byte_at_lem s at 1) ∙ e)
    where
      go : (t : Bool) → ltb at (length s) ≡ t → cond {A = Option (ℕ × Cursor)} t (Some (get_or s at 0, record { at = at + 1 })) None ≡ Some (b, next) → ByteTaken short s at b next
      go true q w =
          let within : at < length s = ltb-true at (length s) q in
          let both = same_Some _ _ w in
          let value : b ≡ get_or s at 0 = sym (ap (λ (p : ℕ × Cursor). p.0) both) in
          let place : next ≡ record { at = at + 1 } = sym (ap (λ (p : ℕ × Cursor). p.1) both) in
          record { field = rw (place, value) (byte_here short s at within); value = value; moved = rw place; within = within }
      go false q w = absurd (never (cc))

  pub byte_missing : byte_at s at ≡ None → (byte_of short (drop at s) ≡ refused short) × (length s ≤ at)
  unfolding byte_at
  byte_missing e = go (ltb at (length s)) refl (sym (byte_at_lem s at 1) ∙ e)
    where
      go : (t : Bool) → ltb at (length s) ≡ t → cond {A = Option (ℕ × Cursor)} t (Some (get_or s at 0, record { at = at + 1 })) None ≡ None
          → (byte_of short (drop at s) ≡ refused short) × (length s ≤ at)
      go true q w = absurd (never (cc))
      go false q w = let ended : length s ≤ at = ltb-false at (length s) q in (byte_none short s at ended, ended)

-- A u16 that was read.
pub record WordTaken (short : ℕ) (s : List ℕ) (at w : ℕ) (next : Cursor) : Type 0 where
  pub field : word_of short (drop at s) ≡ got w (drop next.at s)
  pub moved : next.at ≡ at + 1 + 1
  pub within : at + 1 < length s

module _ (short : ℕ) (s : List ℕ) (at : ℕ) where
  pub word_taken : (w : ℕ) (next : Cursor) → word_at s at ≡ Some (w, next) → WordTaken short s at w next
  unfolding word_at
  word_taken w next e = go (ltb (at + 1) (length s)) refl (sym (word_at_lem s at 1) ∙ e)
    where
      go : (t : Bool) → ltb (at + 1) (length s) ≡ t
          → cond {A = Option (ℕ × Cursor)} t (Some (get_or s at 0 + get_or s (at + 1) 0 * 256, record { at = at + 1 + 1 })) None ≡ Some (w, next) → WordTaken short s at w next
      go true q v =
          let within : at + 1 < length s = ltb-true (at + 1) (length s) q in
          let both = same_Some _ _ v in
          let value : w ≡ get_or s at 0 + get_or s (at + 1) 0 * 256 = sym (ap (λ (p : ℕ × Cursor). p.0) both) in
          let place : next ≡ record { at = at + 1 + 1 } = sym (ap (λ (p : ℕ × Cursor). p.1) both) in
          record { field = rw (place, value) (word_here short s at within); moved = rw place; within = within }
      go false q v = absurd (never (cc))

  pub word_missing : word_at s at ≡ None → word_of short (drop at s) ≡ refused short
  unfolding word_at
  word_missing e = go (ltb (at + 1) (length s)) refl (sym (word_at_lem s at 1) ∙ e)
    where
      go : (t : Bool) → ltb (at + 1) (length s) ≡ t → cond {A = Option (ℕ × Cursor)} t (Some (get_or s at 0 + get_or s (at + 1) 0 * 256, record { at = at + 1 + 1 })) None ≡ None
          → word_of short (drop at s) ≡ refused short
      go true q v = absurd (never (cc))
      go false q v = word_none short s at (ltb-false (at + 1) (length s) q)

-- The u16 at a place is made of the byte there and the byte at the cursor behind it.
module _ (s : List ℕ) (at : ℕ) where
  pub word_no_low : byte_at s at ≡ None → word_at s at ≡ None
  unfolding word_at
  word_no_low e = let ended : length s ≤ at = (byte_missing 0 s at e).1 in rw (word_at_lem s at 1, le-ltb (at + 1) (length s) (omega arith))

  pub word_no_high : (low : ℕ) (second : Cursor) → byte_at s at ≡ Some (low, second) → byte_at s second.at ≡ None → word_at s at ≡ None
  unfolding word_at
  word_no_high low second e f =
      let taken = byte_taken 0 s at low second e in
      let ended : length s ≤ second.at = (byte_missing 0 s second.at f).1 in
      rw (word_at_lem s at 1, le-ltb (at + 1) (length s) (omega (arith, taken.moved)))

  pub word_of_two : (low high : ℕ) (second next : Cursor) → byte_at s at ≡ Some (low, second) → byte_at s second.at ≡ Some (high, next)
      → Some (low + high * 256, next) ≡ word_at s at
  unfolding word_at
  word_of_two low high second next e f =
      let one = byte_taken 0 s at low second e in
      let two = byte_taken 0 s second.at high next f in
      let moved : next.at ≡ at + 1 + 1 = omega (arith, one.moved, two.moved) in
      let place : next ≡ record { at = at + 1 + 1 } = λ i. record { at = moved i } in
      let within : at + 1 < length s = omega (arith, one.moved, two.within) in
      let value : high ≡ get_or s (at + 1) 0 = two.value ∙ rw one.moved in
      rw (word_at_lem s at 1, lt-ltb (at + 1) (length s) within, one.value, value, place)
