-- The third section: what it gives is at most 15 and stands within the bytes, its refusals are 1 and 17, and its reader goes by its count.
use Prim.Native.Nat.{ℕ, zero, suc, ◌-◌, ◌≤◌, ◌<◌}
use Rattle.std.specs.Prelude.{◌≡◌, refl, Bool, true, false, cond, ◌⊎◌, length, leb}
use mathlib.Core.List.{List, [], ◌∷◌}
use Rattle.std.proofs.Common.{inl, inr, length-drop, leb-true, le-leb}
use native.Mathlib.Omega.{arith}
use Rattle.std.proofs.Math.ListN.{drop}
use Rattle.std.proofs.lemmas.Bool.{lt-leb}
use Rattle.cursor.specs.Parsed.{Parsed, got, refused, then}
use Rattle.cursor.specs.ParsedLaws.{never}
use Rattle.cursor.specs.Fields.{byte_of}
use Rattle.cursor.specs.FieldLaws.{ByteTaken}
use Rattle.cursor.specs.declared.Cursor.{Cursor}
use Rattle.request.specs.Request.{silent_of}
use Rattle.request.specs.Answers.{no_silent, silent_section}

-- the third section, read or refused with one of its numbers
abbrev pub SilentRead : List ℕ → Parsed ℕ → Type 0
SilentRead bytes (got g rest) = (g ≤ 15) × (length rest ≤ length bytes)
SilentRead bytes (refused number) = (number ≡ 1) ⊎ (number ≡ 17)

pub silent_number_pos : {number : ℕ} → (number ≡ 1) ⊎ (number ≡ 17) → 0 < number
silent_number_pos (inl e) = omega arith
silent_number_pos (inr e) = omega arith

pub silent_section_lem : (bytes : List ℕ) → SilentRead bytes (silent_of bytes)
unfolding silent_of byte_of
silent_section_lem [] = (omega arith, omega arith)
silent_section_lem (zero ∷ rest) = (omega arith, omega arith)
silent_section_lem (suc zero ∷ []) = inl refl
silent_section_lem (suc zero ∷ (g ∷ rest)) = go (leb g 15) refl
  where
    go : (b : Bool) → leb g 15 ≡ b → SilentRead (1 ∷ g ∷ rest) (cond b (got g rest) (refused 17))
    go true e = (leb-true g 15 e, omega arith)
    go false e = inr refl
silent_section_lem (suc (suc n) ∷ rest) = inr refl

-- The ways out of the section's reader: no byte is left,
pub silent_none : (s : List ℕ) → length s ≤ 0 → no_silent 0 ≡ silent_section s (silent_of s)
unfolding silent_of
silent_none [] h = refl
silent_none (n ∷ rest) h = absurd (omega arith)

-- a part of the bytes ends where those behind it begin
part_ends : (s : List ℕ) (k : ℕ) → k ≤ length s → length s - length (drop k s) ≡ k
part_ends s k h = rw length-drop (omega arith)

-- its count n is above 1 or 0,
module _ (s : List ℕ) (n : ℕ) (start : Cursor) (count : ByteTaken 1 s 0 n start) where
  counted : silent_of s ≡ silent_of (n ∷ drop start.at s)
  unfolding byte_of
  counted = go s count.field
    where
      go : (l : List ℕ) → byte_of 1 l ≡ got n (drop start.at s) → silent_of l ≡ silent_of (n ∷ drop start.at s)
      go [] f = absurd (never (cc))
      go (x ∷ l) f = cc

  pub silent_many : 1 < n → no_silent 17 ≡ silent_section s (silent_of s)
  unfolding silent_of
  silent_many h = let two : n ≡ suc (suc (n - 2)) = omega arith in rw (counted, two)

  pub silent_no_byte : n ≡ 0 → record { refusal = 0; g = 0; end = start.at } ≡ silent_section s (silent_of s)
  unfolding silent_of
  silent_no_byte z = rw (counted, z) (rw (part_ends s start.at (omega (arith, count.moved, count.within))))

  -- or the count is 1, and the byte behind it is missing, above 15 or g
  module _ (most : n ≤ 1) (some : n ≡ 0 → ⊥) where
    byte_next : silent_of s ≡ then (byte_of 1 (drop start.at s)) (λ g rest. cond (leb g 15) (got g rest) (refused 17))
    unfolding silent_of
    byte_next = let one : n ≡ 1 = omega arith in rw (counted, one)

    pub silent_missing : byte_of 1 (drop start.at s) ≡ refused 1 → no_silent 1 ≡ silent_section s (silent_of s)
    silent_missing none = rw (byte_next, none)

    module _ (g : ℕ) (behind : Cursor) (byte : ByteTaken 1 s start.at g behind) where
      pub silent_above : 15 < g → no_silent 17 ≡ silent_section s (silent_of s)
      silent_above h = rw (byte_next, byte.field, lt-leb g 15 h)

      pub silent_given : g ≤ 15 → record { refusal = 0; g = g; end = behind.at } ≡ silent_section s (silent_of s)
      silent_given h = rw (byte_next, byte.field, le-leb g 15 h) (rw (part_ends s behind.at (omega (arith, byte.moved, byte.within))))
