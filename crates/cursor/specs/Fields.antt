-- The two fields of the formats: a byte, and a u16, which is two bytes, low byte first; and what a byte string is.
-- Each field twice: as the front of some bytes, and as the cursor's answer at a place of a byte string. FieldLaws ties the two.
use Rattle.std.specs.Prelude.{ℕ, ◌+◌, ◌*◌, ◌/◌, ◌%◌, ◌<◌, List, [], ◌∷◌, drop, get_or, Option, Some, None}
use Rattle.cursor.specs.Parsed.{Parsed, got, refused, then}
use Rattle.cursor.specs.declared.Cursor.{Cursor}

-- the elements of a byte string
abbrev pub Bytes : List ℕ → Type 0
Bytes s = (i : ℕ) → get_or s i 0 < 256

-- the front byte; `short` is the number that is given where the bytes have ended
unfoldable pub byte_of : ℕ → List ℕ → Parsed ℕ
byte_of short [] = refused short
byte_of short (b ∷ rest) = got b rest

unfoldable pub word_of : ℕ → List ℕ → Parsed ℕ
word_of short bytes = then (byte_of short bytes) (λ low rest. then (byte_of short rest) (λ high rest. got (low + high * 256) rest))

-- "A u16 is two bytes, low byte first.": its bytes
unfoldable pub word_bytes : ℕ → List ℕ
word_bytes w = (w % 256) ∷ (w / 256) ∷ []

-- The cursor's answers at a place, for each case of a reading: the value with the cursor behind the field; or, where the bytes have ended, that there is none.
-- Its number is the one that the reading was given for this case: 1 in a request, 12 in a table.
abbrev pub byte_read : ℕ → Parsed ℕ → Option (ℕ × Cursor)
byte_read at (got b rest) = Some (b, record { at = at + 1 })
byte_read at (refused number) = None

abbrev pub word_read : ℕ → Parsed ℕ → Option (ℕ × Cursor)
word_read at (got w rest) = Some (w, record { at = at + 1 + 1 })
word_read at (refused number) = None

-- the answer at a place of a byte string; it is the same for every number (FieldLaws)
unfoldable pub byte_at : List ℕ → ℕ → Option (ℕ × Cursor)
byte_at s at = byte_read at (byte_of 1 (drop at s))

unfoldable pub word_at : List ℕ → ℕ → Option (ℕ × Cursor)
word_at s at = word_read at (word_of 1 (drop at s))
