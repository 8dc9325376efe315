-- The dispatcher's state in the bytes that the caller lends: 64, of which the first 35 are used.
use Rattle.std.specs.Prelude.{ℕ, Bool, false, cond, List, ◌∷◌, ◌++◌, length, get_or, drop, ltb, eqb}
use Rattle.cursor.specs.Fields.{word_bytes}
use Rattle.dispatcher.specs.declared.State.{State}
use Rattle.lent.specs.Words.{u16_of, word_in, words_from, words_bytes}

-- 64 bytes or more, and a mark that is 0 or 1
unfoldable pub is_state : List ℕ → Bool
is_state bytes = cond (ltb (length bytes) 64) false (ltb (get_or bytes 2 0) 2)

-- the count of task i
abbrev pub count_in : List ℕ → ℕ → ℕ
count_in bytes i = word_in bytes 3 i

-- bytes 0 and 1 the row, 2 the mark, 3 to 34 the counts
unfoldable pub state_of : List ℕ → State
state_of bytes = record {
  row = u16_of (get_or bytes 0 0) (get_or bytes 1 0);
  first = eqb (get_or bytes 2 0) 1;
  counts = words_from bytes 3 16 0;
}

abbrev pub mark_byte : Bool → ℕ
mark_byte first = cond first 1 0

-- the state in the first 35 bytes, and behind it what was there
unfoldable pub state_bytes : State → List ℕ → List ℕ
state_bytes s bytes = word_bytes s.row ++ (mark_byte s.first ∷ words_bytes s.counts 16 0) ++ drop 35 bytes
