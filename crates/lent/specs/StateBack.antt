-- The bytes of a state, both ways: a state that was written is read again, and the bytes of a state are those that it is written as. A later state takes
-- the place of an earlier one. And which bytes two states share.
use Prim.Native.Nat.{ℕ, zero, suc, ◌+◌, ◌*◌, ◌-◌, ◌%◌, ◌/◌, ◌≤◌, ◌<◌}
use Rattle.std.specs.Prelude.{◌≡◌, Bool, true, false, length, drop, ltb, eqb}
use Rattle.std.proofs.Math.Path.{refl, sym, ap}
use Rattle.std.proofs.Common.{◌∙◌, arith, length-append, length-drop, drop_at, get_or-drop}
use mathlib.Core.List.{List, [], ◌∷◌, ◌++◌, append_assoc}
use Rattle.std.proofs.Math.ListN.{get_or}
use Rattle.std.proofs.Math.Seq.{drop-cons, append_snoc}
use borrow.Author.Tests.{ltb-true}
use Rattle.cursor.specs.Fields.{word_bytes, Bytes}
use Rattle.cursor.specs.WordBytesLaws.{word_long, word_back, low_byte, high_byte, byte_behind, two_bytes}
use Rattle.dispatcher.specs.declared.State.{State}
use Rattle.lent.specs.Words.{u16_of, words_from, words_bytes}
use Rattle.lent.specs.WordLaws.{bytes_count, words_count}
use Rattle.lent.specs.WordsBack.{words_low, words_high, words_behind, word_read, word_there, words_read, words_back}
use Rattle.lent.specs.State.{is_state, count_in, state_of, state_bytes, mark_byte}
use Rattle.lent.specs.StateLaws.{long, state_long}

-- the counts of a state that is read are those in its bytes
module _ (bytes : List ℕ) where
  pub counts_read : length (state_of bytes).counts ≡ 16
  unfolding state_of
  counts_read = words_count bytes 3 16 0

  pub count_read : (i : ℕ) → i < 16 → get_or (state_of bytes).counts i 0 ≡ count_in bytes i
  unfolding state_of
  count_read i h = word_read bytes 3 16 i h

-- a state is read from the first 35 bytes
module _ (a b : List ℕ) (same : (i : ℕ) → i < 35 → get_or a i 0 ≡ get_or b i 0) where
  same_counts : (n i : ℕ) → i + n ≤ 16 → words_from a 3 n i ≡ words_from b 3 n i
  unfolding words_from
  same_counts zero i h = refl
  same_counts (suc n) i h = rw (same (3 + 2 * i) (omega arith), same (4 + 2 * i) (omega arith), same_counts n (i + 1) (omega arith))

  pub same_state : state_of a ≡ state_of b
  unfolding state_of
  same_state = rw (same 0 (omega arith), same 1 (omega arith), same 2 (omega arith), same_counts 16 0 (omega arith))

mark_small : (first : Bool) → ltb (mark_byte first) 2 ≡ true
mark_small true = refl
mark_small false = refl

mark_read : (first : Bool) → eqb (mark_byte first) 1 ≡ first
mark_read true = refl
mark_read false = refl

mark_back : (mark : ℕ) → mark < 2 → mark_byte (eqb mark 1) ≡ mark
mark_back zero h = refl
mark_back (suc zero) h = refl
mark_back (suc (suc n)) h = absurd (omega arith)

module _ (s : State) (bytes : List ℕ) where
  -- the bytes of the counts, and those before them
  abbrev counts : List ℕ
  counts = words_bytes s.counts 16 0

  abbrev front : List ℕ
  front = word_bytes s.row ++ (mark_byte s.first ∷ [])

  front_long : length front ≡ 3
  front_long = omega (arith, length-append (word_bytes s.row) (mark_byte s.first ∷ []), word_long s.row)

  used : length (front ++ counts) ≡ 35
  used = omega (arith, length-append front counts, front_long, bytes_count s.counts 16 0)

  parts : state_bytes s bytes ≡ front ++ counts ++ drop 35 bytes
  unfolding state_bytes
  parts = rw append_snoc

  row_first : state_bytes s bytes ≡ word_bytes s.row ++ (mark_byte s.first ∷ (counts ++ drop 35 bytes))
  unfolding state_bytes
  row_first = append_assoc (word_bytes s.row) (mark_byte s.first ∷ counts) (drop 35 bytes)

  -- byte by byte
  state_low : get_or (state_bytes s bytes) 0 0 ≡ s.row % 256
  state_low = rw row_first (low_byte s.row (mark_byte s.first ∷ (counts ++ drop 35 bytes)))

  state_high : get_or (state_bytes s bytes) 1 0 ≡ s.row / 256
  state_high = rw row_first (high_byte s.row (mark_byte s.first ∷ (counts ++ drop 35 bytes)))

  state_mark : get_or (state_bytes s bytes) 2 0 ≡ mark_byte s.first
  state_mark = rw row_first (byte_behind s.row (mark_byte s.first ∷ (counts ++ drop 35 bytes)) 0)

  behind_mark : (j : ℕ) → get_or (state_bytes s bytes) (suc (suc (suc j))) 0 ≡ get_or (counts ++ drop 35 bytes) j 0
  behind_mark j = rw row_first (byte_behind s.row (mark_byte s.first ∷ (counts ++ drop 35 bytes)) (suc j))

  -- behind the 35 bytes is what was there
  pub state_behind : drop 35 (state_bytes s bytes) ≡ drop 35 bytes
  state_behind = rw parts (drop_at (front ++ counts) (drop 35 bytes) 35 used)

  pub state_kept : (i : ℕ) → 35 ≤ i → get_or (state_bytes s bytes) i 0 ≡ get_or bytes i 0
  state_kept i h =
      let place : i ≡ 35 + (i - 35) = omega arith in
      let same = ap (λ (l : List ℕ). get_or l (i - 35) 0) state_behind in
      rw place (sym (get_or-drop 35 (state_bytes s bytes) (i - 35) 0) ∙ same ∙ get_or-drop 35 bytes (i - 35) 0)

  pub state_length : 64 ≤ length bytes → length (state_bytes s bytes) ≡ length bytes
  state_length h = rw parts (omega (arith, length-append (front ++ counts) (drop 35 bytes), used, length-drop 35 bytes))

  -- the mark is 0 or 1
  pub state_is : 64 ≤ length bytes → is_state (state_bytes s bytes) ≡ true
  state_is h = sym (long (state_bytes s bytes) (omega (arith, state_length h))) ∙ rw state_mark (mark_small s.first)

  -- the count of task i stands in its two bytes
  pub count_there : (i : ℕ) → i < 16 → count_in (state_bytes s bytes) i ≡ get_or s.counts i 0
  count_there i h = rw parts (word_there front s.counts (drop 35 bytes) 3 16 front_long i h)

  pub state_read : length s.counts ≡ 16 → state_of (state_bytes s bytes) ≡ s
  unfolding state_of
  state_read all = λ i. record { row = row_is i; first = mark_is i; counts = counts_are i }
    where
      row_is : u16_of (get_or (state_bytes s bytes) 0 0) (get_or (state_bytes s bytes) 1 0) ≡ s.row
      row_is = rw (state_low, state_high) (word_back s.row)

      mark_is : eqb (get_or (state_bytes s bytes) 2 0) 1 ≡ s.first
      mark_is = rw state_mark (mark_read s.first)

      counts_are : words_from (state_bytes s bytes) 3 16 0 ≡ s.counts
      counts_are = rw parts (words_read front s.counts (drop 35 bytes) 3 16 front_long all)

pub state_over : (s : State) (bytes : List ℕ) (before : State) → state_bytes s (state_bytes before bytes) ≡ state_bytes s bytes
state_over s bytes before =
    parts s (state_bytes before bytes)
    ∙ ap (λ (l : List ℕ). front s bytes ++ counts s bytes ++ l) (state_behind before bytes)
    ∙ sym (parts s bytes)

module _ (bytes : List ℕ) (is : is_state bytes ≡ true) (are : Bytes bytes) where
  pub bytes_back : state_bytes (state_of bytes) bytes ≡ bytes
  unfolding state_of
  bytes_back =
      let far = state_long bytes is in
      let mark : get_or bytes 2 0 < 2 = ltb-true (get_or bytes 2 0) 2 (long bytes far ∙ is) in
      row_first (state_of bytes) bytes
      ∙ rw (
        two_bytes (get_or bytes 0 0) (get_or bytes 1 0) (are 0),
        mark_back (get_or bytes 2 0) mark,
        words_back bytes are 3 16 (omega arith),
        ← drop-cons bytes 2 0 (omega arith),
        ← drop-cons bytes 1 0 (omega arith),
        ← drop-cons bytes 0 0 (omega arith),
      )

-- Two states with the same counts: the bytes from 3 on
pub same_behind : (new old : State) (bytes : List ℕ) → new.counts ≡ old.counts → (k : ℕ) → 3 ≤ k
    → get_or (state_bytes new bytes) k 0 ≡ get_or (state_bytes old bytes) k 0
same_behind new old bytes same zero far = absurd (omega arith)
same_behind new old bytes same (suc zero) far = absurd (omega arith)
same_behind new old bytes same (suc (suc zero)) far = absurd (omega arith)
same_behind new old bytes same (suc (suc (suc j))) far =
    behind_mark new bytes j ∙ ap (λ (l : List ℕ). get_or (words_bytes l 16 0 ++ drop 35 bytes) j 0) same ∙ sym (behind_mark old bytes j)

-- Two states that differ in the count of `task` alone: in n counts from that of task i on, the byte at place j; and the bytes of the states
module _ (task : ℕ) (new old : State) (agree : (i : ℕ) → i < 16 → (i ≡ task → ⊥) → get_or new.counts i 0 ≡ get_or old.counts i 0) where
  counts_agree : (rest : List ℕ) (n i j : ℕ) → i + n ≤ 16 → (task < 16 → 2 * i + j ≡ 2 * task → ⊥) → (task < 16 → 2 * i + j ≡ 2 * task + 1 → ⊥)
      → get_or (words_bytes new.counts n i ++ rest) j 0 ≡ get_or (words_bytes old.counts n i ++ rest) j 0
  unfolding words_bytes
  counts_agree rest zero i j h low high = refl
  counts_agree rest (suc n) i zero h low high =
      let same = agree i (omega arith) (λ e. low (omega arith) (omega arith)) in
      words_low new.counts rest n i ∙ ap (λ (w : ℕ). w % 256) same ∙ sym (words_low old.counts rest n i)
  counts_agree rest (suc n) i (suc zero) h low high =
      let same = agree i (omega arith) (λ e. high (omega arith) (omega arith)) in
      words_high new.counts rest n i ∙ ap (λ (w : ℕ). w / 256) same ∙ sym (words_high old.counts rest n i)
  counts_agree rest (suc n) i (suc (suc j)) h low high =
      words_behind new.counts rest n i j
      ∙ counts_agree rest n (i + 1) j (omega arith) (λ few e. low few (omega arith)) (λ few e. high few (omega arith))
      ∙ sym (words_behind old.counts rest n i j)

  pub states_agree : (bytes : List ℕ) → new.row ≡ old.row → new.first ≡ old.first → (k : ℕ) → (task < 16 → k ≡ 3 + 2 * task → ⊥)
      → (task < 16 → k ≡ 4 + 2 * task → ⊥) → get_or (state_bytes new bytes) k 0 ≡ get_or (state_bytes old bytes) k 0
  states_agree bytes row first zero low high = state_low new bytes ∙ ap (λ (w : ℕ). w % 256) row ∙ sym (state_low old bytes)
  states_agree bytes row first (suc zero) low high = state_high new bytes ∙ ap (λ (w : ℕ). w / 256) row ∙ sym (state_high old bytes)
  states_agree bytes row first (suc (suc zero)) low high = state_mark new bytes ∙ ap mark_byte first ∙ sym (state_mark old bytes)
  states_agree bytes row first (suc (suc (suc j))) low high =
      behind_mark new bytes j
      ∙ counts_agree (drop 35 bytes) 16 0 j (omega arith) (λ few e. low few (omega arith)) (λ few e. high few (omega arith))
      ∙ sym (behind_mark old bytes j)
