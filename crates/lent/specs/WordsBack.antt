-- Words in lent bytes, both ways: words that were written are read again, and bytes are those that their words are written as.
use Prim.Native.Nat.{ℕ, zero, suc, ◌+◌, ◌*◌, ◌%◌, ◌/◌, ◌≤◌, ◌<◌}
use Rattle.std.specs.Prelude.{◌≡◌, length, get_or, drop}
use Rattle.std.proofs.Common.{sym, ap, ◌∙◌, zero-add, ext_get_or, drop-cons, get_or-append-add}
use mathlib.Core.List.{List, ◌∷◌, ◌++◌, append_assoc}
use native.Mathlib.Omega.{arith}
use Rattle.cursor.specs.Fields.{word_bytes, Bytes}
use Rattle.cursor.specs.WordBytesLaws.{word_back, low_byte, high_byte, byte_behind, two_bytes}
use Rattle.lent.specs.Words.{word_in, words_from, words_bytes}
use Rattle.lent.specs.WordLaws.{words_count}

-- the word at the front is read
pub word_first : (w : ℕ) (rest : List ℕ) → word_in (word_bytes w ++ rest) 0 0 ≡ w
word_first w rest = rw (low_byte w rest, high_byte w rest) (word_back w)

-- the bytes of the words from that at place i on: the two of this one, and behind them those of the others
module _ (words rest : List ℕ) (n i : ℕ) where
  one_then : words_bytes words (suc n) i ++ rest ≡ word_bytes (get_or words i 0) ++ (words_bytes words n (i + 1) ++ rest)
  unfolding words_bytes
  one_then = append_assoc (word_bytes (get_or words i 0)) (words_bytes words n (i + 1)) rest

  pub words_low : get_or (words_bytes words (suc n) i ++ rest) 0 0 ≡ get_or words i 0 % 256
  words_low = rw one_then (low_byte (get_or words i 0) (words_bytes words n (i + 1) ++ rest))

  pub words_high : get_or (words_bytes words (suc n) i ++ rest) 1 0 ≡ get_or words i 0 / 256
  words_high = rw one_then (high_byte (get_or words i 0) (words_bytes words n (i + 1) ++ rest))

  pub words_behind : (j : ℕ) → get_or (words_bytes words (suc n) i ++ rest) (suc (suc j)) 0 ≡ get_or (words_bytes words n (i + 1) ++ rest) j 0
  words_behind j = rw one_then (byte_behind (get_or words i 0) (words_bytes words n (i + 1) ++ rest) j)

-- of n words that are read from the i-th on, the k-th
words_at : (bytes : List ℕ) (at n i k : ℕ) → k < n → get_or (words_from bytes at n i) k 0 ≡ word_in bytes at (i + k)
unfolding words_from
words_at bytes at zero i k h = absurd (omega arith)
words_at bytes at (suc n) i zero h = ap (word_in bytes at) (omega arith)
words_at bytes at (suc n) i (suc k) h = words_at bytes at n (i + 1) k (omega arith) ∙ ap (word_in bytes at) (omega arith)

pub word_read : (bytes : List ℕ) (at n k : ℕ) → k < n → get_or (words_from bytes at n 0) k 0 ≡ word_in bytes at k
word_read bytes at n k h = words_at bytes at n 0 k h ∙ ap (word_in bytes at) (zero-add k)

-- of n words that are written from that at place i on, the k-th
pub word_written : (words rest : List ℕ) (n i k : ℕ) → k < n → word_in (words_bytes words n i ++ rest) 0 k ≡ get_or words (i + k) 0
word_written words rest zero i k h = absurd (omega arith)
word_written words rest (suc n) i zero h =
    rw (words_low words rest n i, words_high words rest n i) (word_back (get_or words i 0) ∙ ap (λ (j : ℕ). get_or words j 0) (omega arith))
word_written words rest (suc n) i (suc k) h =
    let low : 0 + 2 * suc k ≡ suc (suc (0 + 2 * k)) = omega arith in
    let high : 0 + 1 + 2 * suc k ≡ suc (suc (0 + 1 + 2 * k)) = omega arith in
    rw (low, high, words_behind words rest n i (0 + 2 * k), words_behind words rest n i (0 + 1 + 2 * k))
    (word_written words rest n (i + 1) k (omega arith) ∙ ap (λ (j : ℕ). get_or words j 0) (omega arith))

-- n words that are written behind `front`
module _ (front words rest : List ℕ) (at n : ℕ) (here : length front ≡ at) where
  pub word_there : (k : ℕ) → k < n → word_in (front ++ words_bytes words n 0 ++ rest) at k ≡ get_or words k 0
  word_there k h =
      let behind = words_bytes words n 0 ++ rest in
      let low : at + 2 * k ≡ length front + (0 + 2 * k) = omega arith in
      let high : at + 1 + 2 * k ≡ length front + (0 + 1 + 2 * k) = omega arith in
      rw (append_assoc front (words_bytes words n 0) rest, low, high, get_or-append-add front behind (0 + 2 * k) 0, get_or-append-add front behind (0 + 1 + 2 * k) 0)
      (word_written words rest n 0 k h ∙ ap (λ (j : ℕ). get_or words j 0) (zero-add k))

  pub words_read : length words ≡ n → words_from (front ++ words_bytes words n 0 ++ rest) at n 0 ≡ words
  words_read all =
      let bytes = front ++ words_bytes words n 0 ++ rest in
      let many = words_count bytes at n 0 in
      ext_get_or 0 (words_from bytes at n 0) words (many ∙ sym all) (λ k h. word_read bytes at n k (omega (arith, many)) ∙ word_there k (omega (arith, many)))

-- n words, the first in bytes `at` and `at` + 1
module _ (bytes : List ℕ) (are : Bytes bytes) (at n : ℕ) (room : at + 2 * n ≤ length bytes) where
  two_behind : (i : ℕ) → i < n → drop (at + 2 * i) bytes ≡ get_or bytes (at + 2 * i) 0 ∷ get_or bytes (at + 1 + 2 * i) 0 ∷ drop (at + 2 * (i + 1)) bytes
  two_behind i h =
      let high : at + 1 + 2 * i ≡ suc (at + 2 * i) = omega arith in
      let next : at + 2 * (i + 1) ≡ suc (suc (at + 2 * i)) = omega arith in
      rw (high, next) (drop-cons bytes (at + 2 * i) 0 (omega arith) ∙ ap (λ (l : List ℕ). get_or bytes (at + 2 * i) 0 ∷ l) (drop-cons bytes (suc (at + 2 * i)) 0 (omega arith)))

  -- m of them from the i-th on, and the bytes behind them
  behind_back : (m i : ℕ) → i + m ≤ n → words_bytes (words_from bytes at n 0) m i ++ drop (at + 2 * (i + m)) bytes ≡ drop (at + 2 * i) bytes
  unfolding words_bytes
  behind_back zero i h = let none : i + 0 ≡ i = omega arith in rw none
  behind_back (suc m) i h =
      let next : i + suc m ≡ i + 1 + m = omega arith in
      rw (
        word_read bytes at n i (omega arith),
        two_bytes (get_or bytes (at + 2 * i) 0) (get_or bytes (at + 1 + 2 * i) 0) (are (at + 2 * i)),
        next,
        behind_back m (i + 1) (omega arith),
      ) (sym (two_behind i (omega arith)))

  pub words_back : words_bytes (words_from bytes at n 0) n 0 ++ drop (at + 2 * n) bytes ≡ drop at bytes
  words_back =
      let here : at ≡ at + 2 * 0 = omega arith in
      let all : n ≡ 0 + n = omega arith in
      ap (λ (m : ℕ). words_bytes (words_from bytes at n 0) n 0 ++ drop (at + 2 * m) bytes) all ∙ behind_back n 0 (omega arith)
      ∙ ap (λ (k : ℕ). drop k bytes) (sym here)
