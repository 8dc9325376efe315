-- Words stored into lent bytes, and read from them, one behind the other.
use Rattle.std.specs.Prelude.{ℕ, zero, suc, ◌+◌, ◌*◌, ◌-◌, ◌≤◌, ◌<◌, ◌≡◌, refl, get_or, set, take}
use Rattle.std.proofs.Math.Path.{ap}
use Rattle.std.proofs.Common.{◌∙◌, arith, take_at, drop_at, drop-drop}
use mathlib.Core.List.{List, [], ◌∷◌, ◌++◌, append-nil, append_assoc}
use Rattle.std.proofs.Math.ListN.{length, drop, length-append, drop_of_length-le}
use Rattle.std.proofs.lemmas.List.{length-replicate}
use Rattle.std.proofs.lemmas.List.Edits.{sets}
use Rattle.std.proofs.Math.Seq.{sets-eq, length-take-le}
use Rattle.cursor.specs.Fields.{word_bytes}
use Rattle.cursor.specs.WordBytesLaws.{word_long}
use Rattle.cursor.specs.Pieces.{PartWay, part_start, part_more, part_end, two_stored}
use Rattle.table.specs.Left.{less_one, none_left}
use Rattle.lent.specs.Words.{word_in, words_from, words_bytes, zeros}

pub bytes_count : (words : List ℕ) (n i : ℕ) → length (words_bytes words n i) ≡ 2 * n
unfolding words_bytes
bytes_count words zero i = refl
bytes_count words (suc n) i =
    let w = get_or words i 0 in
    omega (arith, length-append (word_bytes w) (words_bytes words n (i + 1)), word_long w, bytes_count words n (i + 1))

pub words_count : (bytes : List ℕ) (at n i : ℕ) → length (words_from bytes at n i) ≡ n
unfolding words_from
words_count bytes at zero i = refl
words_count bytes at (suc n) i = ap suc (words_count bytes at n (i + 1))

-- one value more, and two, in their places
module _ (all old out left : List ℕ) (at : ℕ) (so : PartWay all old out left at) where
  pub one_more : (a : ℕ) (left' : List ℕ) → left ≡ a ∷ left' → PartWay all old (set out at a) left' (at + 1)
  one_more a left' e =
      part_more all old out left at so (a ∷ []) left' (set out at a) e (sets-eq (a ∷ []) out at (omega (arith, so.room, so.long, ap length e)))

  pub two_more : (a b : ℕ) (left' : List ℕ) → left ≡ a ∷ b ∷ left' → PartWay all old (set (set out at a) (at + 1) b) left' (at + 2)
  two_more a b left' e =
      part_more all old out left at so (a ∷ b ∷ []) left' (set (set out at a) (at + 1) b) e
      (two_stored out at a b (omega (arith, so.room, so.long, ap length e)))

-- bytes stored behind those in `front`
pub stored_behind : (front middle bytes : List ℕ) (a b : ℕ) → length front ≡ a
    → take a (front ++ drop a bytes) ++ middle ++ drop (a + b) (front ++ drop a bytes) ≡ (front ++ middle) ++ drop (a + b) bytes
stored_behind front middle bytes a b e =
    rw (take_at front (drop a bytes) a e, ← drop-drop b a (front ++ drop a bytes), drop_at front (drop a bytes) a e, drop-drop b a bytes, append_assoc)

-- n words, stored from byte `at` on: i are

module _ (words old : List ℕ) (at n : ℕ) where
  abbrev pub words_placed : List ℕ
  words_placed = take at old ++ words_bytes words n 0

  abbrev pub WordsStored : List ℕ → ℕ → Type 0
  WordsStored out i = PartWay words_placed old out (words_bytes words (n - i) i) (at + 2 * i)

  pub stored_start : at + 2 * n ≤ length old → WordsStored old 0
  stored_start h =
      let here : at + 2 * 0 ≡ at = omega arith in
      let all : n - 0 ≡ n = omega arith in
      rw (here, all) (record { front = refl; back = refl; long = refl; room = omega (arith, bytes_count words n 0) })

  module _ (out : List ℕ) (i : ℕ) (so : WordsStored out i) where
    pub stored_more : i < n → WordsStored (sets out (at + 2 * i) (word_bytes (get_or words i 0))) (i + 1)
    unfolding words_bytes
    stored_more h =
        let word = word_bytes (get_or words i 0) in
        let two = word_long (get_or words i 0) in
        let left : words_bytes words (n - i) i ≡ word ++ words_bytes words (n - (i + 1)) (i + 1) = rw (less_one n i h) in
        let next : at + 2 * (i + 1) ≡ at + 2 * i + length word = omega (arith, two) in
        let stored = sets-eq word out (at + 2 * i) (omega (arith, two, so.room, so.long, bytes_count words (n - i) i)) in
        rw next (part_more words_placed old out (words_bytes words (n - i) i) (at + 2 * i) so word _ _ left stored)

    pub stored_end : n ≤ i → out ≡ take at old ++ words_bytes words n 0 ++ drop (at + 2 * n) old
    unfolding words_bytes
    stored_end h =
        let done = part_end words_placed old out (words_bytes words (n - i) i) (at + 2 * i) so (rw (none_left n i h)) in
        let front : length (take at old) ≡ at = length-take-le at old (omega (arith, so.room)) in
        let end : length words_placed ≡ at + 2 * n = omega (arith, length-append (take at old) (words_bytes words n 0), bytes_count words n 0, front) in
        done.whole ∙ ap (λ (k : ℕ). words_placed ++ drop k old) end

-- n words read, the first in bytes `at` and `at` + 1: i are

module _ (bytes : List ℕ) (at n : ℕ) where
  abbrev pub WordsRead : List ℕ → ℕ → Type 0
  WordsRead words i = PartWay (words_from bytes at n 0) (zeros n) words (words_from bytes at (n - i) i) i

  as_many : length (zeros n) ≡ n
  as_many = length-replicate {A = ℕ} n 0

  pub read_start : WordsRead (zeros n) 0
  read_start =
      let all : n - 0 ≡ n = omega arith in
      rw all (part_start [] (words_from bytes at n 0) (zeros n) 0 refl (omega (arith, words_count bytes at n 0, as_many)))

  module _ (words : List ℕ) (i : ℕ) (so : WordsRead words i) where
    pub read_more : i < n → WordsRead (set words i (word_in bytes at i)) (i + 1)
    unfolding words_from
    read_more h = one_more (words_from bytes at n 0) (zeros n) words (words_from bytes at (n - i) i) i so (word_in bytes at i) _ (rw (less_one n i h))

    pub read_end : n ≤ i → words ≡ words_from bytes at n 0
    unfolding words_from
    read_end h =
        let done = part_end (words_from bytes at n 0) (zeros n) words (words_from bytes at (n - i) i) i so (rw (none_left n i h)) in
        let few : length (zeros n) ≤ length (words_from bytes at n 0) = omega (arith, words_count bytes at n 0, as_many) in
        let none : drop (length (words_from bytes at n 0)) (zeros n) ≡ [] = drop_of_length-le (zeros n) few in
        done.whole ∙ rw (none, append-nil)
