-- The bytes of a number and of the four counts: what stores one behind the other come to, and what they say.
use Rattle.std.specs.Prelude.{ℕ, suc, ◌%◌, ◌/◌, ◌≤◌, ◌<◌, ◌≡◌, length, get_or, drop}
use Rattle.std.proofs.Math.Path.{refl}
use Rattle.std.proofs.Common.{ap, ◌∙◌, zero-add}
use mathlib.Core.List.{List, [], ◌∷◌, ◌++◌, append-nil, append_assoc}
use Rattle.std.proofs.lemmas.List.Edits.{sets}
use Rattle.cursor.specs.Fields.{word_bytes}
use Rattle.cursor.specs.WordBytesLaws.{four_stored}
use Rattle.phases.specs.Numbered.{PhaseCounts}
use Rattle.lent.specs.Words.{word_in, words_bytes}
use Rattle.lent.specs.WordsBack.{word_written}
use Rattle.lent.specs.Numbers.{low_first, counts_bytes}

-- the lowest byte, and behind it those of what is left
pub lowest_first : (n number : ℕ) → low_first (suc n) number ≡ (number % 256) ∷ low_first n (number / 256)
unfolding low_first
lowest_first n number = refl

-- four words, one behind the other
pub counts_stored : (found : PhaseCounts) (bytes : List ℕ) → 8 ≤ length bytes
    → sets (sets (sets (sets bytes 0 (word_bytes found.tables)) 2 (word_bytes found.nines)) 4 (word_bytes found.tens)) 6 (word_bytes found.ended)
    ≡ counts_bytes found ++ drop 8 bytes
unfolding counts_bytes
counts_stored found bytes h = four_stored bytes found.tables found.nines found.tens found.ended h

-- the four counts, each in its two bytes
module _ (found : PhaseCounts) where
  abbrev pub four_counts : List ℕ
  four_counts = found.tables ∷ found.nines ∷ found.tens ∷ found.ended ∷ []

  are_words : counts_bytes found ≡ words_bytes four_counts 4 0
  unfolding counts_bytes words_bytes
  are_words = simp (append_assoc, append-nil)

  pub four_read : (rest : List ℕ) (k : ℕ) → k < 4 → word_in (counts_bytes found ++ rest) 0 k ≡ get_or four_counts k 0
  four_read rest k h = rw are_words (word_written four_counts rest 4 0 k h ∙ ap (λ (j : ℕ). get_or four_counts j 0) (zero-add k))
