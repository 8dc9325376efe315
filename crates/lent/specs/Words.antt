-- Numbers of two bytes in the bytes that the caller lends, one behind the other, low byte first; and bytes that are 0.
use Rattle.std.specs.Prelude.{ℕ, zero, suc, ◌+◌, ◌*◌, List, [], ◌∷◌, ◌++◌, get_or, replicate}
use Rattle.cursor.specs.Fields.{word_bytes}

-- low byte first
abbrev pub u16_of : ℕ → ℕ → ℕ
u16_of low high = low + high * 256

-- the i-th word, where word 0 stands in bytes `at` and `at` + 1
abbrev pub word_in : List ℕ → ℕ → ℕ → ℕ
word_in bytes at i = u16_of (get_or bytes (at + 2 * i) 0) (get_or bytes (at + 1 + 2 * i) 0)

-- n words, from the i-th on
unfoldable pub words_from : List ℕ → ℕ → ℕ → ℕ → List ℕ
words_from bytes at zero i = []
words_from bytes at (suc n) i = word_in bytes at i ∷ words_from bytes at n (i + 1)

-- the bytes of n words, from that at place i on
unfoldable pub words_bytes : List ℕ → ℕ → ℕ → List ℕ
words_bytes words zero i = []
words_bytes words (suc n) i = word_bytes (get_or words i 0) ++ words_bytes words n (i + 1)

abbrev pub zeros : ℕ → List ℕ
zeros n = replicate n 0
