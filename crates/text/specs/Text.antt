-- Text as bytes, a number's decimal digits, and a buffer that is filled from the front.
use Rattle.std.specs.Prelude.{ℕ, zero, suc, ◌+◌, ◌/◌, ◌%◌, ◌≤◌, min, ◌≡◌, cond, List, [], ◌∷◌, ◌++◌, ltb, length, set, take, drop}
use Prim.Native.Char.{code}
use Prim.Native.String.{String, [] as empty, ◌∷◌ as before}

-- the bytes of a text, one for each character
abbrev pub ascii : String → List ℕ
ascii empty = []
ascii (before c s) = code c ∷ ascii s

-- k bounds the number of digits before the last
unfoldable pub decimal_steps : ℕ → ℕ → List ℕ
decimal_steps zero n = (48 + n) ∷ []
decimal_steps (suc k) n = cond (ltb n 10) ((48 + n) ∷ []) (decimal_steps k (n / 10) ++ ((48 + n % 10) ∷ []))

-- the decimal digits of n in ASCII, the most significant first
unfoldable pub decimal_of : ℕ → List ℕ
decimal_of n = decimal_steps n n

-- the buffer's bytes and the place where the next one goes
pub record Filled : Type 0 where
  pub end : ℕ
  pub bytes : List ℕ

abbrev pub filled_to : ℕ → List ℕ → Filled
filled_to end bytes = record { end = end; bytes = bytes }

-- a full buffer stays as it is
unfoldable pub put_of : Filled → ℕ → Filled
put_of x b = cond (ltb x.end (length x.bytes)) (filled_to (x.end + 1) (set x.bytes x.end b)) x

unfoldable pub put_all_of : Filled → List ℕ → Filled
put_all_of x [] = x
put_all_of x (b ∷ bs) = put_all_of (put_of x b) bs

-- what a buffer holds once a text was put into it from the front: as much of the text as there is room for, and behind it the old bytes
unfoldable pub laid : List ℕ → List ℕ → List ℕ
laid text out = take (length out) text ++ drop (length text) out

-- `text` was put into the buffer `old` from the front: where it ends, and what the buffer holds. The last part follows from the others, and is stated so
-- that the proof that Rattle makes of `&out[..end]` finds it.
abbrev pub PutIn : List ℕ → List ℕ → ℕ → List ℕ → Type 0
PutIn text old end new = (end ≡ min (length text) (length old)) × (new ≡ laid text old) × (end ≡ length (take end new))

-- the text has at most so many bytes, and a buffer with room for these holds it whole, with the old bytes behind it
abbrev pub NeverCut : ℕ → List ℕ → Type 0
NeverCut room text = (length text ≤ room)
    × ((out new : List ℕ) (end : ℕ) → room ≤ length out → PutIn text out end new → (end ≡ length text) × (new ≡ text ++ drop (length text) out))
