-- The bytes of a u16: there are two, low byte first; they say the number again; and what a buffer holds where they are stored.
use Prim.Native.Nat.{ℕ, suc, ◌+◌, ◌*◌, ◌%◌, ◌/◌, ◌≤◌, ◌<◌}
use Rattle.std.specs.Prelude.{◌≡◌, List, [], ◌∷◌, ◌++◌, length, get_or, set, take, drop}
use Rattle.std.proofs.Math.Path.{refl}
use Rattle.std.proofs.Common.{add-one}
use native.Mathlib.Omega.{arith}
use Rattle.std.proofs.lemmas.List.Edits.{sets, sets-eq}
use Rattle.cursor.specs.Fields.{word_bytes}

pub word_parts : (w : ℕ) → word_bytes w ≡ (w % 256) ∷ (w / 256) ∷ []
unfolding word_bytes
word_parts w = refl

pub word_long : (w : ℕ) → length (word_bytes w) ≡ 2
word_long w = rw (word_parts w)

pub word_back : (w : ℕ) → w % 256 + w / 256 * 256 ≡ w
word_back w = omega arith

-- the word at the front of some bytes, and what stands behind it
module _ (w : ℕ) (rest : List ℕ) where
  pub low_byte : get_or (word_bytes w ++ rest) 0 0 ≡ w % 256
  unfolding word_bytes
  low_byte = refl

  pub high_byte : get_or (word_bytes w ++ rest) 1 0 ≡ w / 256
  unfolding word_bytes
  high_byte = refl

  pub byte_behind : (i : ℕ) → get_or (word_bytes w ++ rest) (suc (suc i)) 0 ≡ get_or rest i 0
  unfolding word_bytes
  byte_behind i = refl

-- two bytes are those of their number
module _ (low high : ℕ) (small : low < 256) where
  pub low_back : (low + high * 256) % 256 ≡ low
  low_back = omega arith

  pub high_back : (low + high * 256) / 256 ≡ high
  high_back = omega arith

  pub two_bytes : word_bytes (low + high * 256) ≡ low ∷ high ∷ []
  two_bytes = rw (word_parts (low + high * 256), low_back, high_back)

-- its bytes stored one by one; and what is stored behind it
module _ (out : List ℕ) (at w : ℕ) where
  pub bytes_stored : set (set out at (w % 256)) (at + 1) (w / 256) ≡ sets out at (word_bytes w)
  unfolding word_bytes
  bytes_stored = rw (add-one at)

  pub stored_after : (bytes : List ℕ) → sets (sets out at (word_bytes w)) (at + 2) bytes ≡ sets out at (word_bytes w ++ bytes)
  unfolding word_bytes
  stored_after bytes = let next : at + 2 ≡ suc (suc at) = omega arith in rw next

-- three words, each behind the last one
pub three_stored : (out : List ℕ) (at a b c : ℕ)
    → sets (sets (sets out at (word_bytes a)) (at + 2) (word_bytes b)) (at + 4) (word_bytes c) ≡ sets out at (word_bytes a ++ word_bytes b ++ word_bytes c)
unfolding word_bytes
three_stored out at a b c =
    let second : at + 2 ≡ suc (suc at) = omega arith in
    let third : at + 4 ≡ suc (suc (suc (suc at))) = omega arith in
    rw (second, third)

-- one word stored, and four at the front of the buffer
pub word_stored : (out : List ℕ) (at w : ℕ) → at + 2 ≤ length out → sets out at (word_bytes w) ≡ take at out ++ word_bytes w ++ drop (at + 2) out
unfolding word_bytes
word_stored out at w h = sets-eq (word_bytes w) out at h

pub four_stored : (out : List ℕ) (a b c d : ℕ) → 8 ≤ length out
    → sets (sets (sets (sets out 0 (word_bytes a)) 2 (word_bytes b)) 4 (word_bytes c)) 6 (word_bytes d)
    ≡ word_bytes a ++ word_bytes b ++ word_bytes c ++ word_bytes d ++ drop 8 out
unfolding word_bytes
four_stored out a b c d h = sets-eq (word_bytes a ++ word_bytes b ++ word_bytes c ++ word_bytes d) out 0 h
