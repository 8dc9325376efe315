-- The ways out of a writer: the buffer is too short and stays as it was, or the file stands at its front with the old content behind.
use Rattle.std.specs.Prelude.{ℕ, ◌≤◌, ◌<◌, ◌≡◌, Bool, List, ◌++◌, take}
use Rattle.std.proofs.Math.Bool.{true, false, cond}
use native.Mathlib.Omega.{arith}
use Rattle.std.proofs.Math.ListN.{length, drop}
use Rattle.std.proofs.Math.Seq.{take-append_seam, drop-append_seam}
use Rattle.std.proofs.Common.{lt-ltb, le-ltb}
use Rattle.cursor.specs.Pieces.{Placed}
use Rattle.cursor.specs.Written.{too_short, written, buffer}
use Rattle.cursor.specs.Written.{Written}

module _ (bytes out : List ℕ) where
  abbrev pub AnswersAs : ℕ → ℕ → List ℕ → Type 0
  AnswersAs refusal end out' = (record { refusal = refusal; length = end } ≡ written bytes out) × (out' ≡ buffer bytes out)

  pub not_written : length out < length bytes → AnswersAs 11 0 out
  unfolding written buffer
  not_written h = (rw (lt-ltb _ _ h), rw (lt-ltb _ _ h))

  module _ (fits : length bytes ≤ length out) where
    pub all_written : (out' : List ℕ) (end : ℕ) → Placed bytes out out' end → AnswersAs 0 end out'
    unfolding written buffer
    all_written out' end b = (rw (le-ltb _ _ fits, b.ends), rw (le-ltb _ _ fits) b.whole)

  -- no more is answered than the file's length
  pub written_most : (written bytes out).length ≤ length bytes
  unfolding written
  written_most = go (too_short bytes out)
    where
      go : (short : Bool) → (cond {A = Written} short (record { refusal = 11; length = 0 }) (record { refusal = 0; length = length bytes })).length ≤ length bytes
      go true = omega arith
      go false = omega arith

  -- what was written stands at the front of the buffer, and behind it is the old content
  pub record FileThere : Type 0 where
    pub file : take (written bytes out).length (buffer bytes out) ≡ bytes
    pub behind : drop (written bytes out).length (buffer bytes out) ≡ drop (written bytes out).length out

  pub file_there : (written bytes out).refusal ≡ 0 → FileThere
  unfolding written buffer
  file_there z = let h = go (too_short bytes out) z in record { file = h.0; behind = h.1 }
    where
      go : (short : Bool)
          → let answer = cond {A = Written} short (record { refusal = 11; length = 0 }) (record { refusal = 0; length = length bytes }) in
          let after = cond short out (bytes ++ drop (length bytes) out) in
          answer.refusal ≡ 0 → (take answer.length after ≡ bytes) × (drop answer.length after ≡ drop answer.length out)
      go true e = absurd (omega arith)
      go false e = (take-append_seam bytes (drop (length bytes) out), drop-append_seam bytes (drop (length bytes) out))
