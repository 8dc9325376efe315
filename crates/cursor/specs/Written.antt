-- A file written into a lent buffer, a table or a request: what the writer answers and leaves there.
use Rattle.std.specs.Prelude.{ℕ, Bool, cond, List, ◌++◌, length, drop, ltb, Result, Ok, Err}
use Rattle.refusal.specs.Refusal.{number_of}
use Rattle.refusal.specs.declared.Refusal.{Refusal}

-- the answer with the paper's number, where 0 is none: "A refusal returns its number, length 0 or no entries"
pub record Written : Type 0 where
  pub refusal : ℕ
  pub length : ℕ

abbrev pub written_said : Result ℕ Refusal → Written
written_said (Ok n) = record { refusal = 0; length = n }
written_said (Err e) = record { refusal = number_of e; length = 0 }

-- "buffer shorter than the table"; of a request: "A short buffer gives 11"
abbrev pub too_short : List ℕ → List ℕ → Bool
too_short bytes out = ltb (length out) (length bytes)

-- "The answer holds the length."
unfoldable pub written : List ℕ → List ℕ → Written
written bytes out = cond (too_short bytes out) (record { refusal = 11; length = 0 }) (record { refusal = 0; length = length bytes })

-- "bytes behind the table keep their old content", "Bytes behind the written file keep their content."
unfoldable pub buffer : List ℕ → List ℕ → List ℕ
buffer bytes out = cond (too_short bytes out) out (bytes ++ drop (length bytes) out)
