-- The bytes of a request, in the words of 01's "Request file".
use Rattle.std.specs.Prelude.{ℕ, zero, suc, ◌≡◌, length}
use mathlib.Core.List.{List, [], ◌∷◌, ◌++◌, flat_map}
use Rattle.cursor.specs.Fields.{word_bytes}
use Rattle.request.specs.declared.Task.{Task}
use Rattle.request.specs.declared.Pair.{Pair}

-- "records of four u16: C (worst transfer time), T (period), D (deadline after release), P (phase)"
unfoldable pub task_bytes : Task → List ℕ
task_bytes x = word_bytes x.c ++ word_bytes x.t ++ word_bytes x.d ++ word_bytes x.p

-- "pairs of bytes a, b"
unfoldable pub pair_bytes : Pair → List ℕ
pair_bytes q = q.a ∷ q.b ∷ []

-- a section: its count, and then its records, `write` being the bytes of one
unfoldable pub section_bytes : {A : Type 0} → (A → List ℕ) → List A → List ℕ
section_bytes write xs = length xs ∷ flat_map write xs

-- "a count 0 or 1, then that many bytes"; "A g of 0 is written by leaving the third section out."
unfoldable pub silent_bytes : ℕ → List ℕ
silent_bytes zero = []
silent_bytes (suc g) = 1 ∷ suc g ∷ []

-- the bytes that say g: a g of 0 may also be written as a section of no byte, or of the byte 0
pub data SaysSilent (g : ℕ) (bytes : List ℕ) : Type 0 where
  left_out : g ≡ 0 → bytes ≡ [] → SaysSilent g bytes
  no_byte : g ≡ 0 → bytes ≡ 0 ∷ [] → SaysSilent g bytes
  one_byte : bytes ≡ 1 ∷ g ∷ [] → SaysSilent g bytes

-- the sections that every request has
abbrev pub two_sections : List Task → List Pair → List ℕ
two_sections tasks pairs = section_bytes task_bytes tasks ++ section_bytes pair_bytes pairs

-- "Sections stand in a fixed order, each after its count. First: task count n .. Second: pair count"
unfoldable pub request_bytes : List Task → List Pair → ℕ → List ℕ
request_bytes tasks pairs g = section_bytes task_bytes tasks ++ section_bytes pair_bytes pairs ++ silent_bytes g

-- the bytes are the two sections and bytes that say g
pub record SaysRequest (bytes : List ℕ) (tasks : List Task) (pairs : List Pair) (g : ℕ) : Type 0 where
  pub third : List ℕ
  pub says : SaysSilent g third
  pub whole : two_sections tasks pairs ++ third ≡ bytes
