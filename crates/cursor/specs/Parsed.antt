-- Reading from the front of some bytes: what a reading gives, one reading after another, and a row of records.
use Rattle.std.specs.Prelude.{ℕ, zero, suc, List, [], ◌∷◌, ◌++◌}

-- a value with the bytes behind it, or the number of a refusal
pub data Parsed (A : Type 0) : Type 0 where
  got : A → List ℕ → Parsed A
  refused : ℕ → Parsed A

-- what follows a reading gets its value and the bytes behind it; a refusal ends it
abbrev pub then : {A B : Type 0} → Parsed A → (A → List ℕ → Parsed B) → Parsed B
then (got x rest) next = next x rest
then (refused n) next = refused n

-- `one` reads a record; k of them are left to read, behind those in `done`
unfoldable pub records : {A : Type 0} → (List ℕ → Parsed A) → ℕ → List A → List ℕ → Parsed (List A)
records one zero done bytes = got done bytes
records one (suc k) done bytes = then (one bytes) (λ x rest. records one k (done ++ (x ∷ [])) rest)
