-- The entries of a frame in the bytes that the caller lends: 32.
use Rattle.std.specs.Prelude.{ℕ, zero, suc, ◌+◌, List, [], ◌∷◌, get_or}

-- n pairs of a task byte and a job byte, from place i on
unfoldable pub entry_bytes : List ℕ → List ℕ → ℕ → ℕ → List ℕ
entry_bytes tasks jobs zero i = []
entry_bytes tasks jobs (suc n) i = get_or tasks i 0 ∷ get_or jobs i 0 ∷ entry_bytes tasks jobs n (i + 1)
