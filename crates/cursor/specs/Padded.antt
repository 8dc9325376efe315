-- A list in an array of fixed size: its elements from the first place on, and a blank in each unused place. And back: the elements in the first places.
use Rattle.std.specs.Prelude.{ℕ, zero, suc, ◌-◌, List, [], ◌∷◌, ◌++◌, length, get_or, replicate}

unfoldable pub padded : {A : Type 0} → ℕ → A → List A → List A
padded size blank xs = xs ++ replicate (size - length xs) blank

-- the elements in the first k places
unfoldable pub firsts : {A : Type 0} → ℕ → A → List A → List A
firsts zero blank xs = []
firsts (suc k) blank xs = firsts k blank xs ++ (get_or xs k blank ∷ [])
