-- What a test counts and keeps.
use Rattle.std.specs.Prelude.{ℕ, Bool, true, false, cond, List, ◌∷◌}

-- 1 where the test holds
abbrev pub bit : Bool → ℕ
bit b = cond b 1 0

-- x in front of the others, if it is kept
abbrev pub keep : {A : Type 0} → Bool → A → List A → List A
keep true x xs = x ∷ xs
keep false x xs = xs
