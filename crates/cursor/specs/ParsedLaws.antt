-- A reading that comes to a value came to one at each of its steps.
use Rattle.std.specs.Prelude.{ℕ, ◌≡◌, refl, Bool, true, false, cond, ◌&&◌, List}
use Rattle.std.proofs.Common.{subst₂, arith}
use Rattle.cursor.specs.Parsed.{Parsed, got, refused, then}

pub never : ◌≡◌ {A = ℕ} 0 1 → ⊥
never z = omega arith

-- the first of two steps, and the second from there
pub record TwoSteps {A B : Type 0} (r : Parsed A) (next : A → List ℕ → Parsed B) (y : B) (rest : List ℕ) : Type 0 where
  pub value : A
  pub tail : List ℕ
  pub first : r ≡ got value tail
  pub second : next value tail ≡ got y rest

pub then_got : {A B : Type 0} (r : Parsed A) (next : A → List ℕ → Parsed B) (y : B) (rest : List ℕ) → then r next ≡ got y rest → TwoSteps r next y rest
then_got (got x tail) next y rest e = record { value = x; tail = tail; first = refl; second = e }
then_got (refused number) next y rest e = absurd (never (cc))

-- a rule that was judged held
pub rule_got : {A : Type 0} (test : Bool) (r : Parsed A) (number : ℕ) (y : A) (rest : List ℕ) → cond test r (refused number) ≡ got y rest
    → (test ≡ true) × (r ≡ got y rest)
rule_got true r number y rest e = (refl, e)
rule_got false r number y rest e = absurd (never (cc))

-- what holds of a value and the bytes behind it holds of what equals them
pub got_same : {A : Type 0} (P : A → List ℕ → Type 0) {x y : A} {tail rest : List ℕ} → got x tail ≡ got y rest → P x tail → P y rest
got_same P {x} {y} {tail} {rest} e h =
    let value : x ≡ y = cc in
    let behind : tail ≡ rest = cc in
    subst₂ P value behind h

pub both_true : (a b : Bool) → a && b ≡ true → (a ≡ true) × (b ≡ true)
both_true true b e = (refl, e)
both_true false b e = (e, absurd (never (cc)))
