-- The tests of a call, as facts: a pair among the pairs, and a task among the entries that are served.
use Rattle.std.specs.Prelude.{ℕ, zero, suc, ◌<◌, ◌≡◌, refl, Bool, true, false, cond, ◌&&◌, List, [], ◌∷◌, length, get_or, eqb}
use Rattle.std.proofs.lemmas.Bool.{false≢true}
use Rattle.std.proofs.Common.{arith, eqb-true, eq-eqb}
use Rattle.cursor.specs.ParsedLaws.{both_true}
use Rattle.request.specs.Request.{no_pair}
use Rattle.request.specs.declared.Pair.{Pair}
use Rattle.model.specs.Plan.{Instance}
use Rattle.model.specs.Within.{Within}
use Rattle.model.specs.WithinLaws.{within_limits}
use Rattle.plan_rules.specs.EveryLaws.{some_says, says_some}
use Rattle.heater_link.specs.Exchange.{serves, is_pair}
use Rattle.heater_link.specs.Exactly.{IsPair}

-- The pairs

pub record PairIn (a b : ℕ) (pairs : List Pair) : Type 0 where
  pub u : ℕ
  pub within : u < length pairs
  pub first : (get_or pairs u no_pair).a ≡ a
  pub second : (get_or pairs u no_pair).b ≡ b

pair_says : (a b : ℕ) (pairs : List Pair) → is_pair a b pairs ≡ true → PairIn a b pairs
unfolding is_pair
pair_says a b [] q = absurd (false≢true q)
pair_says a b (p ∷ pairs) q = go (eqb p.a a && eqb p.b b) refl q (pair_says a b pairs)
  where
    go : (t : Bool) → eqb p.a a && eqb p.b b ≡ t → cond t true (is_pair a b pairs) ≡ true → (is_pair a b pairs ≡ true → PairIn a b pairs)
        → PairIn a b (p ∷ pairs)
    go true e z later =
        let w = both_true (eqb p.a a) _ e in
        record { u = 0; within = omega arith; first = eqb-true p.a a w.0; second = eqb-true p.b b w.1 }
    go false e z later =
        let w = later z in
        record { u = suc w.u; within = omega (arith, w.within); first = w.first; second = w.second }

says_pair : (a b : ℕ) (pairs : List Pair) (u : ℕ) → u < length pairs → (get_or pairs u no_pair).a ≡ a → (get_or pairs u no_pair).b ≡ b → is_pair a b pairs ≡ true
unfolding is_pair
says_pair a b [] u h e q = absurd (omega arith)
says_pair a b (p ∷ pairs) zero h e q = rw (eq-eqb p.a a e, eq-eqb p.b b q)
says_pair a b (p ∷ pairs) (suc u) h e q = rw (says_pair a b pairs u (omega arith) e q) (go (eqb p.a a && eqb p.b b))
  where
    go : (t : Bool) → cond t true true ≡ true
    go true = refl
    go false = refl

module _ (x : Instance) (a b : ℕ) where
  pub is_pair_says : is_pair a b x.pairs ≡ true → IsPair x a b
  is_pair_says q = let w = pair_says a b x.pairs q in record { u = w.u; within = w.within; first = w.first; second = w.second }

  pub says_is_pair : IsPair x a b → is_pair a b x.pairs ≡ true
  says_is_pair w = says_pair a b x.pairs w.u w.within w.first w.second

  -- "A pair has a < b"
  pub pair_rises : (request : List ℕ) → Within request x → IsPair x a b → a < b
  pair_rises request within w =
      let kept = (within_limits request x within).readable.pair w.u w.within in
      omega (arith, kept.rises, w.first, w.second)

-- The entries: one of n places

pub record AtPlace (i : ℕ) (tasks : List ℕ) (n : ℕ) : Type 0 where
  pub place : ℕ
  pub below : place < n
  pub is_task : get_or tasks place 0 ≡ i

pub serves_says : (i : ℕ) (tasks : List ℕ) (n : ℕ) → serves i tasks n ≡ true → AtPlace i tasks n
serves_says i tasks n q =
    let (p, low, e) = some_says (λ p. eqb (get_or tasks p 0) i) n q in
    record { place = p; below = low; is_task = eqb-true (get_or tasks p 0) i e }

pub says_serves : (i : ℕ) (tasks : List ℕ) (n place : ℕ) → place < n → get_or tasks place 0 ≡ i → serves i tasks n ≡ true
says_serves i tasks n place h e = says_some (λ p. eqb (get_or tasks p 0) i) n place h (eq-eqb (get_or tasks place 0) i e)
