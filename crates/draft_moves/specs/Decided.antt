-- What is decided by looking: whether two numbers are equal, whether some job is lifted, whether a pair is out of order. A search through the numbers below m finds
-- one that has the fact, or shows that none has.
use Rattle.std.specs.Prelude.{ℕ, zero, suc, ◌≤◌, ◌<◌, ◌≡◌, refl, Bool, true, false, ◌⊎◌, length, eqb}
use Rattle.std.proofs.Common.{inl, inr, ⊎_elim, eq-or-lt_of_le, arith, eqb-true}
use Rattle.std.proofs.lemmas.Bool.{eqb-false}
use Rattle.cursor.specs.ChoiceLaws.{lt_or_ge}
use Rattle.model.specs.Plan.{Instance, job_at, pair_at}
use Rattle.draft.specs.Draft.{lifted, frame_of}
use Rattle.draft.specs.Kept.{IsLifted, IsPlaced, LinkedBy}
use Rattle.draft.specs.declared.Draft.{Draft}
use Rattle.draft_moves.specs.Exactly.{AllPlaced, OutOfOrder}

-- a fact, or that it is not so
abbrev pub Decided : Type 0 → Type 0
Decided A = A ⊎ (A → ⊥)

pub equal : (a b : ℕ) → Decided (a ≡ b)
equal a b = go (eqb a b) refl
  where
    go : (t : Bool) → eqb a b ≡ t → Decided (a ≡ b)
    go true q = inl (eqb-true a b q)
    go false q = inr (eqb-false a b q)

less : (a b : ℕ) → Decided (a < b)
less a b = ⊎_elim inl (λ le. inr (λ lt. omega (arith, le, lt))) (lt_or_ge a b)

and : {A B : Type 0} → Decided A → Decided B → Decided (A × B)
and (inl a) (inl b) = inl (a, b)
and (inl a) (inr n) = inr (λ p. n p.1)
and (inr n) b = inr (λ p. n p.0)

or : {A B : Type 0} → Decided A → Decided B → Decided (A ⊎ B)
or (inl a) b = inl (inl a)
or (inr n) (inl b) = inl (inr b)
or (inr n) (inr m) = inr (⊎_elim n m)

-- some number below m, or none
search : (P : ℕ → Type 0) (m : ℕ) → ((i : ℕ) → i < m → Decided (P i)) → ((i : ℕ) × (i < m) × P i) ⊎ ((i : ℕ) → i < m → P i → ⊥)
search P zero each = inr (λ i low p. omega (arith, low))
search P (suc m) each = go (each m (omega arith)) (search P m (λ i low. each i (omega (arith, low))))
  where
    go : Decided (P m) → ((i : ℕ) × (i < m) × P i) ⊎ ((i : ℕ) → i < m → P i → ⊥) → ((i : ℕ) × (i < suc m) × P i) ⊎ ((i : ℕ) → i < suc m → P i → ⊥)
    go (inl p) rest = inl (m, omega arith, p)
    go (inr n) (inl (i, low, p)) = inl (i, omega (arith, low), p)
    go (inr n) (inr none) =
        inr (λ i low p. ⊎_elim (λ same. n (subst_place i same p)) (λ lt. none i lt p) (lt_or_same i low))
      where
        lt_or_same : (i : ℕ) → i < suc m → (i ≡ m) ⊎ (i < m)
        lt_or_same i low = let le : i ≤ m = omega arith in eq-or-lt_of_le le

        subst_place : (i : ℕ) → i ≡ m → P i → P m
        subst_place i same p = rw same at p

module _ (x : Instance) (d : Draft) where
  linked : (u y z : ℕ) → Decided (LinkedBy x u y z)
  linked u y z = go (and (less u (length x.pairs)) (and (equal (job_at x y).task (pair_at x u).a)
      (and (equal (job_at x z).task (pair_at x u).b) (equal (job_at x y).number (job_at x z).number))))
    where
      go : Decided ((u < length x.pairs)
          × (((job_at x y).task ≡ (pair_at x u).a) × (((job_at x z).task ≡ (pair_at x u).b) × ((job_at x y).number ≡ (job_at x z).number))))
          → Decided (LinkedBy x u y z)
      go (inl (k, (a, (b, n)))) = inl (record { pair_known = k; first = a; second = b; same_number = n })
      go (inr none) = inr (λ l. none (l.pair_known, (l.first, (l.second, l.same_number))))

  up_or_placed : (y : ℕ) → y < length x.jobs → IsLifted x d y ⊎ IsPlaced x d y
  up_or_placed y known =
      ⊎_elim (λ e. inl (record { known = known; up = e })) (λ n. inr (record { known = known; down = n })) (equal (frame_of x d y) lifted)

  not_both : (y : ℕ) → IsLifted x d y → IsPlaced x d y → ⊥
  not_both y u p = p.down u.up

  placed : (z : ℕ) → z < length x.jobs → Decided (IsPlaced x d z)
  placed z known = ⊎_elim (λ u. inr (λ p. not_both z u p)) inl (up_or_placed z known)

  -- some job is lifted, or none
  pub some_up : ((y : ℕ) × IsLifted x d y) ⊎ AllPlaced x d
  some_up =
      ⊎_elim (λ w. inl (w.0, w.2)) (λ none. inr (λ y low. ⊎_elim (λ u. absurd (none y low u)) (λ p. p) (up_or_placed y low)))
      (search (IsLifted x d) (length x.jobs) (λ y low. ⊎_elim inl (λ p. inr (λ u. not_both y u p)) (up_or_placed y low)))

  module _ (y k : ℕ) where
    abbrev Against : ℕ → ℕ → Type 0
    Against u z = IsPlaced x d z × ((LinkedBy x u y z × (frame_of x d z < k)) ⊎ (LinkedBy x u z y × (k < frame_of x d z)))

    against : (u z : ℕ) → z < length x.jobs → Decided (Against u z)
    against u z known = and (placed z known) (or (and (linked u y z) (less (frame_of x d z) k)) (and (linked u z y) (less k (frame_of x d z))))

    abbrev AgainstBy : ℕ → Type 0
    AgainstBy u = (z : ℕ) × (z < length x.jobs) × Against u z

    against_by : (u : ℕ) → Decided (AgainstBy u)
    against_by u = ⊎_elim inl (λ none. inr (λ w. none w.0 w.1 w.2)) (search (Against u) (length x.jobs) (λ z low. against u z low))

    pub out_or_not : Decided (OutOfOrder x d y k)
    out_or_not =
        ⊎_elim (λ (w : (u : ℕ) × (u < length x.pairs) × AgainstBy u). inl (w.0, w.2.0, w.2.2.0, w.2.2.1))
        (λ none. inr (λ (out : OutOfOrder x d y k). none out.0 (pair_of out) (out.1, out.2.known, (out.2, out.3))))
        (search AgainstBy (length x.pairs) (λ u low. against_by u))
      where
        pair_of : (out : OutOfOrder x d y k) → out.0 < length x.pairs
        pair_of (u, z, p, side) = ⊎_elim (λ l. l.0.pair_known) (λ l. l.0.pair_known) side
