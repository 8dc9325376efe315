-- The jobs of an arc take no more together than its rows hold, by cost and by steps: so an arc that must hold more tells that there is no placing.
-- Assumes nothing.
use Rattle.std.specs.Prelude.{◌≡◌, Bool, List, length, get_or, drop, eqb}
use Rattle.std.proofs.Math.Path.{refl, sym, ap}
use Rattle.std.proofs.Common.{◌∙◌, mul-le-mul_right, mul_comm, mod-lt, mod-eq_of_lt, add-one}
use Rattle.std.proofs.Math.Bool.{true, false, cond}
use Prim.Native.Nat.{ℕ, zero, suc, ◌+◌, ◌-◌, ◌*◌, ◌/◌, ◌%◌, ◌≤◌, ◌<◌, min}
use Rattle.std.proofs.Math.Nat.{mul-add, add-mul, div-add-mod', mod-add-mod, add-mod_right}
use native.Mathlib.Omega.{arith}
use Rattle.std.proofs.Math.Seq.{drop-cons}
use Rattle.std.proofs.Math.Dec.{ltb}
use borrow.Author.Tests.{ltb-true, ltb-false, lt-ltb, eq-eqb, eqb-true, eqb-false}
use Rattle.search.specs.Placing.{Problem, row_sum, Proper}
use Rattle.search.specs.Plans.{IsPlacing}
use Rattle.exact.specs.Sweep.{sum}
use Rattle.exact.specs.Intervals.{sum_le, sum_add, sum_zero}
use Rattle.exact.specs.Domains.{Domains, low_of, high_of, Held}
use Rattle.exact.specs.None.{None}
use Rattle.exact.specs.Arcs.{step_of, room_of, last_in, arc_need}

module _ (f k : ℕ) (g : ℕ → ℕ) where
  abbrev step : ℕ → ℕ
  step c = cond (eqb ((k + 1) * c % f) 0) (k * c) ((k + 1) * c / f * f)

  abbrev whole : ℕ → ℕ
  whole x = (k + 1) * g x / f

  abbrev left : ℕ → ℕ
  left x = (k + 1) * g x % f

  one_step : (c : ℕ) → step c ≤ (k + 1) * c / f * f
  one_step c = go (eqb ((k + 1) * c % f) 0) refl
    where
      go : (b : Bool) → eqb ((k + 1) * c % f) 0 ≡ b → cond b (k * c) ((k + 1) * c / f * f) ≤ (k + 1) * c / f * f
      go false e = omega arith
      go true e = omega (arith, eqb-true ((k + 1) * c % f) 0 e, div-add-mod' ((k + 1) * c) f, add-mul k 1 c)

  steps_below : (j a : ℕ) → sum (λ x. step (g x)) j a ≤ sum whole j a * f
  unfolding sum
  steps_below zero a = omega arith
  steps_below (suc j) a = omega (arith, one_step (g a), steps_below j (a + 1), add-mul (whole a) (sum whole j (a + 1)) f)

  all_counted : (j a : ℕ) → sum whole j a * f + sum left j a ≡ (k + 1) * sum g j a
  unfolding sum
  all_counted zero a = omega arith
  all_counted (suc j) a =
      omega (arith, all_counted j (a + 1), div-add-mod' ((k + 1) * g a) f, add-mul (whole a) (sum whole j (a + 1)) f, mul-add (k + 1) (g a) (sum g j (a + 1)))

  none_left : (j a : ℕ) → sum left j a ≡ 0 → sum (λ x. step (g x)) j a ≡ k * sum g j a
  unfolding sum
  none_left zero a e = omega arith
  none_left (suc j) a e =
      let z : left a ≡ 0 = omega arith in
      let h : step (g a) ≡ k * g a = rw (eq-eqb (left a) 0 z) in
      omega (arith, none_left j (a + 1) (omega arith), mul-add k (g a) (sum g j (a + 1)))

  steps_within : 0 < f → (j a : ℕ) → sum g j a ≤ f → sum (λ x. step (g x)) j a ≤ k * f
  steps_within some j a h = go (eqb (sum left j a) 0) refl
    where
      times : (a b c : ℕ) → a ≤ b → c * a ≤ c * b
      times a b c l = rw (mul_comm c a, mul_comm c b) (mul-le-mul_right c l)

      below : (b : Bool) → ltb (sum whole j a) (k + 1) ≡ b → (eqb (sum left j a) 0 ≡ false) → sum whole j a ≤ k
      below true e q = omega (arith, ltb-true (sum whole j a) (k + 1) e)
      below false e q =
          let l : k + 1 ≤ sum whole j a = ltb-false (sum whole j a) (k + 1) e in
          let ne : sum left j a ≡ 0 → ⊥ = eqb-false (sum left j a) 0 q in
          absurd (omega (arith, mul-le-mul_right f l, all_counted j a, times (sum g j a) f (k + 1) h))

      go : (b : Bool) → eqb (sum left j a) 0 ≡ b → sum (λ x. step (g x)) j a ≤ k * f
      go true e = omega (arith, none_left j a (eqb-true (sum left j a) 0 e), times (sum g j a) f k h)
      go false e = omega (arith, steps_below j a, mul-le-mul_right f (below (ltb (sum whole j a) (k + 1)) refl e))

-- costs that a row holds
pub steps_fit : (f k : ℕ) → 0 < f → (g : ℕ → ℕ) (j a : ℕ) → sum g j a ≤ f → sum (λ x. step_of f k (g x)) j a ≤ room_of f k
unfolding step_of room_of
steps_fit f k some g j a h = go (eqb k 0)
  where
    go : (b : Bool) → sum (λ x. cond b (g x) (cond (eqb ((k + 1) * g x % f) 0) (k * g x) ((k + 1) * g x / f * f))) j a ≤ cond b f (k * f)
    go true = h
    go false = steps_within f k g some j a h

-- where a frame stands, counted from row s on
unfoldable pub place_in : ℕ → ℕ → ℕ → ℕ
place_in rows s k = (k + (rows - s)) % rows

not_round : (from span j rows w : ℕ) → j ≤ span → from + span < rows → min (from + span) (rows - 1) < w → from + j < w
not_round from span j rows w a b c = omega arith

round : (from span rows w p : ℕ) → rows ≤ from + span → min (from + span) (rows - 1) < w → p < rows → p < w
round from span rows w p a b c = omega arith

module _ (rows s : ℕ) (some : 0 < rows) where
  place_from_lem : (l j : ℕ) → (l + (rows - s)) % rows + j < rows → (l + j + (rows - s)) % rows ≡ (l + (rows - s)) % rows + j
  place_from_lem l j lt =
      let z : l + j + (rows - s) ≡ l + (rows - s) + j = omega arith in
      ap (λ (y : ℕ). y % rows) z ∙ sym (mod-add-mod (l + (rows - s)) rows j) ∙ mod-eq_of_lt lt

  stands_before : (l h k w : ℕ) → l ≤ k → k < h → last_in rows s l h < w → place_in rows s k < w
  unfolding place_in last_in
  stands_before l h k w a b e =
      let z : l + (k - l) ≡ k = omega arith in
      let le : k - l ≤ h - 1 - l = omega arith in
      go z ((l + (rows - s)) % rows) refl (h - 1 - l) le e
    where
      go : l + (k - l) ≡ k → (from : ℕ) → (l + (rows - s)) % rows ≡ from → (span : ℕ) → k - l ≤ span → min (from + span) (rows - 1) < w → (k + (rows - s)) % rows < w
      go z from q span le e = by (ltb (from + span) rows) refl
        where
          by : (c : Bool) → ltb (from + span) rows ≡ c → (k + (rows - s)) % rows < w
          by true t =
              let lt : from + span < rows = ltb-true (from + span) rows t in
              let near : (l + (rows - s)) % rows + (k - l) < rows = rw q (within from span (k - l) le lt) in
              let at : (k + (rows - s)) % rows ≡ from + (k - l) = rw (z, q) at (place_from_lem l (k - l) near) in
              rw at (not_round from span (k - l) rows w le lt e)
            where
              within : (from span j : ℕ) → j ≤ span → from + span < rows → from + j < rows
              within from span j a b = omega arith
          by false t = round from span rows w ((k + (rows - s)) % rows) (ltb-false (from + span) rows t) e (mod-lt (k + (rows - s)) some)

  row_of : s ≤ rows → (k q : ℕ) → place_in rows s k ≡ q → k % rows ≡ (q + s) % rows
  unfolding place_in
  row_of le k q e =
      let z : k + (rows - s) + s ≡ k + rows = omega arith in
      let a : ((k + (rows - s)) % rows + s) % rows ≡ k % rows = mod-add-mod (k + (rows - s)) rows s ∙ ap (λ (y : ℕ). y % rows) z ∙ add-mod_right k rows in
      sym (rw e at a)

-- sums of what stands at places
one_place : (p w c : ℕ) → cond (ltb p (suc w)) c 0 ≤ cond (ltb p w) c 0 + cond (eqb p w) c 0
one_place p w c = go (ltb p (suc w)) refl (ltb p w) refl
  where
    go : (a : Bool) → ltb p (suc w) ≡ a → (b : Bool) → ltb p w ≡ b → cond a c 0 ≤ cond b c 0 + cond (eqb p w) c 0
    go false e b h = omega arith
    go true e true h = omega arith
    go true e false h = rw (eq-eqb p w (omega (arith, ltb-true p (suc w) e, ltb-false p w h))) (omega arith)

no_place : (p c : ℕ) → cond (ltb p 0) c 0 ≡ 0
no_place p c = go (ltb p 0) refl
  where
    go : (b : Bool) → ltb p 0 ≡ b → cond b c 0 ≡ 0
    go false e = refl
    go true e = absurd (omega (arith, ltb-true p 0 e))

cond_le_cond : (a b : Bool) (c : ℕ) → (a ≡ true → b ≡ true) → cond a c 0 ≤ cond b c 0
cond_le_cond false b c h = omega arith
cond_le_cond true b c h = rw (h refl) (omega arith)

step_of_cond : (u : ℕ → ℕ) (b : Bool) (c : ℕ) → cond b (u c) 0 ≤ u (cond b c 0)
step_of_cond u true c = omega arith
step_of_cond u false c = omega arith

module _ {x : Problem} (g : Proper x) (some : 0 < x.f) (k s : ℕ) (inside : s ≤ x.rows) where
  abbrev n : ℕ
  n = length x.cost

  module _ (ks : List ℕ) (v : IsPlacing x ks) where
    abbrev cost : ℕ → ℕ
    cost i = get_or x.cost i 0

    abbrev place : ℕ → ℕ
    place i = place_in x.rows s (get_or ks i 0)

    in_row : (p j a : ℕ) → a + j ≡ n → sum (λ i. cond (eqb (get_or ks i 0 % x.rows) p) (cost i) 0) j a ≤ row_sum x.rows (drop a x.cost) (drop a ks) p
    unfolding sum row_sum
    in_row p zero a e = omega arith
    in_row p (suc j) a e =
        rw (drop-cons x.cost a 0 (omega arith), drop-cons ks a 0 (omega (arith, v.all)))
        (rw (add-one a) (omega (arith, rw (add-one a) at (in_row p j (a + 1) (omega arith)))))

    -- one place holds no more than a row
    at_place : (q : ℕ) → sum (λ i. cond (eqb (place i) q) (step_of x.f k (cost i)) 0) n 0 ≤ room_of x.f k
    at_place q =
        let p : ℕ = (q + s) % x.rows in
        let in_p : ℕ → Bool = λ i. eqb (get_or ks i 0 % x.rows) p in
        omega (
          arith,
          sum_le (λ i. cond (eqb (place i) q) (step_of x.f k (cost i)) 0) (λ i. step_of x.f k (cond (in_p i) (cost i) 0)) n 0
              (λ i l. le_both (cond_le_cond (eqb (place i) q) (in_p i) (step_of x.f k (cost i))
              (λ e. eq-eqb (get_or ks i 0 % x.rows) p (row_of x.rows s g.some_row inside (get_or ks i 0) q (eqb-true (place i) q e))))
              (step_of_cond (step_of x.f k) (in_p i) (cost i))),
          steps_fit x.f k some (λ i. cond (in_p i) (cost i) 0) n 0 (omega (arith, in_row p n 0 (omega arith), v.room p (mod-lt (q + s) g.some_row))),
        )
      where
        le_both : {a b c : ℕ} → a ≤ b → b ≤ c → a ≤ c
        le_both h l = omega arith

    places_le : (w : ℕ) → sum (λ i. cond (ltb (place i) w) (step_of x.f k (cost i)) 0) n 0 ≤ room_of x.f k * w
    places_le zero = omega (arith, sum_zero (λ i. cond (ltb (place i) 0) (step_of x.f k (cost i)) 0) n 0 (λ i. no_place (place i) (step_of x.f k (cost i))))
    places_le (suc w) =
        omega (
          arith,
          sum_le (λ i. cond (ltb (place i) (suc w)) (step_of x.f k (cost i)) 0)
              (λ i. cond (ltb (place i) w) (step_of x.f k (cost i)) 0 + cond (eqb (place i) w) (step_of x.f k (cost i)) 0) n 0
              (λ i l. one_place (place i) w (step_of x.f k (cost i))),
          sum_add (λ i. cond (ltb (place i) w) (step_of x.f k (cost i)) 0) (λ i. cond (eqb (place i) w) (step_of x.f k (cost i)) 0) n 0,
          places_le w,
          at_place w,
        )

    arc_le : (d : Domains) → Held n d ks → (w : ℕ) → arc_need x d k s w ≤ room_of x.f k * w
    unfolding arc_need
    arc_le d held w =
        omega (
          arith,
          sum_le (λ i. cond (ltb (last_in x.rows s (low_of d i) (high_of d i)) w) (step_of x.f k (cost i)) 0)
              (λ i. cond (ltb (place i) w) (step_of x.f k (cost i)) 0) n 0
              (λ i l. cond_le_cond (ltb (last_in x.rows s (low_of d i) (high_of d i)) w) (ltb (place i) w) (step_of x.f k (cost i))
              (λ e. lt-ltb (place i) w (stands_before x.rows s g.some_row (low_of d i) (high_of d i) (get_or ks i 0) w
              (held i (omega arith)).0 (held i (omega arith)).1 (ltb-true (last_in x.rows s (low_of d i) (high_of d i)) w e)))),
          places_le w,
        )

  -- an arc that must hold too much
  pub none_arc : (d : Domains) (w : ℕ) → room_of x.f k * w < arc_need x d k s w → None x d
  none_arc d w h = record { never = λ ks v held. omega (arith, arc_le ks v d held w) }
