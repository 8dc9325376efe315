-- Laws of the test of arcs: one pass over the jobs adds up what each place asks for, one over the places compares. Assumes nothing.
use mathlib.Core.Path.{◌≡◌, refl, sym, ap, ◌∙◌}
use mathlib.Core.Bool.{Bool, true, false, cond}
use mathlib.Core.List.{List}
use Prim.Native.Nat.{ℕ, zero, suc, ◌+◌, ◌*◌, ◌/◌, ◌%◌, ◌≤◌, ◌<◌, max}
use native.Mathlib.Nat.{zero-add, mul-add, add-mul, div-add-mod', mul-le-mul_right}
use native.Mathlib.Numerals.{add-one}
use native.Mathlib.Omega.{arith}
use lib.ListN.{length, get_or, set, replicate, take, length-set, length-replicate}
use lib.Seq.{get_or-set_same, get_or-set_other, get_or-take}
use lib.Dec.{ltb, eqb}
use borrow.Author.Tests.{ltb-true, lt-ltb, eq-eqb, ne_eqb, eqb-true, eqb-false}
use Rattle.searcher.specs.Arrays.{rows_in, jobs_in, problem_in}
use Rattle.searcher.specs.declared.Problem.{Problem as InArrays}
use Rattle.exact.specs.Sweep.{sum}
use Rattle.exact.specs.Intervals.{sum_le, sum_add, sum_snoc}
use Rattle.exact.specs.Arcs.{step_of, room_of, arc_need}
use Rattle.exact.specs.ArcsLaws.{none_arc}
use Rattle.exact.specs.None.{None}
use Rattle.prune.specs.Arrays.{Packed, domains}
use Rattle.prune.specs.Arcs.{step_by, last_by, weight_by, Light, Needed, Over, SomeOver}

-- a step of each kind
module _ (f k c : ℕ) where
  pub step_none : k ≡ 0 → c ≡ step_of f k c
  unfolding step_of
  step_none e = rw (eq-eqb k 0 e)

  pub step_even : (k ≡ 0 → ⊥) → (k + 1) * c % f ≡ 0 → k * c ≡ step_of f k c
  unfolding step_of
  step_even n e = rw (ne_eqb k 0 n, eq-eqb ((k + 1) * c % f) 0 e)

  pub step_down : (k ≡ 0 → ⊥) → ((k + 1) * c % f ≡ 0 → ⊥) → (k + 1) * c / f * f ≡ step_of f k c
  unfolding step_of
  step_down n e = rw (ne_eqb k 0 n, ne_eqb ((k + 1) * c % f) 0 e)

  step_le : step_of f k c ≤ (k + 1) * c
  unfolding step_of
  step_le = go (eqb k 0) (eqb ((k + 1) * c % f) 0)
    where
      go : (a b : Bool) → cond a c (cond b (k * c) ((k + 1) * c / f * f)) ≤ (k + 1) * c
      go true b = omega (arith, add-mul k 1 c)
      go false true = omega (arith, add-mul k 1 c)
      go false false = omega (arith, div-add-mod' ((k + 1) * c) f)

  pub step_small : k ≤ 4 → c ≤ 65535 → step_of f k c ≤ 327675
  step_small h l =
      let t : (k + 1) * c ≤ 5 * c = mul-le-mul_right c (bound k h) in
      omega (arith, step_le)
    where
      bound : (k : ℕ) → k ≤ 4 → k + 1 ≤ 5
      bound k h = omega arith

-- what a row holds
pub room_is : (f k : ℕ) → max k 1 * f ≡ room_of f k
unfolding room_of
room_is f zero = omega arith
room_is f (suc k) =
    let e : max (suc k) 1 ≡ suc k = omega arith in
    let ne : suc k ≡ 0 → ⊥ = λ z. absurd (omega arith) in
    rw (e, ne_eqb (suc k) 0 ne)

-- the pass over the jobs
zeros_at : (k e : ℕ) → get_or {A = ℕ} (replicate k 0) e 0 ≡ 0
zeros_at zero e = refl
zeros_at (suc k) zero = refl
zeros_at (suc k) (suc e) = zeros_at k e

pub needed_none : (last c : ℕ → ℕ) → Needed last c 0 (replicate 256 0)
unfolding sum
needed_none last c = record {
  size = length-replicate {A = ℕ} 256 0;
  each = λ e h. zeros_at 256 e;
  small = λ e. omega (arith, zeros_at 256 e);
}

module _ {last c : ℕ → ℕ} {i : ℕ} {out : List ℕ} (d : Needed last c i out) where
  one_more : (e : ℕ) → sum (λ i. cond (eqb (last i) e) (c i) 0) (i + 1) 0 ≡ sum (λ i. cond (eqb (last i) e) (c i) 0) i 0 + cond (eqb (last i) e) (c i) 0
  one_more e = rw (add-one i) (sum_snoc (λ i. cond (eqb (last i) e) (c i) 0) i 0 ∙ rw (zero-add i))

  pub needed_more : {at v : ℕ} → at ≡ last i → v ≡ c i → at < 256 → v ≤ 327675 → Needed last c (i + 1) (set out at (get_or out at 0 + v))
  needed_more {at} {v} at_is v_is inside fits = record {
    size = length-set out at (get_or out at 0 + v) ∙ d.size;
    each = λ e h. each e h (eqb at e) refl;
    small = λ e. small e (eqb at e) refl;
  }
    where
      here : get_or (set out at (get_or out at 0 + v)) at 0 ≡ get_or out at 0 + v
      here = get_or-set_same out at (get_or out at 0 + v) 0 (omega (arith, d.size))

      there : (e : ℕ) → (at ≡ e → ⊥) → get_or (set out at (get_or out at 0 + v)) e 0 ≡ get_or out e 0
      there e ne = get_or-set_other out at e (get_or out at 0 + v) 0 (λ w. ne (sym w))

      at_e : (e : ℕ) → at ≡ e → get_or (set out at (get_or out at 0 + v)) e 0 ≡ get_or out e 0 + v
      at_e e z = sym (ap (λ (k : ℕ). get_or (set out at (get_or out at 0 + v)) k 0) z) ∙ here ∙ ap (λ (k : ℕ). get_or out k 0 + v) z

      share : (e : ℕ) → cond (eqb (last i) e) (c i) 0 ≡ cond (eqb at e) v 0
      share e = rw (at_is, v_is)

      each : (e : ℕ) → e < 256 → (b : Bool) → eqb at e ≡ b → get_or (set out at (get_or out at 0 + v)) e 0 ≡ sum (λ i. cond (eqb (last i) e) (c i) 0) (i + 1) 0
      each e h true q =
          let w : cond (eqb (last i) e) (c i) 0 ≡ v = share e ∙ rw q in
          omega (arith, d.each e h, one_more e, at_e e (eqb-true at e q))
      each e h false q =
          let w : cond (eqb (last i) e) (c i) 0 ≡ 0 = share e ∙ rw q in
          omega (arith, d.each e h, one_more e, there e (eqb-false at e q))

      small : (e : ℕ) (b : Bool) → eqb at e ≡ b → get_or (set out at (get_or out at 0 + v)) e 0 ≤ (i + 1) * 327675
      small e true q = omega (arith, d.small e, at_e e (eqb-true at e q))
      small e false q = omega (arith, d.small e, there e (eqb-false at e q))

-- the pass over the places: `need` is no more than what the jobs count that have their last frame before place e, `has` what the places hold
pub record Comparing (last c : ℕ → ℕ) (n rows room e need has : ℕ) : Type 0 where
  pub most : e ≤ rows
  pub asks : need ≤ sum (λ i. cond (ltb (last i) e) (c i) 0) n 0
  pub holds : has ≡ room * e
  pub need_small : need ≤ e * 41942400
  pub has_small : has ≤ e * 4294967295

pub comparing_start : (last c : ℕ → ℕ) (n rows room : ℕ) → Comparing last c n rows room 0 0 0
comparing_start last c n rows room = record { most = omega arith; asks = omega arith; holds = omega arith; need_small = omega arith; has_small = omega arith }

one_place : (p e c : ℕ) → cond (ltb p e) c 0 + cond (eqb p e) c 0 ≤ cond (ltb p (e + 1)) c 0
one_place p e c = go (ltb p e) refl (eqb p e) refl
  where
    go : (a : Bool) → ltb p e ≡ a → (b : Bool) → eqb p e ≡ b → cond a c 0 + cond b c 0 ≤ cond (ltb p (e + 1)) c 0
    go true q true r = absurd (omega (arith, ltb-true p e q, eqb-true p e r))
    go true q false r = rw (lt-ltb p (e + 1) (omega (arith, ltb-true p e q))) (omega arith)
    go false q true r = rw (lt-ltb p (e + 1) (omega (arith, eqb-true p e r))) (omega arith)
    go false q false r = omega arith

module _ {last c : ℕ → ℕ} {n rows room e need has : ℕ} (v : Comparing last c n rows room e need has) (more : e < rows) (few : rows ≤ 256) (jobs : n ≤ 128)
    {out : List ℕ} (d : Needed last c n out) where
  pub need_small : get_or out e 0 ≤ 41942400
  need_small = omega (arith, d.small e)

  pub comparing_more : room ≤ 4294967295 → Comparing last c n rows room (e + 1) (need + get_or out e 0) (has + room)
  comparing_more fits = record {
    most = omega arith;
    asks = omega (
      arith,
      v.asks,
      d.each e (omega arith),
      sum_add (λ i. cond (ltb (last i) e) (c i) 0) (λ i. cond (eqb (last i) e) (c i) 0) n 0,
      sum_le (λ i. cond (ltb (last i) e) (c i) 0 + cond (eqb (last i) e) (c i) 0) (λ i. cond (ltb (last i) (e + 1)) (c i) 0) n 0 (λ i l. one_place (last i) e (c i)),
    );
    holds = omega (arith, v.holds, mul-add room e 1);
    need_small = omega (arith, v.need_small, need_small);
    has_small = omega (arith, v.has_small);
  }

pub over_here : {last c : ℕ → ℕ} {n rows room e need has : ℕ} → Comparing last c n rows room e need has → has < need → Over last c n room
over_here {e = e} v h = record { width = e; more = omega (arith, v.asks, v.holds) }

-- the weights
pub light_more : {weights : List ℕ} {j : ℕ} (v : ℕ) → length weights ≡ 128 → j < 128 → Light weights j → v ≤ 327675 → Light (set weights j v) (j + 1)
light_more {weights} {j} v size h w le = record { each = λ i l. go i l (eqb i j) refl }
  where
    go : (i : ℕ) → i < j + 1 → (b : Bool) → eqb i j ≡ b → get_or (set weights j v) i 0 ≤ 327675
    go i l true q = let z : i ≡ j = eqb-true i j q in rw z (omega (arith, get_or-set_same weights j v 0 (omega arith)))
    go i l false q = let z : i ≡ j → ⊥ = eqb-false i j q in omega (arith, get_or-set_other weights j i v 0 z, w.each i (omega arith))

-- what is over is none
pub none_of_over : {g : InArrays} (v : Packed g) {low high : List ℕ} (weights : List ℕ) (k : ℕ) {room : ℕ} → 0 < g.f
    → length weights ≡ jobs_in g → ((i : ℕ) → i < jobs_in g → get_or weights i 0 ≡ step_by g.f k g.cost i)
    → room ≡ room_of g.f k
    → SomeOver (rows_in g) low high (weight_by weights) (length weights) room → None (problem_in g) (domains low high)
unfolding arc_need
none_of_over {g} v {low} {high} weights k {room} some n w r o =
    none_arc v.proper some k o.start o.inside (domains low high) o.over.width (rw (← r) (rw v.jobs (omega (arith, rw n at o.over.more, asks))))
  where
    asks : sum (λ i. cond (ltb (last_by (rows_in g) o.start low high i) o.over.width) (weight_by weights i) 0) (jobs_in g) 0
        ≤ sum (λ i. cond (ltb (last_by (rows_in g) o.start low high i) o.over.width) (step_of g.f k (get_or (take (jobs_in g) g.cost) i 0)) 0) (jobs_in g) 0
    asks = sum_le (λ i. cond (ltb (last_by (rows_in g) o.start low high i) o.over.width) (weight_by weights i) 0)
        (λ i. cond (ltb (last_by (rows_in g) o.start low high i) o.over.width) (step_of g.f k (get_or (take (jobs_in g) g.cost) i 0)) 0) (jobs_in g) 0
        (λ i l. let h : i < jobs_in g = omega arith in rw (get_or-take (jobs_in g) g.cost i 0 h, w i h) (omega arith))

-- products that fit
pub product_small : (a c : ℕ) → a ≤ 5 → c ≤ 65535 → a * c ≤ 327675
product_small a c h l = let t : a * c ≤ 5 * c = mul-le-mul_right c h in omega arith

pub part_small : (m f : ℕ) → m ≤ 327675 → m / f * f ≤ 327675
part_small m f h = omega (arith, div-add-mod' m f)
