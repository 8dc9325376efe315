-- Laws of the test of lateness: one pass over the jobs adds up what each row's end asks for, one over the rows compares. Assumes nothing.
use mathlib.Core.Path.{◌≡◌, refl, sym, ap, ◌∙◌}
use mathlib.Core.Bool.{Bool, true, false, cond, and-false}
use mathlib.Core.List.{List}
use Prim.Native.Nat.{ℕ, zero, suc, ◌+◌, ◌-◌, ◌*◌, ◌≤◌, ◌<◌}
use native.Mathlib.Nat.{zero-add, mul-add}
use native.Mathlib.Numerals.{add-one}
use native.Mathlib.Omega.{arith}
use lib.ListN.{length, get_or, set, replicate, length-set, length-replicate}
use lib.Seq.{get_or-set_same, get_or-set_other, set-set, set-get_or}
use lib.Dec.{leb, eqb}
use borrow.Author.Tests.{leb-true, leb-false, eq-eqb, ne_eqb, eqb-true, eqb-false}
use Rattle.exact.specs.Sweep.{Rules, sum, waiting, From}
use Rattle.exact.specs.Intervals.{sum_snoc, due_at, waiting_more}
use Rattle.exact.specs.SweepLaws.{row_late}
use Rattle.searcher.specs.declared.Problem.{Problem as InArrays}
use Rattle.sweep.specs.declared.Swept.{Swept}
use Rattle.sweep.specs.Arrays.{rules_in, due_share, Due, added_at, taken_at}

-- the rules' ends and costs
module _ (g : InArrays) (s : Swept) (i : ℕ) where
  pub end_of : (rules_in g s).end i ≡ get_or s.end i 0
  unfolding rules_in
  end_of = refl

  pub cost_of_lem : (rules_in g s).cost i ≡ get_or g.cost i 0
  unfolding rules_in
  cost_of_lem = refl

  pub sided_of : (rules_in g s).sided i ≡ true
  unfolding rules_in
  sided_of = refl

zeros_at : (k e : ℕ) → get_or {A = ℕ} (replicate k 0) e 0 ≡ 0
zeros_at zero e = refl
zeros_at (suc k) zero = refl
zeros_at (suc k) (suc e) = zeros_at k e

pub no_flag : (k x : ℕ) → get_or (replicate k false) x false ≡ false
no_flag zero x = refl
no_flag (suc k) zero = refl
no_flag (suc k) (suc x) = no_flag k x

pub due_none : (u : Rules) (ps : List Bool) → Due u ps 0 (replicate 257 0)
unfolding sum
due_none u ps = record {
  size = length-replicate {A = ℕ} 257 0;
  each = λ e h. zeros_at 257 e;
  small = λ e. omega (arith, zeros_at 257 e);
}

module _ {u : Rules} {ps : List Bool} {i : ℕ} {due : List ℕ} (d : Due u ps i due) where
  one_more : (e : ℕ) → sum (due_share u ps e) (i + 1) 0 ≡ sum (due_share u ps e) i 0 + due_share u ps e i
  one_more e = rw (add-one i) (sum_snoc (due_share u ps e) i 0 ∙ rw (zero-add i))

  -- a job that has none
  module _ (f : get_or ps i false ≡ false) (sided : u.sided i ≡ true) {end c : ℕ} (end_is : end ≡ u.end i) (c_is : c ≡ u.cost i) (fits : c ≤ 65535) where
    share : (e : ℕ) → due_share u ps e i ≡ cond (eqb end e) c 0
    share e = rw (sided, f, end_is, c_is)

    pub due_more : {due' : List ℕ} → due' ≡ added_at due end c → Due u ps (i + 1) due'
    due_more {due'} is = go (leb end 256) refl
      where
        go : (b : Bool) → leb end 256 ≡ b → Due u ps (i + 1) due'
        go false q =
            let t : 256 < end = leb-false end 256 q in
            let same : due' ≡ due = is ∙ rw q in
            rw same (record {
              size = d.size;
              each = λ e h. let z : eqb end e ≡ false = ne_eqb end e (λ w. omega arith) in
                  let w : due_share u ps e i ≡ 0 = share e ∙ rw z in omega (arith, d.each e h, one_more e);
              small = λ e. omega (arith, d.small e);
            })
        go true q =
            let t : end ≤ 256 = leb-true end 256 q in
            let same : due' ≡ set due end (get_or due end 0 + c) = is ∙ rw q in
            rw same (record {
              size = length-set due end (get_or due end 0 + c) ∙ d.size;
              each = λ e h. each t e h (eqb end e) refl;
              small = λ e. small t e (eqb end e) refl;
            })
          where
            here : end ≤ 256 → get_or (set due end (get_or due end 0 + c)) end 0 ≡ get_or due end 0 + c
            here t = get_or-set_same due end (get_or due end 0 + c) 0 (omega (arith, d.size))

            there : (e : ℕ) → (end ≡ e → ⊥) → get_or (set due end (get_or due end 0 + c)) e 0 ≡ get_or due e 0
            there e ne = get_or-set_other due end e (get_or due end 0 + c) 0 (λ w. ne (sym w))

            each : end ≤ 256 → (e : ℕ) → e ≤ 256 → (b : Bool) → eqb end e ≡ b → get_or (set due end (get_or due end 0 + c)) e 0 ≡ sum (due_share u ps e) (i + 1) 0
            each t e h true w =
                let z : end ≡ e = eqb-true end e w in
                let v : due_share u ps e i ≡ c = share e ∙ rw w in
                let a : get_or (set due end (get_or due end 0 + c)) e 0 ≡ get_or due e 0 + c = sym
                (ap (λ (k : ℕ). get_or (set due end (get_or due end 0 + c)) k 0) z) ∙ here t ∙ ap (λ (k : ℕ). get_or due k 0 + c) z in
                omega (arith, d.each e h, one_more e)
            each t e h false w =
                let v : due_share u ps e i ≡ 0 = share e ∙ rw w in
                omega (arith, d.each e h, one_more e, there e (eqb-false end e w))

            small : end ≤ 256 → (e : ℕ) (b : Bool) → eqb end e ≡ b → get_or (set due end (get_or due end 0 + c)) e 0 ≤ (i + 1) * 65535
            small t e true w =
                let z : end ≡ e = eqb-true end e w in
                let a : get_or (set due end (get_or due end 0 + c)) e 0 ≡ get_or due e 0 + c = sym
                (ap (λ (k : ℕ). get_or (set due end (get_or due end 0 + c)) k 0) z) ∙ here t ∙ ap (λ (k : ℕ). get_or due k 0 + c) z in
                omega (arith, d.small e)
            small t e false w = omega (arith, d.small e, there e (eqb-false end e w))

-- sums that differ in one term
sum_off : (g h : ℕ → ℕ) (i : ℕ) → ((x : ℕ) → (x ≡ i → ⊥) → g x ≡ h x) → (j a : ℕ) → i < a → sum g j a ≡ sum h j a
unfolding sum
sum_off g h i same zero a l = refl
sum_off g h i same (suc j) a l = rw (same a (λ e. omega arith), sum_off g h i same j (a + 1) (omega arith))

sum_one : (g h : ℕ → ℕ) (i : ℕ) → ((x : ℕ) → (x ≡ i → ⊥) → g x ≡ h x) → (j a : ℕ) → a ≤ i → i < a + j → sum g j a + h i ≡ sum h j a + g i
unfolding sum
sum_one g h i same zero a l m = absurd (omega arith)
sum_one g h i same (suc j) a l m = go (eqb a i) refl (sum_one g h i same j (a + 1))
  where
    go : (b : Bool) → eqb a i ≡ b → (a + 1 ≤ i → i < a + 1 + j → sum g j (a + 1) + h i ≡ sum h j (a + 1) + g i)
        → g a + sum g j (a + 1) + h i ≡ h a + sum h j (a + 1) + g i
    go true q ih =
        let w : a ≡ i = eqb-true a i q in
        let y : g a ≡ g i = ap g w in
        let z : h a ≡ h i = ap h w in
        omega (arith, sum_off g h i same j (a + 1) (omega arith))
    go false q ih = let w : a ≡ i → ⊥ = eqb-false a i q in omega (arith, same a w, ih (omega arith) (omega arith))

-- job i gets a row: its time is taken off
module _ {u : Rules} {ps : List Bool} {due : List ℕ} (d : Due u ps u.n due) {i : ℕ} (job : i < u.n) (size : i < length ps) (unset : get_or ps i false ≡ false)
    (sided : u.sided i ≡ true) {end c : ℕ} (end_is : end ≡ u.end i) (c_is : c ≡ u.cost i) where
  mine : (e : ℕ) → due_share u ps e i ≡ cond (eqb end e) c 0
  mine e = rw (sided, unset, end_is, c_is)

  gone : (e : ℕ) → due_share u (set ps i true) e i ≡ 0
  gone e = rw (get_or-set_same ps i true false size, and-false (u.sided i))

  others : (e x : ℕ) → (x ≡ i → ⊥) → due_share u (set ps i true) e x ≡ due_share u ps e x
  others e x ne = rw (get_or-set_other ps i x true false ne)

  less : (e : ℕ) → sum (due_share u (set ps i true) e) u.n 0 + cond (eqb end e) c 0 ≡ sum (due_share u ps e) u.n 0
  less e = omega (arith, mine e, gone e, sum_one (due_share u (set ps i true) e) (due_share u ps e) i (others e) u.n 0 (omega arith) (omega arith))

  pub due_has : end ≤ 256 → c ≤ get_or due end 0
  due_has h =
      let k : eqb end end ≡ true = eq-eqb end end refl in
      let l : sum (due_share u (set ps i true) end) u.n 0 + c ≡ sum (due_share u ps end) u.n 0 = rw k at (less end) in
      omega (arith, d.each end h)

  pub due_taken : Due u (set ps i true) u.n (taken_at due end c)
  due_taken = go (leb end 256) refl
    where
      go : (b : Bool) → leb end 256 ≡ b → Due u (set ps i true) u.n (cond b (set due end (get_or due end 0 - c)) due)
      go false q =
          let t : 256 < end = leb-false end 256 q in
          record {
            size = d.size;
            each = λ e h. let z : eqb end e ≡ false = ne_eqb end e (λ w. omega arith) in
                let l : sum (due_share u (set ps i true) e) u.n 0 + 0 ≡ sum (due_share u ps e) u.n 0 = rw z at (less e) in
                omega (arith, d.each e h);
            small = d.small;
          }
      go true q =
          let t : end ≤ 256 = leb-true end 256 q in
          record {
            size = length-set due end (get_or due end 0 - c) ∙ d.size;
            each = λ e h. each t e h (eqb end e) refl;
            small = λ e. small t e (eqb end e) refl;
          }
        where
          here : end ≤ 256 → get_or (set due end (get_or due end 0 - c)) end 0 ≡ get_or due end 0 - c
          here t = get_or-set_same due end (get_or due end 0 - c) 0 (omega (arith, d.size))

          there : (e : ℕ) → (end ≡ e → ⊥) → get_or (set due end (get_or due end 0 - c)) e 0 ≡ get_or due e 0
          there e ne = get_or-set_other due end e (get_or due end 0 - c) 0 (λ w. ne (sym w))

          at_end : end ≤ 256 → (e : ℕ) → end ≡ e → get_or (set due end (get_or due end 0 - c)) e 0 ≡ get_or due e 0 - c
          at_end t e z = sym (ap (λ (k : ℕ). get_or (set due end (get_or due end 0 - c)) k 0) z) ∙ here t ∙ ap (λ (k : ℕ). get_or due k 0 - c) z

          each : end ≤ 256 → (e : ℕ) → e ≤ 256 → (b : Bool) → eqb end e ≡ b
              → get_or (set due end (get_or due end 0 - c)) e 0 ≡ sum (due_share u (set ps i true) e) u.n 0
          each t e h true w =
              let l : sum (due_share u (set ps i true) e) u.n 0 + c ≡ sum (due_share u ps e) u.n 0 = rw w at (less e) in
              omega (arith, d.each e h, at_end t e (eqb-true end e w))
          each t e h false w =
              let l : sum (due_share u (set ps i true) e) u.n 0 + 0 ≡ sum (due_share u ps e) u.n 0 = rw w at (less e) in
              omega (arith, d.each e h, there e (eqb-false end e w))

          small : end ≤ 256 → (e : ℕ) (b : Bool) → eqb end e ≡ b → get_or (set due end (get_or due end 0 - c)) e 0 ≤ u.n * 65535
          small t e true w = omega (arith, d.small e, at_end t e (eqb-true end e w))
          small t e false w = omega (arith, d.small e, there e (eqb-false end e w))

-- and is added again
pub due_restored : (due : List ℕ) (e c : ℕ) → (e ≤ 256 → c ≤ get_or due e 0) → length due ≡ 257 → added_at (taken_at due e c) e c ≡ due
due_restored due e c has size = go (leb e 256) refl
  where
    back : (a : ℕ) → c ≤ a → a - c + c ≡ a
    back a h = omega arith

    go : (b : Bool) → leb e 256 ≡ b
        → cond b (set (cond b (set due e (get_or due e 0 - c)) due) e (get_or (cond b (set due e (get_or due e 0 - c)) due) e 0 + c)) (cond b (set due e (get_or due e 0 - c)) due) ≡ due
    go false q = refl
    go true q =
        let t : e ≤ 256 = leb-true e 256 q in
        let k : get_or (set due e (get_or due e 0 - c)) e 0 + c ≡ get_or due e 0 =
        ap (λ (j : ℕ). j + c) (get_or-set_same due e (get_or due e 0 - c) 0 (omega arith)) ∙ back (get_or due e 0) (has t) in
        rw k (set-set due e (get_or due e 0 - c) (get_or due e 0) ∙ set-get_or due e 0)

-- the pass over the rows: `need` is no more than what waits for the rows from p to before e, `room` is what they have
pub record Comparing (u : Rules) (rows p : ℕ) (ps : List Bool) (e need room : ℕ) : Type 0 where
  pub begun : p ≤ e
  pub most : e ≤ rows
  pub waits : need ≤ waiting u p ps (e - p)
  pub has : room ≡ u.f * (e - p)
  pub need_small : need ≤ (e - p) * 8388480
  pub room_small : room ≤ (e - p) * 65535

module _ {u : Rules} {rows p : ℕ} {ps : List Bool} {e need room : ℕ} (v : Comparing u rows p ps e need room) (more : e < rows) (few : rows ≤ 256)
    {due : List ℕ} {n : ℕ} (n_is : u.n ≡ n) (jobs : n ≤ 128) (d : Due u ps n due) {f : ℕ} (f_is : f ≡ u.f) (fits : f ≤ 65535) where
  pub due_small : get_or due (e + 1) 0 ≤ 8388480
  due_small = omega (arith, d.small (e + 1))

  pub comparing_more : Comparing u rows p ps (e + 1) (need + get_or due (e + 1) 0) (room + f)
  unfolding due_at
  comparing_more =
      let w : ℕ = e - p in
      let z : e + 1 - p ≡ w + 1 = omega (arith, v.begun) in
      let y : p + w + 1 ≡ e + 1 = omega (arith, v.begun) in
      let due_is : get_or due (e + 1) 0 ≡ due_at u ps (p + w + 1) = d.each (e + 1) (omega arith) ∙ rw (y, n_is) refl in
      let turn : u.f * (w + 1) ≡ u.f * w + u.f = times_more u.f w in
      record {
        begun = omega (arith, v.begun);
        most = omega arith;
        waits = rw z (omega (arith, v.waits, due_is, waiting_more u p ps w));
        has = rw z (omega (arith, v.has, turn));
        need_small = rw z (omega (arith, v.need_small, due_small));
        room_small = rw z (omega (arith, v.room_small));
      }
    where
      times_more : (a b : ℕ) → a * (b + 1) ≡ a * b + a
      times_more a b = mul-add a b 1 ∙ ap (λ (k : ℕ). a * b + k) (mul_one a)
        where
          mul_one : (k : ℕ) → k * 1 ≡ k
          mul_one k = omega arith

-- more is needed than there is
pub late_row : {u : Rules} {rows p : ℕ} {ps : List Bool} {e need room : ℕ} → Comparing u rows p ps e need room → p < rows → room < need → From u rows p ps
late_row {u} {rows} {p} {ps} {e} v h t = row_late u rows p ps h (e - p) (omega (arith, v.most)) (omega (arith, v.waits, v.has))
