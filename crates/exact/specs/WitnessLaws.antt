-- No witness comes through a state that fails, or there is one with a smaller sum of rows, and so none at all (`none_from`). Rows before b bind nothing:
-- so a state is judged by the jobs without a row alone, and where a state fails, one with less flags fails too (`from_fewer`). Assumes nothing.
use Rattle.std.specs.Prelude.{◌≡◌, Bool, not, ◌&&◌, ◌||◌, List, length, set, replicate, leb}
use Rattle.std.proofs.Math.Path.{refl, ap}
use Rattle.std.proofs.Common.{sym, ◌∙◌, length-set, get_or-set_same, get_or-set_other}
use Rattle.std.proofs.Math.Bool.{true, false, cond, or-true}
use Rattle.std.proofs.lemmas.Bool.{false≢true}
use Prim.Native.Nat.{ℕ, zero, suc, ◌+◌, ◌≤◌, ◌<◌}
use native.Mathlib.Omega.{arith}
use Rattle.std.proofs.Math.ListN.{get_or}
use Rattle.std.proofs.lemmas.List.{length-replicate, get_or-replicate}
use Rattle.std.proofs.Math.Dec.{ltb, eqb}
use borrow.Author.Tests.{leb-true, ltb-true, ltb-false, ne_eqb, eqb-true, eqb-false}
use Rattle.exact.specs.Sweep.{Rules, any_below, more, sum, AllInOrder, Lawful, load, Rows, Trace, Better, From, Fewer, Ordered}

-- tests
pub or_false_both : (a b : Bool) → (a || b) ≡ false → (a ≡ false) × (b ≡ false)
or_false_both true b e = (e, absurd (false≢true (sym e)))
or_false_both false b e = (refl, e)

and_true_both : (a b : Bool) → (a && b) ≡ true → (a ≡ true) × (b ≡ true)
and_true_both true b e = (refl, e)
and_true_both false b e = (e, absurd (false≢true e))

pub not_is_false : (a : Bool) → not a ≡ false → a ≡ true
not_is_false true e = refl
not_is_false false e = sym e

not_is_true : (a : Bool) → not a ≡ true → a ≡ false
not_is_true true e = sym e
not_is_true false e = refl

pub any_below_says : (t : ℕ → Bool) (m : ℕ) → any_below t m ≡ true → (x : ℕ) × (x < m) × (t x ≡ true)
unfolding any_below
any_below_says t zero e = absurd (false≢true e)
any_below_says t (suc m) e = go (t m) refl (any_below_says t m)
  where
    go : (b : Bool) → t m ≡ b → (any_below t m ≡ true → (x : ℕ) × (x < m) × (t x ≡ true)) → (x : ℕ) × (x < suc m) × (t x ≡ true)
    go true q ih = (m, omega arith, q)
    go false q ih =
        let (x, h, w) = ih (rw q at e) in
        (x, omega arith, w)

pub any_below_from : (t : ℕ → Bool) (m y : ℕ) → y < m → t y ≡ true → any_below t m ≡ true
unfolding any_below
any_below_from t zero y h e = absurd (omega arith)
any_below_from t (suc m) y h e = go (eqb y m) refl (any_below_from t m y)
  where
    go : (b : Bool) → eqb y m ≡ b → (y < m → t y ≡ true → any_below t m ≡ true) → (t m || any_below t m) ≡ true
    go true q ih = let w : y ≡ m = eqb-true y m q in rw (rw w at e)
    go false q ih = let w : y ≡ m → ⊥ = eqb-false y m q in rw (ih (omega arith) e) (or-true (t m))

module _ (u : Rules) (r : ℕ → ℕ) (p x : ℕ) (ps : List Bool) (t : Trace u r p x ps) where
  -- a job that does not stand in row p is passed
  pub trace_pass : (u.sided x ≡ true → r x ≡ p → ⊥) → Trace u r p (x + 1) ps
  trace_pass off = record {
    size = t.size;
    past = t.past;
    passed = λ y h a e l. go y h a e l (eqb y x) refl;
    here = λ y h a e l. t.here y h a e (omega arith);
    later = t.later;
  }
    where
      go : (y : ℕ) → y < u.n → u.sided y ≡ true → r y ≡ p → y < x + 1 → (b : Bool) → eqb y x ≡ b → get_or ps y false ≡ true
      go y h a e l true q = let w : y ≡ x = eqb-true y x q in absurd (off (rw w at a) (rw w at e))
      go y h a e l false q = let w : y ≡ x → ⊥ = eqb-false y x q in t.passed y h a e (omega arith)

  -- one that does is put
  pub trace_put : x < u.n → r x ≡ p → Trace u r p (x + 1) (set ps x true)
  trace_put s g = record {
    size = rw (length-set ps x true) t.size;
    past = λ y h a e. go_true y (eqb y x) refl (λ w. t.past y h a e);
    passed = λ y h a e l. go_true y (eqb y x) refl (λ w. t.passed y h a e (omega arith));
    here = λ y h a e l. go_false y (λ w. omega arith) (t.here y h a e (omega arith));
    later = λ y h a e. go_false y (λ w. let v : r y ≡ p = rw w g in omega arith) (t.later y h a e);
  }
    where
      go_true : (y : ℕ) (b : Bool) → eqb y x ≡ b → ((y ≡ x → ⊥) → get_or ps y false ≡ true) → get_or (set ps x true) y false ≡ true
      go_true y true q old = let w : y ≡ x = eqb-true y x q in rw w (get_or-set_same ps x true false (omega (arith, t.size)))
      go_true y false q old = let w : y ≡ x → ⊥ = eqb-false y x q in get_or-set_other ps x y true false w ∙ old w

      go_false : (y : ℕ) → (y ≡ x → ⊥) → get_or ps y false ≡ false → get_or (set ps x true) y false ≡ false
      go_false y w old = get_or-set_other ps x y true false w ∙ old

-- the next row
pub trace_next : (u : Rules) (r : ℕ → ℕ) (p x : ℕ) (ps : List Bool) → u.n ≤ x → Trace u r p x ps → Trace u r (p + 1) 0 ps
trace_next u r p x ps end t = record {
  size = t.size;
  past = λ y h a e. go y h a e (eqb (r y) p) refl;
  passed = λ y h a e l. absurd (omega arith);
  here = λ y h a e l. t.later y h a (omega arith);
  later = λ y h a e. t.later y h a (omega arith);
}
  where
    go : (y : ℕ) → y < u.n → u.sided y ≡ true → r y < p + 1 → (b : Bool) → eqb (r y) p ≡ b → get_or ps y false ≡ true
    go y h a e true q = t.passed y h a (eqb-true (r y) p q) (omega arith)
    go y h a e false q = let w : r y ≡ p → ⊥ = eqb-false (r y) p q in t.past y h a (omega arith)

-- the start
pub trace_start : (u : Rules) (r : ℕ → ℕ) (k : ℕ) → u.n ≤ k → Trace u r 0 0 (replicate k false)
trace_start u r k le = record {
  size = rw (length-replicate k false) le;
  past = λ y h a e. absurd (omega arith);
  passed = λ y h a e l. absurd (omega arith);
  here = λ y h a e l. get_or-replicate k y false false (omega arith);
  later = λ y h a e. get_or-replicate k y false false (omega arith);
}

-- job x moved to row p
abbrev pub moved : (ℕ → ℕ) → ℕ → ℕ → ℕ → ℕ
moved r x p y = cond (eqb y x) p (r y)

module _ (r : ℕ → ℕ) (x p : ℕ) where
  -- the sum gets smaller
  sum_off : (j a : ℕ) → x < a → sum (moved r x p) j a ≡ sum r j a
  unfolding sum
  sum_off zero a h = refl
  sum_off (suc j) a h = let w : a ≡ x → ⊥ = λ e. omega arith in rw (ne_eqb a x w, sum_off j (a + 1) (omega arith))

  pub sum_moved : p < r x → (j a : ℕ) → a ≤ x → x < a + j → sum (moved r x p) j a < sum r j a
  unfolding sum
  sum_moved l zero a h g = absurd (omega arith)
  sum_moved l (suc j) a h g = go (eqb a x) refl (sum_moved l j (a + 1))
    where
      go : (b : Bool) → eqb a x ≡ b → (a + 1 ≤ x → x < a + 1 + j → sum (moved r x p) j (a + 1) < sum r j (a + 1))
          → cond b p (r a) + sum (moved r x p) j (a + 1) < r a + sum r j (a + 1)
      go true q ih = let w : a ≡ x = eqb-true a x q in let v : r a ≡ r x = ap r w in omega (arith, sum_off j (a + 1) (omega arith))
      go false q ih = let w : a ≡ x → ⊥ = eqb-false a x q in omega (arith, ih (omega arith) (omega arith))

-- a term of a load
cond_le : (b : Bool) (c : ℕ) → cond b c 0 ≤ c
cond_le true c = omega arith
cond_le false c = omega arith

module _ (u : Rules) (r : ℕ → ℕ) (x p : ℕ) where
  load_off : (q j a : ℕ) → x < a → load u (moved r x p) q j a ≡ load u r q j a
  unfolding load
  load_off q zero a h = refl
  load_off q (suc j) a h = let w : a ≡ x → ⊥ = λ e. omega arith in rw (ne_eqb a x w, load_off q j (a + 1) (omega arith))

  -- row p takes no more than the job's cost more
  pub load_moved : (j a : ℕ) → load u (moved r x p) p j a ≤ load u r p j a + u.cost x
  unfolding load
  load_moved zero a = omega arith
  load_moved (suc j) a = go (eqb a x) refl (load_moved j (a + 1))
    where
      go : (b : Bool) → eqb a x ≡ b → load u (moved r x p) p j (a + 1) ≤ load u r p j (a + 1) + u.cost x
          → cond (u.sided a && eqb (cond b p (r a)) p) (u.cost a) 0 + load u (moved r x p) p j (a + 1) ≤ cond (u.sided a && eqb (r a) p)
          (u.cost a) 0 + load u r p j (a + 1) + u.cost x
      go true q ih =
          let w : a ≡ x = eqb-true a x q in
          let v : u.cost a ≡ u.cost x = ap u.cost w in
          omega (arith, load_off p j (a + 1) (omega arith), cond_le (u.sided a && eqb p p) (u.cost a))
      go false q ih = omega arith

  -- the other rows take no more
  pub load_others : (q : ℕ) → (p ≡ q → ⊥) → (j a : ℕ) → load u (moved r x p) q j a ≤ load u r q j a
  unfolding load
  load_others q ne zero a = omega arith
  load_others q ne (suc j) a = go (eqb a x) refl (u.sided a) (load_others q ne j (a + 1))
    where
      go : (b : Bool) → eqb a x ≡ b → (c : Bool) → load u (moved r x p) q j (a + 1) ≤ load u r q j (a + 1)
          → cond (c && eqb (cond b p (r a)) q) (u.cost a) 0 + load u (moved r x p) q j (a + 1) ≤ cond (c && eqb (r a) q) (u.cost a) 0 + load u r q j (a + 1)
      go true s true ih = rw (ne_eqb p q ne) (omega arith)
      go true s false ih = omega arith
      go false s c ih = omega arith

-- a row that could hold one more job
module _ (u : Rules) (g : Lawful u) (rows : ℕ) (b : ℕ) (r : ℕ → ℕ) (v : Rows u b rows r) (p : ℕ) (begun : b ≤ p) where
  pub one_more : (e : ℕ) (ps : List Bool) (room : ℕ) → u.n ≤ e → Trace u r p e ps → room + load u r p u.n 0 ≡ u.f
      → (x : ℕ) → x < u.n → more u p ps room x ≡ true → Better u b rows r
  unfolding more
  one_more e ps room end t s x h m =
      let a = and_true_both (u.sided x) (not (get_or ps x false) && (leb (u.first x) p && (leb (u.cost x) room && u.free ps x))) m in
      let b = and_true_both (not (get_or ps x false)) (leb (u.first x) p && (leb (u.cost x) room && u.free ps x)) a.1 in
      let c = and_true_both (leb (u.first x) p) (leb (u.cost x) room && u.free ps x) b.1 in
      let d = and_true_both (leb (u.cost x) room) (u.free ps x) c.1 in
      build a.0 (not_is_true (get_or ps x false) b.0) (leb-true (u.first x) p c.0) (leb-true (u.cost x) room d.0) d.1
    where
      build : u.sided x ≡ true → get_or ps x false ≡ false → u.first x ≤ p → u.cost x ≤ room → u.free ps x ≡ true → Better u b rows r
      build us un lo fits fr = record {
        other = moved r x p;
        good = record {
          low = λ y hy uy. low y hy uy (eqb y x) refl;
          high = λ y hy uy. high y hy uy (eqb y x) refl;
          room = λ q lq hq. rooms q lq hq (eqb p q) refl;
          order = λ y z hy hz uy uz w. order y z hy hz uy uz w (eqb y x) refl (eqb z x) refl;
        };
        less = sum_moved r x p after u.n 0 (omega arith) (omega arith);
        kept = λ y. kept y (eqb y x) refl;
        stays = λ y. stays y (eqb y x);
      }
        where
          after : p < r x
          after = go (ltb p (r x)) refl (eqb (r x) p) refl
            where
              go : (b : Bool) → ltb p (r x) ≡ b → (c : Bool) → eqb (r x) p ≡ c → p < r x
              go true q c s = ltb-true p (r x) q
              go false q true s = absurd (false≢true (sym un ∙ t.passed x h us (eqb-true (r x) p s) (omega arith)))
              go false q false s =
                  let w : r x ≡ p → ⊥ = eqb-false (r x) p s in
                  let k : r x ≤ p = ltb-false p (r x) q in
                  absurd (false≢true (sym un ∙ t.past x h us (omega arith)))

          low : (y : ℕ) → y < u.n → u.sided y ≡ true → (c : Bool) → eqb y x ≡ c → b ≤ cond c p (r y) → u.first y ≤ cond c p (r y)
          low y hy uy true q k = let w : y ≡ x = eqb-true y x q in rw w lo
          low y hy uy false q k = v.low y hy uy k

          high : (y : ℕ) → y < u.n → u.sided y ≡ true → (c : Bool) → eqb y x ≡ c → b ≤ cond c p (r y) → cond c p (r y) < u.end y
          high y hy uy true q k = let w : y ≡ x = eqb-true y x q in rw w (omega (arith, after, v.high x h us (omega (arith, after))))
          high y hy uy false q k = v.high y hy uy k

          rooms : (q : ℕ) → b ≤ q → q < rows → (c : Bool) → eqb p q ≡ c → load u (moved r x p) q u.n 0 ≤ u.f
          rooms q lq hq true k = let w : p ≡ q = eqb-true p q k in rw (sym w) (omega (arith, load_moved u r x p u.n 0))
          rooms q lq hq false k = omega (arith, load_others u r x p q (eqb-false p q k) u.n 0, v.room q lq hq)

          order : (y z : ℕ) → y < u.n → z < u.n → u.sided y ≡ true → u.sided z ≡ true → u.before y z
              → (b : Bool) → eqb y x ≡ b → (c : Bool) → eqb z x ≡ c → cond b p (r y) ≤ cond c p (r z)
          order y z hy hz uy uz w true q true s = omega arith
          order y z hy hz uy uz w true q false s =
              let k : y ≡ x = eqb-true y x q in
              let i : r y ≡ r x = ap r k in
              omega (arith, after, v.order y z hy hz uy uz w)
          order y z hy hz uy uz w false q true s =
              let k : z ≡ x = eqb-true z x s in
              let d : get_or ps y false ≡ true = g.free_says ps x h fr y hy uy (rw k at w) in
              go (ltb p (r y)) refl d
            where
              go : (b : Bool) → ltb p (r y) ≡ b → get_or ps y false ≡ true → r y ≤ p
              go true o d = absurd (false≢true (sym (t.later y hy uy (ltb-true p (r y) o)) ∙ d))
              go false o d = ltb-false p (r y) o
          order y z hy hz uy uz w false q false s = v.order y z hy hz uy uz w

          kept : (y : ℕ) (c : Bool) → eqb y x ≡ c → r y < b → cond c p (r y) < b
          kept y true q l = let w : y ≡ x = eqb-true y x q in let k : r y ≡ r x = ap r w in absurd (omega (arith, after))
          kept y false q l = l

          stays : (y : ℕ) (c : Bool) → b ≤ r y → b ≤ cond c p (r y)
          stays y true l = begun
          stays y false l = l

-- where a state fails, no rows come through it at all
module _ (u : Rules) (g : Lawful u) (rows p : ℕ) (ps : List Bool) (f : From u rows p ps) where
  trace_kept : {r : ℕ → ℕ} → Trace u r p 0 ps → (w : Better u p rows r) → Trace u w.other p 0 ps
  trace_kept {r} t w = record {
    size = t.size;
    past = λ y h a e. past y h a e (ltb (r y) p) refl;
    passed = λ y h a e l. absurd (omega arith);
    here = λ y h a e l. unset y h a (omega arith) (ltb (r y) p) refl;
    later = λ y h a e. unset y h a (omega arith) (ltb (r y) p) refl;
  }
    where
      past : (y : ℕ) → y < u.n → u.sided y ≡ true → w.other y < p → (c : Bool) → ltb (r y) p ≡ c → get_or ps y false ≡ true
      past y h a e true q = t.past y h a (ltb-true (r y) p q)
      past y h a e false q = absurd (omega (arith, w.stays y (ltb-false (r y) p q)))

      unset : (y : ℕ) → y < u.n → u.sided y ≡ true → p ≤ w.other y → (c : Bool) → ltb (r y) p ≡ c → get_or ps y false ≡ false
      unset y h a e true q = absurd (omega (arith, w.kept y (ltb-true (r y) p q)))
      unset y h a e false q = at (eqb (r y) p) refl (ltb-false (r y) p q)
        where
          at : (c : Bool) → eqb (r y) p ≡ c → p ≤ r y → get_or ps y false ≡ false
          at true k l = t.here y h a (eqb-true (r y) p k) (omega arith)
          at false k l = let ne : r y ≡ p → ⊥ = eqb-false (r y) p k in t.later y h a (omega arith)

  none_below : (s : ℕ) (r : ℕ → ℕ) → Rows u p rows r → Trace u r p 0 ps → sum r u.n 0 ≤ s → ⊥
  none_below zero r v t e = let w = f.better g p (omega arith) r v t in omega (arith, w.less)
  none_below (suc s) r v t e =
      let w = f.better g p (omega arith) r v t in
      none_below s w.other w.good (trace_kept t w) (omega (arith, w.less))

  pub none_from : (r : ℕ → ℕ) → Rows u p rows r → Trace u r p 0 ps → ⊥
  none_from r v t = none_below (sum r u.n 0) r v t (omega arith)

-- the rows of the jobs without a flag; the others stand before all rows
abbrev unflagged : List Bool → (ℕ → ℕ) → ℕ → ℕ
unflagged ps r y = cond (get_or ps y false) 0 (r y)

load_fewer : (u : Rules) (ps : List Bool) (r : ℕ → ℕ) (q : ℕ) → 0 < q → (j a : ℕ) → load u (unflagged ps r) q j a ≤ load u r q j a
unfolding load
load_fewer u ps r q some zero a = omega arith
load_fewer u ps r q some (suc j) a = go (get_or ps a false) (u.sided a) (load_fewer u ps r q some j (a + 1))
  where
    go : (b c : Bool) → load u (unflagged ps r) q j (a + 1) ≤ load u r q j (a + 1)
        → cond (c && eqb (cond b 0 (r a)) q) (u.cost a) 0 + load u (unflagged ps r) q j (a + 1) ≤ cond (c && eqb (r a) q) (u.cost a) 0 + load u r q j (a + 1)
    go true true ih = rw (ne_eqb 0 q (λ e. omega arith)) (omega arith)
    go true false ih = omega arith
    go false c ih = omega arith

pub ordered_first : (u : Rules) (k : ℕ) → Ordered u (replicate k false)
ordered_first u k = record { says = λ g y x hy hx uy b e. absurd (false≢true (sym (no_flag k x) ∙ e)) }
  where
    no_flag : (k x : ℕ) → get_or (replicate k false) x false ≡ false
    no_flag zero x = refl
    no_flag (suc k) zero = refl
    no_flag (suc k) (suc x) = no_flag k x

pub ordered_tested : {u : Rules} {ps : List Bool} → AllInOrder u ps → Ordered u ps
ordered_tested {ps = ps} all = record { says = λ g y x hy hx uy b. g.order_says ps all y x hy hx b }

-- a job is put that no other must be put before
pub ordered_put : {u : Rules} {ps : List Bool} → Ordered u ps → (i : ℕ) → i < length ps → i < u.n → u.free ps i ≡ true → Ordered u (set ps i true)
ordered_put {u} {ps} o i size h fr = record { says = λ g y x hy hx uy b e. go g y x hy hx uy b e (eqb x i) refl }
  where
    stays : (y : ℕ) (c : Bool) → eqb y i ≡ c → get_or ps y false ≡ true → get_or (set ps i true) y false ≡ true
    stays y true q e = let w : y ≡ i = eqb-true y i q in rw w (get_or-set_same ps i true false size)
    stays y false q e = get_or-set_other ps i y true false (eqb-false y i q) ∙ e

    go : Lawful u → (y x : ℕ) → y < u.n → x < u.n → u.sided y ≡ true → u.before y x → get_or (set ps i true) x false ≡ true
        → (c : Bool) → eqb x i ≡ c → get_or (set ps i true) y false ≡ true
    go g y x hy hx uy b e true q = let w : x ≡ i = eqb-true x i q in stays y (eqb y i) refl (g.free_says ps i h fr y hy uy (rw w at b))
    go g y x hy hx uy b e false q =
        stays y (eqb y i) refl (o.says g y x hy hx uy b (sym (get_or-set_other ps i x true false (eqb-false x i q)) ∙ e))

-- where a state in which the order is kept fails, a state of the same row with fewer flags fails: its rows, for the jobs without a flag there,
-- would be rows for the first
pub from_fewer : (u : Rules) (rows p : ℕ) (ps qs : List Bool) → 0 < p → u.n ≤ length ps → From u rows p ps → Ordered u ps → Fewer qs ps → From u rows p qs
from_fewer u rows p ps qs some size f closed fewer = record { better = λ g b le r v t. absurd (none g b le r v t) }
  where
    none : Lawful u → (b : ℕ) → b ≤ p → (r : ℕ → ℕ) → Rows u b rows r → Trace u r p 0 qs → ⊥
    none g b le r v t = none_from u g rows p ps f (unflagged ps r) rows_left trace_left
      where
        within : (y : ℕ) (c : Bool) → p ≤ cond c 0 (r y) → cond c 0 (r y) ≡ r y
        within y true l = absurd (omega arith)
        within y false l = refl

        order : (y x : ℕ) → (c d : Bool) → (d ≡ true → c ≡ true) → r y ≤ r x → cond c 0 (r y) ≤ cond d 0 (r x)
        order y x true d h l = omega arith
        order y x false true h l = absurd (false≢true (h refl))
        order y x false false h l = l

        rows_left : Rows u p rows (unflagged ps r)
        rows_left = record {
          low = λ x h a l. let e = within x (get_or ps x false) l in rw e (v.low x h a (omega (arith, e)));
          high = λ x h a l. let e = within x (get_or ps x false) l in rw e (v.high x h a (omega (arith, e)));
          room = λ q l h. omega (arith, load_fewer u ps r q (omega arith) u.n 0, v.room q (omega arith) h);
          order = λ y x hy hx uy ux w. order y x (get_or ps y false) (get_or ps x false) (closed.says g y x hy hx uy w) (v.order y x hy hx uy ux w);
        }

        past : (y : ℕ) → y < u.n → u.sided y ≡ true → (c : Bool) → get_or ps y false ≡ c → cond c 0 (r y) < p → c ≡ true
        past y h a true q l = refl
        past y h a false q l = sym q ∙ fewer y (t.past y h a l)

        unset : (y : ℕ) (c : Bool) → p ≤ cond c 0 (r y) → c ≡ false
        unset y true l = absurd (omega arith)
        unset y false l = refl

        trace_left : Trace u (unflagged ps r) p 0 ps
        trace_left = record {
          size = size;
          past = λ y h a l. past y h a (get_or ps y false) refl l;
          passed = λ y h a e l. absurd (omega arith);
          here = λ y h a e l. unset y (get_or ps y false) (omega arith);
          later = λ y h a e. unset y (get_or ps y false) (omega arith);
        }

-- no row for each job, with k flags and a flag for each job
pub from_start : (u : Rules) → Lawful u → (rows k : ℕ) → u.n ≤ k → From u rows 0 (replicate k false) → (r : ℕ → ℕ) → Rows u 0 rows r → ⊥
from_start u g rows k le f r v = none_from u g rows 0 (replicate k false) f r v (trace_start u r k le)
