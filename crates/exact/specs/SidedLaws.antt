-- The tests of the order are lawful, and the rows of a held placing are a witness for the sweep: where the sweep fails, there is none. Assumes nothing.
use Rattle.std.specs.Prelude.{◌≡◌, Bool, not, cond, ◌&&◌, ◌⊎◌, length, drop, replicate, ltb}
use Rattle.std.proofs.Math.Path.{refl, ap}
use Rattle.std.proofs.Common.{sym, subst, ◌∙◌, inl, inr, ⊎_elim, mod-eq_of_lt, add-one}
use Rattle.std.proofs.Math.Bool.{true, false}
use Rattle.std.proofs.lemmas.Bool.{false≢true}
use mathlib.Core.List.Memᴰ
use mathlib.Core.List.{List, [], ◌∷◌, Memᴰ}
use Prim.Native.Nat.{ℕ, zero, suc, ◌+◌, ◌-◌, ◌≤◌, ◌<◌, ◌%◌}
use Rattle.std.proofs.Math.Nat.{add-mod_left}
use native.Mathlib.Omega.{arith}
use Rattle.std.proofs.Math.ListN.{get_or}
use Rattle.std.proofs.Math.Seq.{drop-cons}
use Rattle.std.proofs.Math.Dec.{leb, eqb}
use borrow.Author.Tests.{leb-true, ltb-true, ltb-false, lt-ltb, le-ltb, eq-eqb, ne_eqb, eqb-true}
use Rattle.search.specs.Placing.{Problem, row_sum, links_of, partner, Proper}
use Rattle.search.specs.Plans.{IsPlacing, LinkKept}
use Rattle.search.specs.LoadLaws.{both_true}
use Rattle.exact.specs.Sweep.{AllInOrder, Lawful, Rows, load, From}
use Rattle.exact.specs.WitnessLaws.{from_start}
use Rattle.exact.specs.Domains.{Domains, low_of, high_of, Held}
use Rattle.exact.specs.Sided.{all_in, far, side_in, from_side, Jobs, put_by, leave_by, Before, rules_of, Stated}

-- tests of lists
all_in_from : (t : ℕ → Bool) (ls : List ℕ) → ((l : ℕ) → Memᴰ l ls → t l ≡ true) → all_in t ls ≡ true
unfolding all_in
all_in_from t [] h = refl
all_in_from t (l ∷ ls) h = rw (h l (Memᴰ.head refl)) (all_in_from t ls (λ k m. h k (Memᴰ.tail m)))

all_in_says : (t : ℕ → Bool) (ls : List ℕ) → all_in t ls ≡ true → (l : ℕ) → Memᴰ l ls → t l ≡ true
unfolding all_in
all_in_says t [] e l m = absurd (Memᴰ.not-nil m)
all_in_says t (k ∷ ls) e l m =
    let b = both_true (t k) (all_in t ls) e in
    ⊎_elim (λ q. rw q b.0) (all_in_says t ls b.1 l) (Memᴰ.cases_cons m)

-- a link names an earlier job
pub link_back : (x : Problem) → Proper x → (i l : ℕ) → i < length x.cost → Memᴰ l (links_of x i) → (l < 128 → l < i) × (128 ≤ l → l - 128 < i)
link_back x proper i l h m =
    let b : partner l < i = proper.linked.back i l (omega (arith, proper.counted)) m in
    (λ t. rw (lt-ltb l 128 t) at b, λ t. rw (le-ltb l 128 t) at b)

module _ {x : Problem} (proper : Proper x) {d : Domains} {s : Jobs} (g : Stated x d s) where
  abbrev n : ℕ
  n = length x.cost

  back : (i l : ℕ) → i < s.n → Memᴰ l (s.links i) → (l < 128 → l < i) × (128 ≤ l → l - 128 < i)
  back i l h m = link_back x proper i l (omega (arith, g.jobs)) (subst (λ (ls : List ℕ). Memᴰ l ls) (g.linked i h) m)

  put_from : (ps : List Bool) (i : ℕ) → i < s.n → ((y : ℕ) → y < i → Before s y i → get_or ps y false ≡ true)
      → (l : ℕ) → Memᴰ l (s.links i) → put_by s.side ps i l ≡ true
  put_from ps i h all l m = go (ltb l 128) refl (eqb (s.side l) (s.side i)) refl
    where
      go : (b : Bool) → ltb l 128 ≡ b → (c : Bool) → eqb (s.side l) (s.side i) ≡ c → cond b (cond c (get_or ps l false) true) true ≡ true
      go false q c e = refl
      go true q false e = refl
      go true q true e =
          let t : l < 128 = ltb-true l 128 q in
          all l ((back i l h m).0 t) (record { same = eqb-true (s.side l) (s.side i) e; link = inl (t, m) })

  leave_from : (ps : List Bool) (i : ℕ) → i < s.n → ((z : ℕ) → z < i → Before s i z → get_or ps z false ≡ false)
      → (l : ℕ) → Memᴰ l (s.links i) → leave_by s.side ps i l ≡ true
  leave_from ps i h all l m = go (ltb l 128) refl (eqb (s.side (l - 128)) (s.side i)) refl
    where
      go : (b : Bool) → ltb l 128 ≡ b → (c : Bool) → eqb (s.side (l - 128)) (s.side i) ≡ c → cond b true (cond c (not (get_or ps (l - 128) false)) true) ≡ true
      go true q c e = refl
      go false q false e = refl
      go false q true e =
          let t : 128 ≤ l = ltb-false l 128 q in
          let z : l ≡ l - 128 + 128 = omega arith in
          let a : get_or ps (l - 128) false ≡ false = all (l - 128) ((back i l h m).1 t) (record {
            same = sym (eqb-true (s.side (l - 128)) (s.side i) e);
            link = inr (subst (λ (k : ℕ). Memᴰ k (s.links i)) z m);
          }) in
          rw a

  put_said : (ps : List Bool) (i y : ℕ) → s.side y ≡ s.side i → y < 128 → put_by s.side ps i y ≡ true → get_or ps y false ≡ true
  put_said ps i y b t e = rw (lt-ltb y 128 t, eq-eqb (s.side y) (s.side i) b) at e

  free_from : (ps : List Bool) (i : ℕ) → i < s.n → (rules_of s).free ps i ≡ true → (y : ℕ) → y < s.n → Before s y i → get_or ps y false ≡ true
  free_from ps i h e y hy b = go b.link
    where
      tests : (all_in (put_by s.side ps i) (s.links i) ≡ true) × (not (s.tied i) ≡ true)
      tests = both_true (all_in (put_by s.side ps i) (s.links i)) (not (s.tied i)) e

      go : ((y < 128) × Memᴰ y (s.links i)) ⊎ Memᴰ (i + 128) (s.links y) → get_or ps y false ≡ true
      go (inl (t, m)) = put_said ps i y b.same t (all_in_says (put_by s.side ps i) (s.links i) tests.0 y m)
      go (inr m) = absurd (false≢true (rw (g.ties y i hy m) at tests.1))

  leave_said : (ps : List Bool) (y i : ℕ) → s.side y ≡ s.side i → leave_by s.side ps y (i + 128) ≡ true → not (get_or ps i false) ≡ true
  leave_said ps y i b e =
      let z : i + 128 - 128 ≡ i = omega arith in
      rw (le-ltb (i + 128) 128 (omega arith), z, eq-eqb (s.side i) (s.side y) (sym b)) at e

  order_from : (ps : List Bool) → AllInOrder (rules_of s) ps → (y i : ℕ) → y < s.n → i < s.n → Before s y i → get_or ps i false ≡ true → get_or ps y false ≡ true
  order_from ps all y i hy hi b f = go b.link
    where
      go : ((y < 128) × Memᴰ y (s.links i)) ⊎ Memᴰ (i + 128) (s.links y) → get_or ps y false ≡ true
      go (inl (t, m)) =
          let e : all_in (put_by s.side ps i) (s.links i) ≡ true = rw f at (all i hi) in
          put_said ps i y b.same t (all_in_says (put_by s.side ps i) (s.links i) e y m)
      go (inr m) = at (get_or ps y false) refl
        where
          at : (c : Bool) → get_or ps y false ≡ c → c ≡ true
          at true q = refl
          at false q =
              let e : all_in (leave_by s.side ps y) (s.links y) ≡ true = rw q at (all y hy) in
              let z : not (get_or ps i false) ≡ true = leave_said ps y i b.same (all_in_says (leave_by s.side ps y) (s.links y) e (i + 128) m) in
              rw f at z

  lawful : Lawful (rules_of s)
  lawful = record {
    put_holds = λ ps i h all. all_in_from (put_by s.side ps i) (s.links i) (put_from ps i h (λ y l b. all y l refl b));
    leave_holds = λ ps i h all. all_in_from (leave_by s.side ps i) (s.links i) (leave_from ps i h (λ z l b. all z l refl b));
    free_says = λ ps i h e y hy us b. free_from ps i h e y hy b;
    order_says = order_from;
  }

  -- the rows of a held placing
  module _ (ks : List ℕ) (v : IsPlacing x ks) (held : Held n d ks) where
    abbrev row_in : ℕ → ℕ
    row_in i = cond (eqb (s.side i) far) far (get_or ks i 0 % x.rows)

    -- a sided job stands in its row, counted from its side
    record Near (i : ℕ) : Type 0 where
      side : s.side i < far
      first : s.first i ≡ low_of d i - s.side i
      end : s.end i ≡ high_of d i - s.side i
      row : row_in i ≡ get_or ks i 0 % x.rows
      stands : get_or ks i 0 ≡ s.side i + row_in i

    record Away (i : ℕ) : Type 0 where
      side : s.side i ≡ far
      first : s.first i ≡ far
      end : s.end i ≡ far + 1
      row : row_in i ≡ far

    near : (i : ℕ) → i < s.n → s.side i < far → get_or ks i 0 ≡ s.side i + get_or ks i 0 % x.rows → Near i
    unfolding from_side
    near i h t e =
        let ne : eqb (s.side i) far ≡ false = ne_eqb (s.side i) far (λ q. omega arith) in
        let r : row_in i ≡ get_or ks i 0 % x.rows = rw ne in
        record { side = t; first = g.firsts i h ∙ rw ne; end = g.ends i h ∙ rw ne; row = r; stands = e ∙ ap (λ (z : ℕ). s.side i + z) (sym r) }

    away : (i : ℕ) → i < s.n → s.side i ≡ far → Away i
    unfolding from_side
    away i h t =
        let e : eqb (s.side i) far ≡ true = eq-eqb (s.side i) far t in
        record { side = t; first = g.firsts i h ∙ rw e; end = g.ends i h ∙ rw e; row = rw e }

    where_it_stands : (i : ℕ) → i < s.n → Near i ⊎ Away i
    unfolding side_in
    where_it_stands i h =
        go (leb (high_of d i) x.rows) refl (leb x.rows (low_of d i) && leb (high_of d i) (x.rows + x.rows)) refl (g.sides i h)
      where
        k : ℕ
        k = get_or ks i 0

        of_job : (low_of d i ≤ k) × (k < high_of d i)
        of_job = held i (omega (arith, g.jobs))

        go : (b : Bool) → leb (high_of d i) x.rows ≡ b → (c : Bool) → (leb x.rows (low_of d i) && leb (high_of d i) (x.rows + x.rows)) ≡ c
            → s.side i ≡ cond b 0 (cond c x.rows far) → Near i ⊎ Away i
        go true q c w e =
            let t : high_of d i ≤ x.rows = leb-true (high_of d i) x.rows q in
            let lt : k < x.rows = omega (arith, of_job.1) in
            inl (near i h (omega arith) (omega (arith, mod-eq_of_lt lt)))
        go false q true w e =
            let b = both_true (leb x.rows (low_of d i)) (leb (high_of d i) (x.rows + x.rows)) w in
            let lo : x.rows ≤ low_of d i = leb-true x.rows (low_of d i) b.0 in
            let hi : high_of d i ≤ x.rows + x.rows = leb-true (high_of d i) (x.rows + x.rows) b.1 in
            let j : ℕ = k - x.rows in
            let z : k ≡ x.rows + j = omega (arith, of_job.0) in
            let lt : j < x.rows = omega (arith, of_job.1) in
            let m : k % x.rows ≡ j = ap (λ (y : ℕ). y % x.rows) z ∙ add-mod_left x.rows j ∙ mod-eq_of_lt lt in
            inl (near i h (omega (arith, g.few_rows)) (omega arith))
        go false q false w e = inr (away i h e)

    -- what the sweep counts of a job in row p, the row counts too
    share_le : (p a : ℕ) → p < x.rows → a < s.n
        → cond (eqb (row_in a) p) (s.cost a) 0 ≤ cond (eqb (get_or ks a 0 % x.rows) p) (get_or x.cost a 0) 0
    share_le p a h l = ⊎_elim (λ w. rw (w.row, g.costs a l) (omega arith)) (λ w. none w) (where_it_stands a l)
      where
        none : Away a → cond (eqb (row_in a) p) (s.cost a) 0 ≤ cond (eqb (get_or ks a 0 % x.rows) p) (get_or x.cost a 0) 0
        none w =
            let ne : eqb (row_in a) p ≡ false = rw w.row (ne_eqb far p (λ q. omega (arith, g.few_rows))) in
            rw ne (omega arith)

    load_le : (p : ℕ) → p < x.rows → (j a : ℕ) → a + j ≡ n → load (rules_of s) row_in p j a ≤ row_sum x.rows (drop a x.cost) (drop a ks) p
    unfolding load row_sum
    load_le p h zero a e = omega arith
    load_le p h (suc j) a e =
        rw (drop-cons x.cost a 0 (omega arith), drop-cons ks a 0 (omega (arith, v.all)))
        (rw (add-one a) (omega (arith, share_le p a h (omega (arith, g.jobs)), rw (add-one a) at (load_le p h j (a + 1) (omega arith)))))

    linked : (y i : ℕ) → y < s.n → i < s.n → Before s y i → get_or ks y 0 ≤ get_or ks i 0
    linked y i hy hi b = go b.link
      where
        of_problem : (j : ℕ) → j < s.n → (l : ℕ) → Memᴰ l (s.links j) → LinkKept ks (get_or ks j 0) l
        of_problem j h l m = v.order j (omega (arith, g.jobs)) l (subst (λ (ls : List ℕ). Memᴰ l ls) (g.linked j h) m)

        go : ((y < 128) × Memᴰ y (s.links i)) ⊎ Memᴰ (i + 128) (s.links y) → get_or ks y 0 ≤ get_or ks i 0
        go (inl (t, m)) = (of_problem i hi y m).0 t
        go (inr m) =
            let e : (i + 128) - 128 ≡ i = omega arith in
            rw e at ((of_problem y hy (i + 128) m).1 (omega arith))

    in_order : (y i : ℕ) → y < s.n → i < s.n → Before s y i → row_in y ≤ row_in i
    in_order y i hy hi b = go (where_it_stands y hy) (where_it_stands i hi)
      where
        same : s.side y ≡ s.side i
        same = b.same

        go : Near y ⊎ Away y → Near i ⊎ Away i → row_in y ≤ row_in i
        go (inl u) (inl w) = omega (arith, u.stands, w.stands, linked y i hy hi b)
        go (inl u) (inr w) = absurd (omega (arith, u.side, w.side))
        go (inr u) (inl w) = absurd (omega (arith, u.side, w.side))
        go (inr u) (inr w) = omega (arith, u.row, w.row)

    rows_of : Rows (rules_of s) 0 x.rows row_in
    rows_of = record {
      low = λ i h t l. ⊎_elim (λ w. omega (arith, w.first, w.stands, (held i (omega (arith, g.jobs))).0)) (λ w. omega (arith, w.first, w.row)) (where_it_stands i h);
      high = λ i h t l. ⊎_elim (λ w. omega (arith, w.end, w.stands, (held i (omega (arith, g.jobs))).1)) (λ w. omega (arith, w.end, w.row)) (where_it_stands i h);
      room = λ p l h. within p h s.n g.jobs;
      order = λ y i hy hi sy si b. in_order y i hy hi b;
    }
      where
        within : (p : ℕ) → p < x.rows → (m : ℕ) → m ≡ n → load (rules_of s) row_in p m 0 ≤ s.f
        within p h m e = omega (arith, load_le p h m 0 (omega arith), v.room p h, g.room)

  -- where the sweep fails from its start on, nothing is held
  pub sweep_holds_none : (k : ℕ) → s.n ≤ k → From (rules_of s) x.rows 0 (replicate k false) → (ks : List ℕ) → IsPlacing x ks → Held n d ks → ⊥
  sweep_holds_none k le f ks v h = from_start (rules_of s) lawful x.rows k le f (row_in ks v h) (rows_of ks v h)
