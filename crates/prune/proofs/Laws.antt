-- Laws of pruning's functions, one for each way through their code, in terms of the arrays' lists. Assumes nothing.
use mathlib.Core.Path.{◌≡◌, refl, sym, subst, ◌∙◌}
use mathlib.Core.Bool.{Bool, true, false, not, cond}
use mathlib.Core.Logic.{◌⊎◌, inl, inr, ⊎_elim}
use mathlib.Core.List.Memᴰ
use mathlib.Core.List.{List, [], ◌∷◌, Memᴰ}
use Prim.Native.Nat.{ℕ, zero, suc, ◌+◌, ◌-◌, ◌≤◌, ◌<◌}
use native.Mathlib.Nat.{eq-or-lt_of_le}
use native.Mathlib.Numerals.{add-one}
use native.Mathlib.Omega.{arith}
use lib.ListN.{length, get_or, set, drop, replicate, length-set, drop_of_length-le}
use lib.Seq.{get_or-take, drop-cons, get_or-set_same, get_or-set_other}
use lib.Dec.{ltb, eqb}
use borrow.Author.Tests.{le-leb, lt-leb, ltb-true, ltb-false, le-ltb, eq-eqb, ne_eqb, eqb-true, eqb-false}
use Rattle.search.specs.Placing.{Problem, links_at, links_of}
use Rattle.searcher.specs.Arrays.{counts_in, rows_in, jobs_in, problem_in, LinksBack}
use Rattle.searcher.specs.declared.Problem.{Problem as InArrays}
use Rattle.searcher.proofs.Laws as place_laws
use Rattle.exact.specs.Domains.{Domains}
use Rattle.exact.specs.Sweep.{From}
use Rattle.exact.specs.Sided.{side_in, from_side, Stated}
use Rattle.exact.specs.None.{None, none_link, none_empty, none_swept, none_split}
use Rattle.sweep.specs.Arrays.{jobs_of, rules_in, Sweepable}
use Rattle.prune.specs.Arrays.{Packed, domains, raised, lowered, Linked, Tightened, Empty, Filled, side_by, row_by, marked_by, Marked}

-- what is given is one problem, and its links are those of the arrays
module _ {g : InArrays} (c : Packed g) where
  abbrev x : Problem
  x = problem_in g

  abbrev n : ℕ
  n = jobs_in g

  abbrev counts : List ℕ
  counts = counts_in g

  module _ (i : ℕ) (h : i < n) where
    pub same_links : links_of x i ≡ links_at counts g.links i
    same_links = place_laws.same_links counts g.links n i h c.proper.linked

    pub links_back : LinksBack counts g.links i
    links_back = place_laws.links_back counts g.links n i h c.proper.linked c.few (omega (arith, c.proper.counted, c.jobs))

    -- a link takes nothing away
    pub link_tightens : {l : ℕ} {low high low' high' : List ℕ} → Memᴰ l (links_at counts g.links i) → Linked low high i l low' high'
        → Tightened x (domains low high) (domains low' high')
    link_tightens {l} {low} {high} {low'} {high'} m w = record
        { keeps = λ d. none_link c.proper (domains low high) i l (omega (arith, c.jobs)) mem (go (ltb l 128) refl d) }
      where
        mem : Memᴰ l (links_of x i)
        mem = subst (λ (ls : List ℕ). Memᴰ l ls) (sym same_links) m

        go : (b : Bool) → ltb l 128 ≡ b → None x (domains low' high')
            → None x (cond b (domains (raised low i (get_or low l 0)) (lowered high l (get_or high i 0)))
            (domains (raised low (l - 128) (get_or low i 0)) (lowered high i (get_or high (l - 128) 0))))
        go true e d = let t = w.before (ltb-true l 128 e) in rw (t.lows, t.highs) at d
        go false e d = let t = w.behind (ltb-false l 128 e) in rw (t.lows, t.highs) at d

  pub sweepable : Sweepable g
  sweepable = record { few = c.few; few_rows = c.few_rows; back = λ i h. links_back i h }

-- tightened in steps
pub tight_same : {x : Problem} {d : Domains} → Tightened x d d
tight_same = record { keeps = λ n. n }

pub tight_more : {x : Problem} {d e f : Domains} → Tightened x d e → Tightened x e f → Tightened x d f
tight_more a b = record { keeps = λ n. a.keeps (b.keeps n) }

-- an entry of a list is one of it
pub entry_in : (l : List ℕ) (j : ℕ) → j < length l → Memᴰ (get_or l j 0) l
entry_in [] j h = absurd (omega arith)
entry_in (y ∷ ys) zero h = Memᴰ.head refl
entry_in (y ∷ ys) (suc j) h = Memᴰ.tail (entry_in ys j (omega arith))

-- an array is filled
pub filled_more : {f : ℕ → ℕ} {j : ℕ} {out : List ℕ} (v : ℕ) → Filled f j out → j < 128 → v ≡ f j → Filled f (j + 1) (set out j v)
filled_more {f} {j} {out} v w h e = record { size = length-set out j v ∙ w.size; each = λ i t. go i t (eqb i j) refl }
  where
    go : (i : ℕ) → i < j + 1 → (b : Bool) → eqb i j ≡ b → get_or (set out j v) i 0 ≡ f i
    go i t true q = let z : i ≡ j = eqb-true i j q in rw z (get_or-set_same out j v 0 (omega (arith, w.size)) ∙ e)
    go i t false q = let z : i ≡ j → ⊥ = eqb-false i j q in get_or-set_other out j i v 0 z ∙ w.each i (omega arith)

-- the frames of a job as rows, by its side
abbrev pub sided_row : ℕ → List ℕ → List ℕ → List ℕ → ℕ → ℕ → ℕ
sided_row rows low high frames away i = from_side (side_by rows low high i) (get_or frames i 0) away

-- the side of a job
module _ (rows l h : ℕ) where
  pub side_first : h ≤ rows → 0 ≡ side_in rows l h
  unfolding side_in
  side_first a = rw (le-leb h rows a)

  pub side_before : rows < h → l < rows → 1024 ≡ side_in rows l h
  unfolding side_in
  side_before a b = rw (lt-leb h rows a, lt-leb rows l b)

  pub side_beyond : rows < h → rows ≤ l → rows + rows < h → 1024 ≡ side_in rows l h
  unfolding side_in
  side_beyond a b d = rw (lt-leb h rows a, le-leb rows l b, lt-leb h (rows + rows) d)

  pub side_second : rows < h → rows ≤ l → h ≤ rows + rows → rows ≡ side_in rows l h
  unfolding side_in
  side_second a b d = rw (lt-leb h rows a, le-leb rows l b, le-leb h (rows + rows) d)

module _ (side v away : ℕ) where
  pub from_away : side ≡ 1024 → away ≡ from_side side v away
  unfolding from_side
  from_away e = rw (eq-eqb side 1024 e)

  pub from_some : (side ≡ 1024 → ⊥) → v - side ≡ from_side side v away
  unfolding from_side
  from_some e = rw (ne_eqb side 1024 e)

-- marks
still_one : (out : List ℕ) (k j : ℕ) → get_or out j 0 ≡ 1 → get_or (set out k 1) j 0 ≡ 1
still_one [] k j e = e
still_one (y ∷ ys) zero zero e = refl
still_one (y ∷ ys) zero (suc j) e = e
still_one (y ∷ ys) (suc k) zero e = e
still_one (y ∷ ys) (suc k) (suc j) e = still_one ys k j e

module _ (out : List ℕ) (l : ℕ) where
  marked_size : length (marked_by out l) ≡ length out
  marked_size = go (ltb l 128)
    where
      go : (b : Bool) → length (cond b out (set out (l - 128) 1)) ≡ length out
      go true = refl
      go false = length-set out (l - 128) 1

  still_marked : (j : ℕ) → get_or out j 0 ≡ 1 → get_or (marked_by out l) j 0 ≡ 1
  still_marked j e = go (ltb l 128)
    where
      go : (b : Bool) → get_or (cond b out (set out (l - 128) 1)) j 0 ≡ 1
      go true = e
      go false = still_one out (l - 128) j e

  this_marked : 128 ≤ l → l - 128 < length out → get_or (marked_by out l) (l - 128) 0 ≡ 1
  this_marked h t = rw (le-ltb l 128 h) (get_or-set_same out (l - 128) 1 0 t)

-- the loop over the links of job y: each is left, or its job is marked
pub record Marking (counts links : List ℕ) (y at : ℕ) (out : List ℕ) : Type 0 where
  pub before : Marked counts links y out
  pub left : (l : ℕ) → Memᴰ l (links_at counts links y) → 128 ≤ l → Memᴰ l (drop at (links_at counts links y)) ⊎ (get_or out (l - 128) 0 ≡ 1)

module _ {counts links : List ℕ} {y : ℕ} where
  pub marking_start : {out : List ℕ} → Marked counts links y out → Marking counts links y 0 out
  marking_start w = record { before = w; left = λ l m h. inl m }

  module _ {at : ℕ} {out : List ℕ} (v : Marking counts links y at out) where
    abbrev ls : List ℕ
    ls = links_at counts links y

    pub marking_turn : LinksBack counts links y → at < length ls → {out' : List ℕ} → out' ≡ marked_by out (get_or ls at 0)
        → Marking counts links y (at + 1) out'
    marking_turn g h {out'} e = record {
      before = record {
        size = rw e (marked_size out this ∙ v.before.size);
        each = λ z l t m b. rw e (still_marked out this (l - 128) (v.before.each z l t m b));
      };
      left = λ l m b. ⊎_elim (λ w. next l m b (⊎_elim (λ q. inl q) (λ q. inr q) (Memᴰ.cases_cons (unrolled l w))))
          (λ w. inr (rw e (still_marked out this (l - 128) w))) (v.left l m b);
    }
      where
        this : ℕ
        this = get_or ls at 0

        unrolled : (l : ℕ) → Memᴰ l (drop at ls) → Memᴰ l (this ∷ drop (at + 1) ls)
        unrolled l w = rw (drop-cons ls at 0 h, ← add-one at) at w

        next : (l : ℕ) → Memᴰ l ls → 128 ≤ l → (l ≡ this) ⊎ Memᴰ l (drop (at + 1) ls) → Memᴰ l (drop (at + 1) ls) ⊎ (get_or out' (l - 128) 0 ≡ 1)
        next l m b (inl q) =
            let p : l - 128 < y = rw (le-ltb l 128 b) at (g.back l m) in
            inr (rw (e, ← q) (this_marked out l b (omega (arith, g.is_job, v.before.size))))
        next l m b (inr q) = inl q

    pub marking_stop : length ls ≤ at → Marked counts links (y + 1) out
    marking_stop h = record {
      size = v.before.size;
      each = λ z l t m b. ⊎_elim (λ q. same z l q m b) (λ q. v.before.each z l q m b)
          (eq-or-lt_of_le (at_most z t));
    }
      where
        at_most : (z : ℕ) → z < y + 1 → z ≤ y
        at_most z t = omega arith

        empty : (l : ℕ) → Memᴰ l (drop at ls) → ⊥
        empty l m = let z : drop at ls ≡ [] = drop_of_length-le ls h in Memᴰ.not-nil (rw z at m)

        same : (z l : ℕ) → z ≡ y → Memᴰ l (links_at counts links z) → 128 ≤ l → get_or out (l - 128) 0 ≡ 1
        same z l q m b = ⊎_elim (λ w. absurd (empty l w)) (λ w. w) (v.left l (rw q at m) b)

-- the question itself
module _ {g : InArrays} (c : Packed g) {low high : List ℕ} where
  pub none_of_empty : Empty low high (jobs_in g) → None (problem_in g) (domains low high)
  none_of_empty e = none_empty c.proper (domains low high) e.job (omega (arith, e.is_job, c.jobs)) e.none

  pub none_of_sweep : {first end side tied : List ℕ} → Filled (side_by (rows_in g) low high) (jobs_in g) side → Filled (row_by low side 1024) (jobs_in g) first
      → Filled (row_by high side 1025) (jobs_in g) end → Marked (counts_in g) g.links (jobs_in g) tied
      → From (rules_in g (record { first = first; end = end; side = side; tied = tied })) (rows_in g) 0 (replicate 128 false) → None (problem_in g) (domains low high)
  unfolding rules_in
  none_of_sweep {first} {end} {side} {tied} sides firsts ends ties e = none_swept c.proper stated 128 c.few e
    where
      stated : Stated (problem_in g) (domains low high) (jobs_of g (record { first = first; end = end; side = side; tied = tied }))
      stated = record {
        few_rows = c.few_rows;
        jobs = sym c.jobs;
        room = refl;
        costs = λ i h. sym (get_or-take (jobs_in g) g.cost i 0 h);
        sides = λ i h. sides.each i h;
        firsts = λ i h. firsts.each i h;
        ends = λ i h. ends.each i h;
        linked = λ i h. sym (same_links c i h);
        ties = λ y i h m. marks y i h m;
      }
        where
          marks : (y i : ℕ) → y < jobs_in g → Memᴰ (i + 128) (links_at (counts_in g) g.links y) → not (eqb (get_or tied i 0) 0) ≡ true
          marks y i h m =
              let z : i + 128 - 128 ≡ i = omega arith in
              let t : get_or tied i 0 ≡ 1 = rw z at (ties.each y (i + 128) h m (omega arith)) in
              rw t refl

  -- with one job not carried, and carried
  pub none_of_both : (i : ℕ) → None (problem_in g) (domains low (set high i (rows_in g)))
      → None (problem_in g) (domains (set low i (rows_in g)) high) → None (problem_in g) (domains low high)
  none_of_both i a b = none_split c.proper (domains low high) i a b
