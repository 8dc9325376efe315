-- What the search answers is right. The test of the search, which sees only the jobs before, says the same of every job as the placing does of the
-- whole: a row's load only grows, and links name earlier jobs. The rest is `Best`. Assumes nothing.
use Rattle.std.specs.Prelude.{◌≡◌, Bool, false, cond, ◌&&◌, ℕ, zero, suc, ◌+◌, ◌-◌, ◌≤◌, ◌<◌, ◌%◌, length, take, ltb, eqb}
use Rattle.std.proofs.Math.Path.{refl}
use Rattle.std.proofs.Math.Bool.{true}
use Rattle.std.proofs.Common.{⊎_elim, mod-lt, arith, length-take-le, take_all, take-suc}
use mathlib.Core.List.Memᴰ
use mathlib.Core.List.{List, [], ◌∷◌, Memᴰ}
use Rattle.std.proofs.Math.Nat.{sub-zero, zero-add}
use Rattle.std.proofs.Math.ListN.{get_or}
use borrow.Author.Tests.{le-leb, leb-true, lt-ltb, le-ltb, ltb-true, ltb-false, eq-eqb}
use Rattle.search.specs.Search.{Found, none, at, walk}
use Rattle.search.specs.Best.{Placing, Best}
use Rattle.search.specs.BestLaws.{best}
use Rattle.search.specs.Placing.{Problem, row_sum, links_of, keeps, all_kept, has_room, fits, window_start, frame_count, plan_walk, Proper, RowsWithin}
use Rattle.search.specs.PlacingLaws.{row_sum_snoc, row_sum_take, kept_before}
use Rattle.search.specs.LoadLaws.{both_true, within_none, fits_room, within_put}
use Rattle.search.specs.Plans.{LinkKept, IsPlacing, Right}

-- the test of one link, and of all, says that they are kept
keeps_says : (p : List ℕ) (k l : ℕ) → keeps p k l ≡ true → LinkKept p k l
keeps_says p k l e = (λ h. leb-true _ _ (rw (lt-ltb l 128 h) at e), λ h. leb-true _ _ (rw (le-ltb l 128 h) at e))

says_keeps : (p : List ℕ) (k l : ℕ) → LinkKept p k l → keeps p k l ≡ true
says_keeps p k l v = go (ltb l 128) refl
  where
    go : (b : Bool) → ltb l 128 ≡ b → keeps p k l ≡ true
    go true e = rw e (le-leb (get_or p l 0) k (v.0 (ltb-true l 128 e)))
    go false e = rw e (le-leb k (get_or p (l - 128) 0) (v.1 (ltb-false l 128 e)))

pub all_kept_says : (p : List ℕ) (k : ℕ) (ls : List ℕ) → all_kept p k ls ≡ true → (l : ℕ) → Memᴰ l ls → LinkKept p k l
unfolding all_kept
all_kept_says p k [] e l m = absurd (Memᴰ.not-nil m)
all_kept_says p k (y ∷ ls) e l m =
    let b = both_true (keeps p k y) (all_kept p k ls) e in
    ⊎_elim (λ q. rw q (keeps_says p k y b.0)) (all_kept_says p k ls b.1 l) (Memᴰ.cases_cons m)

pub says_all_kept : (p : List ℕ) (k : ℕ) (ls : List ℕ) → ((l : ℕ) → Memᴰ l ls → LinkKept p k l) → all_kept p k ls ≡ true
unfolding all_kept
says_all_kept p k [] v = refl
says_all_kept p k (y ∷ ls) v =
    rw (says_keeps p k y (v y (Memᴰ.head refl))) (says_all_kept p k ls (λ l m. v l (Memᴰ.tail m)))

module _ (x : Problem) (g : Proper x) where
  abbrev n : ℕ
  n = length x.cost

  -- the load of row r with the first i jobs of p
  abbrev load : List ℕ → ℕ → ℕ → ℕ
  load p i r = row_sum x.rows x.cost (take i p) r

  -- with job i the row of its frame has room
  abbrev Room : List ℕ → ℕ → Type 0
  Room p i = load p i (get_or p i 0 % x.rows) + get_or x.cost i 0 ≤ x.f

  -- the test of job i, by the whole placing
  module _ (p : List ℕ) (sz : length p ≡ n) (i : ℕ) (h : i < n) where
    abbrev k : ℕ
    k = get_or p i 0

    len : length (take i p) ≡ i
    len = length-take-le i p (omega arith)

    whole : all_kept (take i p) k (links_of x i) ≡ all_kept p k (links_of x i)
    whole = kept_before p i k (links_of x i) (λ l m. g.linked.back i l (omega (arith, g.counted)) m)

    fits_says : fits x (take i p) k ≡ true → Room p i × ((l : ℕ) → Memᴰ l (links_of x i) → LinkKept p k l)
    unfolding fits
    fits_says e =
        let fit = has_room (load p i (k % x.rows)) x.f (get_or x.cost i 0) in
        let w : (fit && all_kept p k (links_of x i)) ≡ true = rw (len, whole) at e in
        let b = both_true fit (all_kept p k (links_of x i)) w in
        (leb-true _ _ b.0, all_kept_says p k (links_of x i) b.1)

    says_fits : Room p i → ((l : ℕ) → Memᴰ l (links_of x i) → LinkKept p k l) → fits x (take i p) k ≡ true
    unfolding fits
    says_fits a b =
        rw (len, le-leb (load p i (k % x.rows) + get_or x.cost i 0) x.f a, whole) (says_all_kept p k (links_of x i) b)

    -- the load of a row with job i
    next_load : (r : ℕ) → load p (suc i) r ≡ load p i r + cond (eqb (k % x.rows) r) (get_or x.cost i 0) 0
    next_load r = rw (take-suc p i 0 (omega arith), row_sum_snoc x.rows x.cost (take i p) k r, len) refl

  -- no row has more than f as the jobs come in
  within_so_far : (p : List ℕ) → length p ≡ n → ((i : ℕ) → i < n → fits x (take i p) (get_or p i 0) ≡ true) → (i : ℕ) → i ≤ n → RowsWithin x (take i p)
  within_so_far p sz ok zero h = within_none x
  within_so_far p sz ok (suc i) h =
      rw (take-suc p i 0 (omega arith))
      (within_put x (take i p) (get_or p i 0) (within_so_far p sz ok i (omega arith)) (fits_room x (take i p) (get_or p i 0) (ok i h)))

  -- what the search looks for is a placing, and the other way round
  pub placing_is : (p : List ℕ) → Placing (fits x) (window_start x) (frame_count x) n p → IsPlacing x p
  placing_is p v =
      let ok : (i : ℕ) → i < n → fits x (take i p) (get_or p i 0) ≡ true = λ i h. (v.each i h).may in
      record {
        all = v.all;
        window = λ i h. ((v.each i h).from, omega (arith, (v.each i h).from, (v.each i h).to));
        room = rw (take_all n p (omega (arith, v.all))) at (within_so_far p v.all ok n (omega arith));
        order = λ i h. (fits_says p v.all i h (ok i h)).1;
      }

  pub is_placing : (p : List ℕ) → IsPlacing x p → Placing (fits x) (window_start x) (frame_count x) n p
  is_placing p v = record {
    all = v.all;
    each = λ i h. record {
      from = (v.window i h).0;
      to = omega (arith, (v.window i h).0, (v.window i h).1);
      may = says_fits p v.all i h (room_for i h) (v.order i h);
    };
  }
    where
      room_for : (i : ℕ) → i < n → Room p i
      room_for i h =
          let r : ℕ = get_or p i 0 % x.rows in
          let s : load p (suc i) r ≡ load p i r + get_or x.cost i 0 = rw (eq-eqb r r refl) at (next_load p v.all i h r) in
          omega (arith, row_sum_take x.rows x.cost p (suc i) r, v.room r (mod-lt (get_or p i 0) g.some_row))

  -- the search's answer is right
  pub right : Right x (plan_walk x []).found
  unfolding plan_walk Right Best
  right =
      let nothing : Placing (fits x) (window_start x) (frame_count x) 0 [] = record { all = refl; each = λ i h. absurd (omega arith) } in
      rw sub-zero (go (walk (fits x) (window_start x) (frame_count x) n []).found (rw zero-add at (best (fits x) (window_start x) (frame_count x) n [] nothing)))
    where
      go : (o : Found) → Best (fits x) (window_start x) (frame_count x) n [] o → Right x o
      go none b = λ q v. b q (is_placing q v) refl
      go (at p) b = (placing_is p b.0, λ q v. b.2 q (is_placing q v) refl)
