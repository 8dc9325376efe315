-- Laws of the search's functions, one for each way through their code, in terms of the arrays' lists: the bounds by a job's links, the loop
-- over the frames of its window, with the row as a running number, and the ways through one try. Invariant of that loop: tries left + tries of
-- the whole search = tries allowed + tries of the frames not yet tested. Assumes nothing.
use mathlib.Core.Path.{◌≡◌, refl, sym, ap, subst, ◌∙◌}
use mathlib.Core.Bool.{true, false, ◌&&◌}
use mathlib.Core.List.{List, [], ◌∷◌, ◌++◌, Memᴰ}
use Prim.Native.Nat.{ℕ, ◌+◌, ◌-◌, ◌*◌, ◌≤◌, ◌<◌, ◌%◌}
use native.Mathlib.Nat.{mod-add-mod, mod-lt}
use native.Mathlib.Numerals.{add-one}
use native.Mathlib.Omega.{arith}
use lib.ListN.{length, take, drop, get_or, set, length-set, length-take, length-drop}
use lib.Seq.{length-take-le, take-suc, take-suc-set, take-take, take-set-le, drop-set-lt, set-set, set-get_or, get_or-take, get_or-drop, ext_get_or}
use lib.Dec.{leb}
use borrow.Author.Tests.{leb-true}
use Rattle.cursor.specs.Padded.{padded}
use Rattle.cursor.specs.PaddedLaws.{set_padded}
use Rattle.search.specs.Search.{Found, none, at, Walk, go_on}
use Rattle.search.specs.Counting.{on_none, on_found, one_more, attempt_walk, from_walk, walk_end, walk_more, walk_all, walk_next, walk_may, walk_not}
use Rattle.std.specs.List.{fold as taken_in}
use Rattle.search.specs.Placing.{plan_walk, Problem, links_at, links_of, has_room, fits, raise, lower, fold, earliest, latest, Bounds, Linked, LoadsKept}
use Rattle.search.specs.PlacingLaws.{put_loads, frame_before, kept_between}
use Rattle.search.specs.LoadLaws.{tested_by_load, fits_room}
use Rattle.searcher.specs.Arrays.{LinksBack, Ready, Placing, Testing, ended, Tried, TriedJob, TriedFrame}
use Rattle.searcher.specs.declared.Attempt.{Attempt}
use Rattle.searcher.specs.declared.Attempt.TheVariants.{Done, Failed, Stopped}

-- one number more in the first unused place
pub one_stored : (xs : List ℕ) (j : ℕ) → j < length xs → j < 128 → set (padded 128 0 (take j xs)) j (get_or xs j 0) ≡ padded 128 0 (take (j + 1) xs)
one_stored xs j h room =
    let e : length (take j xs) ≡ j = length-take-le j xs (omega arith) in
    rw (add-one j, take-suc xs j 0 h)
    (ap (λ (i : ℕ). set (padded 128 0 (take j xs)) i (get_or xs j 0)) (sym e) ∙ set_padded 128 0 (take j xs) (get_or xs j 0) (omega arith))

-- the links of job i, taken in one after the other by the frames of all jobs, give the bound by the frames of those before it
same_fold : (next next' : ℕ → ℕ → ℕ) (v : ℕ) (ls : List ℕ) → ((u l : ℕ) → Memᴰ l ls → next u l ≡ next' u l) → taken_in next v ls ≡ fold next' v ls
unfolding fold
same_fold next next' v [] same = refl
same_fold next next' v (l ∷ ls) same = rw (same v l (Memᴰ.head refl)) (same_fold next next' (next' v l) ls (λ u k m. same u k (Memᴰ.tail m)))

module _ {counts links : List ℕ} {i : ℕ} (g : LinksBack counts links i) (place : List ℕ) where
  pub earliest_left : taken_in (raise place) 0 (links_at counts links i) ≡ earliest (take i place) (links_at counts links i)
  earliest_left = same_fold (raise place) (raise (take i place)) 0 (links_at counts links i) (λ u l m. let h = g.back l m in rw (frame_before place i l h) refl)

  pub latest_left : taken_in (lower place) 65535 (links_at counts links i) ≡ latest (take i place) (links_at counts links i)
  latest_left = same_fold (lower place) (lower (take i place)) 65535 (links_at counts links i) (λ u l m. let h = g.back l m in rw (frame_before place i l h) refl)

-- the first entries have the links that all have
module _ (counts links : List ℕ) (n i : ℕ) (more : i < n) (g : Linked (take n counts) (take (16 * n) links)) where
  few : get_or counts i 0 ≤ 16
  few = rw (get_or-take n counts i 0 more) at (g.few i)

  pub same_links : links_at (take n counts) (take (16 * n) links) i ≡ links_at counts links i
  same_links =
      let c : ℕ = get_or counts i 0 in
      let from : ℕ = 16 * i in
      rw (get_or-take n counts i 0 more)
      (ext_get_or 0 (take c (drop from (take (16 * n) links))) (take c (drop from links)) (simp (length-take, length-drop, length-take) (omega (arith, few)))
      (λ j t. let u : j < c = omega (arith, simp length-take at t) in
      rw (get_or-take c (drop from (take (16 * n) links)) j 0 u, get_or-take c (drop from links) j 0 u, get_or-drop from (take (16 * n) links) j 0, get_or-drop from links j 0)
      (get_or-take (16 * n) links (from + j) 0 (omega (arith, few)))))

  -- so they name earlier jobs
  pub links_back : n ≤ 128 → n ≤ length (take n counts) → LinksBack counts links i
  links_back small long = record {
    is_job = omega arith;
    room = omega (arith, g.room, length-take (16 * n) links);
    few = few;
    back = λ l m. g.back i l (omega arith) (subst (λ (ls : List ℕ). Memᴰ l ls) (sym same_links) m);
  }

  -- and leave the job the same frames, also after others were tried
  pub same_bounds : (place place' : List ℕ) {low high : ℕ} → take i place' ≡ take i place
      → low ≡ earliest (take i place) (links_at counts links i) → high ≡ latest (take i place) (links_at counts links i)
      → (low ≡ earliest (take i place') (links_at (take n counts) (take (16 * n) links) i)) × (high ≡ latest (take i place') (links_at (take n counts) (take (16 * n) links) i))
  same_bounds place place' kept a b = rw (kept, same_links) (a, b)

-- a job is left
pub is_left : {x : Problem} {n : ℕ} {place load : List ℕ} {i : ℕ} → Placing x n place load i → (i ≡ n → ⊥) → i < n
is_left g e = omega (arith, g.within)

placed_before : {x : Problem} {n : ℕ} {place load : List ℕ} {i : ℕ} → Ready x n place load → i < n → length (take i place) ≡ i
placed_before {x} {n} {place} {load} {i} r more = length-take-le i place (omega (arith, r.places))

-- an attempt that failed tells that the search has ended with none, within the tries
module _ {x : Problem} {w : Walk} {n : ℕ} {place load : List ℕ} {i a : ℕ} {r : Attempt} {place' load' : List ℕ} {a' : ℕ} (d : Tried x w n place load i a r place' load' a') where
  -- one that has not stopped has reached the tries
  pub reached : (r ≡ Stopped → ⊥) → w.tries ≤ a
  reached q = not_lt (λ t. q (d.out t).0)
    where
      not_lt : (a < w.tries → ⊥) → w.tries ≤ a
      not_lt h = omega arith

  pub none_of_failed : r ≡ Failed → (w.tries ≤ a) × (w.found ≡ none)
  unfolding ended
  none_of_failed z = (fit, go w.found refl)
    where
      fit : w.tries ≤ a
      fit = reached (λ e. cc)

      go : (o : Found) → w.found ≡ o → w.found ≡ none
      go none e = e
      go (at q) e = let f : r ≡ ended (at q) = (d.enough fit).0 ∙ ap ended e in absurd (let g : r ≡ Done = f in cc)

  -- any other answer, where it has none, that the tries ended first
  out_of_none : (r ≡ Failed → ⊥) → w.found ≡ none → a < w.tries
  unfolding ended
  out_of_none some e = not_le (λ t. some ((d.enough t).0 ∙ ap ended e))
    where
      not_le : (w.tries ≤ a → ⊥) → a < w.tries
      not_le h = omega arith

  -- it says that they ended where they did
  pub out_of_stopped : r ≡ Stopped → a < w.tries
  unfolding ended
  out_of_stopped z = not_le (λ t. go w.found refl (d.enough t).0)
    where
      not_le : (w.tries ≤ a → ⊥) → a < w.tries
      not_le h = omega arith

      go : (o : Found) → w.found ≡ o → r ≡ ended w.found → ⊥
      go none e f = let g : r ≡ Failed = f ∙ ap ended e in cc
      go (at q) e f = let g : r ≡ Done = f ∙ ap ended e in cc

-- no job is left
pub all_placed : {x : Problem} {n : ℕ} {place load : List ℕ} {i a : ℕ} → Placing x n place load i → i ≡ n → TriedJob x n place load i a Done place load a
unfolding ended
all_placed {x} {n} {place} {load} {i} {a} g h =
    let r = g.ready in
    let d : plan_walk x (take i place) ≡ record { found = at (take n place); tries = 0 } =
    rw h (walk_all x (take n place) (length-take-le n place r.places ∙ sym r.jobs)) in
    record {
      enough = rw d (λ _. (refl, omega arith));
      out = rw d (λ q. absurd (omega arith));
      found = λ _. rw d;
      kept = refl;
      beyond = refl;
      size = refl;
      undone = λ _. refl;
      loads = λ _. rw h at g.loads;
    }

-- the loop over the frames of job i: those before k came to nothing, and left things as they were, so what the rest come to is the answer; of
-- the a₀ tries a are left, and the frames before k took the others; `row` is the row of frame k
pub record Trying (x : Problem) (n : ℕ) (place₀ load₀ : List ℕ) (i a₀ : ℕ) (place load : List ℕ) (a k row : ℕ) : Type 0 where
  pub kept : take i place ≡ take i place₀
  pub beyond : drop n place ≡ drop n place₀
  pub size : length place ≡ length place₀
  pub undone : load ≡ load₀
  pub rest : (plan_walk x (take i place₀)).found ≡ (from_walk x (take i place₀) k).found
  pub spent : a + (plan_walk x (take i place₀)).tries ≡ a₀ + (from_walk x (take i place₀) k).tries
  pub at_row : row ≡ k % x.rows

module _ {x : Problem} {n : ℕ} {place load : List ℕ} {i : ℕ} (more : i < n) (g : Placing x n place load i) where
  r : Ready x n place load
  r = g.ready

  abbrev p : List ℕ
  p = take i place

  len : length p ≡ i
  len = placed_before r more

  -- the loop begins
  pub none_tried : {k a : ℕ} → k ≡ get_or x.first i 0 → Trying x n place load i a place load a k (k % x.rows)
  none_tried {k} {a} e =
      let d : plan_walk x p ≡ from_walk x p k = rw e (rw len at (walk_next x p (omega (arith, len, r.jobs)))) in
      record {
        kept = refl;
        beyond = refl;
        size = refl;
        undone = refl;
        rest = ap (λ (w : Walk). w.found) d;
        spent = ap (λ (w : Walk). a + w.tries) d;
        at_row = refl;
      }

  module _ {k row a₀ a : ℕ} {place' load' : List ℕ} (v : Trying x n place load i a₀ place' load' a k row) where
    ready_again : Ready x n place' load'
    ready_again = record {
      proper = r.proper;
      jobs = r.jobs;
      few = r.few;
      few_rows = r.few_rows;
      short = r.short;
      places = rw v.size r.places;
      row_room = rw v.undone r.row_room;
    }

    -- the loads are kept, also after jobs were taken back
    kept_again : LoadsKept x (take i place') load'
    kept_again = rw (v.undone, v.kept) g.loads

    -- the job is tested in the next frame
    pub test : {low high : ℕ} → Bounds x (take i place') i low high → Testing x n place' load' i k row low high
    test bounds = record { more = more; ready = ready_again; loads = kept_again; at_row = v.at_row; bounds = bounds }

    -- the loop ends
    pub none_left : {e : ℕ} → e ≡ get_or x.end i 0 → e ≤ k → TriedJob x n place load i a₀ Failed place' load' a
    unfolding ended
    none_left is h =
        let d : from_walk x p k ≡ record { found = none; tries = 0 } = walk_end x p k (rw (len, ← is) h) in
        let t : (from_walk x p k).tries ≡ 0 = ap (λ (w : Walk). w.tries) d in
        let f : (plan_walk x p).found ≡ none = v.rest ∙ ap (λ (w : Walk). w.found) d in
        record {
          enough = λ q. (rw f, omega (arith, v.spent));
          out = λ q. absurd (omega (arith, v.spent));
          found = λ q. absurd (cc);
          kept = v.kept;
          beyond = v.beyond;
          size = v.size;
          undone = λ _. v.undone;
          loads = λ q. absurd (cc);
        }

    module _ {e : ℕ} (is : e ≡ get_or x.end i 0) (h : k < e) {b : Attempt} {place₂ load₂ : List ℕ} {a₂ : ℕ} (d : TriedFrame x n place' load' i k a b place₂ load₂ a₂) where
      abbrev here : Walk
      here = attempt_walk x p k

      abbrev behind : Walk
      behind = from_walk x p (k + 1)

      of_here : Tried x (attempt_walk x p k) n place' load' i a b place₂ load₂ a₂
      of_here = rw v.kept at d

      turn : from_walk x p k ≡ go_on here.found here.tries behind
      turn = walk_more x p k (rw (len, ← is) h)

      -- the frame has no placing, or one
      goes_on : here.found ≡ none → from_walk x p k ≡ record { found = behind.found; tries = here.tries + behind.tries }
      goes_on e = turn ∙ on_none here.tries behind e

      stops : {q : List ℕ} → here.found ≡ at q → from_walk x p k ≡ record { found = at q; tries = here.tries }
      stops e = turn ∙ on_found here.tries behind e

      -- the loop goes on
      pub pass_on : b ≡ Failed → {row' : ℕ} → row' ≡ (row + 1) % x.rows → Trying x n place load i a₀ place₂ load₂ a₂ (k + 1) row'
      pass_on q w =
          let (fit, e) = none_of_failed of_here q in
          let u : (from_walk x p k).tries ≡ here.tries + behind.tries = ap (λ (w : Walk). w.tries) (goes_on e) in
          record {
            kept = d.kept ∙ v.kept;
            beyond = d.beyond ∙ v.beyond;
            size = d.size ∙ v.size;
            undone = d.undone q ∙ v.undone;
            rest = v.rest ∙ ap (λ (w : Walk). w.found) (goes_on e);
            spent = omega (arith, v.spent, fit, (of_here.enough fit).1);
            at_row = w ∙ rw v.at_row (mod-add-mod k x.rows 1);
          }

      -- the job and those after it are placed, or the tries have ended
      pub pass_answer : (b ≡ Failed → ⊥) → TriedJob x n place load i a₀ b place₂ load₂ a₂
      pass_answer some = record {
        enough = λ t. found_here t here.found refl;
        out = λ t. exceeded t here.found refl;
        found = λ q. v.rest ∙ ap (λ (w : Walk). w.found) (stops (of_here.found q));
        kept = d.kept ∙ v.kept;
        beyond = d.beyond ∙ v.beyond;
        size = d.size ∙ v.size;
        undone = λ q. absurd (some q);
        loads = d.loads;
      }
        where
          found_here : (plan_walk x p).tries ≤ a₀ → (o : Found) → here.found ≡ o → (b ≡ ended (plan_walk x p).found) × (a₂ ≡ a₀ - (plan_walk x p).tries)
          found_here t none e =
              let u : (from_walk x p k).tries ≡ here.tries + behind.tries = ap (λ (w : Walk). w.tries) (goes_on e) in
              absurd (omega (arith, v.spent, out_of_none of_here some e))
          found_here t (at q) e =
              let u : (from_walk x p k).tries ≡ here.tries = ap (λ (w : Walk). w.tries) (stops e) in
              let fit : here.tries ≤ a = omega (arith, v.spent) in
              ((of_here.enough fit).0 ∙ ap ended (e ∙ sym (v.rest ∙ ap (λ (w : Walk). w.found) (stops e))), omega (arith, v.spent, (of_here.enough fit).1))

          exceeded : a₀ < (plan_walk x p).tries → (o : Found) → here.found ≡ o → (b ≡ Stopped) × (a₂ ≡ 0)
          exceeded t none e = of_here.out (out_of_none of_here some e)
          exceeded t (at q) e =
              let u : (from_walk x p k).tries ≡ here.tries = ap (λ (w : Walk). w.tries) (stops e) in
              of_here.out (omega (arith, v.spent))

-- job i is tested in frame k
module _ {x : Problem} {n : ℕ} {place load : List ℕ} {i k row low high : ℕ} (s : Testing x n place load i k row low high) where
  abbrev before : List ℕ
  before = take i place

  size : length before ≡ i
  size = placed_before s.ready s.more

  -- the test by the row's kept load and by the two bounds is the search's
  pub tested : k ≤ 65535 → fits x before k ≡ (has_room (get_or load row 0) x.f (get_or x.cost i 0) && (leb low k && leb k high))
  tested small =
      tested_by_load x before k load s.ready.proper.some_row s.loads
      ∙ rw (kept_between before k (links_of x (length before)) small, size, s.at_row, s.bounds.0, s.bounds.1)

  -- with a job that passes it the row has at most f
  pub fits_in : fits x before k ≡ true → get_or load row 0 + get_or x.cost i 0 ≤ x.f
  fits_in may =
      let r = leb-true _ x.f (fits_room x before k may) in
      omega (arith, rw size at r, s.loads (k % x.rows) (mod-lt k s.ready.proper.some_row), ap (λ (q : ℕ). get_or load q 0) s.at_row)

  snoc : take (i + 1) (set place i k) ≡ before ++ (k ∷ [])
  snoc = rw add-one (take-suc-set place i k (omega (arith, s.more, s.ready.places)))

  module _ {v : ℕ} (v_is : v ≡ get_or load row 0 + get_or x.cost i 0) where
    -- it is put there
    put_ready : Ready x n (set place i k) (set load row v)
    put_ready = let r = s.ready in record {
      proper = r.proper;
      jobs = r.jobs;
      few = r.few;
      few_rows = r.few_rows;
      short = r.short;
      places = omega (arith, length-set place i k, r.places);
      row_room = omega (arith, length-set load row v, r.row_room);
    }

    put_kept : LoadsKept x (take (i + 1) (set place i k)) (set load row v)
    put_kept =
        let w : v ≡ get_or load (k % x.rows) 0 + get_or x.cost (length before) 0 = v_is ∙ rw (s.at_row, size) refl in
        rw (snoc, s.at_row) (put_loads x before load k v s.ready.proper.some_row s.ready.row_room s.loads w)

    pub put : Placing x n (set place i k) (set load row v) (i + 1)
    put = record { within = omega (arith, s.more); ready = put_ready; loads = put_kept }

  module _ {a : ℕ} where
    -- no try is left for the test
    pub none_allowed : a < 1 → TriedFrame x n place load i k a Stopped place load a
    unfolding attempt_walk
    none_allowed z =
        let t : 1 ≤ (attempt_walk x before k).tries = one_more (fits x before k) (plan_walk x (before ++ (k ∷ []))) in
        record {
          enough = λ q. absurd (omega arith);
          out = λ q. (refl, omega arith);
          found = λ q. absurd (cc);
          kept = refl;
          beyond = refl;
          size = refl;
          undone = λ q. absurd (cc);
          loads = λ q. absurd (cc);
        }

    module _ (some : 1 ≤ a) where
      -- it may not stand there: the frame is passed over
      pub refused : fits x before k ≡ false → TriedFrame x n place load i k a Failed place load (a - 1)
      unfolding ended
      refused e =
          let d : attempt_walk x before k ≡ record { found = none; tries = 1 } = walk_not x before k e in
          record {
            enough = rw d (λ _. (refl, refl));
            out = rw d (λ q. absurd (omega arith));
            found = λ q. absurd (cc);
            kept = refl;
            beyond = refl;
            size = refl;
            undone = λ _. refl;
            loads = λ q. absurd (cc);
          }

      module _ (may : fits x before k ≡ true) {v : ℕ} (v_is : v ≡ get_or load row 0 + get_or x.cost i 0) {b : Attempt} {place' load' : List ℕ} {a' : ℕ}
          (d : TriedJob x n (set place i k) (set load row v) (i + 1) (a - 1) b place' load' a') where
        abbrev sub : Walk
        sub = plan_walk x (before ++ (k ∷ []))

        of_sub : Tried x sub n (set place i k) (set load row v) (i + 1) (a - 1) b place' load' a'
        of_sub = subst (λ (l : List ℕ). Tried x (plan_walk x l) n (set place i k) (set load row v) (i + 1) (a - 1) b place' load' a') snoc d

        walk_here : attempt_walk x before k ≡ record { found = sub.found; tries = 1 + sub.tries }
        walk_here = walk_may x before k may

        kept_here : take i place' ≡ take i place
        kept_here =
            sym (take-take i (i + 1) place' (omega arith)) ∙ ap (take i) d.kept
            ∙ take-take i (i + 1) (set place i k) (omega arith) ∙ take-set-le i place i k (omega arith)

        enough_here : (attempt_walk x before k).tries ≤ a → (b ≡ ended (attempt_walk x before k).found) × (a' ≡ a - (attempt_walk x before k).tries)
        enough_here =
            rw walk_here (λ t. let fit : sub.tries ≤ a - 1 = omega arith in ((of_sub.enough fit).0, omega (arith, (of_sub.enough fit).1)))

        out_here : a < (attempt_walk x before k).tries → (b ≡ Stopped) × (a' ≡ 0)
        out_here = rw walk_here (λ t. of_sub.out (omega arith))

        -- the jobs after it were placed too, or the tries have ended
        pub went : (b ≡ Failed → ⊥) → TriedFrame x n place load i k a b place' load' a'
        went q = record {
          enough = enough_here;
          out = out_here;
          found = λ w. rw walk_here (of_sub.found w);
          kept = kept_here;
          beyond = d.beyond ∙ drop-set-lt n place i k s.more;
          size = d.size ∙ length-set place i k;
          undone = λ w. absurd (q w);
          loads = d.loads;
        }

        -- they were not: it is taken back, and its row has the load that it had
        pub back : b ≡ Failed → TriedFrame x n place load i k a Failed place' (set load' row (get_or load row 0)) a'
        back q = record {
          enough = λ t. (sym q ∙ (enough_here t).0, (enough_here t).1);
          out = λ t. (sym q ∙ (out_here t).0, (out_here t).1);
          found = λ w. absurd (cc);
          kept = kept_here;
          beyond = d.beyond ∙ drop-set-lt n place i k s.more;
          size = d.size ∙ length-set place i k;
          undone = λ _. ap (λ (l : List ℕ). set l row (get_or load row 0)) (d.undone q) ∙ set-set load row v (get_or load row 0) ∙ set-get_or load row 0;
          loads = λ w. absurd (cc);
        }
