-- The loads of the rows as jobs are put into them one after the other, and what they say of the capacity.
use Rattle.std.specs.Prelude.{ℕ, ◌+◌, ◌-◌, ◌%◌, ◌≤◌, ◌<◌, ◌≡◌, Bool, true, false, length, set, replicate, eqb}
use Rattle.std.proofs.Math.Path.{refl, sym, ap}
use Rattle.std.proofs.Common.{◌∙◌, mod-lt, add-one, arith, length-set, get_or-set_other}
use mathlib.Core.List.{List, []}
use Rattle.std.proofs.Math.ListN.{get_or, length-replicate}
use Rattle.std.proofs.Math.Seq.{get_or-set_same}
use borrow.Author.Tests.{lt-leb, le-leb, eqb-true, eqb-false}
use Rattle.cursor.specs.Padded.{firsts}
use Rattle.cursor.specs.PaddedLaws.{get_or_blanks, firsts_length, get_or_firsts, take_firsts}
use Rattle.search.specs.Placing.{problem, row_sum, LoadsKept}
use Rattle.search.specs.PlacingLaws.{row_sum_nil, row_sum_take, put_loads}
use Rattle.plan_rules.specs.Every.{every}
use Rattle.plan_rules.specs.EveryLaws.{says_every, every_fails}
use Rattle.plan_rules.specs.Slices.{firsts_all}
use Rattle.plan_rules.specs.Rules.{capacity_kept}

-- Capacity: n jobs, their costs in the first places of an array, in `rows` rows.
module _ (rows : ℕ) (places frames : List ℕ) (n f : ℕ) where
  abbrev cost : List ℕ
  cost = firsts n 0 places

  -- the jobs before y are put into their rows
  pub record Kept (y : ℕ) (load : List ℕ) : Type 0 where
    pub loads : LoadsKept (problem cost [] [] [] [] rows f) (firsts y 0 frames) load
    pub small : (r : ℕ) → get_or load r 0 ≤ f
    pub size : length load ≡ 256

  pub kept_none : Kept 0 (replicate 256 0)
  unfolding firsts
  kept_none = record {
    loads = λ r h. get_or_blanks {A = ℕ} 256 0 [] r ∙ sym (row_sum_nil rows cost r);
    small = λ r. omega (arith, get_or_blanks {A = ℕ} 256 0 [] r);
    size = length-replicate {A = ℕ} 256 0;
  }

  module _ (some_row : 0 < rows) (few_rows : rows ≤ 256) (y : ℕ) (load : List ℕ) (so : Kept y load) (h : y < n) where
    abbrev row : ℕ
    row = get_or frames y 0 % rows

    abbrev here : ℕ
    here = get_or load row 0

    row_below : row < rows
    row_below = mod-lt (get_or frames y 0) some_row

    cost_is : get_or cost (length (firsts y 0 frames)) 0 ≡ get_or places y 0
    cost_is = rw (firsts_length 0 frames y) (get_or_firsts 0 places n y h)

    pub row_inside : row < 256
    row_inside = omega (arith, row_below)

    put : (v : ℕ) → v ≡ here + get_or places y 0 → LoadsKept (problem cost [] [] [] [] rows f) (firsts (y + 1) 0 frames) (set load row v)
    unfolding firsts
    put v e =
        rw (add-one y)
        (put_loads (problem cost [] [] [] [] rows f) (firsts y 0 frames) load (get_or frames y 0) v some_row (omega (arith, so.size)) so.loads
        (omega (arith, cost_is)))

    -- there is room for the job
    pub kept_more : get_or places y 0 ≤ f - here → Kept (y + 1) (set load row (here + get_or places y 0))
    kept_more room = record {
      loads = put (here + get_or places y 0) refl;
      small = λ r. go r (eqb r row) refl;
      size = simp length-set so.size;
    }
      where
        go : (r : ℕ) (b : Bool) → eqb r row ≡ b → get_or (set load row (here + get_or places y 0)) r 0 ≤ f
        go r true e =
            let same : r ≡ row = eqb-true r row e in
            rw (same, get_or-set_same load row (here + get_or places y 0) 0 (omega (arith, so.size, row_below))) (omega (arith, so.small row))
        go r false e = rw (get_or-set_other load row r (here + get_or places y 0) 0 (eqb-false r row e)) (so.small r)

    -- there is none: the row's load is beyond f already with the jobs so far
    pub overloaded : f - here < get_or places y 0 → false ≡ every rows (capacity_kept rows cost (firsts n 0 frames) f)
    unfolding capacity_kept
    overloaded full =
        let so_far = put (here + get_or places y 0) refl row row_below in
        let stored = get_or-set_same load row (here + get_or places y 0) 0 (omega (arith, so.size, row_below)) in
        let part = row_sum_take rows cost (firsts n 0 frames) (y + 1) row in
        let first_ones = ap (λ (p : List ℕ). row_sum rows cost p row) (take_firsts 0 frames (y + 1) n (omega arith)) in
        sym (every_fails (capacity_kept rows cost (firsts n 0 frames) f) rows row row_below (lt-leb _ f (omega arith)))

  -- all jobs are put
  pub all_loaded : (y : ℕ) (load : List ℕ) → Kept y load → y ≡ n → true ≡ every rows (capacity_kept rows cost (firsts n 0 frames) f)
  unfolding capacity_kept
  all_loaded y load so e =
      sym (says_every (capacity_kept rows cost (firsts n 0 frames) f) rows
      (λ r h. le-leb _ f (omega (arith, so.small r, so.loads r h, ap (λ (k : ℕ). row_sum rows cost (firsts k 0 frames) r) e))))

-- The same on lists side by side: job y has this cost and frame, and so its row.
module _ (rows : ℕ) (cost frames : List ℕ) (f : ℕ) (long : length frames ≡ length cost) (some_row : 0 < rows) (few_rows : rows ≤ 256)
    (y : ℕ) (load : List ℕ) (so : Kept rows cost frames (length cost) f y load) where
  module _ (h : y < length cost) (c k row : ℕ) (c_is : c ≡ get_or cost y 0) (k_is : k ≡ get_or frames y 0) (row_is : row ≡ k % rows) where
    row_of_y : row ≡ get_or frames y 0 % rows
    row_of_y = row_is ∙ ap (λ (j : ℕ). j % rows) k_is

    pub row_in : row < 256
    row_in = rw row_of_y (row_inside rows cost frames (length cost) f some_row few_rows y load so h)

    pub put_more : c ≤ f - get_or load row 0 → (more : ℕ) → more ≡ y + 1 → Kept rows cost frames (length cost) f more (set load row (get_or load row 0 + c))
    put_more room more more_is =
        rw (more_is, row_of_y, c_is) (kept_more rows cost frames (length cost) f some_row few_rows y load so h (rw (← row_of_y, ← c_is) room))

    pub too_full : f - get_or load row 0 < c → false ≡ every rows (capacity_kept rows cost frames f)
    too_full full =
        overloaded rows cost frames (length cost) f some_row few_rows y load so h (rw (← row_of_y, ← c_is) full)
        ∙ rw (firsts_all 0 cost, ← long, firsts_all 0 frames)

  pub all_put : y ≡ length cost → true ≡ every rows (capacity_kept rows cost frames f)
  all_put e =
      all_loaded rows cost frames (length cost) f y load so e ∙ rw (firsts_all 0 cost, ← long, firsts_all 0 frames)
