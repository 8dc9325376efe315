-- One step: a draft d with job y lifted, and the same draft e with y put into frame k. The sums differ by the job's C + g in the row of k alone. So d is sound if
-- e is; and e is sound if d is, k lies in the window, the row has room and no pair is out of order. A lift goes from e to d, a put from d to e.
use Rattle.std.specs.Prelude.{ℕ, ◌+◌, ◌-◌, ◌≤◌, ◌<◌, ◌≡◌, refl, Bool, true, false, cond, List, length, get_or, set, eqb}
use Rattle.std.proofs.Common.{sym, ap, subst, ◌∙◌, inl, inr, ⊎_elim, mod-lt, arith, length-set, ext_get_or, get_or-set_same, get_or-set_other, eq-eqb, eqb-true}
use Rattle.std.proofs.lemmas.Bool.{eqb-false}
use Rattle.arith.specs.Residue.{quotient_pos}
use Rattle.cursor.specs.ChoiceLaws.{lt_or_ge}
use Rattle.model.specs.Plan.{Instance}
use Rattle.model.specs.Good.{Good}
use Rattle.model.specs.PlausibleLaws.{IsPlausible, plausible_says}
use Rattle.draft.specs.Draft.{lifted, frame_of, load_at, row_count, sum_of, row_in, cost_at, after_lift, after_put}
use Rattle.draft.specs.Kept.{Sized, IsLifted, IsPlaced, LinkedBy, Sound}
use Rattle.draft.specs.SumLaws.{placed_cost}
use Rattle.draft.specs.declared.Draft.{Draft}
use Rattle.draft_moves.specs.Exactly.{InItsWindow, RowOver, OutOfOrder, Touched, Lifted, Put}
use Rattle.draft_moves.specs.SumsAre.{sum_means}

-- the rows of a frame length that is plausible
module _ (x : Instance) (g : Good x) (d : Draft) (s : Sound x d) where
  can : IsPlausible x d.f
  can = plausible_says x d.f s.plausible_f

  pub some_length : 0 < d.f
  some_length = can.some

  pub few_rows : row_count x d ≤ 256
  few_rows = can.few_rows

  pub row_low : (k : ℕ) → row_in x d k < row_count x d
  row_low k = mod-lt k (quotient_pos x.h d.f g.some_time can.divides)

module _ (x : Instance) (g : Good x) (d : Draft) (sized : Sized d) (y k : ℕ) (up : IsLifted x d y) (frame : k ≡ lifted → ⊥) where
  abbrev e : Draft
  e = after_put x d y k

  in_range : y < length d.frames
  in_range = omega (arith, up.known, g.few_jobs, sized.frames_are)

  there : frame_of x e y ≡ k
  there = get_or-set_same d.frames y k 0 in_range

  others : (z : ℕ) → (z ≡ y → ⊥) → frame_of x e z ≡ frame_of x d z
  others z ne = get_or-set_other d.frames y z k 0 ne

  now_placed : IsPlaced x e y
  now_placed = record { known = up.known; down = λ q. frame (sym there ∙ q) }

  was_placed : (z : ℕ) → (z ≡ y → ⊥) → IsPlaced x e z → IsPlaced x d z
  was_placed z ne p = record { known = p.known; down = λ q. p.down (others z ne ∙ q) }

  still_placed : (z : ℕ) → IsPlaced x d z → (z ≡ y → ⊥) × IsPlaced x e z
  still_placed z p =
      let ne : z ≡ y → ⊥ = λ q. p.down (ap (frame_of x d) q ∙ up.up) in
      (ne, record { known = p.known; down = λ q. p.down (sym (others z ne) ∙ q) })

  sums : (r : ℕ) → sum_of x e r ≡ sum_of x d r + cond (eqb (row_in x d k) r) (cost_at x d y) 0
  sums r = (sum_means x g d sized).one_more e y k r up frame refl refl

  loads : row_in x d k < 256 → (r : ℕ) → load_at x e r ≡ load_at x d r + cond (eqb (row_in x d k) r) (cost_at x d y) 0
  loads low r = go (eqb (row_in x d k) r) refl
    where
      go : (b : Bool) → eqb (row_in x d k) r ≡ b
          → get_or (set d.loads (row_in x d k) (load_at x d (row_in x d k) + cost_at x d y)) r 0 ≡ load_at x d r + cond b (cost_at x d y) 0
      go true q =
          let is : row_in x d k ≡ r = eqb-true _ _ q in
          ap (λ (i : ℕ). get_or (set d.loads (row_in x d k) (load_at x d (row_in x d k) + cost_at x d y)) i 0) (sym is)
          ∙ get_or-set_same d.loads (row_in x d k) (load_at x d (row_in x d k) + cost_at x d y) 0 (omega (arith, low, sized.loads_are))
          ∙ ap (λ (s : ℕ). load_at x d s + cost_at x d y) is
      go false q =
          get_or-set_other d.loads (row_in x d k) r (load_at x d (row_in x d k) + cost_at x d y) 0 (λ w. eqb-false _ _ q (sym w))
          ∙ omega arith

  pub put_touches : Touched x d e y (row_in x d k)
  put_touches = record {
    same_f = refl;
    sized = record {
      frames_are = length-set d.frames y k ∙ sized.frames_are;
      loads_are = length-set d.loads (row_in x d k) (load_at x d (row_in x d k) + cost_at x d y) ∙ sized.loads_are;
    };
    other_jobs = others;
    other_rows = λ s ne. get_or-set_other d.loads (row_in x d k) s (load_at x d (row_in x d k) + cost_at x d y) 0 ne;
  }

  -- without the job
  pub without : Sound x e → Sound x d
  without s = record {
    plausible_f = s.plausible_f;
    loads_are = λ r low. omega (arith, s.loads_are r low, sums r, loads (omega (arith, row_low x g e s k, few_rows x g e s)) r);
    not_early = λ z p. let (ne, q) = still_placed z p in rw (others z ne) at (s.not_early z q);
    not_late = λ z p. let (ne, q) = still_placed z p in rw (others z ne) at (s.not_late z q);
    capacity = λ r low. omega (arith, s.capacity r low, sums r);
    order = λ u a b l pa pb.
        let (na, qa) = still_placed a pa in
        let (nb, qb) = still_placed b pb in
        omega (arith, others a na, others b nb, s.order u a b l qa qb);
  }

  module _ (s : Sound x d) where
    row_few : row_in x d k < 256
    row_few = omega (arith, row_low x g d s k, few_rows x g d s)

    pub put_loads : load_at x e (row_in x d k) ≡ load_at x d (row_in x d k) + cost_at x d y
    put_loads = let here : eqb (row_in x d k) (row_in x d k) ≡ true = eq-eqb (row_in x d k) (row_in x d k) refl in rw here at (loads row_few (row_in x d k))

    -- with the job
    module _ (w : InItsWindow x d y k) (room : RowOver x d y k → ⊥) (order : OutOfOrder x d y k → ⊥) where
      fits : (r : ℕ) → r < row_count x d → sum_of x d r + cond (eqb (row_in x d k) r) (cost_at x d y) 0 ≤ d.f
      fits r low = go (eqb (row_in x d k) r) refl
        where
          go : (b : Bool) → eqb (row_in x d k) r ≡ b → sum_of x d r + cond b (cost_at x d y) 0 ≤ d.f
          go true q =
              let is : row_in x d k ≡ r = eqb-true _ _ q in
              ⊎_elim (λ over. absurd (room (subst (λ (i : ℕ). d.f < sum_of x d i + cost_at x d y) (sym is) over))) (λ le. le)
              (lt_or_ge d.f (sum_of x d r + cost_at x d y))
          go false q = omega (arith, s.capacity r low)

      in_order : (u a b : ℕ) → LinkedBy x u a b → IsPlaced x e a → IsPlaced x e b → frame_of x e a ≤ frame_of x e b
      in_order u a b l pa pb = cases (eqb a y) refl (eqb b y) refl
        where
          cases : (p : Bool) → eqb a y ≡ p → (q : Bool) → eqb b y ≡ q → frame_of x e a ≤ frame_of x e b
          cases true p true q =
              let same : frame_of x e a ≡ frame_of x e b = ap (frame_of x e) (eqb-true _ _ p ∙ sym (eqb-true _ _ q)) in omega arith
          cases true p false q =
              let is : a ≡ y = eqb-true _ _ p in
              let ne : b ≡ y → ⊥ = eqb-false _ _ q in
              let ka : frame_of x e a ≡ k = ap (frame_of x e) is ∙ there in
              ⊎_elim (λ (lt : frame_of x d b < k). absurd (order (u, b, was_placed b ne pb, inl (subst (λ (v : ℕ). LinkedBy x u v b) is l, lt))))
              (λ le. omega (arith, ka, others b ne)) (lt_or_ge (frame_of x d b) k)
          cases false p true q =
              let is : b ≡ y = eqb-true _ _ q in
              let ne : a ≡ y → ⊥ = eqb-false _ _ p in
              let kb : frame_of x e b ≡ k = ap (frame_of x e) is ∙ there in
              ⊎_elim (λ (lt : k < frame_of x d a). absurd (order (u, a, was_placed a ne pa, inr (subst (λ (v : ℕ). LinkedBy x u a v) is l, lt))))
              (λ le. omega (arith, kb, others a ne)) (lt_or_ge k (frame_of x d a))
          cases false p false q =
              let na : a ≡ y → ⊥ = eqb-false _ _ p in
              let nb : b ≡ y → ⊥ = eqb-false _ _ q in
              omega (arith, others a na, others b nb, s.order u a b l (was_placed a na pa) (was_placed b nb pb))

      windows : (z : ℕ) → IsPlaced x e z → InItsWindow x d z (frame_of x e z)
      windows z p = go (eqb z y) refl
        where
          go : (b : Bool) → eqb z y ≡ b → InItsWindow x d z (frame_of x e z)
          go true q =
              let is : z ≡ y = eqb-true _ _ q in
              let at_k : frame_of x e z ≡ k = ap (frame_of x e) is ∙ there in
              rw (at_k, is) w
          go false q =
              let ne : z ≡ y → ⊥ = eqb-false _ _ q in
              let old = was_placed z ne p in
              rw (others z ne) (record { not_early = s.not_early z old; not_late = s.not_late z old })

      pub with_it : Sound x e
      with_it = record {
        plausible_f = s.plausible_f;
        loads_are = λ r low. omega (arith, s.loads_are r low, sums r, loads row_few r);
        not_early = λ z p. (windows z p).not_early;
        not_late = λ z p. (windows z p).not_late;
        capacity = λ r low. omega (arith, fits r low, sums r);
        order = in_order;
      }

    -- a sound draft with the job there has room, and no pair out of order
    module _ (t : Sound x e) where
      pub had_room : RowOver x d y k → ⊥
      had_room over =
          let here : eqb (row_in x d k) (row_in x d k) ≡ true = eq-eqb (row_in x d k) (row_in x d k) refl in
          let sum = rw here at (sums (row_in x d k)) in
          omega (arith, over, sum, t.capacity (row_in x d k) (row_low x g d s k))

      pub had_order : OutOfOrder x d y k → ⊥
      had_order (u, z, placed, side) =
          let (ne, pz) = still_placed z placed in
          ⊎_elim
          (λ l. omega (arith, there, others z ne, l.1, t.order u y z l.0 now_placed pz))
          (λ l. omega (arith, there, others z ne, l.1, t.order u z y l.0 pz now_placed))
          side

      pub is_put : Put x d y k e
      is_put = record { touched = put_touches; now_there = there; now_placed = now_placed; load_more = put_loads; sound = t }

-- A lift: the draft before it is the draft after it with the job put back.
module _ (x : Instance) (g : Good x) (d : Draft) (sized : Sized d) (s : Sound x d) (y : ℕ) (p : IsPlaced x d y) where
  abbrev lower : Draft
  lower = after_lift x d y

  abbrev row : ℕ
  row = row_in x d (frame_of x d y)

  low : row < length d.loads
  low = omega (arith, row_low x g d s (frame_of x d y), few_rows x g d s, sized.loads_are)

  has : cost_at x d y ≤ load_at x d row
  has = omega (arith, placed_cost x d y p.known p.down, s.loads_are row (row_low x g d s (frame_of x d y)))

  job_low : y < length d.frames
  job_low = omega (arith, p.known, g.few_jobs, sized.frames_are)

  touches : Touched x d lower y row
  touches = record {
    same_f = refl;
    sized = record {
      frames_are = length-set d.frames y lifted ∙ sized.frames_are;
      loads_are = length-set d.loads row (load_at x d row - cost_at x d y) ∙ sized.loads_are;
    };
    other_jobs = λ z ne. get_or-set_other d.frames y z lifted 0 ne;
    other_rows = λ r ne. get_or-set_other d.loads row r (load_at x d row - cost_at x d y) 0 ne;
  }

  is_up : IsLifted x lower y
  is_up = record { known = p.known; up = get_or-set_same d.frames y lifted 0 job_low }

  less : load_at x lower row ≡ load_at x d row - cost_at x d y
  less = get_or-set_same d.loads row (load_at x d row - cost_at x d y) 0 low

  -- a place that is stored into twice holds what it held
  back_again : (l : List ℕ) (i a b : ℕ) → i < length l → b ≡ get_or l i 0 → set (set l i a) i b ≡ l
  back_again l i a b h is = ext_get_or 0 (set (set l i a) i b) l size (λ j low. go j (eqb j i) refl)
    where
      size : length (set (set l i a) i b) ≡ length l
      size = length-set (set l i a) i b ∙ length-set l i a

      go : (j : ℕ) (t : Bool) → eqb j i ≡ t → get_or (set (set l i a) i b) j 0 ≡ get_or l j 0
      go j true q =
          let same : j ≡ i = eqb-true _ _ q in
          rw same (get_or-set_same (set l i a) i b 0 (omega (arith, length-set l i a)) ∙ is)
      go j false q = let ne = eqb-false _ _ q in get_or-set_other (set l i a) i j b 0 ne ∙ get_or-set_other l i j a 0 ne

  put_back : after_put x lower y (frame_of x d y) ≡ d
  put_back =
      let frames : set (set d.frames y lifted) y (frame_of x d y) ≡ d.frames = back_again d.frames y lifted (frame_of x d y) job_low refl in
      let rest : ℕ = load_at x d row - cost_at x d y in
      let load : get_or (set d.loads row rest) row 0 + cost_at x d y ≡ load_at x d row = omega (arith, has, get_or-set_same d.loads row rest 0 low) in
      let loads : set (set d.loads row rest) row (get_or (set d.loads row rest) row 0 + cost_at x d y) ≡ d.loads
      = back_again d.loads row rest (get_or (set d.loads row rest) row 0 + cost_at x d y) low load in
      λ i. record { f = d.f; frames = frames i; loads = loads i }

  pub is_lifted_lem : Lifted x d y lower
  is_lifted_lem = record {
    touched = touches;
    now_up = is_up.up;
    load_less = omega (arith, less, has);
    sound = without x g lower touches.sized y (frame_of x d y) is_up p.down (subst (Sound x) (sym put_back) s);
  }
