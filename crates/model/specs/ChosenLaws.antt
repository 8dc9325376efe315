-- The choice is right: it is a plan exactly if there is one, and then the first; 10 and 9 tell whether some length is plausible.
-- Lengths are tried by rising F, so as long as none has been chosen, no plan has fewer than F rows. The search at F rows finds the first plan
-- with that length, or shows that there is none; and a length that is not tried has none, since plausible is necessary. Nothing else is asked of the
-- rule on the windows, so it is a parameter: 01's rule chooses rightly too, and so the same plan.
use Rattle.std.specs.Prelude.{◌≡◌, Bool, cond, ◌⊎◌, ◌↔◌, take, get_or, eqb}
use Rattle.std.proofs.Math.Path.{refl, subst}
use Rattle.std.proofs.Common.{sym, ap, ◌∙◌, inl, inr, ⊎_elim, eq-or-lt_of_le, le-div_iff_mul-le, mul-le-mul_right, arith, get_or-take, eq-eqb, eqb-true}
use Rattle.std.proofs.Math.Bool.{true, false}
use mathlib.Core.List.{List, []}
use Prim.Native.Nat.{ℕ, zero, suc, ◌+◌, ◌/◌, ◌%◌, ◌≤◌, ◌<◌, ◌∣◌}
use Rattle.std.proofs.Math.Nat.{div-mul_cancel, mod-eq-zero_of_dvd, dvd_of_mod-eq-zero, dvd-mul_right, div-eq_of_eq-mul_right}
use Rattle.cursor.specs.ChoiceLaws.{lt_or_ge}
use Rattle.cursor.specs.ParsedLaws.{never, both_true}
use Rattle.arith.specs.Residue.{quotient_pos}
use Rattle.request.specs.declared.Task.{Task}
use Rattle.search.specs.Search.{Found, none, at}
use Rattle.search.specs.Best.{Earlier}
use Rattle.search.specs.Placing.{plan_walk}
use Rattle.search.specs.Plans.{IsPlacing, Right}
use Rattle.search.specs.PlansLaws.{right}
use Rattle.model.specs.Plan.{Instance, rows_at, IsPlan}
use Rattle.model.specs.Plausible.{common_rule, phase_rule, plausible_by, plausible, Needed}
use Rattle.model.specs.Chosen.{problem_at, Choice, chosen, no_plan, no_plausible, is_tried_by, ChoiceWalk, go_on_lengths, walk_lengths_by, choose_walk_by}
use Rattle.model.specs.Chosen.{choose_by, choose, IsChosen, NoPlan, RightBy, RightChoice}
use Rattle.model.specs.ChosenTries.{lengths_end, lengths_skipped, lengths_tried}
use Rattle.model.specs.Good.{Good}
use Rattle.model.specs.PlausibleLaws.{PlausibleBy, plausible_says, plausible_needed, plausible_before}
use Rattle.model.specs.ProblemLaws.{placing_is_plan, plan_is_placing, problem_proper}

-- the plan found with the length f, or else what the rest comes to
unfoldable pub found_or : ℕ → Found → Choice → Choice
found_or f (at frames) rest = chosen f frames
found_or f none rest = rest

on_chooses : (f : ℕ) (o : Found) (t : ℕ) (rest : ChoiceWalk) → (go_on_lengths f o t rest).choice ≡ found_or f o rest.choice
unfolding go_on_lengths found_or
on_chooses f (at frames) t rest = refl
on_chooses f none t rest = refl

-- the choice, a length at a time
module _ (rule : ℕ → Task → Bool) (x : Instance) where
  -- that of the n lengths from the one of F rows on
  abbrev pub choose_from_by : ℕ → ℕ → Bool → Choice
  choose_from_by n rows some = (walk_lengths_by rule x n rows some).choice

  pub choose_end : (rows : ℕ) (some : Bool) → choose_from_by 0 rows some ≡ cond some no_plan no_plausible
  choose_end rows some = ap (λ (w : ChoiceWalk). w.choice) (lengths_end rule x rows some)

  pub choose_skipped : (n rows : ℕ) (some : Bool) → is_tried_by rule x rows ≡ false → choose_from_by (suc n) rows some ≡ choose_from_by n (rows + 1) some
  choose_skipped n rows some e = ap (λ (w : ChoiceWalk). w.choice) (lengths_skipped rule x n rows some e)

  pub choose_tried : (n rows : ℕ) (some : Bool) → is_tried_by rule x rows ≡ true
      → choose_from_by (suc n) rows some ≡ found_or (x.h / rows) (plan_walk (problem_at x (x.h / rows)) []).found (choose_from_by n (rows + 1) true)
  choose_tried n rows some e =
      let w = plan_walk (problem_at x (x.h / rows)) [] in
      ap (λ (w : ChoiceWalk). w.choice) (lengths_tried rule x n rows some e)
      ∙ on_chooses (x.h / rows) w.found w.tries (walk_lengths_by rule x n (rows + 1) true)

-- a length is known by its rows
other_way : (h f rows : ℕ) → 0 < h → f ∣ h → h / f ≡ rows → h / rows ≡ f
other_way h f rows pos d e =
    div-eq_of_eq-mul_right (omega (arith, quotient_pos h f pos d)) (rw e at (sym (div-mul_cancel f d)))

rows_divide : (h f : ℕ) → f ∣ h → h % (h / f) ≡ 0
rows_divide h f d = mod-eq-zero_of_dvd (h / f) (rw (div-mul_cancel f d) at (dvd-mul_right (h / f) f))

-- by a rule that every plan's length keeps
module _ (x : Instance) (g : Good x) (rule : ℕ → Task → Bool) (needed : Needed rule x) where
  tried_says : (rows : ℕ) → is_tried_by rule x rows ≡ true → (x.h % rows ≡ 0) × (plausible_by rule x (x.h / rows) ≡ true)
  unfolding is_tried_by
  tried_says rows e =
      let b = both_true (eqb (x.h % rows) 0) _ e in
      (eqb-true (x.h % rows) 0 b.0, b.1)

  -- every plausible length is tried
  plausible_tried : (f : ℕ) → plausible_by rule x f ≡ true → is_tried_by rule x (rows_at x f) ≡ true
  unfolding is_tried_by
  plausible_tried f e =
      let p : PlausibleBy rule x f = plausible_says x f e in
      rw (eq-eqb (x.h % rows_at x f) 0 (rows_divide x.h f p.divides), other_way x.h f (rows_at x f) g.some_time p.divides refl) e

  -- so far: no plan has fewer rows, and no plausible length either, unless `some` says so
  record Passed (rows : ℕ) (some : Bool) : Type 0 where
    plans : (f : ℕ) (frames : List ℕ) → IsPlan x f frames → rows ≤ rows_at x f
    lengths : some ≡ false → (f : ℕ) → plausible_by rule x f ≡ true → rows ≤ rows_at x f
    known : some ≡ true → (f : ℕ) × (plausible_by rule x f ≡ true)

  choice_ends : (rows : ℕ) (some : Bool) → 256 < rows → Passed rows some → RightBy (plausible_by rule x) x (cond some no_plan no_plausible)
  unfolding RightBy
  choice_ends rows some h v = go some refl
    where
      no_plan_lem : NoPlan x
      no_plan_lem f frames p = omega (arith, v.plans f frames p, p.few_rows)

      go : (b : Bool) → some ≡ b → RightBy (plausible_by rule x) x (cond b no_plan no_plausible)
      go true e = (no_plan_lem, v.known e)
      go false e = (no_plan_lem, λ f p. omega (arith, v.lengths e f p, (plausible_says x f p).few_rows))

  -- a length is passed over
  skipped : (rows : ℕ) (some : Bool) → is_tried_by rule x rows ≡ false → Passed rows some → Passed (rows + 1) some
  skipped rows some e v = record {
    plans = λ f frames p. more f (v.plans f frames p) (needed f frames p);
    lengths = λ q f p. more f (v.lengths q f p) p;
    known = v.known;
  }
    where
      more : (f : ℕ) → rows ≤ rows_at x f → plausible_by rule x f ≡ true → rows + 1 ≤ rows_at x f
      more f h p =
          ⊎_elim (λ q. absurd (never (let t = plausible_tried f p in let u : is_tried_by rule x (rows_at x f) ≡ false = rw q at e in cc)))
          (λ k. omega arith) (eq-or-lt_of_le h)

  -- a length is tried: what it finds is the choice, and if it finds none, there is none with that length
  module _ (rows : ℕ) (some : Bool) (e : is_tried_by rule x rows ≡ true) (v : Passed rows some) where
    abbrev f : ℕ
    f = x.h / rows

    can : PlausibleBy rule x f
    can = plausible_says x f (tried_says rows e).1

    -- the plans with this length are those with this many rows
    rows_of : rows_at x f ≡ rows
    rows_of = other_way x.h rows f g.some_time (dvd_of_mod-eq-zero rows (tried_says rows e).0) refl

    found : (frames : List ℕ) → IsPlacing (problem_at x f) frames → ((q : List ℕ) → IsPlacing (problem_at x f) q → (frames ≡ q) ⊎ Earlier frames q)
        → IsChosen x f frames
    found frames placing first = record {
      is_plan = placing_is_plan x g f can.some can.divides can.few_rows frames placing;
      first = λ f' frames' p. go f' frames' p (eq-or-lt_of_le (smaller f' frames' p));
    }
      where
        smaller : (f' : ℕ) (frames' : List ℕ) → IsPlan x f' frames' → f' ≤ f
        smaller f' frames' p =
            let some_row : 0 < rows = rw rows_of at (quotient_pos x.h f g.some_time can.divides) in
            (le-div_iff_mul-le some_row).1 (omega (arith, mul-le-mul_right f' (v.plans f' frames' p), div-mul_cancel f' p.divides))

        go : (f' : ℕ) (frames' : List ℕ) → IsPlan x f' frames' → (f' ≡ f) ⊎ (f' < f)
            → (f' < f) ⊎ ((f' ≡ f) × ((frames ≡ frames') ⊎ Earlier frames frames'))
        go f' frames' p (inl q) = inr (q, first frames' (plan_is_placing x g f frames' (subst (λ k. IsPlan x k frames') q p)))
        go f' frames' p (inr h) = inl h

    not_found : ((q : List ℕ) → IsPlacing (problem_at x f) q → ⊥) → Passed (rows + 1) true
    not_found never_placed = record {
      plans = λ f' frames p. ⊎_elim (λ q. absurd (not_here f' frames p q)) (λ k. omega arith) (eq-or-lt_of_le (v.plans f' frames p));
      lengths = λ q. absurd (never (cc));
      known = λ q. (f, (tried_says rows e).1);
    }
      where
        same : (f' : ℕ) (frames : List ℕ) → IsPlan x f' frames → rows ≡ rows_at x f' → f' ≡ f
        same f' frames p q = sym (other_way x.h f' rows g.some_time p.divides (sym q))

        not_here : (f' : ℕ) (frames : List ℕ) → IsPlan x f' frames → rows ≡ rows_at x f' → ⊥
        not_here f' frames p q = never_placed frames (plan_is_placing x g f frames (subst (λ k. IsPlan x k frames) (same f' frames p q) p))

  choice_right : (n rows : ℕ) (some : Bool) → rows + n ≡ 257 → Passed rows some → RightBy (plausible_by rule x) x (choose_from_by rule x n rows some)
  unfolding found_or Right RightBy
  choice_right zero rows some size v = rw (choose_end rule x rows some) (choice_ends rows some (omega arith) v)
  choice_right (suc n) rows some size v = go (is_tried_by rule x rows) refl (choice_right n (rows + 1))
    where
      found_or_lem : (o : Found) → is_tried_by rule x rows ≡ true → Right (problem_at x (x.h / rows)) o
          → ((some' : Bool) → rows + 1 + n ≡ 257 → Passed (rows + 1) some' → RightBy (plausible_by rule x) x (choose_from_by rule x n (rows + 1) some'))
          → RightBy (plausible_by rule x) x (found_or (x.h / rows) o (choose_from_by rule x n (rows + 1) true))
      found_or_lem none e r rest = rest true (omega arith) (not_found rows some e v r)
      found_or_lem (at frames) e r rest = found rows some e v frames r.0 r.1

      go : (b : Bool) → is_tried_by rule x rows ≡ b
          → ((some' : Bool) → rows + 1 + n ≡ 257 → Passed (rows + 1) some' → RightBy (plausible_by rule x) x (choose_from_by rule x n (rows + 1) some'))
          → RightBy (plausible_by rule x) x (choose_from_by rule x (suc n) rows some)
      go true e rest =
          let here = problem_at x (x.h / rows) in
          rw (choose_tried rule x n rows some e)
          (found_or_lem (plan_walk here []).found e (right here (problem_proper x g (x.h / rows) (plausible_says x (x.h / rows) (tried_says rows e).1))) rest)
      go false e rest = rw (choose_skipped rule x n rows some e) (rest some (omega arith) (skipped rows some e v))

  -- THE THEOREM: the choice is right.
  pub choose_by_right : RightBy (plausible_by rule x) x (choose_by rule x)
  unfolding choose_walk_by
  choose_by_right =
      choice_right 256 1 false (omega arith) (record {
        plans = λ f frames p. quotient_pos x.h f g.some_time p.divides;
        lengths = λ q f p. quotient_pos x.h f g.some_time (plausible_says x f p).divides;
        known = λ q. absurd (never (cc));
      })

-- that of the planner
pub choose_right : (x : Instance) → Good x → RightChoice x (choose x)
choose_right x g = choose_by_right x g phase_rule (plausible_needed x g)

-- Two lists are not each earlier than the other.
not_both_earlier : (a b : List ℕ) → Earlier a b → Earlier b a → ⊥
not_both_earlier a b p q = go (lt_or_ge p.place q.place) (lt_or_ge q.place p.place)
  where
    agree : (c d : List ℕ) (n i : ℕ) → take n c ≡ take n d → i < n → get_or c i 0 ≡ get_or d i 0
    agree c d n i e h = sym (get_or-take n c i 0 h) ∙ ap (λ l. get_or l i 0) e ∙ get_or-take n d i 0 h

    go : (p.place < q.place) ⊎ (q.place ≤ p.place) → (q.place < p.place) ⊎ (p.place ≤ q.place) → ⊥
    go (inl h) t = omega (arith, p.less, agree b a q.place p.place q.same h)
    go (inr s) (inl h) = omega (arith, q.less, agree a b p.place q.place p.same h)
    go (inr s) (inr t) =
        let e : p.place ≡ q.place = omega arith in
        let less : get_or a q.place 0 < get_or b q.place 0 = rw e at p.less in
        omega (arith, q.less)

-- There is one chosen plan at most.
chosen_once : (x : Instance) (f f' : ℕ) (frames frames' : List ℕ) → IsChosen x f frames → IsChosen x f' frames' → (f ≡ f') × (frames ≡ frames')
chosen_once x f f' frames frames' c c' = go (c.first f' frames' c'.is_plan) (c'.first f frames c.is_plan)
  where
    go : (f' < f) ⊎ ((f' ≡ f) × ((frames ≡ frames') ⊎ Earlier frames frames')) → (f < f') ⊎ ((f ≡ f') × ((frames' ≡ frames) ⊎ Earlier frames' frames))
        → (f ≡ f') × (frames ≡ frames')
    go (inl h) (inl k) = absurd (omega arith)
    go (inl h) (inr (e, r)) = absurd (omega arith)
    go (inr (e, inl r)) t = (sym e, r)
    go (inr (e, inr r)) (inl k) = absurd (omega arith)
    go (inr (e, inr r)) (inr (d, inl s)) = (d, sym s)
    go (inr (e, inr r)) (inr (d, inr s)) = absurd (not_both_earlier frames frames' r s)

-- A test that fewer lengths pass chooses the same plan; it may turn 10 into 9, and nothing else.
choice_moves : (x : Instance) (test less : ℕ → Bool) → ((f : ℕ) → less f ≡ true → test f ≡ true) → (c d : Choice) → RightBy test x c → RightBy less x d
    → (c ≡ d) ⊎ ((c ≡ no_plan) × (d ≡ no_plausible))
unfolding RightBy
choice_moves x test less passes (chosen f frames) (chosen f' frames') r r' = inl (let (s, t) = chosen_once x f f' frames frames' r r' in rw (s, t))
choice_moves x test less passes (chosen f frames) no_plan r r' = absurd (r'.0 f frames r.is_plan)
choice_moves x test less passes (chosen f frames) no_plausible r r' = absurd (r'.0 f frames r.is_plan)
choice_moves x test less passes no_plan (chosen f frames) r r' = absurd (r.0 f frames r'.is_plan)
choice_moves x test less passes no_plan no_plan r r' = inl refl
choice_moves x test less passes no_plan no_plausible r r' = inr (refl, refl)
choice_moves x test less passes no_plausible (chosen f frames) r r' = absurd (r.0 f frames r'.is_plan)
choice_moves x test less passes no_plausible no_plan r r' = absurd (r.1 r'.1.0 (passes r'.1.0 r'.1.1))
choice_moves x test less passes no_plausible no_plausible r r' = inl refl

module _ (x : Instance) (g : Good x) where
  -- Against 01's rule: the same choice, or no plan where now no length is plausible.
  pub choice_moved : (choose_by common_rule x ≡ choose x) ⊎ ((choose_by common_rule x ≡ no_plan) × (choose x ≡ no_plausible))
  choice_moved =
      choice_moves x (plausible_by common_rule x) (plausible x) (plausible_before x) (choose_by common_rule x) (choose x)
      (choose_by_right x g common_rule (λ f frames p. plausible_before x f (plausible_needed x g f frames p))) (choose_right x g)

  -- A plan is the choice exactly if it is the first of all plans.
  pub chosen_exactly : (f : ℕ) (frames : List ℕ) → (choose x ≡ chosen f frames) ↔ IsChosen x f frames
  unfolding RightBy
  chosen_exactly f frames = (λ e. subst (RightChoice x) e (choose_right x g), λ c. go c (choose x) refl (choose_right x g))
    where
      go : IsChosen x f frames → (c : Choice) → choose x ≡ c → RightChoice x c → choose x ≡ chosen f frames
      go c (chosen f' frames') e r = let (s, t) = chosen_once x f f' frames frames' c r in rw (e, s, t)
      go c no_plan e r = absurd (r.0 f frames c.is_plan)
      go c no_plausible e r = absurd (r.0 f frames c.is_plan)

  -- There is a choice exactly if there is a plan.
  pub some_chosen_exactly : ((f : ℕ) × (frames : List ℕ) × (choose x ≡ chosen f frames)) ↔ ((f : ℕ) × (frames : List ℕ) × IsPlan x f frames)
  unfolding RightBy
  some_chosen_exactly =
      (λ c. (c.0, c.1, ((chosen_exactly c.0 c.1).0 c.2).is_plan), λ p. go p.0 p.1 p.2 (choose x) refl (choose_right x g))
    where
      go : (f : ℕ) (frames : List ℕ) → IsPlan x f frames → (c : Choice) → choose x ≡ c → RightChoice x c
          → (f : ℕ) × (frames : List ℕ) × (choose x ≡ chosen f frames)
      go f frames p (chosen f' frames') e r = (f', frames', e)
      go f frames p no_plan e r = absurd (r.0 f frames p)
      go f frames p no_plausible e r = absurd (r.0 f frames p)
