-- Of the frames of two cycles the first that fits is found, or none fits. A frame that fits ends by e, which is at most 2H: so it is one of those.
use Rattle.std.specs.Prelude.{ℕ, zero, suc, ◌+◌, ◌*◌, ◌≤◌, ◌<◌, ◌≡◌, Bool, ◌&&◌, ◌⊎◌, List, eqb}
use Rattle.std.proofs.Math.Path.{refl}
use Rattle.std.proofs.Common.{sym, ap, subst, ◌∙◌, le_of_mul-le-mul_right, arith}
use Rattle.std.proofs.Math.Bool.{true, false}
use Rattle.std.proofs.Math.Logic.{inl, inr, ⊎_elim}
use Rattle.std.proofs.Math.ListN.{length}
use Rattle.std.proofs.Math.Dec.{leb, ltb}
use borrow.Author.Tests.{ltb-true, ltb-false, leb-true, leb-false, eqb-true, eqb-false, le-leb, eq-eqb}
use Rattle.cursor.specs.ChoiceLaws.{lt_or_ge}
use Rattle.cursor.specs.Fields.{Bytes}
use Rattle.cursor.specs.ParsedLaws.{never, both_true}
use Rattle.cycle.specs.Cycle.{cycle_of}
use Rattle.table.specs.Table.{Table, decode}
use Rattle.table.specs.TableBytes.{SaysTable}
use Rattle.table.specs.TableBytesLaws.{says_decodes}
use Rattle.model.specs.Plan.{Instance, IsPlan}
use Rattle.model.specs.PlanLaws.{length_pos}
use Rattle.model.specs.Within.{Within}
use Rattle.model.specs.WithinLaws.{within_good}
use Rattle.model.specs.Described.{Accepted}
use Rattle.checker.specs.Checked as checker
use Rattle.checker.specs.Checked.{check_number}
use Rattle.checker.specs.Verdicts.{refusal_number}
use Rattle.checker.specs.Exactly.{OfBoth}
use Rattle.checker.specs.ExactlyLaws.{check_exact}
use Rattle.one_off.specs.OneOff.{in_frame, refusal, frame_fits, well_asked, earliest, offered, one_off}
use Rattle.one_off.specs.StepLaws.{earliest_of, check_refuses}
use Rattle.one_off.specs.Exactly.{Fits, BadlyAsked, NoneFits, IsEarliest, AskedBadly, NoFrame, TheFrame, OneOffExact}

-- The first frame of some

pub record FirstAt (fits : ℕ → Bool) (k l : ℕ) : Type 0 where
  pub holds : fits l ≡ true
  pub none_before : (j : ℕ) → k ≤ j → j < l → fits j ≡ true → ⊥

-- of n frames from k on: the first that fits, or that there is none
abbrev Sought : (ℕ → Bool) → ℕ → ℕ → Type 0
Sought fits n k = ((l : ℕ) × (earliest_of fits n k ≡ in_frame l) × FirstAt fits k l)
    ⊎ ((earliest_of fits n k ≡ refusal 22) × ((j : ℕ) → k ≤ j → j < k + n → fits j ≡ true → ⊥))

sought : (fits : ℕ → Bool) (n k : ℕ) → Sought fits n k
sought fits zero k = inr (refl, λ j a b q. omega arith)
sought fits (suc n) k = go (fits k) refl (sought fits n (k + 1))
  where
    further : fits k ≡ false → (j : ℕ) → k ≤ j → fits j ≡ true → k + 1 ≤ j
    further q j a h = go (eqb k j) refl
      where
        go : (b : Bool) → eqb k j ≡ b → k + 1 ≤ j
        go true w = absurd (never (let z : true ≡ false = sym h ∙ subst (λ (i : ℕ). fits i ≡ false) (eqb-true k j w) q in cc))
        go false w = let ne = eqb-false k j w in omega arith

    go : (b : Bool) → fits k ≡ b → Sought fits n (k + 1) → Sought fits (suc n) k
    go true q rest = inl (k, rw q, record { holds = q; none_before = λ j a b w. omega arith })
    go false q rest =
        ⊎_elim
        (λ w. inl (w.0, rw q w.1, record { holds = w.2.holds; none_before = λ j a b h. w.2.none_before j (further q j a h) b h }))
        (λ w. inr (rw q w.0, λ j a b h. w.1 j (further q j a h) (omega arith) h))
        rest

-- The tests

module _ (L s e : ℕ) where
  module _ (x : Instance) (t : Table) (k : ℕ) where
    fits_says : frame_fits L s e x t k ≡ true → Fits x t L s e k
    unfolding frame_fits
    fits_says q =
        let a = both_true (leb s (k * t.f)) _ q in
        let b = both_true (leb ((k + 1) * t.f) e) _ a.1 in
        record { not_early = leb-true s _ a.0; not_late = leb-true _ e b.0; enough = leb-true _ t.f b.1 }

    says_fits : Fits x t L s e k → frame_fits L s e x t k ≡ true
    unfolding frame_fits
    says_fits w = rw (le-leb s _ w.not_early, le-leb _ e w.not_late) (le-leb _ t.f w.enough)

  well_says : (h : ℕ) → well_asked L s e h ≡ true → BadlyAsked h L s e → ⊥
  unfolding well_asked
  well_says h q =
      let a = both_true (ltb 0 L) _ q in
      let b = both_true (leb s e) _ a.1 in
      ⊎_elim (λ w. omega (arith, ltb-true 0 L a.0))
      (⊎_elim (λ w. omega (arith, leb-true s e b.0)) (λ w. omega (arith, leb-true e (2 * h) b.1)))

  badly_says : (h : ℕ) → well_asked L s e h ≡ false → BadlyAsked h L s e
  unfolding well_asked
  badly_says h q = go (ltb 0 L) refl (leb s e) refl (leb e (2 * h)) refl q
    where
      go : (a : Bool) → ltb 0 L ≡ a → (b : Bool) → leb s e ≡ b → (c : Bool) → leb e (2 * h) ≡ c → a && (b && c) ≡ false → BadlyAsked h L s e
      go false p b r c w z = inl (let none = ltb-false 0 L p in omega arith)
      go true p false r c w z = inr (inl (leb-false s e r))
      go true p true r false w z = inr (inr (leb-false e (2 * h) w))
      go true p true r true w z = absurd (never (cc))

module _ (request bytes : List ℕ) (L s e : ℕ) where
  -- what is answered of an accepted table
  abbrev Answered : Instance → Table → Type 0
  Answered x t =
      (BadlyAsked x.h L s e × (one_off L s e request bytes ≡ refusal 21))
      ⊎ ((BadlyAsked x.h L s e → ⊥)
      × ((NoneFits x t L s e × (one_off L s e request bytes ≡ refusal 22)) ⊎ ((k : ℕ) × IsEarliest x t L s e k × (one_off L s e request bytes ≡ in_frame k))))

  module _ (are : Bytes bytes) where
    module _ (x : Instance) (within : Within request x) (t : Table) (says : SaysTable bytes t) (a : Accepted x t) where
      pass : check_number request bytes ≡ 0
      pass = (check_exact request bytes are).accepts.1 (x, within, t, says, a)

      offered_is : one_off L s e request bytes ≡ offered L s e x t
      unfolding one_off
      offered_is = rw (eq-eqb (check_number request bytes) 0 pass, within, says_decodes bytes t says)

      -- a frame that ends by 2H is one of two cycles
      in_two_cycles : e ≤ 2 * x.h → (k : ℕ) → Fits x t L s e k → k < 2 * length t.rows
      in_two_cycles short k w =
          let d = a.describes in
          let some : 0 < t.f = length_pos x (within_good request x within) t.f a.frames (subst (λ (f : ℕ). IsPlan x f a.frames) (sym d.same_f) a.is_plan) in
          let by : (k + 1) * t.f ≤ (2 * length t.rows) * t.f = omega (arith, w.not_late, d.form.whole, d.same_h) in
          omega (arith, le_of_mul-le-mul_right by some)

      answered : Answered x t
      unfolding offered earliest
      answered = go (well_asked L s e x.h) refl
        where
          searched : well_asked L s e x.h ≡ true → Sought (frame_fits L s e x t) (2 * length t.rows) 0 → Answered x t
          searched q w =
              let well = well_says L s e x.h q in
              let is : one_off L s e request bytes ≡ earliest_of (frame_fits L s e x t) (2 * length t.rows) 0 = offered_is ∙ rw q in
              let short : e ≤ 2 * x.h = ends q in
              inr (
                well,
                ⊎_elim
                    (λ v. inr (
                      v.0,
                      record {
                        fits = fits_says L s e x t v.0 v.2.holds;
                        none_before = λ l b h. v.2.none_before l (omega arith) b (says_fits L s e x t l h);
                      },
                      is ∙ v.1,
                    ))
                    (λ v. inl (λ k h. v.1 k (omega arith) (omega (arith, in_two_cycles short k h)) (says_fits L s e x t k h), is ∙ v.0))
                    w,
              )
            where
              ends : well_asked L s e x.h ≡ true → e ≤ 2 * x.h
              ends q = go (leb e (2 * x.h)) refl
                where
                  go : (b : Bool) → leb e (2 * x.h) ≡ b → e ≤ 2 * x.h
                  go true r = leb-true e (2 * x.h) r
                  go false r = absurd (well_says L s e x.h q (inr (inr (leb-false e (2 * x.h) r))))

          go : (b : Bool) → well_asked L s e x.h ≡ b → Answered x t
          go true q = searched q (sought (frame_fits L s e x t) (2 * length t.rows) 0)
          go false q = inl (badly_says L s e x.h q, offered_is ∙ rw q)

    -- the check's number, or an accepted table's answer
    cases : (Goal : Type 0)
        → ((n : ℕ) → n ≤ 17 → one_off L s e request bytes ≡ refusal n → Goal)
        → ((x : Instance) → Within request x → (t : Table) → SaysTable bytes t → Accepted x t → Answered x t → Goal)
        → Goal
    cases Goal refused taken = go (checker.checked (cycle_of request) (decode bytes)) refl
      where
        go : (v : checker.Verdict) → checker.checked (cycle_of request) (decode bytes) ≡ v → Goal
        go (checker.refusal n) is =
            let number : n ≡ check_number request bytes = sym (rw is) in
            let known = refusal_number request bytes n is in
            refused n known.1 (sym (check_refuses L s e request bytes n number (λ z. omega (arith, known.0))))
        go (checker.accepted f frames) is =
            let c = (check_exact request bytes are).accepts.0 (rw is) in
            taken c.0 c.1 c.2 c.3 c.4 (answered c.0 c.1 c.2 c.3 c.4)

    -- answers that differ
    number_is : {m n : ℕ} → one_off L s e request bytes ≡ refusal m → one_off L s e request bytes ≡ refusal n → m ≡ n
    number_is p q = let z = sym p ∙ q in cc

    not_a_frame : {m k : ℕ} → one_off L s e request bytes ≡ refusal m → one_off L s e request bytes ≡ in_frame k → ⊥
    not_a_frame {m} {k} p q = never (let z : refusal m ≡ in_frame k = sym p ∙ q in cc)

    frame_is : {k l : ℕ} → one_off L s e request bytes ≡ in_frame k → one_off L s e request bytes ≡ in_frame l → k ≡ l
    frame_is p q = let z = sym p ∙ q in cc

    -- no two frames are the earliest
    same_frame : (x : Instance) (t : Table) (k l : ℕ) → IsEarliest x t L s e k → IsEarliest x t L s e l → k ≡ l
    same_frame x t k l v w =
        ⊎_elim (λ h. absurd (w.none_before k h v.fits))
        (λ a. ⊎_elim (λ h. absurd (v.none_before l h w.fits)) (λ b. omega arith) (lt_or_ge l k)) (lt_or_ge k l)

    -- THE THEOREM: which answer, exactly.
    pub one_off_exact : OneOffExact request bytes L s e
    one_off_exact = record {
      check_first = λ ne. sym (check_refuses L s e request bytes (check_number request bytes) refl ne);
      twenty_one = (
        λ q. cases (OfBoth request bytes (AskedBadly L s e)) (λ n few r. absurd (omega (arith, number_is q r)))
            (λ x within t says a w. ⊎_elim (λ v. (x, within, t, says, (a, v.0)))
            (λ v. ⊎_elim (λ u. absurd (omega (arith, number_is q u.1))) (λ u. absurd (not_a_frame q u.2)) v.1) w),
        λ c. ⊎_elim (λ v. v.1) (λ v. absurd (v.0 c.4.1)) (answered c.0 c.1 c.2 c.3 c.4.0),
      );
      twenty_two = (
        λ q. cases (OfBoth request bytes (NoFrame L s e)) (λ n few r. absurd (omega (arith, number_is q r)))
            (λ x within t says a w. ⊎_elim (λ v. absurd (omega (arith, number_is q v.1)))
            (λ v. ⊎_elim (λ u. (x, within, t, says, (a, v.0, u.0))) (λ u. absurd (not_a_frame q u.2)) v.1) w),
        λ c. ⊎_elim (λ v. absurd (c.4.1 v.0)) (λ v. ⊎_elim (λ u. u.1) (λ u. absurd (c.4.2 u.0 u.1.fits)) v.1)
            (answered c.0 c.1 c.2 c.3 c.4.0),
      );
      found = λ k. (
        λ q. cases (OfBoth request bytes (TheFrame L s e k)) (λ n few r. absurd (not_a_frame r q))
            (λ x within t says a w. ⊎_elim (λ v. absurd (not_a_frame v.1 q))
            (λ v. ⊎_elim (λ u. absurd (not_a_frame u.1 q))
            (λ u. (x, within, t, says, (a, v.0, subst (IsEarliest x t L s e) (frame_is u.2 q) u.1))) v.1) w),
        λ c. ⊎_elim (λ v. absurd (c.4.1 v.0))
            (λ v. ⊎_elim (λ u. absurd (u.0 k c.4.2.fits)) (λ u. u.2 ∙ ap in_frame (same_frame c.0 c.2 u.0 k u.1 c.4.2)) v.1)
            (answered c.0 c.1 c.2 c.3 c.4.0),
      );
    }
