-- The search finds a placing exactly where there is one, and the first of them. `Best` is proved by induction on the jobs left. For one job the
-- proof goes through the frames: as long as none is found, every placing that begins with p has the next job in frame k or later, so where a
-- placing with frame k is found, any other agrees with it there or is later; and where the frames end, there is none. Assumes nothing.
use Rattle.std.specs.Prelude.{◌≡◌, Bool, true, false}
use Rattle.std.proofs.Math.Path.{refl}
use Rattle.std.proofs.Common.{sym, ap, ◌∙◌, inr, eq-or-lt_of_le, arith, take-suc, take-take, get_or-take}
use Rattle.std.proofs.lemmas.Bool.{false≢true}
use Rattle.std.proofs.Math.Logic.{inl, ⊎_elim}
use mathlib.Core.List.{List, [], ◌∷◌, ◌++◌}
use Prim.Native.Nat.{ℕ, zero, suc, ◌+◌, ◌≤◌, ◌<◌}
use Rattle.std.proofs.Math.Nat.{add-zero}
use Rattle.std.proofs.Math.ListN.{length, take, get_or, length-append, get_or-append}
use Rattle.std.proofs.Math.Seq.{take-length, take_all, take-append_seam, get_or-append_seam}
use Rattle.std.proofs.lemmas.List.{take-append-le}
use Rattle.search.specs.Search.{Found, none, at, Walk, go_on, one_try, walk_frames, walk}
use Rattle.search.specs.Best.{MayStand, Placing, Best}

module _ (ok : List ℕ → ℕ → Bool) (lo cnt : ℕ → ℕ) where
  -- a placing that begins with p and has k next
  extends : (p q : List ℕ) (k : ℕ) → length p < length q → take (length p) q ≡ p → get_or q (length p) 0 ≡ k → take (length (p ++ (k ∷ []))) q ≡ p ++ (k ∷ [])
  extends p q k h e w =
      let n : length (p ++ (k ∷ [])) ≡ suc (length p) = omega (arith, length-append p (k ∷ [])) in
      rw n (take-suc q (length p) 0 h ∙ rw (e, w))

  -- a placing that begins with p and k begins with p, and has k next
  shorter : (p q : List ℕ) (k : ℕ) → take (length (p ++ (k ∷ []))) q ≡ p ++ (k ∷ []) → take (length p) q ≡ p
  shorter p q k e =
      sym (take-take (length p) (length (p ++ (k ∷ []))) q (omega (arith, length-append p (k ∷ []))))
      ∙ ap (take (length p)) e ∙ take-append_seam p (k ∷ [])

  next_is : (p q : List ℕ) (k : ℕ) → take (length (p ++ (k ∷ []))) q ≡ p ++ (k ∷ []) → get_or q (length p) 0 ≡ k
  next_is p q k e =
      sym (get_or-take (length (p ++ (k ∷ []))) q (length p) 0 (omega (arith, length-append p (k ∷ []))))
      ∙ ap (λ (l : List ℕ). get_or l (length p) 0) e ∙ get_or-append_seam p k [] 0

  -- one job more
  pub placing_more : (p : List ℕ) (k : ℕ) → Placing ok lo cnt (length p) p → lo (length p) ≤ k → k < lo (length p) + cnt (length p) → ok p k ≡ true
      → Placing ok lo cnt (length (p ++ (k ∷ []))) (p ++ (k ∷ []))
  placing_more p k g a b t = record { all = refl; each = λ i h. ⊎_elim (last i) (old i) (eq-or-lt_of_le (le_len i h)) }
    where
      le_len : (i : ℕ) → i < length (p ++ (k ∷ [])) → i ≤ length p
      le_len i h = omega (arith, length-append p (k ∷ []))

      old : (i : ℕ) → i < length p → MayStand ok lo cnt (p ++ (k ∷ [])) i
      old i l =
          let e : get_or (p ++ (k ∷ [])) i 0 ≡ get_or p i 0 = get_or-append p (k ∷ []) 0 i l in
          let s : MayStand ok lo cnt p i = g.each i l in
          record { from = rw e s.from; to = rw e s.to; may = rw (e, take-append-le i p (k ∷ []) (omega arith)) s.may }

      last : (i : ℕ) → i ≡ length p → MayStand ok lo cnt (p ++ (k ∷ [])) i
      last i q =
          let e : get_or (p ++ (k ∷ [])) (length p) 0 ≡ k = get_or-append_seam p k [] 0 in
          rw q (record { from = rw e a; to = rw e b; may = rw (e, take-append_seam p (k ∷ [])) t })

  module _ (n : ℕ) (p : List ℕ) (more : length p < n) (s : List ℕ → Walk) where
    -- the next job in frame k, and then `rest`, where of the placings that begin with p none has an earlier frame there
    frame_best : (k t : ℕ) (rest : Walk)
        → (ok p k ≡ true → Best ok lo cnt n (p ++ (k ∷ [])) (s (p ++ (k ∷ []))).found)
        → ((q : List ℕ) → Placing ok lo cnt n q → take (length p) q ≡ p → k ≤ get_or q (length p) 0)
        → (((q : List ℕ) → Placing ok lo cnt n q → take (length p) q ≡ p → k + 1 ≤ get_or q (length p) 0) → Best ok lo cnt n p rest.found)
        → Best ok lo cnt n p (go_on (one_try (ok p k) (s (p ++ (k ∷ [])))).found t rest).found
    unfolding Best go_on one_try
    frame_best k t rest ih below later = go (ok p k) refl
      where
        after : ((q : List ℕ) → Placing ok lo cnt n q → take (length p) q ≡ p → get_or q (length p) 0 ≡ k → ⊥) → Best ok lo cnt n p rest.found
        after never = later (λ q v e. ⊎_elim (λ h. absurd (never q v e (sym h))) (λ h. omega arith) (eq-or-lt_of_le (below q v e)))

        found : (o : Found) → Best ok lo cnt n (p ++ (k ∷ [])) o → Best ok lo cnt n p (go_on o t rest).found
        found none b = after (λ q v e h. b q v (extends p q k (omega (arith, v.all)) e h))
        found (at x) b = (
          b.0,
          shorter p x k b.1,
          λ q v e. ⊎_elim (λ h. b.2 q v (extends p q k (omega (arith, v.all)) e (sym h)))
              (λ h. inr (record { place = length p; same = shorter p x k b.1 ∙ sym e; less = rw (next_is p x k b.1) h })) (eq-or-lt_of_le (below q v e)),
        )

        go : (b : Bool) → ok p k ≡ b → Best ok lo cnt n p (go_on (one_try b (s (p ++ (k ∷ [])))).found t rest).found
        go true w = found (s (p ++ (k ∷ []))).found (ih w)
        go false w = after (λ q v e h.
            false≢true (sym w ∙ ap (ok p) (sym h) ∙ ap (λ (l : List ℕ). ok l (get_or q (length p) 0)) (sym e) ∙ (v.each (length p) more).may))

    -- the frames from k on, c of them
    frames_best : ((k : ℕ) → lo (length p) ≤ k → k < lo (length p) + cnt (length p) → ok p k ≡ true
        → Best ok lo cnt n (p ++ (k ∷ [])) (s (p ++ (k ∷ []))).found)
        → (c k : ℕ) → lo (length p) ≤ k → k + c ≡ lo (length p) + cnt (length p)
        → ((q : List ℕ) → Placing ok lo cnt n q → take (length p) q ≡ p → k ≤ get_or q (length p) 0)
        → Best ok lo cnt n p (walk_frames (λ k. one_try (ok p k) (s (p ++ (k ∷ [])))) c k).found
    unfolding Best walk_frames
    frames_best ih zero k a w below = λ q v e.
        let h : get_or q (length p) 0 < lo (length p) + cnt (length p) = (v.each (length p) more).to in omega (arith, below q v e)
    frames_best ih (suc c) k a w below =
        frame_best k (one_try (ok p k) (s (p ++ (k ∷ [])))).tries (walk_frames (λ k. one_try (ok p k) (s (p ++ (k ∷ [])))) c (k + 1))
        (ih k a (omega arith)) below
        (frames_best ih c (k + 1) (omega arith) (omega arith))

  -- the search for the m jobs after those in p
  pub best : (m : ℕ) (p : List ℕ) → Placing ok lo cnt (length p) p → Best ok lo cnt (length p + m) p (walk ok lo cnt m p).found
  unfolding Best walk
  best zero p g =
      (rw add-zero g, take-length p, λ q v e. inl (sym e ∙ take_all (length p) q (omega (arith, v.all))))
  best (suc m) p g =
      let longer : (k : ℕ) → length (p ++ (k ∷ [])) + m ≡ length p + suc m = λ k. omega (arith, length-append p (k ∷ [])) in
      frames_best (length p + suc m) p (omega arith) (walk ok lo cnt m)
      (λ k a b t. rw (longer k) at (best m (p ++ (k ∷ [])) (placing_more p k g a b t)))
      (cnt (length p)) (lo (length p)) (omega arith) refl
      (λ q v e. (v.each (length p) (omega arith)).from)
