-- The answers of a lift and of a put, exactly (LiftTheorem, PutTheorem). The way that the call goes has its number, and no two ways go together; so the number
-- tells the way.
use Rattle.std.specs.Prelude.{ℕ, ◌<◌, ◌≡◌, ◌↔◌, ◌⊎◌, List}
use Rattle.std.proofs.Common.{sym, ap, subst, ◌∙◌, inl, inr, ⊎_elim, arith}
use Rattle.cycle.specs.Cycle.{no_cycle, cycle_of}
use Rattle.cycle.specs.LimitLaws.{RequestNumber, no_cycle_number, request_number_pos, request_number_few}
use Rattle.model.specs.Plan.{Instance}
use Rattle.model.specs.Good.{Good}
use Rattle.model.specs.Within.{Within}
use Rattle.model.specs.WithinLaws.{within_good, within_or_not}
use Rattle.draft.specs.Draft.{lifted, after_put, lift, put}
use Rattle.draft.specs.Kept.{Sized, IsLifted, IsPlaced, Sound}
use Rattle.draft.specs.declared.Draft.{Draft}
use Rattle.draft.specs.Numbered.{Drafted}
use Rattle.draft_moves.specs.Exactly.{OfInstance, Unknown, InItsWindow, RowOver, OutOfOrder, Lifted, Put, LiftTheorem, PutTheorem}
use Rattle.draft_moves.specs.StepLaws.{some_length, had_room, had_order, is_put, is_lifted_lem}
use Rattle.draft_moves.specs.Ways.{LiftWay, unsound_lift, unknown_lift, lifted_lift, lifts, lift_way}
use Rattle.draft_moves.specs.Ways.{PutWay, unsound_put, unknown_put, placed_put, outside_put, no_place, puts, put_way, frame_real}

refusal_is : {a b : Drafted} → a ≡ b → a.refusal ≡ b.refusal
refusal_is e = ap (λ (z : Drafted). z.refusal) e

draft_is : {a b : Drafted} → a ≡ b → a.draft ≡ b.draft
draft_is e = ap (λ (z : Drafted). z.draft) e

-- no answer has two numbers
pub clash : {a m n : ℕ} → a ≡ m → a ≡ n → (m ≡ n → ⊥) → ⊥
clash p q other = other (sym p ∙ q)

-- 26 to 28, 11 and 0 are no number of a request: a claim for each request within the limits is all that is to be shown
module _ (request : List ℕ) (answer m : ℕ) (Claim : Instance → Type 0) (other : RequestNumber m → ⊥)
    (own : (number : ℕ) → cycle_of request ≡ no_cycle number → answer ≡ number) where
  pub for_request : ((x : Instance) → Within request x → answer ≡ m → Claim x) → answer ≡ m → OfInstance request Claim
  for_request each e =
      ⊎_elim (λ w. (w.0, w.1, each w.0 w.1 e))
      (λ w. absurd (other (subst RequestNumber (sym (own w.0 w.1) ∙ e) (no_cycle_number request w.0 w.1))))
      (within_or_not request)

  pub of_request : ((x : Instance) → Within request x → (answer ≡ m) ↔ Claim x) → (answer ≡ m) ↔ OfInstance request Claim
  of_request each = (for_request (λ x w. (each x w).0), λ c. (each c.0 c.1).1 c.2)

pub above_numbers : (m : ℕ) → 17 < m → RequestNumber m → ⊥
above_numbers m h n = omega (arith, h, request_number_few n)

pub not_zero : RequestNumber 0 → ⊥
not_zero n = omega (arith, request_number_pos n)

-- A lift

module _ (x : Instance) (d : Draft) (y : ℕ) (a : Drafted) where
  pub lift_twenty_six : LiftWay x d y a → (a.refusal ≡ 26) ↔ ((Sound x d → ⊥) ⊎ (Unknown x y ⊎ IsLifted x d y))
  lift_twenty_six (unsound_lift n e) = (λ q. inl n, λ c. refusal_is e)
  lift_twenty_six (unknown_lift u e) = (λ q. inr (inl u), λ c. refusal_is e)
  lift_twenty_six (lifted_lift u e) = (λ q. inr (inr u), λ c. refusal_is e)
  lift_twenty_six (lifts s p e) = (
    λ q. absurd (clash (refusal_is e) q (λ z. omega (arith, z))),
    λ c. absurd (⊎_elim (λ n. n s) (⊎_elim (λ u. omega (arith, u, p.known)) (λ u. p.down u.up)) c),
  )

  pub lift_zero : LiftWay x d y a → (a.refusal ≡ 0) ↔ (Sound x d × IsPlaced x d y)
  lift_zero (unsound_lift n e) = (λ q. absurd (clash (refusal_is e) q (λ z. omega (arith, z))), λ c. absurd (n c.0))
  lift_zero (unknown_lift u e) = (λ q. absurd (clash (refusal_is e) q (λ z. omega (arith, z))), λ c. absurd (omega (arith, u, c.1.known)))
  lift_zero (lifted_lift u e) = (λ q. absurd (clash (refusal_is e) q (λ z. omega (arith, z))), λ c. absurd (c.1.down u.up))
  lift_zero (lifts s p e) = (λ q. (s, p), λ c. refusal_is e)

  pub lift_kept : LiftWay x d y a → (a.refusal ≡ 0 → ⊥) → a.draft ≡ d
  lift_kept (unsound_lift n e) ne = draft_is e
  lift_kept (unknown_lift u e) ne = draft_is e
  lift_kept (lifted_lift u e) ne = draft_is e
  lift_kept (lifts s p e) ne = absurd (ne (refusal_is e))

  pub lift_after : Good x → Sized d → LiftWay x d y a → a.refusal ≡ 0 → Lifted x d y a.draft
  lift_after g sized (unsound_lift n e) z = absurd (clash (refusal_is e) z (λ q. omega (arith, q)))
  lift_after g sized (unknown_lift u e) z = absurd (clash (refusal_is e) z (λ q. omega (arith, q)))
  lift_after g sized (lifted_lift u e) z = absurd (clash (refusal_is e) z (λ q. omega (arith, q)))
  lift_after g sized (lifts s p e) z = subst (Lifted x d y) (sym (draft_is e)) (is_lifted_lem x g d sized s y p)

module _ (request : List ℕ) (d : Draft) (y : ℕ) where
  lift_own : (number : ℕ) → cycle_of request ≡ no_cycle number → (lift request d y).refusal ≡ number
  unfolding lift
  lift_own number e = rw e

  lift_none : (number : ℕ) → cycle_of request ≡ no_cycle number → (lift request d y).draft ≡ d
  unfolding lift
  lift_none number e = rw e

pub lift_theorem : LiftTheorem
lift_theorem request d sized y =
    let a = lift request d y in
    let own = lift_own request d y in
    let goes : (x : Instance) → Within request x → LiftWay x d y (lift request d y) = λ x w. lift_way request x w d y in
    record {
      own_number = own;
      twenty_six = of_request request a.refusal 26 (λ x. (Sound x d → ⊥) ⊎ (Unknown x y ⊎ IsLifted x d y)) (above_numbers 26 (omega arith)) own
          (λ x w. lift_twenty_six x d y a (goes x w));
      lifts = of_request request a.refusal 0 (λ x. Sound x d × IsPlaced x d y) not_zero own (λ x w. lift_zero x d y a (goes x w));
      after = for_request request a.refusal 0 (λ x. Lifted x d y a.draft) not_zero own
          (λ x w. lift_after x d y a (within_good request x w) sized (goes x w));
      unchanged = λ ne. ⊎_elim (λ w. lift_kept w.0 d y a (goes w.0 w.1) ne) (λ w. lift_none request d y w.0 w.1) (within_or_not request);
    }

-- A put

module _ (x : Instance) (d : Draft) (y k : ℕ) (a : Drafted) where
  not_twenty_six : Sound x d → IsLifted x d y → (Sound x d → ⊥) ⊎ (Unknown x y ⊎ IsPlaced x d y) → ⊥
  not_twenty_six s u c = ⊎_elim (λ n. n s) (⊎_elim (λ o. omega (arith, o, u.known)) (λ p. p.down u.up)) c

  pub put_twenty_six : PutWay x d y k a → (a.refusal ≡ 26) ↔ ((Sound x d → ⊥) ⊎ (Unknown x y ⊎ IsPlaced x d y))
  put_twenty_six (unsound_put n e) = (λ q. inl n, λ c. refusal_is e)
  put_twenty_six (unknown_put u e) = (λ q. inr (inl u), λ c. refusal_is e)
  put_twenty_six (placed_put p e) = (λ q. inr (inr p), λ c. refusal_is e)
  put_twenty_six (outside_put s u w e) = (λ q. absurd (clash (refusal_is e) q (λ z. omega (arith, z))), λ c. absurd (not_twenty_six s u c))
  put_twenty_six (no_place s u w o e) = (λ q. absurd (clash (refusal_is e) q (λ z. omega (arith, z))), λ c. absurd (not_twenty_six s u c))
  put_twenty_six (puts s u w t e) = (λ q. absurd (clash (refusal_is e) q (λ z. omega (arith, z))), λ c. absurd (not_twenty_six s u c))

  pub put_twenty_seven : PutWay x d y k a → (a.refusal ≡ 27) ↔ (Sound x d × IsLifted x d y × (InItsWindow x d y k → ⊥))
  put_twenty_seven (unsound_put n e) = (λ q. absurd (clash (refusal_is e) q (λ z. omega (arith, z))), λ c. absurd (n c.0))
  put_twenty_seven (unknown_put o e) = (λ q. absurd (clash (refusal_is e) q (λ z. omega (arith, z))), λ c. absurd (omega (arith, o, c.1.known)))
  put_twenty_seven (placed_put p e) = (λ q. absurd (clash (refusal_is e) q (λ z. omega (arith, z))), λ c. absurd (p.down c.1.up))
  put_twenty_seven (outside_put s u w e) = (λ q. (s, u, w), λ c. refusal_is e)
  put_twenty_seven (no_place s u w o e) = (λ q. absurd (clash (refusal_is e) q (λ z. omega (arith, z))), λ c. absurd (c.2 w))
  put_twenty_seven (puts s u w t e) = (λ q. absurd (clash (refusal_is e) q (λ z. omega (arith, z))), λ c. absurd (c.2 w))

  pub put_kept : PutWay x d y k a → (a.refusal ≡ 0 → ⊥) → a.draft ≡ d
  put_kept (unsound_put n e) ne = draft_is e
  put_kept (unknown_put o e) ne = draft_is e
  put_kept (placed_put p e) ne = draft_is e
  put_kept (outside_put s u w e) ne = draft_is e
  put_kept (no_place s u w o e) ne = draft_is e
  put_kept (puts s u w t e) ne = absurd (ne (refusal_is e))

  -- of a request within the limits
  module _ (request : List ℕ) (within : Within request x) (sized : Sized d) where
    abbrev g : Good x
    g = within_good request x within

    frame : Sound x d → IsLifted x d y → InItsWindow x d y k → k ≡ lifted → ⊥
    frame s u w = frame_real request x within d.f y k (some_length x g d s) u.known w.not_late

    never : IsLifted x d y → InItsWindow x d y k → Sound x d → RowOver x d y k ⊎ OutOfOrder x d y k → Sound x (after_put x d y k) → ⊥
    never u w s o t = ⊎_elim (had_room x g d sized y k u (frame s u w) s t) (had_order x g d sized y k u (frame s u w) s t) o

    pub put_twenty_eight : PutWay x d y k a → (a.refusal ≡ 28) ↔ (Sound x d × IsLifted x d y × InItsWindow x d y k × (RowOver x d y k ⊎ OutOfOrder x d y k))
    put_twenty_eight (unsound_put n e) = (λ q. absurd (clash (refusal_is e) q (λ z. omega (arith, z))), λ c. absurd (n c.0))
    put_twenty_eight (unknown_put o e) = (λ q. absurd (clash (refusal_is e) q (λ z. omega (arith, z))), λ c. absurd (omega (arith, o, c.1.known)))
    put_twenty_eight (placed_put p e) = (λ q. absurd (clash (refusal_is e) q (λ z. omega (arith, z))), λ c. absurd (p.down c.1.up))
    put_twenty_eight (outside_put s u w e) = (λ q. absurd (clash (refusal_is e) q (λ z. omega (arith, z))), λ c. absurd (w c.2))
    put_twenty_eight (no_place s u w o e) = (λ q. (s, u, w, o), λ c. refusal_is e)
    put_twenty_eight (puts s u w t e) = (λ q. absurd (clash (refusal_is e) q (λ z. omega (arith, z))), λ c. absurd (never u w s c.3 t))

    pub put_zero : PutWay x d y k a → (a.refusal ≡ 0) ↔ (Sound x d × IsLifted x d y × InItsWindow x d y k × (RowOver x d y k → ⊥) × (OutOfOrder x d y k → ⊥))
    put_zero (unsound_put n e) = (λ q. absurd (clash (refusal_is e) q (λ z. omega (arith, z))), λ c. absurd (n c.0))
    put_zero (unknown_put o e) = (λ q. absurd (clash (refusal_is e) q (λ z. omega (arith, z))), λ c. absurd (omega (arith, o, c.1.known)))
    put_zero (placed_put p e) = (λ q. absurd (clash (refusal_is e) q (λ z. omega (arith, z))), λ c. absurd (p.down c.1.up))
    put_zero (outside_put s u w e) = (λ q. absurd (clash (refusal_is e) q (λ z. omega (arith, z))), λ c. absurd (w c.2))
    put_zero (no_place s u w o e) = (λ q. absurd (clash (refusal_is e) q (λ z. omega (arith, z))), λ c. absurd (⊎_elim c.3 c.4 o))
    put_zero (puts s u w t e) = (λ q. (s, u, w, λ over. never u w s (inl over) t, λ out. never u w s (inr out) t), λ c. refusal_is e)

    pub put_after : PutWay x d y k a → a.refusal ≡ 0 → Put x d y k a.draft
    put_after (unsound_put n e) z = absurd (clash (refusal_is e) z (λ z. omega (arith, z)))
    put_after (unknown_put o e) z = absurd (clash (refusal_is e) z (λ z. omega (arith, z)))
    put_after (placed_put p e) z = absurd (clash (refusal_is e) z (λ z. omega (arith, z)))
    put_after (outside_put s u w e) z = absurd (clash (refusal_is e) z (λ z. omega (arith, z)))
    put_after (no_place s u w o e) z = absurd (clash (refusal_is e) z (λ z. omega (arith, z)))
    put_after (puts s u w t e) z = subst (Put x d y k) (sym (draft_is e)) (is_put x g d sized y k u (frame s u w) s t)

module _ (request : List ℕ) (d : Draft) (y k : ℕ) where
  put_own : (number : ℕ) → cycle_of request ≡ no_cycle number → (put request d y k).refusal ≡ number
  unfolding put
  put_own number e = rw e

  put_none : (number : ℕ) → cycle_of request ≡ no_cycle number → (put request d y k).draft ≡ d
  unfolding put
  put_none number e = rw e

pub put_theorem : PutTheorem
put_theorem request d sized y k =
    let a = put request d y k in
    let own = put_own request d y k in
    let goes : (x : Instance) → Within request x → PutWay x d y k (put request d y k) = λ x w. put_way request x w d y k sized in
    record {
      own_number = own;
      twenty_six = of_request request a.refusal 26 (λ x. (Sound x d → ⊥) ⊎ (Unknown x y ⊎ IsPlaced x d y)) (above_numbers 26 (omega arith)) own
          (λ x w. put_twenty_six x d y k a (goes x w));
      twenty_seven = of_request request a.refusal 27 (λ x. Sound x d × IsLifted x d y × (InItsWindow x d y k → ⊥)) (above_numbers 27 (omega arith)) own
          (λ x w. put_twenty_seven x d y k a (goes x w));
      twenty_eight = of_request request a.refusal 28 (λ x. Sound x d × IsLifted x d y × InItsWindow x d y k × (RowOver x d y k ⊎ OutOfOrder x d y k))
          (above_numbers 28 (omega arith)) own (λ x w. put_twenty_eight x d y k a request w sized (goes x w));
      puts = of_request request a.refusal 0 (λ x. Sound x d × IsLifted x d y × InItsWindow x d y k × (RowOver x d y k → ⊥) × (OutOfOrder x d y k → ⊥)) not_zero own
          (λ x w. put_zero x d y k a request w sized (goes x w));
      after = for_request request a.refusal 0 (λ x. Put x d y k a.draft) not_zero own (λ x w. put_after x d y k a request w sized (goes x w));
      unchanged = λ ne. ⊎_elim (λ w. put_kept w.0 d y k a (goes w.0 w.1) ne) (λ w. put_none request d y k w.0 w.1) (within_or_not request);
    }
