-- Which way a lift, a put and a write go, of a request within the limits: one of the cases holds, with its answer.
use Rattle.std.specs.Prelude.{ℕ, ◌+◌, ◌*◌, ◌≤◌, ◌<◌, ◌≡◌, Bool, cond, ◌&&◌, ◌⊎◌, List, length}
use Rattle.std.proofs.Math.Path.{refl}
use Rattle.std.proofs.Common.{sym, ap, ◌∙◌, inl, inr, ⊎_elim, arith}
use Rattle.std.proofs.Math.Bool.{true, false}
use Rattle.std.proofs.lemmas.Bool.{false≢true}
use Rattle.std.proofs.Math.Dec.{leb, ltb}
use borrow.Author.Tests.{ltb-true, ltb-false, leb-true, leb-false, eq-eqb, ne_eqb, eqb-true, eqb-false}
use Rattle.cycle.specs.declared.Job.{Job}
use Rattle.search.specs.Placing.{has_room}
use Rattle.model.specs.Plan.{Instance, job_at}
use Rattle.model.specs.Good.{Good}
use Rattle.model.specs.Within.{Within}
use Rattle.model.specs.WithinLaws.{within_good, within_limits}
use Rattle.model.specs.Described.{plan_table}
use Rattle.plan_rules.specs.EveryLaws.{says_every, every_fails}
use Rattle.plan_rules.specs.Rules.{in_window}
use Rattle.plan_writer.specs.Outcome.{Outcome, handed, refusal}
use Rattle.draft.specs.Draft.{lifted, is_lifted, is_down, frame_of, load_at, frames_held, sum_of, row_in, cost_at, sound_draft}
use Rattle.draft.specs.Draft.{kept, after_lift, after_put, lift_in, put_there, put_in, none_lifted, write_in, lift, put, write}
use Rattle.draft.specs.Kept.{Sized, IsLifted, IsPlaced, Sound}
use Rattle.draft.specs.SoundLaws.{sound_exactly}
use Rattle.draft.specs.declared.Draft.{Draft}
use Rattle.draft.specs.Numbered.{Drafted}
use Rattle.draft_moves.specs.Exactly.{AllPlaced, Unknown, InItsWindow, RowOver, OutOfOrder}
use Rattle.draft_moves.specs.Decided.{some_up, out_or_not}
use Rattle.draft_moves.specs.StepLaws.{some_length, row_low, with_it}

-- as the test says
abbrev IfSo : Bool → Type 0 → Type 0
IfSo true A = A
IfSo false A = A → ⊥

-- a is what a lift of job y answers
pub data LiftWay (x : Instance) (d : Draft) (y : ℕ) (a : Drafted) : Type 0 where
  unsound_lift : (Sound x d → ⊥) → a ≡ kept 26 d → LiftWay x d y a
  unknown_lift : Unknown x y → a ≡ kept 26 d → LiftWay x d y a
  lifted_lift : IsLifted x d y → a ≡ kept 26 d → LiftWay x d y a
  lifts : Sound x d → IsPlaced x d y → a ≡ kept 0 (after_lift x d y) → LiftWay x d y a

-- a put of job y into frame k
pub data PutWay (x : Instance) (d : Draft) (y k : ℕ) (a : Drafted) : Type 0 where
  unsound_put : (Sound x d → ⊥) → a ≡ kept 26 d → PutWay x d y k a
  unknown_put : Unknown x y → a ≡ kept 26 d → PutWay x d y k a
  placed_put : IsPlaced x d y → a ≡ kept 26 d → PutWay x d y k a
  outside_put : Sound x d → IsLifted x d y → (InItsWindow x d y k → ⊥) → a ≡ kept 27 d → PutWay x d y k a
  no_place : Sound x d → IsLifted x d y → InItsWindow x d y k → RowOver x d y k ⊎ OutOfOrder x d y k → a ≡ kept 28 d → PutWay x d y k a
  puts : Sound x d → IsLifted x d y → InItsWindow x d y k → Sound x (after_put x d y k) → a ≡ kept 0 (after_put x d y k) → PutWay x d y k a

-- a write
pub data WriteWay (x : Instance) (d : Draft) (o : Outcome) : Type 0 where
  unsound_write : (Sound x d → ⊥) → o ≡ refusal 26 → WriteWay x d o
  lifted_write : (y : ℕ) → IsLifted x d y → o ≡ refusal 26 → WriteWay x d o
  hands : Sound x d → AllPlaced x d → o ≡ handed (plan_table x d.f (frames_held x d)) → WriteWay x d o

module _ (request : List ℕ) (x : Instance) (within : Within request x) where
  good : Good x
  good = within_good request x within

  -- no frame of a window is 65535
  pub frame_real : (f y k : ℕ) → 0 < f → y < length x.jobs → (k + 1) * f ≤ (job_at x y).due → k ≡ lifted → ⊥
  frame_real f y k some known late e =
      let limits = within_limits request x within in
      let (i, j, is, stands) = limits.in_order.each y known in
      let due = limits.due_below i j is in
      let late : 65536 * f ≤ (job_at x y).due = rw e at late in
      omega (arith, late, some, ap (λ (job : Job). job.due) stands.here, due, limits.h_few)

  module _ (d : Draft) where
    sound_is : (b : Bool) → sound_draft x d ≡ b → IfSo b (Sound x d)
    sound_is true e = (sound_exactly x good d).0 e
    sound_is false e = λ s. false≢true (sym e ∙ (sound_exactly x good d).1 s)

    module _ (y : ℕ) where
      pub lift_way : LiftWay x d y (lift request d y)
      unfolding lift lift_in
      lift_way = rw within (go (ltb y (length x.jobs)) refl (sound_draft x d) refl (is_lifted (frame_of x d y)) refl)
        where
          go : (a : Bool) → ltb y (length x.jobs) ≡ a → (b : Bool) → sound_draft x d ≡ b → (c : Bool) → is_lifted (frame_of x d y) ≡ c
              → LiftWay x d y (cond (a && b) (cond c (kept 26 d) (kept 0 (after_lift x d y))) (kept 26 d))
          go false p b q c r = unknown_lift (ltb-false _ _ p) refl
          go true p false q c r = unsound_lift (sound_is false q) refl
          go true p true q true r = lifted_lift (record { known = ltb-true _ _ p; up = eqb-true _ _ r }) refl
          go true p true q false r = lifts (sound_is true q) (record { known = ltb-true _ _ p; down = eqb-false _ _ r }) refl

      module _ (k : ℕ) (sized : Sized d) where
        window_is : (b : Bool) → in_window d.f (job_at x y) k ≡ b → IfSo b (InItsWindow x d y k)
        unfolding in_window
        window_is b e = go (leb (job_at x y).release (k * d.f)) refl (leb ((k + 1) * d.f) (job_at x y).due) refl b e
          where
            go : (p : Bool) → leb (job_at x y).release (k * d.f) ≡ p → (q : Bool) → leb ((k + 1) * d.f) (job_at x y).due ≡ q
                → (b : Bool) → p && q ≡ b → IfSo b (InItsWindow x d y k)
            go true p true q true e = record { not_early = leb-true _ _ p; not_late = leb-true _ _ q }
            go true p true q false e = absurd (false≢true (sym e))
            go true p false q true e = absurd (false≢true e)
            go true p false q false e = λ w. omega (arith, leb-false ((k + 1) * d.f) (job_at x y).due q, w.not_late)
            go false p q r true e = absurd (false≢true e)
            go false p q r false e = λ w. omega (arith, leb-false (job_at x y).release (k * d.f) p, w.not_early)

        there_way : Sound x d → IsLifted x d y → PutWay x d y k (put_there x d y k)
        unfolding put_there
        there_way s up =
            go (in_window d.f (job_at x y) k) refl (has_room (load_at x d (row_in x d k)) d.f (cost_at x d y)) refl (sound_draft x (after_put x d y k)) refl
          where
            row : load_at x d (row_in x d k) ≡ sum_of x d (row_in x d k)
            row = s.loads_are (row_in x d k) (row_low x good d s k)

            over : (q : has_room (load_at x d (row_in x d k)) d.f (cost_at x d y) ≡ false) → RowOver x d y k
            over q = omega (arith, leb-false (load_at x d (row_in x d k) + cost_at x d y) d.f q, row)

            out : InItsWindow x d y k → has_room (load_at x d (row_in x d k)) d.f (cost_at x d y) ≡ true → sound_draft x (after_put x d y k) ≡ false
                → OutOfOrder x d y k
            out w q r =
                let frame = frame_real d.f y k (some_length x good d s) up.known w.not_late in
                let room : RowOver x d y k → ⊥ = λ o. omega (arith, leb-true (load_at x d (row_in x d k) + cost_at x d y) d.f q, row, o) in
                ⊎_elim (λ o. o)
                (λ none. absurd (false≢true (sym r ∙ (sound_exactly x good (after_put x d y k)).1 (with_it x good d sized y k up frame s w room none))))
                (out_or_not x d y k)

            go : (a : Bool) → in_window d.f (job_at x y) k ≡ a → (b : Bool) → has_room (load_at x d (row_in x d k)) d.f (cost_at x d y) ≡ b
                → (c : Bool) → sound_draft x (after_put x d y k) ≡ c
                → PutWay x d y k (cond a (cond (b && c) (kept 0 (after_put x d y k)) (kept 28 d)) (kept 27 d))
            go false p b q c r = outside_put s up (window_is false p) refl
            go true p false q c r = no_place s up (window_is true p) (inl (over q)) refl
            go true p true q false r = no_place s up (window_is true p) (inr (out (window_is true p) q r)) refl
            go true p true q true r = puts s up (window_is true p) ((sound_exactly x good (after_put x d y k)).0 r) refl

        pub put_way : PutWay x d y k (put request d y k)
        unfolding put put_in
        put_way = rw within (go (ltb y (length x.jobs)) refl (sound_draft x d) refl (is_lifted (frame_of x d y)) refl)
          where
            go : (a : Bool) → ltb y (length x.jobs) ≡ a → (b : Bool) → sound_draft x d ≡ b → (c : Bool) → is_lifted (frame_of x d y) ≡ c
                → PutWay x d y k (cond (a && b) (cond c (put_there x d y k) (kept 26 d)) (kept 26 d))
            go false p b q c r = unknown_put (ltb-false _ _ p) refl
            go true p false q c r = unsound_put (sound_is false q) refl
            go true p true q true r = there_way (sound_is true q) (record { known = ltb-true _ _ p; up = eqb-true _ _ r })
            go true p true q false r = placed_put (record { known = ltb-true _ _ p; down = eqb-false _ _ r }) refl

    pub none_up : AllPlaced x d → none_lifted x d ≡ true
    unfolding none_lifted is_down
    none_up all =
        says_every (is_down d.frames) (length x.jobs)
        (λ y low. let down : is_lifted (frame_of x d y) ≡ false = ne_eqb (frame_of x d y) lifted (all y low).down in rw down)

    one_up : (y : ℕ) → IsLifted x d y → none_lifted x d ≡ false
    unfolding none_lifted is_down
    one_up y u =
        every_fails (is_down d.frames) (length x.jobs) y u.known
        (let up : is_lifted (frame_of x d y) ≡ true = eq-eqb (frame_of x d y) lifted u.up in rw up)

    pub write_way : WriteWay x d (write request d)
    unfolding write write_in
    write_way = rw within (⊎_elim some none (some_up x d))
      where
        some : ((y : ℕ) × IsLifted x d y) → WriteWay x d (cond (none_lifted x d && sound_draft x d) (handed (plan_table x d.f (frames_held x d))) (refusal 26))
        some (y, u) = lifted_write y u (rw (one_up y u))

        none : AllPlaced x d → WriteWay x d (cond (none_lifted x d && sound_draft x d) (handed (plan_table x d.f (frames_held x d))) (refusal 26))
        none all = rw (none_up all) (go (sound_draft x d) refl)
          where
            go : (b : Bool) → sound_draft x d ≡ b → WriteWay x d (cond b (handed (plan_table x d.f (frames_held x d))) (refusal 26))
            go true q = hands (sound_is true q) all refl
            go false q = unsound_write (sound_is false q) refl
