-- The theorem over lists (MovesTheorem). A draft that is sound and keeps its unused places stays so with every move: a refused one gives it unchanged, an accepted
-- one touches a job of the request and a row of its cycle alone. So it is so after every list; and what the next call answers then follows from the exact
-- answers, since 26 does not come from the draft.
use Rattle.std.specs.Prelude.{ℕ, ◌≤◌, ◌<◌, ◌≡◌, refl, length}
use Rattle.std.proofs.Common.{sym, subst, ◌∙◌, inr, ⊎_elim, arith}
use mathlib.Core.List.{List, [], ◌∷◌}
use Rattle.table.specs.Table.{Table}
use Rattle.model.specs.Plan.{Instance}
use Rattle.model.specs.Good.{Good}
use Rattle.model.specs.Within.{Within}
use Rattle.model.specs.WithinLaws.{within_good}
use Rattle.draft.specs.Draft.{frame_of, load_at, row_count, row_in, start, lift, put}
use Rattle.draft.specs.Kept.{Sized, Sound}
use Rattle.draft.specs.declared.Draft.{Draft}
use Rattle.draft_moves.specs.Exactly.{Touched, StartedFrom}
use Rattle.draft_moves.specs.Moves.{Move, lifts, puts, move_answer, draft_after, LiftSays, PutSays, Holds, MovesTheorem}
use Rattle.draft_moves.specs.StepLaws.{row_low}
use Rattle.draft_moves.specs.Decided.{equal}
use Rattle.draft_moves.specs.Ways.{lift_way, put_way}
use Rattle.draft_moves.specs.ExactLaws.{lift_twenty_six, lift_zero, lift_kept, lift_after}
use Rattle.draft_moves.specs.ExactLaws.{put_twenty_six, put_twenty_seven, put_twenty_eight, put_zero, put_kept, put_after}
use Rattle.draft_moves.specs.WrittenLaws.{write_twenty_six, write_eleven, write_zero, write_out}
use Rattle.draft_moves.specs.StartLaws.{start_theorem}

-- what every move keeps
record Keeps (x : Instance) (t : Table) (d : Draft) : Type 0 where
  same_f : d.f ≡ t.f
  sized : Sized d
  sound : Sound x d
  unused_jobs : (y : ℕ) → length x.jobs ≤ y → frame_of x d y ≡ 0
  unused_rows : (r : ℕ) → row_count x d ≤ r → load_at x d r ≡ 0

module _ (x : Instance) (g : Good x) (t : Table) (d : Draft) (k : Keeps x t d) where
  -- a job of the request and a row of the cycle alone
  touched_keeps : (e : Draft) (y frame : ℕ) → y < length x.jobs → Touched x d e y (row_in x d frame) → Sound x e → Keeps x t e
  touched_keeps e y frame known touched sound =
      let same : e.f ≡ d.f = touched.same_f in
      record {
        same_f = same ∙ k.same_f;
        sized = touched.sized;
        sound = sound;
        unused_jobs = λ z h. touched.other_jobs z (λ q. omega (arith, q, h, known)) ∙ k.unused_jobs z h;
        unused_rows = λ r h.
            let high : row_count x d ≤ r = rw (← same) h in
            touched.other_rows r (λ q. omega (arith, q, high, row_low x g d k.sound frame)) ∙ k.unused_rows r high;
      }

module _ (request : List ℕ) (x : Instance) (within : Within request x) (t : Table) where
  abbrev g : Good x
  g = within_good request x within

  module _ (d : Draft) (k : Keeps x t d) where
    next_lift : (y : ℕ) → LiftSays x d y (lift request d y)
    next_lift y =
        let a = lift request d y in
        let way = lift_way request x within d y in
        let none = lift_twenty_six x d y a way in
        let done = lift_zero x d y a way in
        record {
          twenty_six = (λ q. ⊎_elim (λ n. absurd (n k.sound)) (λ c. c) (none.0 q), λ c. none.1 (inr c));
          lifted = (λ q. (done.0 q).1, λ p. done.1 (k.sound, p));
          after = lift_after x d y a g k.sized way;
          unchanged = lift_kept x d y a way;
        }

    next_put : (y f : ℕ) → PutSays x d y f (put request d y f)
    next_put y f =
        let a = put request d y f in
        let way = put_way request x within d y f k.sized in
        let none = put_twenty_six x d y f a way in
        let outside = put_twenty_seven x d y f a way in
        let no_place = put_twenty_eight x d y f a request within k.sized way in
        let done = put_zero x d y f a request within k.sized way in
        record {
          twenty_six = (λ q. ⊎_elim (λ n. absurd (n k.sound)) (λ c. c) (none.0 q), λ c. none.1 (inr c));
          twenty_seven = (λ q. let c = outside.0 q in (c.1, c.2), λ c. outside.1 (k.sound, c.0, c.1));
          twenty_eight = (λ q. let c = no_place.0 q in (c.1, c.2, c.3), λ c. no_place.1 (k.sound, c.0, c.1, c.2));
          placed = (λ q. let c = done.0 q in (c.1, c.2, c.3, c.4), λ c. done.1 (k.sound, c.0, c.1, c.2, c.3));
          after = put_after x d y f a request within k.sized way;
          unchanged = put_kept x d y f a way;
        }

    -- nothing touched
    same_draft : (e : Draft) → e ≡ d → (y : ℕ) × (r : ℕ) × Touched x d e y r
    same_draft e is =
        (0, 0, rw is (record { same_f = refl; sized = k.sized; other_jobs = λ z ne. refl; other_rows = λ s ne. refl }))

    next_touches : (m : Move) → (y : ℕ) × (r : ℕ) × Touched x d (move_answer request d m).draft y r
    next_touches (lifts y) =
        ⊎_elim (λ z. (y, row_in x d (frame_of x d y), ((next_lift y).after z).touched)) (λ ne. same_draft (lift request d y).draft ((next_lift y).unchanged ne))
        (equal (lift request d y).refusal 0)
    next_touches (puts y f) =
        ⊎_elim (λ z. (y, row_in x d f, ((next_put y f).after z).touched)) (λ ne. same_draft (put request d y f).draft ((next_put y f).unchanged ne))
        (equal (put request d y f).refusal 0)

    move_keeps : (m : Move) → Keeps x t (move_answer request d m).draft
    move_keeps (lifts y) =
        ⊎_elim
        (λ z. let done = (next_lift y).after z in
        touched_keeps x g t d k (lift request d y).draft y (frame_of x d y) ((next_lift y).lifted.0 z).known done.touched done.sound)
        (λ ne. subst (Keeps x t) (sym ((next_lift y).unchanged ne)) k)
        (equal (lift request d y).refusal 0)
    move_keeps (puts y f) =
        ⊎_elim
        (λ z. let done = (next_put y f).after z in
        touched_keeps x g t d k (put request d y f).draft y f done.now_placed.known done.touched done.sound)
        (λ ne. subst (Keeps x t) (sym ((next_put y f).unchanged ne)) k)
        (equal (put request d y f).refusal 0)

    holds : Holds request x t d
    holds = record {
      same_f = k.same_f;
      sized = k.sized;
      loads_are = k.sound.loads_are;
      sound = k.sound;
      unused_jobs = k.unused_jobs;
      unused_rows = k.unused_rows;
      next_touches = next_touches;
      next_lift = next_lift;
      next_put = next_put;
      next_write = λ out fits. let w = write_zero request x within d k.sized out in (λ q. (w.0 q).1, λ all. w.1 (k.sound, all, fits));
      short_write = λ out short. let w = write_eleven request x within d k.sized out in (λ q. (w.0 q).1, λ all. w.1 (k.sound, all, short));
      lifted_write = λ out. let w = write_twenty_six request x within d k.sized out in
          (λ q. ⊎_elim (λ n. absurd (n k.sound)) (λ c. c) (w.0 q), λ c. w.1 (inr c));
      written = λ out z. write_out request x within d k.sized out z;
    }

  after_keeps : (moves : List Move) (d : Draft) → Keeps x t d → Keeps x t (draft_after request d moves)
  unfolding draft_after
  after_keeps [] d k = k
  after_keeps (m ∷ moves) d k = after_keeps moves (move_answer request d m).draft (move_keeps d k m)

begun_keeps : (request bytes : List ℕ) (d : Draft) (s : StartedFrom request bytes d) → Keeps s.x s.t d
begun_keeps request bytes d s =
    let of = s.is_draft_of in
    record {
      same_f = of.f_is;
      sized = of.sized;
      sound = s.sound;
      unused_jobs = of.unused_jobs;
      unused_rows = λ r h. of.unused_rows r (rw (← of.f_is) h);
    }

pub moves_theorem : MovesTheorem
moves_theorem request bytes are z =
    let exact = start_theorem request bytes are in
    let s = exact.started (sym exact.as_the_check ∙ z) in
    record {
      x = s.x;
      within = s.within;
      t = s.t;
      says = s.says;
      table_accepted = record { f = s.t.f; frames = s.frames; is_plan = s.is_plan; describes = s.describes };
      holds = λ moves.
          holds request s.x s.within s.t (draft_after request (start request bytes).draft moves)
          (after_keeps request s.x s.within s.t moves (start request bytes).draft (begun_keeps request bytes (start request bytes).draft s));
    }
