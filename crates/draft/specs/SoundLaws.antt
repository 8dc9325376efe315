-- The test of a draft says what Sound says, and nothing else. The rules are tested on the list of the placed jobs, and hold of them exactly if they hold at their places.
use Rattle.std.specs.Prelude.{ℕ, ◌≤◌, ◌<◌, ◌≡◌, true, ◌↔◌, length, get_or}
use Rattle.std.proofs.Common.{sym, subst, ◌∙◌, arith}
use borrow.Author.Tests.{eq-eqb}
use Rattle.arith.specs.Residue.{quotient_pos}
use Rattle.cursor.specs.ParsedLaws.{both_true}
use Rattle.cursor.specs.PaddedLaws.{firsts_length, get_or_firsts}
use Rattle.cycle.specs.Planned.{no_job}
use Rattle.cycle.specs.declared.Job.{Job}
use Rattle.model.specs.Plan.{Instance, job_at, pair_at, frame_at, PairsKept, InWindow}
use Rattle.model.specs.Good.{Good}
use Rattle.model.specs.WithinLaws.{within_good}
use Rattle.model.specs.Plausible.{plausible}
use Rattle.model.specs.PlausibleLaws.{IsPlausible, plausible_says}
use Rattle.plan_rules.specs.EveryLaws.{says_every}
use Rattle.plan_rules.specs.RulesSay.{RulesKept, say_rules}
use Rattle.draft.specs.Draft.{frame_of, frames_held, placed_part, placed_frames, row_count, load_right, sound_draft}
use Rattle.draft.specs.Kept.{IsPlaced, LinkedBy, Sound, SoundTheorem}
use Rattle.draft.specs.PlacedLaws.{of_placed, placed_of_lem}
use Rattle.draft.specs.MoveLaws.{tests}
use Rattle.draft.specs.declared.Draft.{Draft}

module _ (x : Instance) (d : Draft) where
  sizes : length (frames_held x d) ≡ length x.jobs
  sizes = firsts_length 0 d.frames (length x.jobs)

  here : (y : ℕ) → y < length x.jobs → get_or (frames_held x d) y 0 ≡ frame_of x d y
  here y h = get_or_firsts 0 d.frames (length x.jobs) y h

  -- what holds of each placed job in their list holds at its place, and the other way round
  module _ (P : Job → ℕ → Type 0) where
    at_place : ((i : ℕ) → i < length (placed_part x d).jobs → P (job_at (placed_part x d) i) (frame_at (placed_frames x d) i))
        → (y : ℕ) → IsPlaced x d y → P (job_at x y) (frame_of x d y)
    at_place h y p =
        subst (P (job_at x y)) (here y p.known)
        (of_placed no_job P (frames_held x d) x.jobs sizes h y (omega (arith, sizes, p.known)) (λ q. p.down (sym (here y p.known) ∙ q)))

    in_list : ((y : ℕ) → IsPlaced x d y → P (job_at x y) (frame_of x d y))
        → (i : ℕ) → i < length (placed_part x d).jobs → P (job_at (placed_part x d) i) (frame_at (placed_frames x d) i)
    in_list h =
        placed_of_lem no_job P (frames_held x d) x.jobs sizes
        (λ y low down. let known : y < length x.jobs = omega (arith, sizes) in
        subst (P (job_at x y)) (sym (here y known)) (h y (record { known = known; down = λ q. down (here y known ∙ q) })))

  -- the window, and the order of a pair
  abbrev Inside : Job → ℕ → Type 0
  Inside job k = InWindow d.f job.release job.due k

  abbrev Behind : ℕ → Job → ℕ → Job → ℕ → Type 0
  Behind u one k other l = one.task ≡ (pair_at x u).a → other.task ≡ (pair_at x u).b → one.number ≡ other.number → k ≤ l

  abbrev BehindEach : ℕ → Job → ℕ → Type 0
  BehindEach u one k = (j : ℕ) → j < length (placed_part x d).jobs → Behind u one k (job_at (placed_part x d) j) (frame_at (placed_frames x d) j)

  pub sound_says : sound_draft x d ≡ true → Sound x d
  unfolding sound_draft
  sound_says e =
      let t = tests x d e in
      let order : (u y z : ℕ) → LinkedBy x u y z → IsPlaced x d y → IsPlaced x d z → frame_of x d y ≤ frame_of x d z = λ u y z l py pz.
      at_place (Behind u (job_at x y) (frame_of x d y))
      (at_place (BehindEach u) (λ i hi j hj a b n. t.rules.order u l.pair_known i j hi hj a b n) y py) z pz l.first l.second l.same_number in
      record {
        plausible_f = (both_true (plausible x d.f) _ e).0;
        loads_are = t.loads;
        not_early = λ y p. (at_place Inside t.rules.window y p).not_early;
        not_late = λ y p. (at_place Inside t.rules.window y p).not_late;
        capacity = t.rules.capacity;
        order = order;
      }

  module _ (g : Good x) (s : Sound x d) where
    can : IsPlausible x d.f
    can = plausible_says x d.f s.plausible_f

    ordered : PairsKept (placed_part x d) (placed_frames x d)
    ordered u hu i j hi hj a b n =
        in_list (BehindEach u)
        (λ y py. in_list (Behind u (job_at x y) (frame_of x d y))
        (λ z pz a b n. s.order u y z (record { pair_known = hu; first = a; second = b; same_number = n }) py pz)) i hi j hj a b n

    rules : RulesKept (placed_part x d) (row_count x d) d.f (placed_frames x d)
    rules = record {
      some_row = quotient_pos x.h d.f g.some_time can.divides;
      few_rows = can.few_rows;
      window = in_list Inside (λ y p. record { not_early = s.not_early y p; not_late = s.not_late y p });
      capacity = s.capacity;
      order = ordered;
    }

    pub says_sound : sound_draft x d ≡ true
    unfolding sound_draft
    says_sound =
        rw (s.plausible_f, say_rules (placed_part x d) (row_count x d) d.f (placed_frames x d) rules)
        (says_every (load_right x d) (row_count x d) (λ r low. eq-eqb _ _ (s.loads_are r low)))

pub sound_exactly : (x : Instance) → Good x → (d : Draft) → (sound_draft x d ≡ true) ↔ Sound x d
sound_exactly x g d = (sound_says x d, says_sound x d g)

pub sound_theorem : SoundTheorem
sound_theorem request x w d = sound_exactly x (within_good request x w) d
