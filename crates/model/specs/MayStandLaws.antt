-- The search tests what R-7 says: a frame is walked exactly if it lies in the job's window, and it is passed over exactly if the job may not stand
-- there. A job is linked with a job placed before it exactly if a pair orders the two, so its links are kept exactly if no such pair is broken.
use Rattle.std.specs.Prelude.{◌≡◌, ◌≢◌, ◌↔◌, ℕ, ◌+◌, ◌-◌, ◌≤◌, ◌<◌, ◌%◌, get_or}
use Rattle.std.proofs.Common.{sym, subst, ◌∙◌}
use Rattle.std.proofs.Math.Bool.{true}
use mathlib.Core.List.{List, Memᴰ}
use native.Mathlib.Omega.{arith}
use Rattle.std.proofs.Math.ListN.{length}
use borrow.Author.Tests.{le-leb, leb-true}
use Rattle.cursor.specs.PaddedLaws.{map_at}
use Rattle.cycle.specs.Planned.{no_job}
use Rattle.search.specs.Placing.{row_sum, links_of, has_room, ordered, fits, window_start, frame_count}
use Rattle.search.specs.LoadLaws.{both_true}
use Rattle.search.specs.Plans.{LinkKept}
use Rattle.search.specs.PlansLaws.{all_kept_says, says_all_kept}
use Rattle.model.specs.WindowLaws.{window_frames}
use Rattle.model.specs.Plan.{Instance, pair_at, job_at, rows_at, costs, InWindow}
use Rattle.model.specs.Plausible.{plausible}
use Rattle.model.specs.Chosen.{first_frame_of, end_frame_of, problem_at}
use Rattle.model.specs.Good.{Good}
use Rattle.model.specs.GoodLaws.{same_place}
use Rattle.model.specs.PlanLaws.{cost_at_lem}
use Rattle.model.specs.PlausibleLaws.{plausible_says}
use Rattle.model.specs.LinksLaws.{HasJob, LinkBy, to_first, to_second, link_to_first, link_to_second, in_links, by_pair, links_at_lem}
use Rattle.model.specs.MayStand.{BreaksNoPair, MayStand}
use Rattle.model.specs.Within.{Within}
use Rattle.model.specs.WithinLaws.{within_good}

-- the job at place y, in frame k, keeps its links
abbrev pub KeepsLinks : Instance → ℕ → List ℕ → ℕ → ℕ → Type 0
KeepsLinks x f p y k = (l : ℕ) → Memᴰ l (links_of (problem_at x f) y) → LinkKept p k l

module _ (x : Instance) (g : Good x) (f : ℕ) where
  abbrev n : ℕ
  n = length x.jobs

  -- the frames that the problem gives the job at place y: the first, and one past the last
  first_is : (y : ℕ) → y < n → get_or (problem_at x f).first y 0 ≡ first_frame_of f (job_at x y)
  unfolding problem_at
  first_is y h = map_at (first_frame_of f) 0 no_job x.jobs y h

  end_is : (y : ℕ) → y < n → get_or (problem_at x f).end y 0 ≡ end_frame_of f (job_at x y)
  unfolding problem_at
  end_is y h = map_at (end_frame_of f) 0 no_job x.jobs y h

  -- they are those of its window
  pub window_is : 0 < f → (y k : ℕ) → y < n
      → InWindow f (job_at x y).release (job_at x y).due k ↔ ((get_or (problem_at x f).first y 0 ≤ k) × (k < get_or (problem_at x f).end y 0))
  unfolding first_frame_of end_frame_of
  window_is pos y k h = rw (first_is y h, end_is y h) (window_frames f (job_at x y).release (job_at x y).due k pos)

  -- It keeps its links exactly if it breaks no pair.
  pub links_say : (p : List ℕ) (y k : ℕ) → y < n → KeepsLinks x f p y k ↔ BreaksNoPair x p y k
  unfolding problem_at
  links_say p y k hy = (breaks_none, keeps_links)
    where
      rises : (u : ℕ) → u < length x.pairs → (pair_at x u).a ≢ (pair_at x u).b
      rises u hu q = let r = (g.readable.pair u hu).rises in omega arith

      only : (z i : ℕ) → z < y → HasJob x.jobs z i (job_at x y).number → (w : ℕ) → w < y → HasJob x.jobs w i (job_at x y).number → w ≡ z
      only z i hz a w hw b = same_place x g w z (omega arith) (omega arith) (b.task_is ∙ sym a.task_is) (b.number_is ∙ sym a.number_is)

      keeps_links : BreaksNoPair x p y k → KeepsLinks x f p y k
      keeps_links order l m =
          let (u, hu, v) = in_links x y l (subst (Memᴰ l) (links_at_lem x g.readable.few_pairs y hy) m) in
          go u hu v
        where
          go : (u : ℕ) → u < length x.pairs → LinkBy x.jobs y (pair_at x u) l → LinkKept p k l
          go u hu (to_first h t has) =
              (λ small. order.not_before u l hu h t has.task_is has.number_is, λ large. absurd (omega (arith, g.few_jobs)))
          go u hu (to_second z e h t has) = (
            λ small. absurd (omega arith),
            λ large. let q : l - 128 ≡ z = omega arith in rw q (order.not_behind u z hu h t has.task_is has.number_is),
          )

      breaks_none : KeepsLinks x f p y k → BreaksNoPair x p y k
      breaks_none kept = record {
        not_before = λ u z hu hz ty tz num.
            let has : HasJob x.jobs z (pair_at x u).a (job_at x y).number = record { task_is = tz; number_is = num } in
            let m = link_to_first x.jobs y (pair_at x u) z hz ty has (only z (pair_at x u).a hz has) in
            (kept z (subst (Memᴰ z) (sym (links_at_lem x g.readable.few_pairs y hy)) (by_pair x y u z hu m))).0 (omega (arith, g.few_jobs));
        not_behind = λ u z hu hz ty tz num.
            let has : HasJob x.jobs z (pair_at x u).b (job_at x y).number = record { task_is = tz; number_is = num } in
            let m = link_to_second x.jobs y (pair_at x u) z hz ty (rises u hu) has (only z (pair_at x u).b hz has) in
            let e : z + 128 - 128 ≡ z = omega arith in
            let l = subst (Memᴰ (z + 128)) (sym (links_at_lem x g.readable.few_pairs y hy)) (by_pair x y u (z + 128) hu m) in
            rw e at ((kept (z + 128) l).1 (omega arith));
      }

  module _ (p : List ℕ) (k : ℕ) (h : length p < n) where
    -- the row's load with the jobs placed, and the job's own slot
    abbrev load : ℕ
    load = row_sum (rows_at x f) (costs x) p (k % rows_at x f)

    abbrev cost : ℕ
    cost = get_or (costs x) (length p) 0

    -- The test is passed exactly if the job may stand there.
    fits_then : fits (problem_at x f) p k ≡ true → MayStand x f p k
    unfolding fits problem_at
    fits_then e =
        let b = both_true (has_room load f cost) (ordered (problem_at x f) p k) e in
        record {
          room = omega (arith, leb-true (load + cost) f b.0, cost_at_lem x (length p) h);
          order = (links_say p (length p) k h).0 (all_kept_says p k (links_of (problem_at x f) (length p)) b.1);
        }

    then_fits : MayStand x f p k → fits (problem_at x f) p k ≡ true
    unfolding fits problem_at
    then_fits v =
        let room : has_room load f cost ≡ true = le-leb (load + cost) f (omega (arith, v.room, cost_at_lem x (length p) h)) in
        rw room (says_all_kept p k (links_of (problem_at x f) (length p)) ((links_say p (length p) k h).1 v.order))

-- THE LAWS, for a request within the limits
module _ (request : List ℕ) (x : Instance) (within : Within request x) (f : ℕ) where
  -- "It passes over a frame whose row would exceed f or that breaks a pair with a job already placed", and no other
  pub passed_over : (p : List ℕ) (k : ℕ) → length p < length x.jobs → (fits (problem_at x f) p k ≡ true) ↔ MayStand x f p k
  passed_over p k h = let g = within_good request x within in (fits_then x g f p k h, then_fits x g f p k h)

  -- the frames walked for a job, from the first of them on, are those "of its window"
  pub frames_walked : plausible x f ≡ true → (y k : ℕ) → y < length x.jobs
      → ((window_start (problem_at x f) y ≤ k) × (k < window_start (problem_at x f) y + frame_count (problem_at x f) y))
      ↔ InWindow f (job_at x y).release (job_at x y).due k
  frames_walked p y k h =
      let w = window_is x (within_good request x within) f (plausible_says x f p).some y k h in
      (λ b. w.1 (b.0, omega (arith, b.0, b.1)), λ v. let b = w.0 v in (b.0, omega (arith, b.0, b.1)))
