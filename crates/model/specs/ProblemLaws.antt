-- The problem that the search is given at a length f is the plan's: its placings are the plans with that length, and it is proper where f
-- is plausible. Windows agree frame by frame; each pair is kept exactly if the links by it are, for of its two jobs j the one placed
-- later has the link to the other (`MayStandLaws`).
use Rattle.std.specs.Prelude.{◌≡◌, Bool, ◌⊎◌, ◌≢◌, List, ℕ, ◌≤◌, ◌<◌, length}
use Rattle.std.proofs.Math.Path.{sym}
use Rattle.std.proofs.Common.{ap, ◌∙◌, inl, inr, arith}
use Rattle.std.specs.Int.{◌∣◌}
use Rattle.std.proofs.Math.ListN.{get_or, length-map, get_or-eq_default}
use Rattle.cursor.specs.ChoiceLaws.{lt_or_ge}
use Rattle.arith.specs.Residue.{quotient_pos}
use Rattle.request.specs.declared.Task.{Task}
use Rattle.search.specs.Placing.{Proper}
use Rattle.search.specs.Plans.{IsPlacing}
use Rattle.model.specs.Plan.{Instance, pair_at, job_at, rows_at, costs, frame_at, PairsKept, IsPlan}
use Rattle.model.specs.Chosen.{first_frame_of, end_frame_of, problem_at}
use Rattle.model.specs.Good.{Good}
use Rattle.model.specs.GoodLaws.{job_facts}
use Rattle.model.specs.PlanLaws.{costs_length, cost_at_lem, length_pos}
use Rattle.model.specs.PlausibleLaws.{PlausibleBy}
use Rattle.model.specs.LinksLaws.{counts_length, links_linked}
use Rattle.model.specs.MayStandLaws.{KeepsLinks, window_is, links_say}

abbrev LinksKept : Instance → ℕ → List ℕ → Type 0
LinksKept x f frames = (y : ℕ) → y < length x.jobs → KeepsLinks x f frames y (frame_at frames y)

module _ (x : Instance) (g : Good x) (f : ℕ) where
  abbrev n : ℕ
  n = length x.jobs

  -- the links are kept, so the pairs are
  links_order : (frames : List ℕ) → LinksKept x f frames → PairsKept x frames
  links_order frames kept u hu y z hy hz ty tz num = go (lt_or_ge y z)
    where
      go : (y < z) ⊎ (z ≤ y) → frame_at frames y ≤ frame_at frames z
      go (inl h) = ((links_say x g f frames z (frame_at frames z) hz).0 (kept z hz)).not_before u y hu h tz ty num
      go (inr h) =
          let rises = (g.readable.pair u hu).rises in
          let apart : z ≢ y = λ q. let e : (pair_at x u).a ≡ (pair_at x u).b = sym ty ∙ ap (λ w. (job_at x w).task) (sym q) ∙ tz in omega arith in
          ((links_say x g f frames y (frame_at frames y) hy).0 (kept y hy)).not_behind u z hu (omega arith) ty tz (sym num)

  -- the pairs are kept, so the links are
  order_links : (frames : List ℕ) → PairsKept x frames → LinksKept x f frames
  order_links frames order y hy = (links_say x g f frames y (frame_at frames y) hy).1 (record {
    not_before = λ u z hu h ty tz num. order u hu z y (omega arith) hy tz ty num;
    not_behind = λ u z hu h ty tz num. order u hu y z hy (omega arith) ty tz (sym num);
  })

  -- a placing is a plan
  pub placing_is_plan : 0 < f → f ∣ x.h → rows_at x f ≤ 256 → (frames : List ℕ) → IsPlacing (problem_at x f) frames → IsPlan x f frames
  unfolding problem_at
  placing_is_plan pos divides few frames v =
      let size = costs_length x in
      record {
        divides = divides;
        few_rows = few;
        all = v.all ∙ size;
        window = λ y h. (window_is x g f pos y (frame_at frames y) h).1 (v.window y (omega arith));
        capacity = v.room;
        order = links_order frames (λ y h. v.order y (omega arith));
      }

  -- and a plan a placing
  pub plan_is_placing : (frames : List ℕ) → IsPlan x f frames → IsPlacing (problem_at x f) frames
  unfolding problem_at
  plan_is_placing frames v =
      let size = costs_length x in
      record {
        all = v.all ∙ sym size;
        window = λ y h. (window_is x g f (length_pos x g f frames v) y (frame_at frames y) (omega arith)).0 (v.window y (omega arith));
        room = v.capacity;
        order = λ y h. order_links frames v.order y (omega arith);
      }

  -- where f is plausible, the problem is one for the search
  pub problem_proper : {rule : ℕ → Task → Bool} → PlausibleBy rule x f → Proper (problem_at x f)
  unfolding problem_at
  problem_proper p =
      let size = costs_length x in
      record {
        firsts = omega (arith, size, length-map x.jobs (first_frame_of f));
        ends = omega (arith, size, length-map x.jobs (end_frame_of f));
        counted = omega (arith, size, counts_length x);
        linked = links_linked x g.readable.few_pairs g.few_jobs;
        some_row = quotient_pos x.h f g.some_time p.divides;
        costs = λ y. go y (lt_or_ge y n);
      }
    where
      go : (y : ℕ) → (y < n) ⊎ (n ≤ y) → get_or (costs x) y 0 ≤ f
      go y (inl h) = omega (arith, cost_at_lem x y h, (p.rules (job_at x y).task (job_facts x g y h).known).room)
      go y (inr h) = omega (arith, get_or-eq_default (costs x) 0 {n = y} (omega (arith, costs_length x)))
