-- What the tests of the rules say: the rules of a plan hold exactly if the tests do.
use Rattle.std.specs.Prelude.{ℕ, ◌*◌, ◌≤◌, ◌<◌, ◌≡◌, Bool, List, leb, eqb}
use Rattle.std.proofs.Math.Path.{refl, sym}
use Rattle.std.proofs.Math.Bool.{true, false, cond}
use Rattle.std.proofs.Math.ListN.{length}
use borrow.Author.Tests.{le-leb, leb-true, eq-eqb, eqb-true}
use Rattle.cursor.specs.ParsedLaws.{both_true}
use Rattle.search.specs.Placing.{row_sum}
use Rattle.model.specs.Plan.{Instance, job_at, pair_at, frame_at, costs, PairsKept, InWindow}
use Rattle.model.specs.Named.{is_job}
use Rattle.model.specs.NamedLaws.{job_says, says_job}
use Rattle.plan_rules.specs.Every.{every}
use Rattle.plan_rules.specs.EveryLaws.{every_says, says_every}
use Rattle.plan_rules.specs.Rules.{in_window, window_kept, other_kept, one_kept, pair_kept, capacity_kept, windows_right, capacity_right, order_right, height_right, rules_right}

module _ (x : Instance) (frames : List ℕ) where
  -- the frame of the job at place y lies in its window
  abbrev Kept : ℕ → ℕ → Type 0
  Kept f y = InWindow f (job_at x y).release (job_at x y).due (frame_at frames y)

  windows_say : (f : ℕ) → windows_right x f frames ≡ true → (y : ℕ) → y < length x.jobs → Kept f y
  unfolding windows_right window_kept in_window
  windows_say f e y h =
      let b = both_true (leb (job_at x y).release (frame_at frames y * f)) _ (every_says (window_kept x.jobs frames f) (length x.jobs) e y h) in
      record { not_early = leb-true _ _ b.0; not_late = leb-true _ _ b.1 }

  say_windows : (f : ℕ) → ((y : ℕ) → y < length x.jobs → Kept f y) → windows_right x f frames ≡ true
  unfolding windows_right window_kept in_window
  say_windows f h =
      says_every (window_kept x.jobs frames f) (length x.jobs)
      (λ y high. rw (le-leb _ _ (h y high).not_early, le-leb _ _ (h y high).not_late))

  capacity_says : (rows f : ℕ) → capacity_right x rows f frames ≡ true → (r : ℕ) → r < rows → row_sum rows (costs x) frames r ≤ f
  unfolding capacity_right capacity_kept
  capacity_says rows f e r h = leb-true _ f (every_says (capacity_kept rows (costs x) frames f) rows e r h)

  says_capacity : (rows f : ℕ) → ((r : ℕ) → r < rows → row_sum rows (costs x) frames r ≤ f) → capacity_right x rows f frames ≡ true
  unfolding capacity_right capacity_kept
  says_capacity rows f h = says_every (capacity_kept rows (costs x) frames f) rows (λ r high. le-leb _ f (h r high))

  order_says : order_right x frames ≡ true → PairsKept x frames
  unfolding order_right pair_kept one_kept other_kept
  order_says e u hu y z hy hz ty tz num =
      let n = length x.jobs in
      let pair = every_says (pair_kept x.jobs frames n x.pairs) (length x.pairs) e u hu in
      let one = every_says (one_kept x.jobs frames n (pair_at x u).a (pair_at x u).b) n pair y hy in
      let others = rw (eq-eqb (job_at x y).task (pair_at x u).a ty) at one in
      let other = every_says (other_kept x.jobs frames (pair_at x u).b (job_at x y).number (frame_at frames y)) n others z hz in
      let named = says_job (pair_at x u).b (job_at x y).number (job_at x z) (record { task_is = tz; number_is = sym num }) in
      leb-true (frame_at frames y) (frame_at frames z) (rw named at other)

  says_order : PairsKept x frames → order_right x frames ≡ true
  unfolding order_right pair_kept one_kept other_kept
  says_order kept =
      says_every (pair_kept x.jobs frames (length x.jobs) x.pairs) (length x.pairs)
      (λ u hu. says_every (one_kept x.jobs frames (length x.jobs) (pair_at x u).a (pair_at x u).b) (length x.jobs)
      (λ y hy. one u hu y hy (eqb (job_at x y).task (pair_at x u).a) refl))
    where
      other : (u : ℕ) → u < length x.pairs → (y : ℕ) → y < length x.jobs → (job_at x y).task ≡ (pair_at x u).a → (z : ℕ) → z < length x.jobs
          → (b : Bool) → is_job (pair_at x u).b (job_at x y).number (job_at x z) ≡ b → cond b (leb (frame_at frames y) (frame_at frames z)) true ≡ true
      other u hu y hy ty z hz true q =
          let v = job_says (pair_at x u).b (job_at x y).number (job_at x z) q in
          le-leb _ _ (kept u hu y z hy hz ty v.task_is (sym v.number_is))
      other u hu y hy ty z hz false q = refl

      one : (u : ℕ) → u < length x.pairs → (y : ℕ) → y < length x.jobs → (b : Bool) → eqb (job_at x y).task (pair_at x u).a ≡ b
          → cond b (every (length x.jobs) (other_kept x.jobs frames (pair_at x u).b (job_at x y).number (frame_at frames y))) true ≡ true
      one u hu y hy true q =
          says_every (other_kept x.jobs frames (pair_at x u).b (job_at x y).number (frame_at frames y)) (length x.jobs)
          (λ z hz. other u hu y hy (eqb-true (job_at x y).task (pair_at x u).a q) z hz (is_job (pair_at x u).b (job_at x y).number (job_at x z)) refl)
      one u hu y hy false q = refl

-- the rules of a plan, of frames of length f in `rows` rows
pub record RulesKept (x : Instance) (rows f : ℕ) (frames : List ℕ) : Type 0 where
  pub some_row : 1 ≤ rows
  pub few_rows : rows ≤ 256
  pub window : (y : ℕ) → y < length x.jobs → InWindow f (job_at x y).release (job_at x y).due (frame_at frames y)
  pub capacity : (r : ℕ) → r < rows → row_sum rows (costs x) frames r ≤ f
  pub order : PairsKept x frames

module _ (x : Instance) (rows f : ℕ) (frames : List ℕ) where
  pub rules_say : rules_right x rows f frames ≡ true → RulesKept x rows f frames
  unfolding rules_right height_right
  rules_say e =
      let a = both_true (height_right rows) _ e in
      let h = both_true (leb 1 rows) (leb rows 256) a.0 in
      let b = both_true (windows_right x f frames) _ a.1 in
      let c = both_true (capacity_right x rows f frames) (order_right x frames) b.1 in
      record {
        some_row = leb-true 1 rows h.0;
        few_rows = leb-true rows 256 h.1;
        window = windows_say x frames f b.0;
        capacity = capacity_says x frames rows f c.0;
        order = order_says x frames c.1;
      }

  pub say_rules : RulesKept x rows f frames → rules_right x rows f frames ≡ true
  unfolding rules_right height_right
  say_rules k =
      let capacity = says_capacity x frames rows f k.capacity in
      rw (le-leb 1 rows k.some_row, le-leb rows 256 k.few_rows, say_windows x frames f k.window, capacity, says_order x frames k.order)
