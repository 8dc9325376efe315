-- The rules of a cycle in its arrays, as they are tested one after the other.
use Rattle.std.specs.Prelude.{ℕ, ◌≤◌, ◌<◌, min, ◌≡◌, refl, Bool, true, false, ◌&&◌, List, length, take}
use Rattle.std.proofs.Common.{sym, ◌∙◌, arith}
use borrow.Author.Tests.{le-leb, lt-leb}
use Rattle.cursor.specs.Padded.{padded, firsts}
use Rattle.cursor.specs.PaddedLaws.{firsts_length, firsts_padded}
use Rattle.request.specs.Request.{no_pair}
use Rattle.cycle.specs.Planned.{no_job}
use Rattle.cycle.specs.declared.Cycle.{Cycle}
use Rattle.model.specs.Plan.{costs}
use Rattle.model.specs.PlanLaws.{costs_length}
use Rattle.model.specs.Answers.{instance_of}
use Rattle.plan_rules.specs.Every.{every}
use Rattle.plan_rules.specs.Slices.{firsts_take}
use Rattle.plan_rules.specs.Rules.{window_kept, pair_kept, capacity_kept, windows_right, capacity_right, order_right, height_right, rules_right}

-- a cycle, the places of its jobs' frames, `rows` rows of length f; n and m are the numbers of its jobs and pairs
module _ (c : Cycle) (places : List ℕ) (rows f n : ℕ) (n_is : n ≡ min c.count 128) where
  abbrev answer : Bool
  answer = rules_right (instance_of c) rows f (firsts (min c.count 128) 0 places)

  abbrev windows : Bool
  windows = every n (window_kept (firsts n no_job c.jobs) (firsts n 0 places) f)

  abbrev order : ℕ → Bool
  order m = every m (pair_kept (firsts n no_job c.jobs) (firsts n 0 places) n (firsts m no_pair c.pairs))

  -- the same tests of the places that are lent
  module _ (few : n ≤ 128) (jobs_long : length c.jobs ≡ 128) (places_long : length places ≡ 128) where
    pub lent_windows : every (length (take n c.jobs)) (window_kept (take n c.jobs) (take n places) f) ≡ windows
    lent_windows =
        rw (← firsts_take no_job c.jobs n (omega arith), ← firsts_take 0 places n (omega arith), firsts_length no_job c.jobs n)

    pub lent_capacity : (cost : List ℕ) → length cost ≡ 128
        → every rows (capacity_kept rows (take n cost) (take n places) f) ≡ every rows (capacity_kept rows (firsts n 0 cost) (firsts n 0 places) f)
    lent_capacity cost long = rw (firsts_take 0 cost n (omega arith), firsts_take 0 places n (omega arith))

    pub lent_order : (m : ℕ) → m ≤ 16 → length c.pairs ≡ 16
        → every (length (take m c.pairs)) (pair_kept (take n c.jobs) (take n places) (length (take n c.jobs)) (take m c.pairs)) ≡ order m
    lent_order m low long =
        rw (
          ← firsts_take no_job c.jobs n (omega arith),
          ← firsts_take 0 places n (omega arith),
          ← firsts_take no_pair c.pairs m (omega arith),
          firsts_length no_job c.jobs n,
          firsts_length no_pair c.pairs m,
        )

  -- the costs in their array
  module _ (cost : List ℕ) (cost_is : cost ≡ padded 128 0 (costs (instance_of c))) where
    abbrev capacity : Bool
    capacity = every rows (capacity_kept rows (firsts n 0 cost) (firsts n 0 places) f)

    costs_are : firsts (min c.count 128) 0 cost ≡ costs (instance_of c)
    costs_are =
        let x = instance_of c in
        let size : length (costs x) ≡ min c.count 128 = costs_length x ∙ firsts_length no_job c.jobs (min c.count 128) in
        rw cost_is (rw size at (firsts_padded 128 0 (costs x)))

    pub rules_are : answer ≡ height_right rows && (windows && (capacity && order (min c.m 16)))
    unfolding rules_right windows_right capacity_right order_right
    rules_are = rw (n_is, costs_are, firsts_length no_job c.jobs (min c.count 128), firsts_length no_pair c.pairs (min c.m 16))

  pub no_row : rows < 1 → false ≡ answer
  unfolding rules_right height_right
  no_row h = rw (lt-leb 1 rows h)

  pub many_rows : 256 < rows → false ≡ answer
  unfolding rules_right height_right
  many_rows h = rw (le-leb 1 rows (omega arith), lt-leb rows 256 h)

  module _ (some : 1 ≤ rows) (few : rows ≤ 256) where
    height : height_right rows ≡ true
    unfolding height_right
    height = rw (le-leb 1 rows some, le-leb rows 256 few)

    pub windows_broken : windows ≡ false → false ≡ answer
    windows_broken e = sym (rules_are (padded 128 0 (costs (instance_of c))) refl ∙ rw (height, e))

    module _ (kept : windows ≡ true) (cost : List ℕ) (cost_is : cost ≡ padded 128 0 (costs (instance_of c))) where
      pub capacity_broken : capacity cost cost_is ≡ false → false ≡ answer
      capacity_broken e = sym (rules_are cost cost_is ∙ rw (height, kept, e))

      pub order_decides : capacity cost cost_is ≡ true → (m : ℕ) → m ≡ min c.m 16 → order m ≡ answer
      order_decides e m m_is = sym (rules_are cost cost_is ∙ rw (height, kept, e, m_is))
