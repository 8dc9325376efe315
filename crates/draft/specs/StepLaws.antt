-- The steps of the test of a draft, on the answers of the functions that it calls.
use Rattle.std.specs.Prelude.{ℕ, ◌/◌, ◌≤◌, ◌<◌, min, ◌≡◌, refl, Bool, true, ◌&&◌, length, get_or, take}
use Rattle.std.proofs.Math.Path.{sym, ap}
use Rattle.std.proofs.Common.{◌∙◌, arith}
use Rattle.std.proofs.Math.Bool.{false}
use mathlib.Core.List.{List, foldr}
use Rattle.std.proofs.Math.Dec.{eqb}
use Rattle.cursor.specs.Padded.{padded, firsts}
use Rattle.cursor.specs.PaddedLaws.{firsts_length, firsts_padded}
use Rattle.cursor.specs.RangeLaws.{over_same}
use Rattle.cycle.specs.Planned.{no_job}
use Rattle.cycle.specs.declared.Job.{Job}
use Rattle.cycle.specs.declared.Cycle as answer
use Rattle.model.specs.Plan.{Instance, costs}
use Rattle.model.specs.PlanLaws.{costs_length}
use Rattle.model.specs.Plausible.{plausible}
use Rattle.model.specs.PlausibleLaws.{plausible_says}
use Rattle.model.specs.Answers.{instance_of}
use Rattle.plan_rules.specs.Every.{every}
use Rattle.plan_rules.specs.Rules.{rules_right}
use Rattle.plan_rules.specs.Slices.{firsts_take}
use Rattle.plan_rules.specs.RulesSay.{RulesKept, rules_say}
use Rattle.draft.specs.Draft.{placed_of, frames_held, placed_part, placed_frames, load_right, sound_draft}
use Rattle.draft.specs.Answers.{placing, with_jobs, same_at, RowsFit, LoadsAre}
use Rattle.draft.specs.PlacedLaws.{placed_count, placed_few}
use Rattle.draft.specs.declared.Draft.{Draft}
use Rattle.draft.specs.declared.Placing.{Placing}

-- two tests that answer alike of every number below n
every_same : (a b : ℕ → Bool) (n : ℕ) → ((r : ℕ) → r < n → a r ≡ b r) → every n a ≡ every n b
every_same a b n h = ap (foldr ◌&&◌ true) (over_same a b 0 n (λ r low high. h r (omega arith)))

module _ (c : answer.Cycle) (d : Draft) where
  abbrev x : Instance
  x = instance_of c

  pub not_plausible : plausible (instance_of c) d.f ≡ false → false ≡ sound_draft (instance_of c) d
  unfolding sound_draft
  not_plausible e = rw e

  module _ (can : plausible (instance_of c) d.f ≡ true) where
    pub some_length : 0 < d.f
    some_length = (plausible_says (instance_of c) d.f can).some

    module _ (n : ℕ) (n_is : n ≡ min c.count 128) (p : Placing) (so : p ≡ placing (firsts n 0 d.frames) (firsts n no_job c.jobs)) where
      abbrev part : answer.Cycle
      part = with_jobs c p.jobs p.count

      abbrev jobs : List Job
      jobs = placed_of (firsts n 0 d.frames) (firsts n no_job c.jobs)

      abbrev frames : List ℕ
      frames = placed_of (firsts n 0 d.frames) (firsts n 0 d.frames)

      few : length jobs ≤ 128
      few = omega (arith, placed_few (firsts n 0 d.frames) (firsts n no_job c.jobs), firsts_length 0 d.frames n)

      same_count : length jobs ≡ length frames
      same_count =
          placed_count (firsts n 0 d.frames) (firsts n no_job c.jobs) (firsts n 0 d.frames)
          (firsts_length 0 d.frames n ∙ sym (firsts_length no_job c.jobs n)) refl

      count_is : p.count ≡ length jobs
      unfolding placing
      count_is = ap (λ (q : Placing). q.count) so

      held_is : frames_held (instance_of c) d ≡ firsts n 0 d.frames
      held_is = rw (firsts_length no_job c.jobs (min c.count 128), n_is)

      jobs_are : (instance_of c).jobs ≡ firsts n no_job c.jobs
      jobs_are = rw n_is

      placed_jobs : placed_of (frames_held (instance_of c) d) (instance_of c).jobs ≡ jobs
      placed_jobs = rw (held_is, jobs_are)

      their_jobs : firsts p.count no_job p.jobs ≡ jobs
      unfolding placing
      their_jobs = rw so (firsts_padded 128 no_job jobs)

      their_frames : firsts p.count 0 p.frames ≡ frames
      unfolding placing
      their_frames = rw (so, same_count) (firsts_padded 128 0 frames)

      small : min p.count 128 ≡ p.count
      small = omega (arith, count_is, few)

      pub part_is : instance_of part ≡ placed_part (instance_of c) d
      part_is =
          let same : firsts (min p.count 128) no_job p.jobs ≡ placed_of (frames_held (instance_of c) d) (instance_of c).jobs = rw (small, their_jobs) (sym placed_jobs) in
          λ i. record {
            tasks = (instance_of c).tasks;
            pairs = (instance_of c).pairs;
            g = c.g;
            h = c.h;
            jobs = same i;
          }

      frames_are : firsts p.count 0 p.frames ≡ placed_frames (instance_of c) d
      frames_are = rw held_is their_frames

      abbrev rules_answer : Bool
      rules_answer = rules_right (instance_of part) (c.h / d.f) d.f (firsts (min p.count 128) 0 p.frames)

      answer_is : rules_answer ≡ rules_right (placed_part (instance_of c) d) (c.h / d.f) d.f (placed_frames (instance_of c) d)
      answer_is = rw (part_is, small, frames_are)

      pub rules_broken : rules_answer ≡ false → false ≡ sound_draft (instance_of c) d
      unfolding sound_draft
      rules_broken e =
          let broken : rules_right (placed_part (instance_of c) d) (c.h / d.f) d.f (placed_frames (instance_of c) d) ≡ false = sym answer_is ∙ e in
          rw (can, broken)

      module _ (kept : rules_answer ≡ true) where
        right : rules_right (placed_part (instance_of c) d) (c.h / d.f) d.f (placed_frames (instance_of c) d) ≡ true
        right = sym answer_is ∙ kept

        say : RulesKept (placed_part (instance_of c) d) (c.h / d.f) d.f (placed_frames (instance_of c) d)
        say = rules_say (placed_part (instance_of c) d) (c.h / d.f) d.f (placed_frames (instance_of c) d) right

        pub count_few : p.count ≤ 128
        count_few = omega (arith, count_is, few)

        pub rows_few : c.h / d.f ≤ 256
        rows_few = say.few_rows

        module _ (cost : List ℕ) (cost_is : cost ≡ padded 128 0 (costs (instance_of part))) where
          costs_are : firsts p.count 0 cost ≡ costs (placed_part (instance_of c) d)
          costs_are =
              let size : length (costs (placed_part (instance_of c) d)) ≡ p.count
              = costs_length (placed_part (instance_of c) d) ∙ ap length placed_jobs ∙ sym count_is in
              rw (cost_is, part_is, ← size) (firsts_padded 128 0 (costs (placed_part (instance_of c) d)))

          pub rows_fit : d.f ≤ 65535 → RowsFit (c.h / d.f) (firsts p.count 0 cost) (firsts p.count 0 p.frames)
          rows_fit wide = record {
            some_row = say.some_row;
            few_rows = say.few_rows;
            small = rw (costs_are, frames_are) (λ r low. omega (arith, say.capacity r low));
          }

          pub loads_decide : (sums : List ℕ) → LoadsAre (c.h / d.f) (firsts p.count 0 cost) (firsts p.count 0 p.frames) sums
              → every (c.h / d.f) (same_at d.loads sums) ≡ sound_draft (instance_of c) d
          unfolding sound_draft same_at
          loads_decide sums are =
              let told = rw (costs_are, frames_are) at are.sums in
              let same : every (c.h / d.f) (same_at d.loads sums) ≡ every (c.h / d.f) (load_right (instance_of c) d)
              = every_same (same_at d.loads sums) (load_right (instance_of c) d) (c.h / d.f)
              (λ r low. ap (λ (s : ℕ). eqb (get_or d.loads r 0) s) (told r low)) in
              rw (can, right) same

          -- the same of the places that are lent
          module _ (cost_long : length cost ≡ 128) (frames_long : length p.frames ≡ 128) where
            pub rows_fit_lent : d.f ≤ 65535 → RowsFit (c.h / d.f) (take p.count cost) (take p.count p.frames)
            rows_fit_lent wide =
                rw (← firsts_take 0 cost p.count (omega (arith, count_few)), ← firsts_take 0 p.frames p.count (omega (arith, count_few))) (rows_fit wide)

            pub loads_decide_lent : (sums : List ℕ) → LoadsAre (c.h / d.f) (take p.count cost) (take p.count p.frames) sums
                → every (c.h / d.f) (same_at d.loads sums) ≡ sound_draft (instance_of c) d
            loads_decide_lent sums are =
                loads_decide sums
                (rw (firsts_take 0 cost p.count (omega (arith, count_few)), firsts_take 0 p.frames p.count (omega (arith, count_few))) are)

-- the jobs and frames that are lent to be placed
pub placed_lent : (c : answer.Cycle) (d : Draft) (n : ℕ) → n ≤ 128 → length c.jobs ≡ 128 → length d.frames ≡ 128
    → (p : Placing) → p ≡ placing (take n d.frames) (take n c.jobs) → p ≡ placing (firsts n 0 d.frames) (firsts n no_job c.jobs)
placed_lent c d n few jobs frames p is =
    rw (firsts_take 0 d.frames n (omega (arith, frames)), firsts_take no_job c.jobs n (omega (arith, jobs))) is
