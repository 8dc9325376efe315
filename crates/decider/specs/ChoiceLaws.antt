-- The loop over the lengths with the exact search: what it answers at each of them, and what the loop comes to.
use Rattle.std.specs.Prelude.{ℕ, ◌+◌, ◌/◌, ◌≤◌, ◌<◌, min, ◌≡◌, refl, true, false, List, [], Some, None, Err}
use Rattle.refusal.specs.declared.Refusal.{Refusal}
use Rattle.refusal.specs.declared.Refusal.TheVariants.{NoPlausibleLength, NoPlan}
use Rattle.cursor.specs.Padded.{padded}
use Rattle.search.specs.Search.{Found, none, at}
use Rattle.search.specs.Placing.{plan_walk}
use Rattle.model.specs.Plan.{Instance}
use Rattle.model.specs.Chosen.{is_tried, choose, problem_at}
use Rattle.exact_searcher.specs.Arrays.{found_answer}
use Rattle.planner.specs.Choices.{choice_answer}
use Rattle.planner.specs.TriedLaws as tried
use Rattle.planner.specs.TriedLaws.{Choosing, why_passed}
use Rattle.planner.specs.Numbered.{ChosenPlan, plan_said}

-- what an answer says of what was found
said_none : (o : Found) → None ≡ found_answer o → o ≡ none
unfolding found_answer
said_none none e = refl
said_none (at frames) e = (cc)

said_some : (o : Found) {frames : List ℕ} → Some frames ≡ found_answer o → (found : List ℕ) × (o ≡ at found) × (frames ≡ padded 128 0 found)
unfolding found_answer
said_some none e = (cc)
said_some (at found) e = (found, refl, cc)

-- the loop; the tries of the lengths that are passed are not counted
pub record Deciding (x : Instance) (rows : ℕ) (why : Refusal) : Type 0 where
  pub spent : ℕ
  pub so_far : Choosing x spent rows why

pub deciding_start : (x : Instance) → Deciding x 1 NoPlausibleLength
deciding_start x = record { spent = 0; so_far = tried.choosing_start x }

module _ {x : Instance} {rows : ℕ} {why : Refusal} (v : Deciding x rows why) where
  module _ (few : rows ≤ 256) where
    -- a length that is not tried
    pub skipped : is_tried x rows ≡ false → Deciding x (rows + 1) why
    skipped not = record { spent = v.spent; so_far = tried.skipped v.so_far few not }

    module _ (is_one : is_tried x rows ≡ true) where
      -- a length without a plan
      pub none_with : None ≡ found_answer (plan_walk (problem_at x (x.h / rows)) []).found → Deciding x (rows + 1) NoPlan
      none_with is = record { spent = _; so_far = tried.none_with v.so_far few is_one (said_none (plan_walk (problem_at x (x.h / rows)) []).found is) }

      -- a length with one
      pub one_with : {frames : List ℕ} → Some frames ≡ found_answer (plan_walk (problem_at x (x.h / rows)) []).found
          → ◌≡◌ {A = ChosenPlan} (record { refusal = 0; f = x.h / rows; frames = frames; tries = 0 }) (choice_answer (choose x) 0)
      unfolding choice_answer
      one_with is =
          let (found, found_is, frames_are) = said_some (plan_walk (problem_at x (x.h / rows)) []).found is in
          rw (tried.one_with v.so_far few is_one found_is).0 (λ i. record { refusal = 0; f = x.h / rows; frames = frames_are i; tries = 0 })

  -- all lengths are passed
  pub passed : min x.h 256 < rows → rows ≤ 257 → plan_said 0 (Err why) ≡ choice_answer (choose x) 0
  passed all most = why_passed v.so_far all most 0
