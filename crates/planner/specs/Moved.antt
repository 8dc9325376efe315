-- What R-5 moved in the planner: no table, and of the refusals some 10, which became 9.
-- Two runs of the full search are compared, which differ in the rule on the windows alone: 01's and that of the phase. Both choices are right, and every length that
-- is plausible by the rule of the phase is so by 01's. So the plan is the same, and where there is none, at most the question whether some length is plausible has
-- another answer. Nothing is said of the tries: by 01's rule more lengths may be tried, so an allowance may end that search earlier.
use Rattle.std.specs.Prelude.{ℕ, ◌≡◌, ◌⊎◌, List}
use Rattle.std.proofs.Math.Path.{refl, sym, ap}
use Rattle.std.proofs.Common.{◌∙◌, inr}
use Rattle.std.proofs.Math.Logic.{inl, ⊎_elim}
use Rattle.model.specs.Plan.{Instance}
use Rattle.model.specs.Plausible.{common_rule, phase_rule}
use Rattle.model.specs.Within.{Within}
use Rattle.model.specs.WithinLaws.{within_good, within_or_not}
use Rattle.model.specs.Chosen.{no_plan, no_plausible, choose_by, choose}
use Rattle.model.specs.ChosenLaws.{choice_moved}
use Rattle.plan_writer.specs.Outcome.{refusal}
use Rattle.planner.specs.Outcome.{outcome, outcome_by, in_cycle_by, by_choice}

module _ (request : List ℕ) where
  -- by the rule of the phase it is the planner's outcome
  pub outcome_now : outcome_by phase_rule request ≡ outcome request
  unfolding outcome_by outcome
  outcome_now = refl

  -- THE LAW: "No table handed out changes." By 01's rule planning comes to the same, or to 10 where it is now 9.
  pub outcome_moved : (outcome_by common_rule request ≡ outcome request) ⊎ ((outcome_by common_rule request ≡ refusal 10) × (outcome request ≡ refusal 9))
  unfolding outcome_by outcome
  outcome_moved = ⊎_elim (λ w. within w.0 w.1) (λ w. inl (ap (in_cycle_by common_rule) w.1 ∙ sym (ap (in_cycle_by phase_rule) w.1))) (within_or_not request)
    where
      within : (x : Instance) → Within request x
          → (outcome_by common_rule request ≡ outcome request) ⊎ ((outcome_by common_rule request ≡ refusal 10) × (outcome request ≡ refusal 9))
      within x w = go (choice_moved x (within_good request x w))
        where
          before : outcome_by common_rule request ≡ by_choice x (choose_by common_rule x)
          before = ap (in_cycle_by common_rule) w

          now : outcome request ≡ by_choice x (choose x)
          now = ap (in_cycle_by phase_rule) w

          go : (choose_by common_rule x ≡ choose x) ⊎ ((choose_by common_rule x ≡ no_plan) × (choose x ≡ no_plausible))
              → (outcome_by common_rule request ≡ outcome request) ⊎ ((outcome_by common_rule request ≡ refusal 10) × (outcome request ≡ refusal 9))
          go (inl e) = inl (before ∙ ap (by_choice x) e ∙ sym now)
          go (inr (p, q)) = inr (before ∙ ap (by_choice x) p, now ∙ ap (by_choice x) q)
