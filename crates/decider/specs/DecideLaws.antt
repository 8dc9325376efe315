-- The laws by which a request is decided: it is refused, or its choice decides. What is answered, and left in the buffer, is the full search's. The
-- choice is the plain search's within its tries, or the exact one's.
use Rattle.std.specs.Prelude.{ℕ, ◌≡◌, refl, Bool, true, false, List, ltb, Result, Ok, Err}
use Rattle.refusal.specs.Refusal.{number_of}
use Rattle.refusal.specs.declared.Refusal.{Refusal}
use Rattle.refusal.specs.declared.Refusal.TheVariants.{AllowanceUsed}
use Rattle.std.proofs.Common.{sym, ap, ◌∙◌, arith}
use Rattle.cycle.specs.Cycle.{no_cycle, cycle_of}
use Rattle.cursor.specs.Written.{Written}
use Rattle.model.specs.Plan.{Instance}
use Rattle.model.specs.Chosen.{Choice, chosen, no_plan, no_plausible, choose, choose_walk, full_tries}
use Rattle.plan_writer.specs.Outcome.{refusal, outcome_answer, outcome_buffer}
use Rattle.plan_writer.specs.OutcomeLaws.{refused_answer, refused_buffer}
use Rattle.planner.specs.Outcome.{in_cycle, outcome}
use Rattle.planner.specs.Choices.{none_chosen, choice_answer, choice_within}
use Rattle.planner.specs.Numbered.{ChosenPlan, plan_said}
use Rattle.planner.specs.declared.choose.ChosenPlan as code

-- what is answered, and left in the buffer
abbrev pub Decides : List ℕ → List ℕ → Written → List ℕ → Type 0
Decides s out r out' = (r ≡ outcome_answer (outcome s) out) × (out' ≡ outcome_buffer (outcome s) out)

pub refusal_decided : (s : List ℕ) (number : ℕ) → outcome s ≡ refusal number → (out : List ℕ) → Decides s out (record { refusal = number; length = 0 }) out
refusal_decided s number e out = rw e (sym (refused_answer number out), sym (refused_buffer number out))

-- the request is refused
pub not_within : (s : List ℕ) (number : ℕ) → cycle_of s ≡ no_cycle number → (out : List ℕ) → Decides s out (record { refusal = number; length = 0 }) out
unfolding outcome
not_within s number e out = refusal_decided s number (ap in_cycle e) out

-- what was chosen, without the tries that it took
abbrev no_tries : ChosenPlan → ChosenPlan
no_tries p = record { refusal = p.refusal; f = p.f; frames = p.frames; tries = 0 }

own_choice : (r : Result code.ChosenPlan Refusal) (o : Choice) (a b : ℕ) → plan_said a r ≡ choice_answer o b → plan_said 0 r ≡ choice_answer o 0
unfolding choice_answer
own_choice (Ok p) (chosen f frames) a b e = ap no_tries e
own_choice (Ok p) no_plan a b e = ap no_tries e
own_choice (Ok p) no_plausible a b e = ap no_tries e
own_choice (Err n) (chosen f frames) a b e = ap no_tries e
own_choice (Err n) no_plan a b e = ap no_tries e
own_choice (Err n) no_plausible a b e = ap no_tries e

-- 23 is that of one refusal alone
pub other_number : (e : Refusal) → (e ≡ AllowanceUsed → ⊥) → number_of e ≡ 23 → ⊥
other_number e ne = grind arith

-- the plain search goes first, with some tries; unless it answers 23, it has come to the choice
pub easily_chosen : (x : Instance) (a : ℕ) (r : Result code.ChosenPlan Refusal) (tries : ℕ) → plan_said tries r ≡ choice_within a (choose_walk x)
    → ((plan_said tries r).refusal ≡ 23 → ⊥) → plan_said 0 r ≡ choice_answer (choose x) 0
unfolding choice_within
easily_chosen x a r tries is ne = go (ltb a (full_tries x)) refl
  where
    go : (b : Bool) → ltb a (full_tries x) ≡ b → plan_said 0 r ≡ choice_answer (choose x) 0
    go true e = let open_left : plan_said tries r ≡ none_chosen 23 a = is ∙ rw e in absurd (ne (ap (λ (y : ChosenPlan). y.refusal) open_left))
    go false e = let reached : plan_said tries r ≡ choice_answer (choose x) (full_tries x) = is ∙ rw e in own_choice r (choose x) tries (full_tries x) reached
