-- The laws by which a request is planned: it is refused, or its choice decides, or the tries end first.
use Prim.Native.Nat.{ℕ, ◌≤◌, ◌<◌, min}
use Rattle.std.specs.Prelude.{◌≡◌, Bool, List}
use Rattle.std.proofs.Math.Path.{refl, sym, ap}
use Rattle.std.proofs.Common.{◌∙◌, arith}
use Rattle.std.proofs.Math.Bool.{true, false}
use Rattle.std.proofs.Math.Dec.{ltb}
use borrow.Author.Tests.{le-ltb, lt-ltb, ltb-true, ltb-false}
use Rattle.cycle.specs.Cycle.{no_cycle, cycle_of}
use Rattle.cycle.specs.declared.Cycle as c
use Rattle.cursor.specs.Written.{Written}
use Rattle.model.specs.Plan.{Instance}
use Rattle.model.specs.Answers.{instance_of}
use Rattle.model.specs.WithinLaws.{Taken}
use Rattle.model.specs.Chosen.{Choice, chosen, no_plan, no_plausible, choose, RightBy, RightChoice, choose_walk, full_tries}
use Rattle.model.specs.ChosenLaws.{choose_right}
use Rattle.model.specs.Described.{plan_table}
use Rattle.plan_writer.specs.Written.{plan_written, plan_buffer}
use Rattle.plan_writer.specs.WriteLaws.{plan_written_lem}
use Rattle.plan_writer.specs.Outcome.{refusal, outcome_answer, outcome_buffer}
use Rattle.plan_writer.specs.OutcomeLaws.{refused_answer, refused_buffer, table_answer, table_buffer}
use Rattle.planner.specs.Outcome.{by_choice, in_cycle, outcome, tries_in, request_tries, outcome_within, searched_answer}
use Rattle.planner.specs.Choices.{none_chosen, choice_answer, choice_within}
use Rattle.planner.specs.Numbered.{Searched}
use Rattle.planner.specs.Numbered.{ChosenPlan}

-- the allowance reaches the full search's tries, or it does not
module _ (a : ℕ) (s : List ℕ) where
  pub within_reached : request_tries s ≤ a → outcome_within a s ≡ outcome s
  unfolding outcome_within
  within_reached h = rw (le-ltb a (request_tries s) h)

  pub within_exceeded : a < request_tries s → outcome_within a s ≡ refusal 23
  unfolding outcome_within
  within_exceeded h = rw (lt-ltb a (request_tries s) h)

-- what is answered, and left in the buffer
abbrev pub Hands : ℕ → List ℕ → List ℕ → Searched → List ℕ → Type 0
Hands a s out r out' = (r ≡ searched_answer a s out) × (out' ≡ outcome_buffer (outcome_within a s) out)

-- a refusal's answer, from its parts
refusal_handed : (a : ℕ) (s : List ℕ) (number tries : ℕ) → outcome_within a s ≡ refusal number → tries ≡ min a (request_tries s)
    → (r : Searched) → (r.refusal ≡ number) × (r.length ≡ 0) × (r.tries ≡ tries) → (out : List ℕ) → Hands a s out r out
unfolding searched_answer
refusal_handed a s number tries e t r parts out =
    rw (e, refused_answer number out, refused_buffer number out) (λ i. record { refusal = parts.0 i; length = parts.1 i; tries = (parts.2 ∙ t) i }, refl)

-- the request is refused
pub not_within : (a : ℕ) (s : List ℕ) (number : ℕ) → cycle_of s ≡ no_cycle number
    → (r : Searched) → (r.refusal ≡ number) × (r.length ≡ 0) × (r.tries ≡ 0) → (out : List ℕ) → Hands a s out r out
unfolding outcome request_tries
not_within a s number e =
    let none : request_tries s ≡ 0 = ap tries_in e in
    refusal_handed a s number 0 (within_reached a s (omega arith) ∙ ap in_cycle e) (omega arith)

-- an answer has the tries that were counted
pub counted_tries : (o : Choice) {p : ChosenPlan} {tries : ℕ} → p ≡ choice_answer o tries → p.tries ≡ tries
unfolding choice_answer
counted_tries (chosen f frames) q = ap (λ (y : ChosenPlan). y.tries) q
counted_tries no_plan q = ap (λ (y : ChosenPlan). y.tries) q
counted_tries no_plausible q = ap (λ (y : ChosenPlan). y.tries) q

-- it is within the limits
module _ (s : List ℕ) (d : c.Cycle) (t : Taken s d) where
  abbrev x : Instance
  x = instance_of d

  outcome_is : outcome s ≡ by_choice x (choose x)
  unfolding outcome
  outcome_is = ap in_cycle t.within

  tries_are : request_tries s ≡ full_tries x
  unfolding request_tries
  tries_are = ap tries_in t.within

  -- the choice was searched to its end, however many tries were counted: it is a refusal
  pub choice_refused : {p : ChosenPlan} (tries : ℕ) → p ≡ choice_answer (choose x) tries → (p.refusal ≡ 0 → ⊥) → outcome s ≡ refusal p.refusal
  unfolding choice_answer
  choice_refused {p} tries p_is ne = outcome_is ∙ go (choose x) p_is
    where
      go : (o : Choice) → p ≡ choice_answer o tries → by_choice x o ≡ refusal p.refusal
      go (chosen f frames) q = absurd (ne (ap (λ (y : ChosenPlan). y.refusal) q))
      go no_plan q = ap refusal (sym (ap (λ (y : ChosenPlan). y.refusal) q))
      go no_plausible q = ap refusal (sym (ap (λ (y : ChosenPlan). y.refusal) q))

  -- or a plan, and it is written
  pub choice_written : {p : ChosenPlan} (tries : ℕ) → p ≡ choice_answer (choose x) tries → p.refusal ≡ 0 → (out : List ℕ) {w : Written} {out' : List ℕ}
      → w ≡ plan_written x p.f p.frames out → out' ≡ plan_buffer x p.f p.frames out
      → (w ≡ outcome_answer (outcome s) out) × (out' ≡ outcome_buffer (outcome s) out)
  unfolding choice_answer RightBy
  choice_written {p} tries p_is z out {w} {out'} w_is out_is = rw outcome_is (go (choose x) p_is (choose_right x t.limits.good))
    where
      go : (o : Choice) → p ≡ choice_answer o tries → RightChoice x o → (w ≡ outcome_answer (by_choice x o) out) × (out' ≡ outcome_buffer (by_choice x o) out)
      go (chosen f frames) q r =
          let written = plan_written_lem x t.limits.good f frames out r.is_plan.all in
          let table = plan_table x f frames in
          (w_is ∙ rw q written.0 ∙ sym (table_answer table out), out_is ∙ rw q written.1 ∙ sym (table_buffer table out))
      go no_plan q r = absurd (omega (arith, ap (λ (y : ChosenPlan). y.refusal) q))
      go no_plausible q r = absurd (omega (arith, ap (λ (y : ChosenPlan). y.refusal) q))

  module _ (a : ℕ) (p : ChosenPlan) (p_is : p ≡ choice_within a (choose_walk x)) where
    -- the tries ended first, or they did not
    exceeded_is : ltb a (full_tries x) ≡ true → p ≡ none_chosen 23 a
    unfolding choice_within
    exceeded_is e = p_is ∙ rw e

    reached_is : ltb a (full_tries x) ≡ false → p ≡ choice_answer (choose x) (full_tries x)
    unfolding choice_within
    reached_is e = p_is ∙ rw e

    -- 9, 10 or 23
    pub none_chosen_lem : (p.refusal ≡ 0 → ⊥) → (r : Searched) → (r.refusal ≡ p.refusal) × (r.length ≡ 0) × (r.tries ≡ p.tries)
        → (out : List ℕ) → Hands a s out r out
    none_chosen_lem ne = go (ltb a (full_tries x)) refl
      where
        go : (b : Bool) → ltb a (full_tries x) ≡ b → (r : Searched) → (r.refusal ≡ p.refusal) × (r.length ≡ 0) × (r.tries ≡ p.tries)
            → (out : List ℕ) → Hands a s out r out
        go true e =
            let h = ltb-true a (full_tries x) e in
            let q = exceeded_is e in
            refusal_handed a s p.refusal p.tries
            (within_exceeded a s (omega (arith, tries_are)) ∙ ap refusal (sym (ap (λ (y : ChosenPlan). y.refusal) q)))
            (omega (arith, ap (λ (y : ChosenPlan). y.tries) q, tries_are))
        go false e =
            let h = ltb-false a (full_tries x) e in
            let q = reached_is e in
            refusal_handed a s p.refusal p.tries (within_reached a s (omega (arith, tries_are)) ∙ choice_refused (full_tries x) q ne)
            (omega (arith, counted_tries (choose x) q, tries_are))

    -- the chosen plan is written
    pub plan_chosen : p.refusal ≡ 0 → (out : List ℕ) {w : Written} {out' : List ℕ} → w ≡ plan_written x p.f p.frames out
        → out' ≡ plan_buffer x p.f p.frames out → Hands a s out (record { refusal = w.refusal; length = w.length; tries = p.tries }) out'
    unfolding searched_answer
    plan_chosen z out {w} {out'} w_is out_is = go (ltb a (full_tries x)) refl
      where
        go : (b : Bool) → ltb a (full_tries x) ≡ b → Hands a s out (record { refusal = w.refusal; length = w.length; tries = p.tries }) out'
        go true e = absurd (omega (arith, ap (λ (y : ChosenPlan). y.refusal) (exceeded_is e)))
        go false e =
            let h = ltb-false a (full_tries x) e in
            let q = reached_is e in
            let o = choice_written (full_tries x) q z out w_is out_is in
            let tries : p.tries ≡ min a (request_tries s) = omega (arith, counted_tries (choose x) q, tries_are) in
            rw (within_reached a s (omega (arith, tries_are)))
            (λ i. record { refusal = (o.0 i).refusal; length = (o.0 i).length; tries = tries i }, o.1)
