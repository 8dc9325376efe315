-- The counts are those of the planner's public answers. Into a buffer of 519 bytes or more the planner answers the number that a phase leads to, since no table is longer; the
-- request with a phase is within the limits, so that number is one of four.
use Rattle.std.specs.Prelude.{ℕ, zero, suc, ◌+◌, ◌*◌, ◌≤◌, ◌<◌, ◌≡◌, refl, Bool, true, false, cond, ◌⊎◌, List, length, replicate, ltb, eqb}
use Rattle.std.proofs.Common.{sym, ap₂, ◌∙◌, inl, inr, ⊎_elim, le_antisymm, add-one, arith, length-set, get_or-set_same, get_or-set_other}
use Rattle.std.proofs.Math.Path.{ap}
use Rattle.std.proofs.lemmas.List.{length-replicate}
use borrow.Author.Tests.{lt-ltb, le-ltb, eq-eqb, eqb-true, eqb-false}
use Rattle.cursor.specs.Choice.{bit}
use Rattle.cursor.specs.ChoiceLaws.{lt_or_ge}
use Rattle.request.specs.Request.{readable, reading, no_task}
use Rattle.request.specs.declared.Task.{Task}
use Rattle.cycle.specs.Cycle.{no_cycle, cycle_of}
use Rattle.cycle.specs.LimitLaws.{WithinLimits, cycle_reading, no_cycle_number, request_number_pos, request_number_own}
use Rattle.cycle.specs.PhaseLaws.{task_with, tasks_with}
use Rattle.model.specs.Plan.{Instance, task_at}
use Rattle.model.specs.Answers.{instance}
use Rattle.model.specs.Within.{Within}
use Rattle.model.specs.WithinLaws.{within_limits, within_or_not}
use Rattle.model.specs.Chosen.{Choice, chosen, no_plan, no_plausible, choose}
use Rattle.cursor.specs.Written.{Written}
use Rattle.plan_writer.specs.Outcome.{Outcome, handed, refusal, outcome_answer}
use Rattle.planner.specs.Outcome.{by_choice, in_cycle, outcome, request_tries, outcome_within, searched_answer}
use Rattle.planner.specs.PlanLaws.{within_reached, within_exceeded}
use Rattle.planner.specs.HandedLaws.{table_handed}
use Rattle.plan_writer.specs.OutcomeLaws.{refused_answer, handed_answer}
use Rattle.planner.specs.TableLaws.{GoodOutcome, outcome_within_good}
use Rattle.phases.specs.Phases.{with_phase, outcome_number, leads_to, how_many, phase_counts, uncounted, phases_in, phases}
use Rattle.phases.specs.HowMany.{how_many_same, how_many_le}
use Rattle.phases.specs.PhaseBytes.{phase_inside, own_with}
use Rattle.phases.specs.PhasePlaces.{same_length, other_bytes, set_again}
use Rattle.phases.specs.PhaseCycle.{jobs_with, phase_within, same_jobs}
use Rattle.phases.specs.Exactly.{PhaseSet, planner_says, phases_with, Counts, PhasesExact, HowManyMeans, MoreTries, LargerTheorem, OwnPhaseTheorem}
use Rattle.phases.specs.Numbered.{PhaseCounts}

-- How many

pub how_many_means : (test : ℕ → Bool) (n : ℕ) → HowManyMeans test n
unfolding how_many
how_many_means test n = record {
  none = refl;
  passes = λ e. rw (add-one n, e);
  fails = λ e. rw (add-one n, e) (omega arith);
}

-- numbers that are one of four
abbrev OneOfFour : ℕ → Type 0
OneOfFour k = (k ≡ 0) ⊎ ((k ≡ 9) ⊎ ((k ≡ 10) ⊎ (k ≡ 23)))

one_bit : (k : ℕ) → OneOfFour k → bit (eqb k 0) + bit (eqb k 9) + bit (eqb k 10) + bit (eqb k 23) ≡ 1
one_bit k (inl e) = rw e
one_bit k (inr (inl e)) = rw e
one_bit k (inr (inr (inl e))) = rw e
one_bit k (inr (inr (inr e))) = rw e

four_add_up : (number : ℕ → ℕ) (n : ℕ) → ((p : ℕ) → p < n → OneOfFour (number p))
    → how_many n (λ p. eqb (number p) 0) + how_many n (λ p. eqb (number p) 9) + how_many n (λ p. eqb (number p) 10) + how_many n (λ p. eqb (number p) 23) ≡ n
unfolding how_many
four_add_up number zero each = refl
four_add_up number (suc n) each = omega (arith, four_add_up number n (λ p h. each p (omega arith)), one_bit (number n) (each n (omega arith)))

-- The planner's public answer into a buffer of 519 bytes or more is the number of its outcome

says_number : (allowance : ℕ) (s out : List ℕ) → 519 ≤ length out → (searched_answer allowance s out).refusal ≡ outcome_number (outcome_within allowance s)
unfolding searched_answer
says_number allowance s out room = go (outcome_within allowance s) (outcome_within_good allowance s)
  where
    go : (o : Outcome) → GoodOutcome o → (outcome_answer o out).refusal ≡ outcome_number o
    go (handed t) good = ap (λ (w : Written). w.refusal) (handed_answer t out (omega (arith, good.short)))
    go (refusal number) good = ap (λ (w : Written). w.refusal) (refused_answer number out)

-- and of a request within the limits it is one of four
number_of_four : (allowance : ℕ) (s : List ℕ) (x : Instance) → Within s x → OneOfFour (outcome_number (outcome_within allowance s))
unfolding outcome_within outcome
number_of_four allowance s x within = rw (ap in_cycle within) (go (ltb allowance (request_tries s)) (choose x))
  where
    go : (b : Bool) (o : Choice) → OneOfFour (outcome_number (cond b (refusal 23) (by_choice x o)))
    go true o = inr (inr (inr refl))
    go false (chosen f frames) = inl refl
    go false no_plan = inr (inr (inl refl))
    go false no_plausible = inr (inl refl)

-- A request within the limits, and one of its tasks

module _ (request : List ℕ) (i : ℕ) (x : Instance) (within : Within request x) where
  limits : WithinLimits x.tasks x.pairs x.h x.jobs
  limits = within_limits request x within

  is : reading request ≡ readable x.tasks x.pairs x.g
  is = cycle_reading request x.tasks x.pairs x.g x.h x.jobs within

  unknown_is : (allowance : ℕ) → length x.tasks ≤ i → phases allowance request i ≡ uncounted 16
  unfolding phases
  unknown_is allowance h = rw (within, le-ltb i (length x.tasks) h)

  module _ (known : i < length x.tasks) where
    counted_is : (allowance : ℕ) → phases allowance request i ≡ phase_counts (leads_to allowance request i) (task_at x i).t
    unfolding phases
    counted_is allowance = rw (within, lt-ltb i (length x.tasks) known)

    inside : 9 + 8 * i ≤ length request
    inside = phase_inside request x.tasks x.pairs x.g is i known

    module _ (p : ℕ) (early : p < (task_at x i).t) where
      abbrev y : Instance
      y = instance (tasks_with x.tasks i p) x.pairs x.g x.h (jobs_with x.tasks i p known early x.h)

      y_within : Within (with_phase request i p) y
      y_within = phase_within x.tasks i p known early x.pairs x.g x.h x.jobs limits request is

      itself_is : task_at y i ≡ task_with (task_at x i) p
      itself_is = get_or-set_same x.tasks i (task_with (task_at x i) p) no_task known

      phase_set : PhaseSet request x i p
      phase_set = record {
        y = y;
        within = y_within;
        as_many = length-set x.tasks i (task_with (task_at x i) p);
        itself = record {
          same_c = ap (λ (t : Task). t.c) itself_is;
          same_t = ap (λ (t : Task). t.t) itself_is;
          same_d = ap (λ (t : Task). t.d) itself_is;
          p_is = ap (λ (t : Task). t.p) itself_is;
        };
        others = λ k ne. get_or-set_other x.tasks i k (task_with (task_at x i) p) no_task ne;
        same_pairs = refl;
        same_g = refl;
        same_h = refl;
        same_number = same_jobs x.tasks i p known early x.pairs x.g x.h x.jobs limits;
        same_length = same_length request i p inside;
        other_bytes = other_bytes request i p inside;
      }

    module _ (allowance : ℕ) where
      says : (out : List ℕ) → 519 ≤ length out → (p : ℕ) → planner_says allowance request i out p ≡ leads_to allowance request i p
      unfolding leads_to
      says out room p = says_number allowance (with_phase request i p) out room

      of_four : (p : ℕ) → p < (task_at x i).t → OneOfFour (leads_to allowance request i p)
      unfolding leads_to
      of_four p early = number_of_four allowance (with_phase request i p) (y p early) (y_within p early)

      -- a count of numbers, as a count of the planner's answers
      count_says : (out : List ℕ) → 519 ≤ length out → (number : ℕ)
          → how_many (task_at x i).t (λ p. eqb (leads_to allowance request i p) number) ≡ phases_with allowance request i x out number
      count_says out room number =
          how_many_same (task_at x i).t (λ p. eqb (leads_to allowance request i p) number) (λ p. eqb (planner_says allowance request i out p) number)
          (λ p h. ap (λ (k : ℕ). eqb k number) (sym (says out room p)))

      counts_are : Counts allowance request i x
      unfolding phase_counts
      counts_are =
          let c = counted_is allowance in
          record {
            tables_are = λ out room. ap (λ (r : PhaseCounts). r.tables) c ∙ count_says out room 0;
            nines_are = λ out room. ap (λ (r : PhaseCounts). r.nines) c ∙ count_says out room 9;
            tens_are = λ out room. ap (λ (r : PhaseCounts). r.tens) c ∙ count_says out room 10;
            ended_are = λ out room. ap (λ (r : PhaseCounts). r.ended) c ∙ count_says out room 23;
            one_of_four = λ out room p h. rw (says out room p) (of_four p h);
            add_up = rw c (four_add_up (leads_to allowance request i) (task_at x i).t of_four);
            each_phase = phase_set;
            own_phase = own_with request x.tasks x.pairs x.g is i known;
            own_counted = (limits.readable.task i known).phase;
          }

-- a request outside the limits
not_counted : (allowance : ℕ) (request : List ℕ) (i number : ℕ) → cycle_of request ≡ no_cycle number → phases allowance request i ≡ uncounted number
unfolding phases
not_counted allowance request i number e = ap (phases_in allowance request i) e

-- THE THEOREM: for all byte strings, task numbers and allowances.
pub phases_exact : (allowance : ℕ) (request : List ℕ) (i : ℕ) → PhasesExact allowance request i
unfolding phase_counts
phases_exact allowance request i = record {
  own_number = number_is;
  sixteen = (λ e. ⊎_elim (λ w. to_sixteen w.0 w.1 e) (λ w. absurd (not_own w.0 w.1 e)) (within_or_not request), λ w. unknown w.0 w.1 w.2);
  accepted = (λ e. ⊎_elim (λ w. to_known w.0 w.1 e) (λ w. absurd (own_pos w.0 w.1 e)) (within_or_not request), λ w. known_is w.0 w.1 w.2);
  none_counted = none;
  counts = λ x w h. counts_are request i x w h allowance;
}
  where
    refused : (number : ℕ) → cycle_of request ≡ no_cycle number → phases allowance request i ≡ uncounted number
    refused = not_counted allowance request i

    number_is : (number : ℕ) → cycle_of request ≡ no_cycle number → (phases allowance request i).refusal ≡ number
    number_is number e = ap (λ (r : PhaseCounts). r.refusal) (refused number e)

    unknown : (x : Instance) → Within request x → length x.tasks ≤ i → (phases allowance request i).refusal ≡ 16
    unknown x w h = ap (λ (r : PhaseCounts). r.refusal) (unknown_is request i x w allowance h)

    known_is : (x : Instance) → Within request x → i < length x.tasks → (phases allowance request i).refusal ≡ 0
    known_is x w h = ap (λ (r : PhaseCounts). r.refusal) (counted_is request i x w h allowance)

    not_own : (number : ℕ) → cycle_of request ≡ no_cycle number → (phases allowance request i).refusal ≡ 16 → ⊥
    not_own number e z = request_number_own (no_cycle_number request number e) (omega (arith, number_is number e)) (omega (arith, number_is number e))

    own_pos : (number : ℕ) → cycle_of request ≡ no_cycle number → (phases allowance request i).refusal ≡ 0 → ⊥
    own_pos number e z = omega (arith, number_is number e, request_number_pos (no_cycle_number request number e))

    to_sixteen : (x : Instance) → Within request x → (phases allowance request i).refusal ≡ 16 → (x : Instance) × Within request x × (length x.tasks ≤ i)
    to_sixteen x w e = ⊎_elim (λ h. absurd (omega (arith, known_is x w h))) (λ h. (x, w, h)) (lt_or_ge i (length x.tasks))

    to_known : (x : Instance) → Within request x → (phases allowance request i).refusal ≡ 0 → (x : Instance) × Within request x × (i < length x.tasks)
    to_known x w e = ⊎_elim (λ h. (x, w, h)) (λ h. absurd (omega (arith, unknown x w h))) (lt_or_ge i (length x.tasks))

    none : ((phases allowance request i).refusal ≡ 0 → ⊥) → phases allowance request i ≡ uncounted (phases allowance request i).refusal
    none ne =
        ⊎_elim
        (λ w. ⊎_elim (λ h. absurd (ne (known_is w.0 w.1 h))) (λ h. same 16 (unknown_is request i w.0 w.1 allowance h)) (lt_or_ge i (length w.0.tasks)))
        (λ w. same w.0 (refused w.0 w.1))
        (within_or_not request)
      where
        same : (number : ℕ) → phases allowance request i ≡ uncounted number → phases allowance request i ≡ uncounted (phases allowance request i).refusal
        same number e = e ∙ ap (λ (r : PhaseCounts). uncounted r.refusal) (sym e)

-- The request's own phase does not matter: a second phase that is set leaves nothing of the first.
pub own_phase_theorem : OwnPhaseTheorem
unfolding leads_to
own_phase_theorem allowance request i x within known p early =
    let there = phase_set request i x within known p early in
    let same : leads_to allowance (with_phase request i p) i ≡ leads_to allowance request i
    = λ j q. outcome_number (outcome_within allowance (set_again request i p (inside request i x within known) q j)) in
    counted_is (with_phase request i p) i there.y there.within (omega (arith, there.as_many)) allowance
    ∙ ap₂ phase_counts same there.itself.same_t ∙ sym (counted_is request i x within known allowance)

-- A larger allowance: it changes no number but 23, and 9 needs no try.

module _ (a b : ℕ) (h : a ≤ b) (s : List ℕ) where
  abbrev was : ℕ
  was = outcome_number (outcome_within a s)

  abbrev becomes : ℕ
  becomes = outcome_number (outcome_within b s)

  number_stays : (was ≡ 23 → ⊥) → becomes ≡ was
  number_stays ne =
      ⊎_elim (λ t. absurd (ne (ap outcome_number (within_exceeded a s t))))
      (λ t. ap outcome_number (within_reached b s (omega arith) ∙ sym (within_reached a s t)))
      (lt_or_ge a (request_tries s))

  ended_before : becomes ≡ 23 → was ≡ 23
  ended_before e = go (eqb was 23) refl
    where
      go : (t : Bool) → eqb was 23 ≡ t → was ≡ 23
      go true q = eqb-true was 23 q
      go false q = let ne = eqb-false was 23 q in absurd (ne (sym (number_stays ne) ∙ e))

  nine_before : (x : Instance) → Within s x → becomes ≡ 9 → was ≡ 9
  nine_before x within e =
      let out : List ℕ = replicate 519 0 in
      let room : 519 ≤ length out = omega (arith, length-replicate {A = ℕ} 519 0) in
      let none = (table_handed b s out x within).nine.0 (says_number b s out room ∙ e) in
      sym (says_number a s out room) ∙ (table_handed a s out x within).nine.1 none

pub larger : LargerTheorem
unfolding phase_counts leads_to
larger a b h request i =
    ⊎_elim (λ w. ⊎_elim (known w.0 w.1) (λ l. refused 16 (λ c. unknown_is request i w.0 w.1 c l)) (lt_or_ge i (length w.0.tasks)))
    (λ w. refused w.0 (λ c. not_counted c request i w.0 w.1))
    (within_or_not request)
  where
    refused : (number : ℕ) → ((allowance : ℕ) → phases allowance request i ≡ uncounted number) → MoreTries (phases a request i) (phases b request i)
    refused number is = rw (is a, is b) (record { same_refusal = refl; tables = omega arith; nines = refl; tens = omega arith; ended = omega arith })

    known : (x : Instance) → Within request x → i < length x.tasks → MoreTries (phases a request i) (phases b request i)
    known x w l =
        rw (counted_is request i x w l a, counted_is request i x w l b) (record {
          same_refusal = refl;
          tables = kept 0 (λ z. omega arith);
          nines = le_antisymm nines (kept 9 (λ z. omega arith));
          tens = kept 10 (λ z. omega arith);
          ended = ended;
        })
      where
        is : ℕ → ℕ → ℕ → Bool
        is c k p = eqb (leads_to c request i p) k

        kept : (k : ℕ) → (k ≡ 23 → ⊥) → how_many (task_at x i).t (is a k) ≤ how_many (task_at x i).t (is b k)
        kept k ne = how_many_le (task_at x i).t (is a k) (is b k) (λ p early q.
            let same = eqb-true (leads_to a request i p) k q in
            eq-eqb _ k (number_stays a b h (with_phase request i p) (λ z. ne (sym same ∙ z)) ∙ same))

        nines : how_many (task_at x i).t (is b 9) ≤ how_many (task_at x i).t (is a 9)
        nines = how_many_le (task_at x i).t (is b 9) (is a 9) (λ p early q.
            eq-eqb _ 9 (nine_before a b h (with_phase request i p) (y request i x w l p early) (y_within request i x w l p early) (eqb-true _ 9 q)))

        ended : how_many (task_at x i).t (is b 23) ≤ how_many (task_at x i).t (is a 23)
        ended = how_many_le (task_at x i).t (is b 23) (is a 23) (λ p early q. eq-eqb _ 23 (ended_before a b h (with_phase request i p) (eqb-true _ 23 q)))
