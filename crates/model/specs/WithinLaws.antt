-- What a request within the limits keeps. A cycle that `cycle::read` or `cycle::of` answers without a refusal is within the limits.
use Rattle.std.specs.Prelude.{ℕ, ◌≡◌, refl, List, ◌↔◌, ◌⊎◌, Ok, Err}
use Rattle.std.proofs.Common.{sym, ap, subst, ◌∙◌, inl, inr, arith}
use Rattle.refusal.specs.Refusal.{number_of}
use Rattle.refusal.specs.declared.Refusal.{Refusal}
use Rattle.request.specs.Request.{readable}
use Rattle.request.specs.SectionLaws.{no_zero}
use Rattle.request.specs.declared.Task.{Task}
use Rattle.request.specs.declared.Pair.{Pair}
use Rattle.request.specs.declared.Request.{Request}
use Rattle.cycle.specs.Cycle.{Cycle, cycle, no_cycle, cycle_of, after_reading}
use Rattle.cycle.specs.Answers.{AsRead, cycle_for, cycle_answered}
use Rattle.cycle.specs.Numbered as numbered
use Rattle.cycle.specs.LimitLaws.{WithinLimits, after_within, after_number, cycle_within, no_cycle_number, request_number_pos}
use Rattle.cycle.specs.Planned.{InPlanningOrder}
use Rattle.cycle.specs.Exactly.{HasCycle}
use Rattle.cycle.specs.Theorem.{cycle_exactly, cycle_there}
use Rattle.cycle.specs.ReadLaws.{as_read_cycle, said_answered}
use Rattle.cycle.specs.declared.Job.{Job}
use Rattle.cycle.specs.declared.Cycle as answer
use Rattle.model.specs.Plan.{Instance}
use Rattle.model.specs.Good.{Good}
use Rattle.model.specs.Answers.{instance, instance_of}
use Rattle.model.specs.AnswerLaws.{instance_good, instance_answered}
use Rattle.model.specs.Within.{Within, WithinExact, InLimits}

module _ (request : List ℕ) where
  pub within_limits : (x : Instance) → Within request x → WithinLimits x.tasks x.pairs x.h x.jobs
  within_limits x w = cycle_within request x.tasks x.pairs x.g x.h x.jobs w

  pub within_good : (x : Instance) → Within request x → Good x
  within_good x w = instance_good x.tasks x.pairs x.g x.h x.jobs (within_limits x w)

  within_which : (x : Instance) → Within request x ↔ (HasCycle request x.tasks x.pairs x.g x.h × InPlanningOrder x.tasks x.h x.jobs)
  within_which x = cycle_exactly request x.tasks x.pairs x.g x.h x.jobs

  within_some : (tasks : List Task) (pairs : List Pair) (g h : ℕ) → HasCycle request tasks pairs g h → (x : Instance) × Within request x
  within_some tasks pairs g h has =
      let (jobs, order) = cycle_there request tasks pairs g h has in
      (instance tasks pairs g h jobs, (cycle_exactly request tasks pairs g h jobs).1 (has, order))

  -- a request is within the limits exactly if its bytes, its H and the number of its jobs say so
  pub within_exactly : WithinExact request
  within_exactly = record {
    some = (λ w. let x = w.0 in (x.tasks, x.pairs, x.g, x.h, ((within_which x).0 w.1).0), λ c. within_some c.0 c.1 c.2 c.3 c.4);
    which = within_which;
  }

  -- within the limits, or refused with a number
  pub within_or_not : ((x : Instance) × Within request x) ⊎ ((number : ℕ) × (cycle_of request ≡ no_cycle number))
  within_or_not = go (cycle_of request) refl
    where
      go : (c : Cycle) → cycle_of request ≡ c → ((x : Instance) × Within request x) ⊎ ((number : ℕ) × (cycle_of request ≡ no_cycle number))
      go (cycle tasks pairs g h jobs) e = inl (instance tasks pairs g h jobs, e)
      go (no_cycle number) e = inr (number, e)

module _ (tasks : List Task) (pairs : List Pair) (g h : ℕ) (jobs : List Job) (w : WithinLimits tasks pairs h jobs) where
  module _ (c : answer.Cycle) (is : c ≡ cycle_answered (cycle tasks pairs g h jobs)) where
    same_instance : instance_of c ≡ instance tasks pairs g h jobs
    same_instance = ap instance_of is ∙ instance_answered tasks pairs g h jobs w

    in_limits : InLimits c
    in_limits = record {
      good = subst Good (sym same_instance) (instance_good tasks pairs g h jobs w);
      few_tasks = omega (arith, ap (λ (d : answer.Cycle). d.n) is, w.readable.few_tasks);
      few_pairs = omega (arith, ap (λ (d : answer.Cycle). d.m) is, w.readable.few_pairs);
      few_jobs = omega (arith, ap (λ (d : answer.Cycle). d.count) is, w.jobs_few);
    }

-- the answer of `cycle::of`
pub of_in_limits : (r : Request) → AsRead r → (c : answer.Cycle) → numbered.cycle_said (Ok c) ≡ numbered.cycle_numbered (cycle_for r) → InLimits c
of_in_limits r a c is = go (after_reading (readable a.tasks a.pairs a.g)) refl (is ∙ ap numbered.cycle_numbered (as_read_cycle a))
  where
    go : (d : Cycle) → after_reading (readable a.tasks a.pairs a.g) ≡ d → numbered.cycle_said (Ok c) ≡ numbered.cycle_numbered d → InLimits c
    go (cycle tasks pairs g h jobs) e q =
        let w = after_within (readable a.tasks a.pairs a.g) a.kept tasks pairs g h jobs e in
        in_limits tasks pairs g h jobs w c (said_answered (cycle tasks pairs g h jobs) q)
    go (no_cycle number) e q =
        let positive = request_number_pos (after_number (readable a.tasks a.pairs a.g) a.kept number e) in
        absurd (omega (arith, ap (λ (d : numbered.Cycle). d.refusal) q, positive))

-- The answer of `cycle::read` tells what is planned, and that it is within the limits; or the number of the refusal.
pub record Taken (request : List ℕ) (c : answer.Cycle) : Type 0 where
  pub within : Within request (instance_of c)
  pub limits : InLimits c

-- the cycle of a request that is not refused
pub read_within : (request : List ℕ) (c : answer.Cycle) → c ≡ cycle_answered (cycle_of request) → numbered.cycle_number (cycle_of request) ≡ 0 → Taken request c
read_within request c is z = go (cycle_of request) refl is z
  where
    go : (d : Cycle) → cycle_of request ≡ d → c ≡ cycle_answered d → numbered.cycle_number d ≡ 0 → Taken request c
    go (cycle tasks pairs g h jobs) e q none =
        let w = cycle_within request tasks pairs g h jobs e in
        let same = same_instance tasks pairs g h jobs w c q in
        record {
          within = e ∙ ap (λ (x : Instance). cycle x.tasks x.pairs x.g x.h x.jobs) (sym same);
          limits = in_limits tasks pairs g h jobs w c q;
        }
    go (no_cycle number) e q none = absurd (omega (arith, none, request_number_pos (no_cycle_number request number e)))

-- the answer of `cycle::read`: a cycle,
pub read_taken : (request : List ℕ) (c : answer.Cycle) → numbered.cycle_said (Ok c) ≡ numbered.cycle_numbered (cycle_of request) → Taken request c
read_taken request c is =
    read_within request c (said_answered (cycle_of request) is) (ap (λ (d : numbered.Cycle). d.refusal) (sym is))

-- or a refusal
pub read_refused : (request : List ℕ) (e : Refusal) → numbered.cycle_said (Err e) ≡ numbered.cycle_numbered (cycle_of request) → cycle_of request ≡ no_cycle (number_of e)
read_refused request e is = go (cycle_of request) refl is
  where
    go : (d : Cycle) → cycle_of request ≡ d → numbered.cycle_said (Err e) ≡ numbered.cycle_numbered d → cycle_of request ≡ no_cycle (number_of e)
    go (cycle tasks pairs g h jobs) at q = absurd (no_zero e (ap (λ (d : numbered.Cycle). d.refusal) q))
    go (no_cycle number) at q = at ∙ ap no_cycle (sym (ap (λ (d : numbered.Cycle). d.refusal) q))
