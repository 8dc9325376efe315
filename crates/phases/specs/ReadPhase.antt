-- A request that was read, with another phase for one of its tasks: what planning it comes to is what the planner comes to for the bytes with that phase.
use Rattle.std.specs.Prelude.{ℕ, ◌<◌, ◌≡◌, refl, Bool, true, false, cond, List, length, get_or, take, ltb, Result, Ok, Err}
use Rattle.refusal.specs.Refusal.{refusal_in}
use Rattle.refusal.specs.declared.Refusal.{Refusal}
use Rattle.std.proofs.Common.{sym, subst, ◌∙◌, arith}
use Rattle.std.proofs.Math.Path.{ap}
use Rattle.std.proofs.Math.Seq.{take-set-lt}
use Rattle.cursor.specs.Padded.{padded}
use Rattle.cursor.specs.PaddedLaws.{take_padded, get_or_padded}
use Rattle.request.specs.Request.{Reading, readable, unreadable, reading, no_task, no_pair, period_of}
use Rattle.request.specs.Answers as request
use Rattle.request.specs.Numbered as read
use Rattle.request.specs.Numbered.{request_said}
use Rattle.request.specs.SectionLaws.{no_zero}
use Rattle.request.specs.Readable.{KeptReading}
use Rattle.request.specs.ReadableLaws.{reading_kept, unread_pos}
use Rattle.request.specs.declared.Task.{Task}
use Rattle.request.specs.declared.Pair.{Pair}
use Rattle.request.specs.declared.Request.{Request}
use Rattle.cycle.specs.Cycle.{hyperperiod, all_jobs, planned, Cycle, cycle, no_cycle, after_reading}
use Rattle.cycle.specs.Answers.{AsRead, reading_of, cycle_for, cycle_answered}
use Rattle.cycle.specs.Numbered as numbered
use Rattle.cycle.specs.Numbered.{cycle_said, cycle_number, cycle_numbered}
use Rattle.cycle.specs.LimitLaws.{WithinLimits, after_within}
use Rattle.cycle.specs.ReadLaws.{as_read_cycle, reading_back}
use Rattle.cycle.specs.PhaseLaws.{task_with, tasks_with, request_with, phase_as_read}
use Rattle.cycle.specs.declared.Job.{Job}
use Rattle.cycle.specs.declared.Cycle as answer
use Rattle.model.specs.Plan.{Instance}
use Rattle.model.specs.Answers.{instance_of, instance}
use Rattle.model.specs.AnswerLaws.{instance_answered}
use Rattle.model.specs.Within.{Within, InLimits}
use Rattle.model.specs.WithinLaws.{within_limits, of_in_limits}
use Rattle.model.specs.Chosen.{Choice, chosen, no_plan, no_plausible, choose, choose_walk, full_tries}
use Rattle.plan_writer.specs.Outcome.{refusal}
use Rattle.planner.specs.Outcome.{by_choice, outcome, request_tries, outcome_within}
use Rattle.planner.specs.declared.choose.ChosenPlan as code
use Rattle.planner.specs.Numbered.{plan_said}
use Rattle.planner.specs.Choices.{none_chosen, choice_answer, choice_within}
use Rattle.phases.specs.Phases.{with_phase, outcome_number, leads_to}
use Rattle.phases.specs.Counting.{Countable, period_in, phase_number}
use Rattle.phases.specs.PhaseCycle.{jobs_with, after_with, phase_within}

-- the choice of a request's instance has the number of the planner's outcome
pub choice_number : (a : ℕ) (s : List ℕ) (x : Instance) → Within s x → (choice_within a (choose_walk x)).refusal ≡ outcome_number (outcome_within a s)
unfolding choice_within choice_answer outcome_within outcome request_tries
choice_number a s x within = rw within (go (ltb a (full_tries x)) (choose x))
  where
    go : (b : Bool) (o : Choice) → (cond b (none_chosen 23 a) (choice_answer o (full_tries x))).refusal ≡ outcome_number (cond b (refusal 23) (by_choice x o))
    go true o = refl
    go false (chosen f frames) = refl
    go false no_plan = refl
    go false no_plausible = refl

-- the number of what was chosen
pub number_said : (tries : ℕ) (o : Result code.ChosenPlan Refusal) → refusal_in o ≡ (plan_said tries o).refusal
number_said tries (Ok p) = refl
number_said tries (Err e) = refl

-- what a request holds that is within the limits
pub record Held (r : Request) : Type 0 where
  pub tasks : List Task
  pub pairs : List Pair
  pub g : ℕ
  pub h : ℕ
  pub jobs : List Job
  pub is : request_said (Ok r) ≡ request.request_answered (readable tasks pairs g)
  pub limits : WithinLimits tasks pairs h jobs

pub held : {r : Request} {i : ℕ} → Countable r i → Held r
held {r} {i} c =
    let a = c.as_read in
    by_tests a.tasks a.pairs a.g a.is a.kept (ltb 10000 (hyperperiod a.tasks)) (ltb 128 (length (all_jobs a.tasks (hyperperiod a.tasks)))) refl refl
    (as_read_cycle a)
  where
    -- 7 and 8 are not answered
    by_tests : (tasks : List Task) (pairs : List Pair) (g : ℕ) → request_said (Ok r) ≡ request.request_answered (readable tasks pairs g)
        → KeptReading (readable tasks pairs g)
        → (s t : Bool) → ltb 10000 (hyperperiod tasks) ≡ s → ltb 128 (length (all_jobs tasks (hyperperiod tasks))) ≡ t
        → cycle_for r ≡ cond s (no_cycle 7) (cond t (no_cycle 8) (cycle tasks pairs g (hyperperiod tasks) (planned tasks (hyperperiod tasks)))) → Held r
    by_tests tasks pairs g is kept true t p q e = absurd (omega (arith, c.within, ap cycle_number e))
    by_tests tasks pairs g is kept false true p q e = absurd (omega (arith, c.within, ap cycle_number e))
    by_tests tasks pairs g is kept false false p q e = record {
      tasks = tasks;
      pairs = pairs;
      g = g;
      h = hyperperiod tasks;
      jobs = planned tasks (hyperperiod tasks);
      is = is;
      limits = after_within (readable tasks pairs g) kept tasks pairs g (hyperperiod tasks) (planned tasks (hyperperiod tasks)) (rw (p, q));
    }

module _ {r : Request} {i : ℕ} (c : Countable r i) (p : ℕ) (early : p < period_in r i) where
  m : Held r
  m = held c

  known : i < length m.tasks
  known = omega (arith, c.known, ap (λ (y : read.Request). y.n) m.is)

  task_is : get_or r.tasks i no_task ≡ get_or m.tasks i no_task
  task_is = ap (λ (y : read.Request). get_or y.tasks i no_task) m.is ∙ get_or_padded 16 no_task m.tasks i known

  soon : p < period_of m.tasks i
  soon = omega (arith, early, ap (λ (x : Task). x.t) task_is)

  read_with : reading_of (request_with r i p) ≡ readable (tasks_with m.tasks i p) m.pairs m.g
  unfolding reading_of
  read_with =
      ap (λ (y : read.Request). readable (take y.n (tasks_with y.tasks i p)) (take y.m y.pairs) y.g) m.is
      ∙ rw (
        get_or_padded 16 no_task m.tasks i known,
        take-set-lt (length m.tasks) (padded 16 no_task m.tasks) i (task_with (get_or m.tasks i no_task) p) known,
        take_padded 16 no_task m.tasks,
        take_padded 16 no_pair m.pairs,
      )

  cycle_with : cycle_for (request_with r i p) ≡ cycle (tasks_with m.tasks i p) m.pairs m.g m.h (jobs_with m.tasks i p known soon m.h)
  unfolding cycle_for
  cycle_with = ap after_reading read_with ∙ after_with m.tasks i p known soon m.pairs m.g m.h m.jobs m.limits

  -- it is planned as every request within the limits
  pub phase_read : {r' : Request} → r' ≡ request_with r i p → AsRead r'
  phase_read e = subst AsRead (sym e) (phase_as_read c.as_read i p c.known early)

  pub phase_limits : {d : answer.Cycle} → cycle_said (Ok d) ≡ cycle_numbered (cycle_for (request_with r i p)) → InLimits d
  phase_limits {d} e = of_in_limits (request_with r i p) (phase_read refl) d e

  -- and is not refused
  pub phase_accepted : (n : Refusal) → cycle_said (Err n) ≡ cycle_numbered (cycle_for (request_with r i p)) → ⊥
  phase_accepted n e = no_zero n (ap (λ (y : numbered.Cycle). y.refusal) (e ∙ ap cycle_numbered cycle_with))

  -- and its number is that of the bytes with this phase
  module _ (bytes : List ℕ) (e : request_said (Ok r) ≡ request.request_answered (reading bytes)) where
    bytes_hold : reading bytes ≡ readable m.tasks m.pairs m.g
    bytes_hold = go (reading bytes) e (reading_kept bytes)
      where
        go : (y : Reading) → request_said (Ok r) ≡ request.request_answered y → KeptReading y → y ≡ readable m.tasks m.pairs m.g
        go (readable tasks pairs g) is kept = sym (reading_back tasks pairs g is) ∙ reading_back m.tasks m.pairs m.g m.is
        go (unreadable number) is kept = absurd (omega (arith, unread_pos kept, ap (λ (y : read.Request). y.refusal) is))

    abbrev x : Instance
    x = instance (tasks_with m.tasks i p) m.pairs m.g m.h (jobs_with m.tasks i p known soon m.h)

    within : Within (with_phase bytes i p) x
    within = phase_within m.tasks i p known soon m.pairs m.g m.h m.jobs m.limits bytes bytes_hold

    pub number_is : (allowance : ℕ) → phase_number allowance r i p ≡ leads_to allowance bytes i p
    unfolding phase_number leads_to
    number_is allowance =
        let same : instance_of (cycle_answered (cycle_for (request_with r i p))) ≡ x
        = ap (λ (d : Cycle). instance_of (cycle_answered d)) cycle_with
        ∙ instance_answered x.tasks x.pairs x.g x.h x.jobs (within_limits (with_phase bytes i p) x within) in
        ap (λ (y : Instance). (choice_within allowance (choose_walk y)).refusal) same ∙ choice_number allowance (with_phase bytes i p) x within
