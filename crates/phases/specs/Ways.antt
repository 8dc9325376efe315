-- The ways out of the functions: one count raised, a request refused, an unknown task, and the phases counted.
use Rattle.std.specs.Prelude.{ℕ, ◌+◌, ◌≤◌, ◌<◌, ◌≡◌, List, eqb, Ok, Err}
use Rattle.refusal.specs.Refusal.{number_of}
use Rattle.refusal.specs.declared.Refusal.{Refusal}
use Rattle.refusal.specs.declared.Refusal.TheVariants.{NoPlausibleLength, NoPlan, AllowanceUsed}
use Rattle.std.proofs.Common.{sym, ◌∙◌, arith}
use Rattle.std.proofs.Math.Path.{ap}
use Rattle.std.proofs.Math.ListN.{length}
use borrow.Author.Tests.{eq-eqb, ne_eqb, lt-ltb, le-ltb}
use Rattle.cursor.specs.Choice.{bit}
use Rattle.cursor.specs.PaddedLaws.{get_or_padded}
use Rattle.request.specs.Request.{readable, reading, no_task, period_of}
use Rattle.request.specs.Answers as request
use Rattle.request.specs.Numbered as numbered
use Rattle.request.specs.Numbered.{request_said}
use Rattle.request.specs.declared.Task.{Task}
use Rattle.request.specs.declared.Request.{Request}
use Rattle.cycle.specs.Cycle.{cycle_of}
use Rattle.cycle.specs.Answers.{cycle_for}
use Rattle.cycle.specs.Numbered as cycle
use Rattle.cycle.specs.Numbered.{cycle_said, cycle_numbered}
use Rattle.cycle.specs.LimitLaws.{cycle_reading}
use Rattle.cycle.specs.ReadLaws.{bytes_as_read, bytes_cycle}
use Rattle.cycle.specs.declared.Cycle as answer
use Rattle.model.specs.Plan.{Instance}
use Rattle.model.specs.Answers.{instance_of}
use Rattle.model.specs.Within.{Within}
use Rattle.model.specs.WithinLaws.{read_taken, read_refused}
use Rattle.phases.specs.Phases.{leads_to, phase_counts, uncounted, phases_in, phases}
use Rattle.phases.specs.Counting.{one_more, Countable, period_in, phase_number}
use Rattle.phases.specs.HowMany.{counted_same}
use Rattle.phases.specs.ReadPhase.{held, number_is}
use Rattle.phases.specs.Numbered.{PhaseCounts, counts_said}

-- One count raised, or none

module _ (counts : PhaseCounts) (number : ℕ) where
  abbrev pub Raises : ℕ → ℕ → ℕ → ℕ → Type 0
  Raises tables nines tens ended =
      record { refusal = counts.refusal; tables = tables; nines = nines; tens = tens; ended = ended } ≡ one_more counts number

  parts : {t n e d : ℕ} → t ≡ counts.tables + bit (eqb number 0) → n ≡ counts.nines + bit (eqb number 9)
      → e ≡ counts.tens + bit (eqb number 10) → d ≡ counts.ended + bit (eqb number 23) → Raises t n e d
  unfolding one_more
  parts table nine ten end = λ q. record { refusal = counts.refusal; tables = table q; nines = nine q; tens = ten q; ended = end q }

  yes : (k : ℕ) → number ≡ k → bit (eqb number k) ≡ 1
  yes k e = rw (eq-eqb number k e)

  no : (k : ℕ) → (number ≡ k → ⊥) → bit (eqb number k) ≡ 0
  no k e = rw (ne_eqb number k e)

  pub more_tables : number ≡ 0 → Raises (counts.tables + 1) counts.nines counts.tens counts.ended
  more_tables z =
      parts (omega (arith, yes 0 z)) (omega (arith, no 9 (λ e. omega arith))) (omega (arith, no 10 (λ e. omega arith))) (omega (arith, no 23 (λ e. omega arith)))

  module _ (table : number ≡ 0 → ⊥) where
    pub more_nines : number ≡ 9 → Raises counts.tables (counts.nines + 1) counts.tens counts.ended
    more_nines z = parts (omega (arith, no 0 table)) (omega (arith, yes 9 z)) (omega (arith, no 10 (λ e. omega arith))) (omega (arith, no 23 (λ e. omega arith)))

    module _ (nine : number ≡ 9 → ⊥) where
      pub more_tens : number ≡ 10 → Raises counts.tables counts.nines (counts.tens + 1) counts.ended
      more_tens z = parts (omega (arith, no 0 table)) (omega (arith, no 9 nine)) (omega (arith, yes 10 z)) (omega (arith, no 23 (λ e. omega arith)))

      module _ (ten : number ≡ 10 → ⊥) where
        pub more_ended : number ≡ 23 → Raises counts.tables counts.nines counts.tens (counts.ended + 1)
        more_ended z = parts (omega (arith, no 0 table)) (omega (arith, no 9 nine)) (omega (arith, no 10 ten)) (omega (arith, yes 23 z))

        pub no_more : (number ≡ 23 → ⊥) → Raises counts.tables counts.nines counts.tens counts.ended
        no_more end = parts (omega (arith, no 0 table)) (omega (arith, no 9 nine)) (omega (arith, no 10 ten)) (omega (arith, no 23 end))

-- each of the three numbers is that of one refusal alone

pub not_nine : (e : Refusal) → (e ≡ NoPlausibleLength → ⊥) → number_of e ≡ 9 → ⊥
not_nine e ne = grind arith

pub not_ten : (e : Refusal) → (e ≡ NoPlan → ⊥) → number_of e ≡ 10 → ⊥
not_ten e ne = grind arith

pub not_ended : (e : Refusal) → (e ≡ AllowanceUsed → ⊥) → number_of e ≡ 23 → ⊥
not_ended e ne = grind arith

-- The whole call: what the reader and the cycle answered for the bytes

pub own_number : (allowance : ℕ) (bytes : List ℕ) (i : ℕ) (e : Refusal) → cycle_said (Err e) ≡ cycle_numbered (cycle_of bytes)
    → counts_said (Err e) ≡ phases allowance bytes i
unfolding phases
own_number allowance bytes i e is = ap (phases_in allowance bytes i) (sym (read_refused bytes e is))

module _ (bytes : List ℕ) (r : Request) (read : request_said (Ok r) ≡ request.request_answered (reading bytes)) (i : ℕ) where
  pub cycle_refused : (allowance : ℕ) (e : Refusal) → cycle_said (Err e) ≡ cycle_numbered (cycle_for r) → counts_said (Err e) ≡ phases allowance bytes i
  cycle_refused allowance e is = own_number allowance bytes i e (is ∙ ap cycle_numbered (bytes_cycle bytes read))

  module _ (d : answer.Cycle) (is : cycle_said (Ok d) ≡ cycle_numbered (cycle_for r)) where
    abbrev x : Instance
    x = instance_of d

    within : Within bytes x
    within = (read_taken bytes d (is ∙ ap cycle_numbered (bytes_cycle bytes read))).within

    hold : request_said (Ok r) ≡ request.request_answered (readable x.tasks x.pairs x.g)
    hold = read ∙ ap request.request_answered (cycle_reading bytes x.tasks x.pairs x.g x.h x.jobs within)

    size : r.n ≡ length x.tasks
    size = ap (λ (y : numbered.Request). y.n) hold

    pub unknown_task : (allowance : ℕ) → r.n ≤ i → uncounted 16 ≡ phases allowance bytes i
    unfolding phases
    unknown_task allowance h = rw (within, le-ltb i (length x.tasks) (omega (arith, size)))

    pub countable : i < r.n → Countable r i
    countable h = record { as_read = bytes_as_read bytes read; within = ap (λ (y : cycle.Cycle). y.refusal) (sym is); known = h }

    pub all_counted : (allowance : ℕ) → i < r.n → phase_counts (phase_number allowance r i) (period_in r i) ≡ phases allowance bytes i
    unfolding phases
    all_counted allowance h =
        let known : i < length x.tasks = omega (arith, size) in
        let period : period_in r i ≡ period_of x.tasks i
        = ap (λ (y : numbered.Request). period_of y.tasks i) hold ∙ ap (λ (t : Task). t.t) (get_or_padded 16 no_task x.tasks i known) in
        counted_same (period_in r i) (phase_number allowance r i) (leads_to allowance bytes i) (λ p early. number_is (countable h) p early bytes read allowance)
        ∙ ap (phase_counts (leads_to allowance bytes i)) period ∙ rw (within, lt-ltb i (length x.tasks) known)

-- a task of a request is one of sixteen
pub task_few : {r : Request} {i : ℕ} → Countable r i → i < 16
task_few c = let m = held c in omega (arith, c.known, ap (λ (y : numbered.Request). y.n) m.is, m.limits.readable.few_tasks)
