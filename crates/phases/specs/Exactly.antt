-- What the four counts are, in terms of the planner's own public answers, for all byte strings, task numbers and allowances. 02, R-11.
use Rattle.std.specs.Prelude.{ℕ, ◌+◌, ◌*◌, ◌≤◌, ◌<◌, ◌≡◌, Bool, true, false, ◌↔◌, ◌⊎◌, List, length, get_or, eqb}
use Rattle.cursor.specs.Fields.{Bytes}
use Rattle.request.specs.declared.Task.{Task}
use Rattle.cycle.specs.Cycle.{no_cycle, cycle_of}
use Rattle.model.specs.Plan.{Instance, task_at}
use Rattle.model.specs.Within.{Within}
use Rattle.planner.specs.Outcome.{searched_answer}
use Rattle.phases.specs.Phases.{with_phase, how_many, uncounted, phases}
use Rattle.phases.specs.Numbered.{PhaseCounts}

-- y is the task x with the phase p
pub record WithPhase (x : Task) (p : ℕ) (y : Task) : Type 0 where
  pub same_c : y.c ≡ x.c
  pub same_t : y.t ≡ x.t
  pub same_d : y.d ≡ x.d
  pub p_is : y.p ≡ p

-- What the bytes with the phase p say: the request with that phase of task i and all else as it was. It is within the limits too, so that 1 to 8 and 17 do not occur.
-- Its jobs are planned in their own order, since `Within` gives the cycle of the new bytes.
-- Rules out: another task's or another field's bytes; the third section lost; releases of the old phase; job numbers in the old planning order.
pub record PhaseSet (request : List ℕ) (x : Instance) (i p : ℕ) : Type 0 where
  pub y : Instance
  pub within : Within (with_phase request i p) y
  pub as_many : length y.tasks ≡ length x.tasks
  pub itself : WithPhase (task_at x i) p (task_at y i)
  pub others : (k : ℕ) → (k ≡ i → ⊥) → task_at y k ≡ task_at x k
  pub same_pairs : y.pairs ≡ x.pairs
  pub same_g : y.g ≡ x.g
  pub same_h : y.h ≡ x.h
  pub same_number : length y.jobs ≡ length x.jobs
  -- no other byte is touched
  pub same_length : length (with_phase request i p) ≡ length request
  pub other_bytes : (k : ℕ) → (k < 7 + 8 * i) ⊎ (9 + 8 * i ≤ k) → get_or (with_phase request i p) k 0 ≡ get_or request k 0

module _ (allowance : ℕ) (request : List ℕ) (i : ℕ) where
  abbrev pub answer : PhaseCounts
  answer = phases allowance request i

  -- the PLANNER's public answer for the request with the phase p, into this buffer
  abbrev pub planner_says : List ℕ → ℕ → ℕ
  planner_says out p = (searched_answer allowance (with_phase request i p) out).refusal

  -- how many phases of task i lead to that answer of the planner
  abbrev pub phases_with : Instance → List ℕ → ℕ → ℕ
  phases_with x out number = how_many (task_at x i).t (λ p. eqb (planner_says out p) number)

  -- a table has at most 7 + 256 + 2·128 bytes: a buffer of as many is never too short
  abbrev pub Roomy : List ℕ → Type 0
  Roomy out = 519 ≤ length out

  -- x is what is planned for the request, and task i is known
  -- Rules out: counts that only add up; 23 counted as 10, 9 as 10; one allowance for all phases; the first phase that fits taken for all behind it; phases 1 to T; an answer that
  -- depends on the request's own P.
  pub record Counts (x : Instance) : Type 0 where
    -- "each is the number of phases with that answer"
    pub tables_are : (out : List ℕ) → Roomy out → answer.tables ≡ phases_with x out 0
    pub nines_are : (out : List ℕ) → Roomy out → answer.nines ≡ phases_with x out 9
    pub tens_are : (out : List ℕ) → Roomy out → answer.tens ≡ phases_with x out 10
    pub ended_are : (out : List ℕ) → Roomy out → answer.ended ≡ phases_with x out 23
    -- every phase leads to one of the four
    pub one_of_four : (out : List ℕ) → Roomy out → (p : ℕ) → p < (task_at x i).t
        → (planner_says out p ≡ 0) ⊎ ((planner_says out p ≡ 9) ⊎ ((planner_says out p ≡ 10) ⊎ (planner_says out p ≡ 23)))
    -- "The four counts add up to T"
    pub add_up : answer.tables + answer.nines + answer.tens + answer.ended ≡ (task_at x i).t
    -- each phase is that of the request, all else unchanged; and the request's own phase is one of them, with the request's own bytes
    pub each_phase : (p : ℕ) → p < (task_at x i).t → PhaseSet request x i p
    pub own_phase : Bytes request → with_phase request i (task_at x i).p ≡ request
    pub own_counted : (task_at x i).p < (task_at x i).t

  -- Rules out: 16 before 7 or 8; counts beside a refusal.
  pub record PhasesExact : Type 0 where
    -- "a valid request within the cycle limits": else its own number, 1 to 8 and 17
    pub own_number : (number : ℕ) → cycle_of request ≡ no_cycle number → answer.refusal ≡ number
    -- "An unknown task gives 16, after 8."
    pub sixteen : (answer.refusal ≡ 16) ↔ ((x : Instance) × Within request x × (length x.tasks ≤ i))
    pub accepted : (answer.refusal ≡ 0) ↔ ((x : Instance) × Within request x × (i < length x.tasks))
    -- a refusal counts nothing
    pub none_counted : (answer.refusal ≡ 0 → ⊥) → answer ≡ uncounted answer.refusal
    pub counts : (x : Instance) → Within request x → i < length x.tasks → Counts x

-- How many: none of none; and one number more counts for 1 exactly if it passes. So nobody has to believe a recursion.
pub record HowManyMeans (test : ℕ → Bool) (n : ℕ) : Type 0 where
  pub none : how_many 0 test ≡ 0
  pub passes : test n ≡ true → how_many (n + 1) test ≡ how_many n test + 1
  pub fails : test n ≡ false → how_many (n + 1) test ≡ how_many n test

-- What more tries change: "A larger allowance never turns a table, 9 or 10 into another answer", so only phases that ended with 23 change, to a table or to 10.
pub record MoreTries (was becomes : PhaseCounts) : Type 0 where
  pub same_refusal : becomes.refusal ≡ was.refusal
  pub tables : was.tables ≤ becomes.tables
  pub nines : becomes.nines ≡ was.nines
  pub tens : was.tens ≤ becomes.tens
  pub ended : becomes.ended ≤ was.ended

abbrev pub LargerTheorem : Type 0
LargerTheorem = (a b : ℕ) → a ≤ b → (request : List ℕ) (i : ℕ) → MoreTries (phases a request i) (phases b request i)

-- The request's own phase of the task does not matter: with every phase that the task may have, the counts are the same
abbrev pub OwnPhaseTheorem : Type 0
OwnPhaseTheorem = (allowance : ℕ) (request : List ℕ) (i : ℕ) (x : Instance) → Within request x → i < length x.tasks → (p : ℕ) → p < (task_at x i).t
    → phases allowance (with_phase request i p) i ≡ phases allowance request i
