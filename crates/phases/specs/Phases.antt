-- Which phases still fit, in the words of 02's R-11: what the call answers.
use Rattle.std.specs.Prelude.{ℕ, zero, suc, ◌+◌, ◌*◌, Bool, cond, List, ◌++◌, length, take, drop, ltb, eqb}
use Rattle.cursor.specs.Choice.{bit}
use Rattle.cursor.specs.Fields.{word_bytes}
use Rattle.request.specs.Request.{period_of}
use Rattle.cycle.specs.Cycle.{Cycle, cycle, no_cycle, cycle_of}
use Rattle.plan_writer.specs.Outcome.{Outcome, handed, refusal}
use Rattle.planner.specs.Outcome.{outcome_within}
use Rattle.phases.specs.Numbered.{PhaseCounts}

-- The request with the phase p for task i: "n records of four u16: C .., T .., D .., P .." stand behind the first byte, so that its P is the two bytes at 7 + 8·i.
-- All other bytes are the request's own.
unfoldable pub with_phase : List ℕ → ℕ → ℕ → List ℕ
with_phase request i p = take (7 + 8 * i) request ++ word_bytes p ++ drop (9 + 8 * i) request

-- the number of the planner's answer, 0 for a table; a buffer that is long enough is meant, so that 11 does not occur
abbrev pub outcome_number : Outcome → ℕ
outcome_number (handed t) = 0
outcome_number (refusal number) = number

-- what the phase leads to, with the whole allowance: "an allowance for each phase"
unfoldable pub leads_to : ℕ → List ℕ → ℕ → ℕ → ℕ
leads_to allowance request i p = outcome_number (outcome_within allowance (with_phase request i p))

-- how many of the numbers below n pass the test
unfoldable pub how_many : ℕ → (ℕ → Bool) → ℕ
how_many zero test = 0
how_many (suc n) test = how_many n test + bit (test n)

-- "count how many phases .. lead to a table, to 9, to 10 and to 23": of those below n, where `number p` is what the phase p leads to
unfoldable pub phase_counts : (ℕ → ℕ) → ℕ → PhaseCounts
phase_counts number n = record {
  refusal = 0;
  tables = how_many n (λ p. eqb (number p) 0);
  nines = how_many n (λ p. eqb (number p) 9);
  tens = how_many n (λ p. eqb (number p) 10);
  ended = how_many n (λ p. eqb (number p) 23);
}

-- "A refusal returns its number", and counts of 0
abbrev pub uncounted : ℕ → PhaseCounts
uncounted number = record { refusal = number; tables = 0; nines = 0; tens = 0; ended = 0 }

-- "For a task of a valid request within the cycle limits and an allowance for each phase, count how many phases from 0 to T − 1"; "An unknown task gives 16, after 8."
abbrev pub phases_in : ℕ → List ℕ → ℕ → Cycle → PhaseCounts
phases_in allowance request i (cycle tasks pairs g h jobs) =
    cond (ltb i (length tasks)) (phase_counts (leads_to allowance request i) (period_of tasks i)) (uncounted 16)
phases_in allowance request i (no_cycle number) = uncounted number

unfoldable pub phases : ℕ → List ℕ → ℕ → PhaseCounts
phases allowance request i = phases_in allowance request i (cycle_of request)
