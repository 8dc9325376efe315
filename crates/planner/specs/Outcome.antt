-- What planning a request comes to: whatever is allowed, and within an allowance of tries.
use Rattle.std.specs.Prelude.{List, ℕ, min, Bool, cond, ltb}
use Rattle.request.specs.declared.Task.{Task}
use Rattle.cycle.specs.Cycle.{Cycle, cycle, no_cycle, cycle_of}
use Rattle.cursor.specs.Written.{Written}
use Rattle.model.specs.Plan.{Instance}
use Rattle.model.specs.Answers.{instance}
use Rattle.model.specs.Plausible.{phase_rule}
use Rattle.model.specs.Chosen.{Choice, chosen, no_plan, no_plausible, choose_by, full_tries}
use Rattle.model.specs.Described.{plan_table}
use Rattle.plan_writer.specs.Outcome.{Outcome, handed, refusal, outcome_answer}
use Rattle.planner.specs.Numbered.{Searched}

-- 9: "no plausible f"; 10: "some plausible f, no plan"
abbrev pub by_choice : Instance → Choice → Outcome
by_choice x (chosen f frames) = handed (plan_table x f frames)
by_choice x no_plan = refusal 10
by_choice x no_plausible = refusal 9

-- "The planner visits 1 to 11": the request, its cycle, the choice by a rule on the windows; 11 is the writer's
abbrev pub in_cycle_by : (ℕ → Task → Bool) → Cycle → Outcome
in_cycle_by rule (cycle tasks pairs g h jobs) = by_choice (instance tasks pairs g h jobs) (choose_by rule (instance tasks pairs g h jobs))
in_cycle_by rule (no_cycle number) = refusal number

abbrev pub in_cycle : Cycle → Outcome
in_cycle = in_cycle_by phase_rule

-- what the full search comes to
unfoldable pub outcome : List ℕ → Outcome
outcome request = in_cycle (cycle_of request)

-- what the full search comes to by a rule on the windows
unfoldable pub outcome_by : (ℕ → Task → Bool) → List ℕ → Outcome
outcome_by rule request = in_cycle_by rule (cycle_of request)

-- "the full search's tries"; "The count is 0 with 1 to 9 and 17": without a cycle nothing is searched
abbrev pub tries_in : Cycle → ℕ
tries_in (cycle tasks pairs g h jobs) = full_tries (instance tasks pairs g h jobs)
tries_in (no_cycle number) = 0

unfoldable pub request_tries : List ℕ → ℕ
request_tries request = tries_in (cycle_of request)

-- "It refuses with 23, before 11 and in place of a table or 10, exactly when the full search needs more tries than allowed."
unfoldable pub outcome_within : ℕ → List ℕ → Outcome
outcome_within allowance request = cond (ltb allowance (request_tries request)) (refusal 23) (outcome request)

-- "the count comes back in the answer": "the allowance with 23, and otherwise the full search's tries"
unfoldable pub searched_answer : ℕ → List ℕ → List ℕ → Searched
searched_answer allowance request out =
    let w : Written = outcome_answer (outcome_within allowance request) out in
    record { refusal = w.refusal; length = w.length; tries = min allowance (request_tries request) }

-- "The programs that plan from standard input allow 10,000,000 tries."
abbrev pub program_tries : ℕ
program_tries = 10000000

abbrev pub program_outcome : List ℕ → Outcome
program_outcome request = outcome_within program_tries request
