-- bus_decide beside bus_plan: where the tries suffice, or bus_plan answers anything but 23 negated, both answer the same and leave the same in the
-- buffer; and what each of them hands out passes bus_check.
use Rattle.std.specs.Prelude.{ℕ, ◌≤◌, ◌≡◌, List, pos, length, take}
use Rattle.planner.specs.Outcome.{request_tries}
use Rattle.bus.specs.Reply.{refused_reply}
use Rattle.bus.specs.Check.{check_reply}
use Rattle.bus.specs.Plan.{plan_reply, plan_buffer}
use Rattle.bus.specs.Decide.{decide_reply, decide_buffer}

-- both answer the same and leave the same
pub record SameInC (allowance : ℕ) (request out tries : List ℕ) : Type 0 where
  pub answer : plan_reply allowance request out tries ≡ decide_reply request out
  pub bytes : plan_buffer allowance request out tries ≡ decide_buffer request out

-- there are 8 bytes for the count of tries
abbrev pub ReachedSame : Type 0
ReachedSame = (allowance : ℕ) (request out tries : List ℕ) → 8 ≤ length tries → request_tries request ≤ allowance → SameInC allowance request out tries

abbrev pub AnsweredSame : Type 0
AnsweredSame = (allowance : ℕ) (request out tries : List ℕ) → 8 ≤ length tries → (plan_reply allowance request out tries ≡ refused_reply 23 → ⊥)
    → SameInC allowance request out tries

-- bus_plan answered n: these first n bytes pass bus_check
abbrev pub PlanPasses : Type 0
PlanPasses = (allowance : ℕ) (request out tries : List ℕ) (n : ℕ) → plan_reply allowance request out tries ≡ pos n
    → check_reply request (take n (plan_buffer allowance request out tries)) ≡ pos 0

-- and so for bus_decide
abbrev pub DecidePasses : Type 0
DecidePasses = (request out : List ℕ) (n : ℕ) → decide_reply request out ≡ pos n → check_reply request (take n (decide_buffer request out)) ≡ pos 0
