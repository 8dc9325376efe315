-- The count of tries, read off its 8 bytes as `bus_tries` of include/bus.h does it: it is the count of the planner's answer.
use Rattle.std.specs.Prelude.{ℕ, zero, suc, ◌+◌, ◌*◌, ◌≤◌, ◌<◌, ◌^◌, ◌≡◌, List, [], ◌∷◌, length}
use Rattle.planner.specs.Outcome.{searched_answer}
use Rattle.bus.specs.Plan.{plan_tries}

-- the number that the first n bytes say, low byte first
unfoldable pub number_said : ℕ → List ℕ → ℕ
number_said zero bytes = 0
number_said (suc n) [] = 0
number_said (suc n) (low ∷ bytes) = low + 256 * number_said n bytes

-- no more tries are counted than were allowed, and the allowance is a uint64_t
abbrev pub TriesBack : Type 0
TriesBack = (allowance : ℕ) (request out tries : List ℕ) → allowance < 2 ^ 64 → 8 ≤ length tries
    → number_said 8 (plan_tries allowance request out tries) ≡ (searched_answer allowance request out).tries
