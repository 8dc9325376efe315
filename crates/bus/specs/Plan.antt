-- bus_plan: what it answers, and what it leaves in the two lent buffers. The count of tries stands in the first 8 bytes of the second one.
use Rattle.std.specs.Prelude.{ℕ, List, ◌++◌, cond, ℤ, length, drop, ltb}
use Rattle.plan_writer.specs.Outcome.{outcome_buffer}
use Rattle.planner.specs.Outcome.{outcome_within, searched_answer}
use Rattle.lent.specs.Numbers.{low_first}
use Rattle.bus.specs.Reply.{refused_reply, reply}

-- the length of the table, or the number negated; 99 with fewer than 8 bytes for the count
unfoldable pub plan_reply : ℕ → List ℕ → List ℕ → List ℕ → ℤ
plan_reply allowance request out tries =
    cond (ltb (length tries) 8) (refused_reply 99) (reply (searched_answer allowance request out).refusal (searched_answer allowance request out).length)

unfoldable pub plan_buffer : ℕ → List ℕ → List ℕ → List ℕ → List ℕ
plan_buffer allowance request out tries = cond (ltb (length tries) 8) out (outcome_buffer (outcome_within allowance request) out)

-- the count, whatever the answer is
unfoldable pub plan_tries : ℕ → List ℕ → List ℕ → List ℕ → List ℕ
plan_tries allowance request out tries =
    cond (ltb (length tries) 8) tries (low_first 8 (searched_answer allowance request out).tries ++ drop 8 tries)
