-- bus_phases: what it answers, and what it leaves in the lent buffer.
use Rattle.std.specs.Prelude.{ℕ, List, ◌++◌, cond, ℤ, length, drop, ltb}
use Rattle.phases.specs.Phases.{phases}
use Rattle.lent.specs.Numbers.{counts_bytes}
use Rattle.bus.specs.Reply.{refused_reply, reply, after}

-- 0, or the number negated; 99 with fewer than 8 bytes for the counts
unfoldable pub phases_reply : ℕ → List ℕ → ℕ → List ℕ → ℤ
phases_reply allowance request task counts = cond (ltb (length counts) 8) (refused_reply 99) (reply (phases allowance request task).refusal 0)

unfoldable pub phases_counts : ℕ → List ℕ → ℕ → List ℕ → List ℕ
phases_counts allowance request task counts =
    cond (ltb (length counts) 8) counts
    (after (phases allowance request task).refusal (counts_bytes (phases allowance request task) ++ drop 8 counts) counts)
