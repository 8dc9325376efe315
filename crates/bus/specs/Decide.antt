-- bus_decide: what it answers and leaves in the buffer.
use Rattle.std.specs.Prelude.{ℕ, List, ℤ}
use Rattle.plan_writer.specs.Outcome.{outcome_answer, outcome_buffer}
use Rattle.planner.specs.Outcome.{outcome}
use Rattle.bus.specs.Reply.{written_reply}

unfoldable pub decide_reply : List ℕ → List ℕ → ℤ
decide_reply request out = written_reply (outcome_answer (outcome request) out)

unfoldable pub decide_buffer : List ℕ → List ℕ → List ℕ
decide_buffer request out = outcome_buffer (outcome request) out
