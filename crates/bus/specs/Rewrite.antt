-- bus_rewrite: what it answers and leaves in the buffer.
use Rattle.std.specs.Prelude.{ℕ, List, ℤ}
use Rattle.plan_writer.specs.Outcome.{outcome_answer, outcome_buffer}
use Rattle.rewriter.specs.Rewritten.{rewritten}
use Rattle.bus.specs.Reply.{written_reply}

unfoldable pub rewrite_reply : List ℕ → List ℕ → List ℕ → ℤ
rewrite_reply request table out = written_reply (outcome_answer (rewritten request table) out)

unfoldable pub rewrite_buffer : List ℕ → List ℕ → List ℕ → List ℕ
rewrite_buffer request table out = outcome_buffer (rewritten request table) out
