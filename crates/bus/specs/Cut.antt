-- bus_cut: what it answers and leaves in the buffer.
use Rattle.std.specs.Prelude.{ℕ, List, ℤ}
use Rattle.request.specs.Request.{reading}
use Rattle.request.specs.Written.{request_answer, request_buffer}
use Rattle.cursor.specs.Written.{Written}
use Rattle.cut.specs.Cut.{cut}
use Rattle.bus.specs.Reply.{written_reply}

abbrev pub cut_answer : List ℕ → ℕ → ℕ → List ℕ → Written
cut_answer request task first out = request_answer (cut task first (reading request)) out

unfoldable pub cut_reply : List ℕ → ℕ → ℕ → List ℕ → ℤ
cut_reply request task first out = written_reply (cut_answer request task first out)

unfoldable pub cut_buffer : List ℕ → ℕ → ℕ → List ℕ → List ℕ
cut_buffer request task first out = request_buffer (cut task first (reading request)) out
