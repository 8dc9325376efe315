-- bus_join: what it answers and leaves in the buffer.
use Rattle.std.specs.Prelude.{ℕ, List, ℤ}
use Rattle.request.specs.Request.{reading}
use Rattle.request.specs.Written.{request_answer, request_buffer}
use Rattle.cursor.specs.Written.{Written}
use Rattle.join.specs.Joined.{joined}
use Rattle.bus.specs.Reply.{written_reply}

abbrev pub join_answer : List ℕ → List ℕ → List ℕ → Written
join_answer first second out = request_answer (joined (reading first) (reading second)) out

unfoldable pub join_reply : List ℕ → List ℕ → List ℕ → ℤ
join_reply first second out = written_reply (join_answer first second out)

unfoldable pub join_buffer : List ℕ → List ℕ → List ℕ → List ℕ
join_buffer first second out = request_buffer (joined (reading first) (reading second)) out
