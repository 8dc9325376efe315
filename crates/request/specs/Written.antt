-- What the writer of requests answers and leaves in the buffer, and the file in it.
use Rattle.std.specs.Prelude.{ℕ, List, take}
use Rattle.cursor.specs.Written.{written, buffer}
use Rattle.request.specs.Request.{Reading, readable, unreadable}
use Rattle.request.specs.Encode.{request_bytes}
use Rattle.cursor.specs.Written.{Written}

-- A request that is to be written, or the number of a refusal. "A refusal returns its number, length 0 .. and the buffer untouched."
unfoldable pub request_answer : Reading → List ℕ → Written
request_answer (readable tasks pairs g) out = written (request_bytes tasks pairs g) out
request_answer (unreadable number) out = record { refusal = number; length = 0 }

unfoldable pub request_buffer : Reading → List ℕ → List ℕ
request_buffer (readable tasks pairs g) out = buffer (request_bytes tasks pairs g) out
request_buffer (unreadable number) out = out

-- the number of a refusal, 0 for a request
abbrev pub own_number : Reading → ℕ
own_number (readable tasks pairs g) = 0
own_number (unreadable number) = number

-- the file at the front of the buffer, as long as the answer says
abbrev pub file_of : Reading → List ℕ → List ℕ
file_of r out = take (request_answer r out).length (request_buffer r out)
