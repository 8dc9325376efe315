-- What `fly` prints for a request, as bytes: `refused N`, or three cycles of its table in flight, with a line `frame m start t` for each frame and in it
-- the entries served as task.job@q, where q is the cycle of the job. Each line ends in a newline, the last one too.
use Rattle.std.specs.Prelude.{ℕ, ◌-◌, ◌*◌, ◌/◌, cond}
use mathlib.Core.List.{List, ◌++◌, flat_map}
use Rattle.cursor.specs.Range.{range}
use Rattle.table.specs.Table.{Entry, Table}
use Rattle.plan_writer.specs.Outcome.{Outcome, handed, refusal}
use Rattle.planner.specs.Outcome.{program_outcome}
use Rattle.flight.specs.Calls.{height, plain_frame}
use Rattle.text.specs.Text.{ascii, decimal_of}
use Rattle.plan_listing.specs.Listing.{refused_line, named, each}

-- "An entry of frame m in cycle q = m div F stands for its job of cycle q, or of cycle q − 1 if carried"
unfoldable pub job_cycle : ℕ → Entry → ℕ
job_cycle q e = cond e.carried (q - 1) q

unfoldable pub served_text : ℕ → Entry → List ℕ
served_text q e = named e ++ ascii "@" ++ decimal_of (job_cycle q e)

-- frame m, which starts at t and is of cycle q
unfoldable pub frame_line : ℕ → ℕ → ℕ → List Entry → List ℕ
frame_line m t q es = ascii "frame " ++ decimal_of m ++ ascii " start " ++ decimal_of t ++ each (served_text q) es ++ ascii "\n"

-- "In frame m (from 0) the first entry served starts at m·f"
abbrev pub line_at : Table → ℕ → List ℕ
line_at t m = frame_line m (m * t.f) (m / height t) (plain_frame t m)

-- three cycles
abbrev pub flight_lines : Table → List ℕ
flight_lines t = flat_map (line_at t) (range 0 (3 * height t))

abbrev pub flown : Outcome → List ℕ
flown (handed t) = flight_lines t
flown (refusal number) = refused_line number

unfoldable pub flight_listing : List ℕ → List ℕ
flight_listing request = flown (program_outcome request)
