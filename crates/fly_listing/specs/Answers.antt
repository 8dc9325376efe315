-- What the functions inside answer and put: the lines of a flight, or a refusal and nothing.
use Rattle.std.specs.Prelude.{ℕ, ◌≡◌, List, Result, Ok, Err}
use Rattle.refusal.specs.Refusal.{number_of}
use Rattle.refusal.specs.declared.Refusal.{Refusal}
use Rattle.table.specs.Table.{Decoded, malformed}
use Rattle.text.specs.Text.{filled_to, put_all_of}
use Rattle.plan_listing.specs.Listing.{refused_line}
use Rattle.plan_listing.specs.Answers.{table_in}
use Rattle.fly_listing.specs.Flown.{flight_lines, flight_listing}

-- the lines of a table's flight were put; or it could not be read, and nothing was
abbrev pub FramesPut : Result ℕ Refusal → Decoded → List ℕ → List ℕ → Type 0
FramesPut (Ok end) d old new = filled_to end new ≡ put_all_of (filled_to 0 old) (flight_lines (table_in d))
FramesPut (Err e) d old new = (new ≡ old) × (number_of e ≡ 12) × (d ≡ malformed)

-- the listing was put; or it is the line of this refusal, and nothing was put
abbrev pub FlightPut : Result ℕ Refusal → List ℕ → List ℕ → List ℕ → Type 0
FlightPut (Ok end) request old new = filled_to end new ≡ put_all_of (filled_to 0 old) (flight_listing request)
FlightPut (Err e) request old new = (new ≡ old) × (refused_line (number_of e) ≡ flight_listing request)
