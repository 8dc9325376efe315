-- The laws by which a flight is listed: a turn of the loop over the frames and its end, and what the dispatcher gives for a frame.
use Rattle.std.specs.Prelude.{ℕ, ◌+◌, ◌-◌, ◌*◌, ◌/◌, ◌%◌, ◌≤◌, ◌<◌, ◌≡◌, refl, take, Result, Ok, Err}
use Rattle.std.proofs.Common.{sym, ap, ◌∙◌, mod-lt, arith}
use mathlib.Core.List.{List, flat_map}
use Rattle.refusal.specs.declared.Refusal.{Refusal}
use Rattle.cursor.specs.Range.{range}
use Rattle.table.specs.Table.{Table, Decoded, table, malformed, decode, row_of}
use Rattle.table.specs.Inverse.{decode_wellformed}
use Rattle.table.specs.RisingLaws.{rising_few, row_rises}
use Rattle.table.specs.AnswerLaws.{entries_given, given_count, given_refusal}
use Rattle.table.specs.Left.{less_one, none_left}
use Rattle.dispatcher.specs.Dispatch.{no_overruns, state_at, shown, moved, next_frame, entries_of}
use Rattle.dispatcher.specs.FrameLaws.{frame_served_lem, served_rises, moved_at}
use Rattle.dispatcher.specs.declared.State.{State}
use Rattle.dispatcher.specs.Numbered.{Frame}
use Rattle.plan_writer.specs.Outcome.{handed, refusal, outcome_buffer}
use Rattle.planner.specs.Outcome.{program_tries, program_outcome, searched_answer}
use Rattle.planner.specs.Numbered.{Searched}
use Rattle.flight.specs.Calls.{height, plain_frame}
use Rattle.text.specs.Text.{Filled, filled_to, put_all_of}
use Rattle.text.specs.TextLaws.{put_none, put_append}
use Rattle.plan_listing.specs.Listing.{refused_line}
use Rattle.plan_listing.specs.Answers.{table_in}
use Rattle.plan_listing.specs.HandedLaws.{blank, table_is, not_malformed}
use Rattle.fly_listing.specs.Flown.{frame_line, line_at, flight_lines, flown, flight_listing}
use Rattle.fly_listing.specs.Answers.{FramesPut, FlightPut}

-- n frames from frame m on
abbrev pub frame_lines : Table → ℕ → ℕ → List ℕ
frame_lines t n m = flat_map (line_at t) (range m n)

-- n frames in all, the next is m
module _ (t : Table) (n m : ℕ) (x : Filled) where
  pub frames_turn : m < n → put_all_of (put_all_of x (frame_line m (m * t.f) (m / height t) (plain_frame t m))) (frame_lines t (n - (m + 1)) (m + 1)) ≡ put_all_of x (frame_lines t (n - m) m)
  unfolding flat_map
  frames_turn h = rw (less_one n m h) (sym (put_append x _ _))

  pub frames_end : n ≤ m → put_all_of x (frame_lines t (n - m) m) ≡ x
  unfolding flat_map
  frames_end h = rw (none_left n m h) (put_none x)

-- the state after m frames, nothing reported
abbrev pub state_after : Table → ℕ → State
state_after t m = state_at (height t) m no_overruns

-- frame m of the table, from that state
pub record FrameRead (t : Table) (m : ℕ) (frame : Frame) : Type 0 where
  pub few : frame.count ≤ 16
  pub entries : entries_of frame ≡ plain_frame t m
  pub state : frame.state ≡ state_after t (m + 1)

pub frame_read : (bytes : List ℕ) (m : ℕ) (s : State) (frame : Frame) → frame ≡ next_frame (decode bytes) s → s ≡ state_after (table_in (decode bytes)) m
    → 0 < height (table_in (decode bytes)) → FrameRead (table_in (decode bytes)) m frame
frame_read bytes m s frame e now some = go (decode bytes) refl now some
  where
    go : (d : Decoded) → decode bytes ≡ d → s ≡ state_after (table_in d) m → 0 < height (table_in d) → FrameRead (table_in d) m frame
    go (table t) is at pos =
        let here : State = state_after t m in
        let below : m % height t < height t = mod-lt m pos in
        let from : frame ≡ next_frame (decode bytes) here = e ∙ ap (next_frame (decode bytes)) at in
        let given : frame ≡ shown (plain_frame t m) (moved (height t) here) = from ∙ frame_served_lem bytes here t is below in
        let rises = served_rises here.first (row_of t here.row) (row_rises t here.row (decode_wellformed bytes t is)) in
        record {
          few = rw given (omega (arith, given_count (plain_frame t m), rising_few (plain_frame t m) 0 (omega arith) rises));
          entries = rw given (entries_given (plain_frame t m) rises);
          state = rw given (moved_at (height t) m no_overruns pos);
        }
    go malformed is at pos = absurd (omega arith)

-- and it is there
pub frame_there : (bytes : List ℕ) (m : ℕ) (s : State) (frame : Frame) → frame ≡ next_frame (decode bytes) s → s ≡ state_after (table_in (decode bytes)) m
    → 0 < height (table_in (decode bytes)) → frame.refusal ≡ 0
frame_there bytes m s frame e now some = go (decode bytes) refl now some
  where
    go : (d : Decoded) → decode bytes ≡ d → s ≡ state_after (table_in d) m → 0 < height (table_in d) → frame.refusal ≡ 0
    go (table t) is at pos =
        let here : State = state_after t m in
        let given : frame ≡ shown (plain_frame t m) (moved (height t) here) = e ∙ ap (next_frame (decode bytes)) at ∙ frame_served_lem bytes here t is (mod-lt m pos) in
        rw given (given_refusal (plain_frame t m))
    go malformed is at pos = absurd (omega arith)

-- the two ways
pub flight_refused : (request : List ℕ) (number : ℕ) → program_outcome request ≡ refusal number → refused_line number ≡ flight_listing request
unfolding flight_listing
flight_refused request number e = sym (ap flown e)

pub flight_handed : (request bytes : List ℕ) → program_outcome request ≡ handed (table_in (decode bytes))
    → flight_lines (table_in (decode bytes)) ≡ flight_listing request
unfolding flight_listing
flight_handed request bytes e = sym (ap flown e)

-- what the planner handed out is listed: the table is not refused
module _ (request : List ℕ) (r : Searched) (e : r ≡ searched_answer program_tries request blank) (z : r.refusal ≡ 0) (bytes : List ℕ)
    (b : bytes ≡ outcome_buffer (program_outcome request) blank) where
  pub flight_put : (put : Result ℕ Refusal) (old new : List ℕ) → FramesPut put (decode (take r.length bytes)) old new → FlightPut put request old new
  flight_put (Ok end) old new so =
      so ∙ ap (λ (text : List ℕ). put_all_of (filled_to 0 old) text) (flight_handed request (take r.length bytes) (table_is request r e z bytes b))
  flight_put (Err n) old new so = absurd (not_malformed request r e z bytes b so.2)
