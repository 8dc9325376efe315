-- The laws by which a timeline is put: a turn of each loop and its end, and what the reader of the request gives.
use Rattle.std.specs.Prelude.{ℕ, ◌+◌, ◌-◌, ◌≤◌, ◌<◌, ◌≡◌, ◌⊎◌, refl, List, [], ◌∷◌, ◌++◌, get_or, take, Result, Ok, Err}
use Rattle.std.proofs.Common.{sym, ap, ◌∙◌, inl, inr}
use Rattle.refusal.specs.Refusal.{number_of}
use Rattle.refusal.specs.declared.Refusal.{Refusal}
use Rattle.cursor.specs.Padded.{padded}
use Rattle.cursor.specs.PaddedLaws.{get_or_padded_any}
use Rattle.request.specs.Request.{unreadable, reading, no_task}
use Rattle.request.specs.SectionLaws.{no_zero}
use Rattle.request.specs.Answers.{request_answered}
use Rattle.request.specs.declared.Task.{Task}
use Rattle.request.specs.Numbered.{Request}
use Rattle.plan_writer.specs.Outcome.{outcome_buffer}
use Rattle.planner.specs.Outcome.{program_tries, program_outcome, searched_answer}
use Rattle.planner.specs.Numbered.{Searched}
use Rattle.text.specs.Text.{Filled, filled_to, put_all_of}
use Rattle.text.specs.TextLaws.{put_none, put_append}
use Rattle.plan_listing.specs.Listing.{tasks_in}
use Rattle.plan_listing.specs.ListingLaws.{tasks_are}
use Rattle.plan_listing.specs.HandedLaws.{blank, table_is, request_there}
use Rattle.job_records.specs.Timeline.{Timeline, filling, records_in, filled_answer, busy_of}
use Rattle.job_records.specs.Known.{record_here, records_from, records_known}
use Rattle.job_records.specs.KnownLaws.{KnownFor, records_more, records_none, known_are}
use Rattle.job_records.specs.declared.JobRecord.{JobRecord}
use Rattle.job_records.specs.declared.JobsKnown.{JobsKnown}
use Rattle.timeline_listing.specs.Printed.{record_line, record_lines, busy_line, timeline_lines}
use Rattle.timeline_listing.specs.PrintedLaws.{timeline_handed, handed_filled}
use Rattle.timeline_listing.specs.Answers.{TimelinePut, ListPut}

-- n places in all, the next is y
module _ (k : JobsKnown) (n y : ℕ) where
  pub lines_turn : (x : Filled) → y < n
      → put_all_of (put_all_of x (record_line (record_here k y))) (record_lines (records_from k (n - (y + 1)) (y + 1))) ≡ put_all_of x (record_lines (records_from k (n - y) y))
  unfolding record_lines
  lines_turn x h = rw (records_more k n y h) (sym (put_append x _ _))

  pub lines_end : (x : Filled) → n ≤ y → put_all_of x (record_lines (records_from k (n - y) y)) ≡ x
  unfolding record_lines
  lines_end x h = rw (records_none k n y h) (put_none x)

  pub busy_turn : (tasks : List Task) → y < n
      → (get_or tasks (record_here k y).task no_task).c + busy_of tasks (records_from k (n - (y + 1)) (y + 1)) ≡ busy_of tasks (records_from k (n - y) y)
  unfolding busy_of
  busy_turn tasks h = rw (records_more k n y h)

  pub busy_end : (tasks : List Task) → n ≤ y → busy_of tasks (records_from k (n - y) y) ≡ 0
  unfolding busy_of
  busy_end tasks h = rw (records_none k n y h)

-- an array that holds the request's tasks gives the same sum
busy_padded : (size : ℕ) (tasks : List Task) (rs : List JobRecord) → busy_of (padded size no_task tasks) rs ≡ busy_of tasks rs
unfolding busy_of
busy_padded size tasks [] = refl
busy_padded size tasks (r ∷ rs) = rw (get_or_padded_any size no_task tasks r.task, busy_padded size tasks rs)

module _ (bytes : List ℕ) (r : Request) (e : r ≡ request_answered (reading bytes)) where
  -- the lines that are put are those of the timeline
  pub lines_are : (tl : Timeline) (k : JobsKnown) → KnownFor tl k
      → record_lines (records_known k) ++ busy_line (busy_of r.tasks (records_known k)) ≡ timeline_lines (tasks_in (reading bytes)) (records_in tl)
  lines_are tl k known = rw (known_are tl k known, tasks_are bytes r e, busy_padded 16 (tasks_in (reading bytes)) (records_in tl))

-- what the planner handed out is listed: neither the table nor the request is refused
module _ (request : List ℕ) (r : Searched) (e : r ≡ searched_answer program_tries request blank) (z : r.refusal ≡ 0) (bytes : List ℕ)
    (b : bytes ≡ outcome_buffer (program_outcome request) blank) where
  pub list_put : (put : Result ℕ Refusal) (old new : List ℕ) → TimelinePut put (reading request) (filling request (take r.length bytes) 128) old new
      → ListPut put request old new
  list_put (Ok end) old new so =
      so ∙ ap (λ (text : List ℕ). put_all_of (filled_to 0 old) text) (timeline_handed request (take r.length bytes) (table_is request r e z bytes b))
  list_put (Err n) old new so = go so.1
    where
      go : (number_of n ≡ (filled_answer (filling request (take r.length bytes) 128)).refusal) ⊎ (reading request ≡ unreadable (number_of n))
          → ListPut (Err n) request old new
      go (inl w) = absurd (no_zero n (w ∙ handed_filled request (take r.length bytes) (table_is request r e z bytes b)))
      go (inr w) = absurd (request_there request r e z (number_of n) w)
