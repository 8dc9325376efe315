-- What the functions inside answer and put: the lines of a timeline, or a refusal and nothing.
use Rattle.std.specs.Prelude.{ℕ, ◌≡◌, ◌⊎◌, List, Result, Ok, Err}
use Rattle.refusal.specs.Refusal.{number_of}
use Rattle.refusal.specs.declared.Refusal.{Refusal}
use Rattle.request.specs.Request.{Reading, unreadable}
use Rattle.text.specs.Text.{filled_to, put_all_of}
use Rattle.plan_listing.specs.Listing.{refused_line, tasks_in}
use Rattle.job_records.specs.Timeline.{Timeline, records_in, filled_answer}
use Rattle.timeline_listing.specs.Printed.{timeline_lines, timeline_text}

-- the lines of a timeline were put; or a list is not filled with it, or the request could not be read, and nothing was
abbrev pub TimelinePut : Result ℕ Refusal → Reading → Timeline → List ℕ → List ℕ → Type 0
TimelinePut (Ok end) r tl old new = filled_to end new ≡ put_all_of (filled_to 0 old) (timeline_lines (tasks_in r) (records_in tl))
TimelinePut (Err e) r tl old new = (new ≡ old) × ((number_of e ≡ (filled_answer tl).refusal) ⊎ (r ≡ unreadable (number_of e)))

-- the listing was put; or it is the line of this refusal, and nothing was put
abbrev pub ListPut : Result ℕ Refusal → List ℕ → List ℕ → List ℕ → Type 0
ListPut (Ok end) request old new = filled_to end new ≡ put_all_of (filled_to 0 old) (timeline_text request)
ListPut (Err e) request old new = (new ≡ old) × (refused_line (number_of e) ≡ timeline_text request)
