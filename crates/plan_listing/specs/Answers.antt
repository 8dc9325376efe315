-- What the functions inside answer or put: the ticks of a task in an array, the table in lent bytes, and a listing or a refusal.
use Rattle.std.specs.Prelude.{ℕ, ◌≡◌, ◌⊎◌, cond, List, [], get_or, ltb, Result, Ok, Err}
use Rattle.refusal.specs.Refusal.{number_of}
use Rattle.refusal.specs.declared.Refusal.{Refusal}
use Rattle.request.specs.Request.{Reading, unreadable, no_task}
use Rattle.request.specs.declared.Task.{Task}
use Rattle.table.specs.Table.{Table, Decoded, table, malformed}
use Rattle.text.specs.Text.{filled_to, put_all_of}
use Rattle.plan_listing.specs.Listing.{refused_line, table_lines, tasks_in, listing}

-- the table that was decoded; one without rows where there is none
abbrev pub table_in : Decoded → Table
table_in (table t) = t
table_in malformed = record { f = 0; h = 0; rows = [] }

-- C of the task in one of 16 places, or 0
unfoldable pub ticks_in : List Task → ℕ → ℕ
ticks_in tasks task = cond (ltb task 16) (get_or tasks task no_task).c 0

-- the lines of a table were put; or it, or the request, could not be read, and nothing was
abbrev pub TablePut : Result ℕ Refusal → Reading → Decoded → List ℕ → List ℕ → Type 0
TablePut (Ok end) r d old new = filled_to end new ≡ put_all_of (filled_to 0 old) (table_lines (tasks_in r) (table_in d))
TablePut (Err e) r d old new = (new ≡ old) × (((number_of e ≡ 12) × (d ≡ malformed)) ⊎ (r ≡ unreadable (number_of e)))

-- the listing was put; or it is the line of this refusal, and nothing was put
abbrev pub PlanPut : Result ℕ Refusal → List ℕ → List ℕ → List ℕ → Type 0
PlanPut (Ok end) request old new = filled_to end new ≡ put_all_of (filled_to 0 old) (listing request)
PlanPut (Err e) request old new = (new ≡ old) × (refused_line (number_of e) ≡ listing request)
