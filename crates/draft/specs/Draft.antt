-- Moving a job by hand, in the words of 02's R-10: what the four calls answer. A job is named by its place in planning order.
use Rattle.std.specs.Prelude.{ℕ, ◌+◌, ◌-◌, ◌%◌, Bool, not, cond, ◌&&◌, List, [], ◌∷◌, map, length, get_or, set, replicate, ltb, eqb}
use Rattle.cursor.specs.Choice.{keep}
use Rattle.cursor.specs.Range.{range}
use Rattle.cursor.specs.Padded.{padded, firsts}
use Rattle.cycle.specs.Cycle.{Cycle, cycle, no_cycle, cycle_of}
use Rattle.table.specs.Table.{decode}
use Rattle.search.specs.Placing.{row_sum, has_room}
use Rattle.model.specs.Plan.{Instance, job_at, rows_at, costs}
use Rattle.model.specs.Answers.{instance}
use Rattle.model.specs.Plausible.{plausible}
use Rattle.model.specs.Described.{plan_table}
use Rattle.plan_rules.specs.Every.{every}
use Rattle.plan_rules.specs.Rules.{in_window, rules_right}
use Rattle.checker.specs.Checked as checker
use Rattle.plan_writer.specs.Outcome.{Outcome, handed, refusal}
use Rattle.draft.specs.declared.Draft.{Draft}
use Rattle.draft.specs.Numbered.{Drafted}

-- "its frame, or that it is lifted": no frame of a window is 65535, since (k+1)·f is at most r + D
abbrev pub lifted : ℕ
lifted = 65535

abbrev pub is_lifted : ℕ → Bool
is_lifted k = eqb k lifted

-- the job at place y is not
unfoldable pub is_down : List ℕ → ℕ → Bool
is_down ks y = not (is_lifted (get_or ks y 0))

-- of the elements of a list, those at the places of the jobs that are placed; ks has the frame of each job
unfoldable pub placed_of : {A : Type 0} → List ℕ → List A → List A
placed_of [] xs = []
placed_of (k ∷ ks) [] = []
placed_of (k ∷ ks) (x ∷ xs) = keep (not (is_lifted k)) x (placed_of ks xs)

module _ (x : Instance) (d : Draft) where
  abbrev pub frame_of : ℕ → ℕ
  frame_of y = get_or d.frames y 0

  abbrev pub load_at : ℕ → ℕ
  load_at r = get_or d.loads r 0

  -- "for each job in planning order its frame": those of the request's jobs. The other places are unused.
  abbrev pub frames_held : List ℕ
  frames_held = firsts (length x.jobs) 0 d.frames

  -- what is planned, with the placed jobs alone; and their frames
  abbrev pub placed_part : Instance
  placed_part = instance x.tasks x.pairs x.g x.h (placed_of frames_held x.jobs)

  abbrev pub placed_frames : List ℕ
  placed_frames = placed_of frames_held frames_held

  abbrev pub row_count : ℕ
  row_count = rows_at x d.f

  -- "its row's sum": the C + g of the jobs placed in row r
  abbrev pub sum_of : ℕ → ℕ
  sum_of r = row_sum row_count (costs placed_part) placed_frames r

  abbrev pub load_right : ℕ → Bool
  load_right r = eqb (load_at r) (sum_of r)

  -- "a draft whose frame length is not plausible, whose loads are not its row sums or whose placed jobs break window, capacity or order": not so
  unfoldable pub sound_draft : Bool
  sound_draft =
      plausible x d.f
      && (rules_right placed_part row_count d.f placed_frames
      && every row_count load_right)

-- Starting. "Unused places start as frame 0 and load 0"; "Starting a draft refuses as the check does, and then gives frame length 0 and unused places only."
abbrev pub no_draft : Draft
no_draft = record { f = 0; frames = replicate 128 0; loads = replicate 256 0 }

-- "the load of each row, counted as C + g"
abbrev pub loads_of : ℕ → List ℕ → List ℕ → List ℕ
loads_of rows cost frames = map (row_sum rows cost frames) (range 0 rows)

unfoldable pub draft_of : Instance → ℕ → List ℕ → Draft
draft_of x f frames = record { f = f; frames = padded 128 0 frames; loads = padded 256 0 (loads_of (rows_at x f) (costs x) frames) }

abbrev pub start_of : Cycle → checker.Verdict → Drafted
start_of (cycle tasks pairs g h jobs) (checker.accepted f frames) = record { refusal = 0; draft = draft_of (instance tasks pairs g h jobs) f frames }
start_of (no_cycle number) (checker.accepted f frames) = record { refusal = number; draft = no_draft }
start_of c (checker.refusal number) = record { refusal = number; draft = no_draft }

-- "A draft starts from an accepted table"
unfoldable pub start : List ℕ → List ℕ → Drafted
start request table = start_of (cycle_of request) (checker.checked (cycle_of request) (decode table))

-- A refused call gives the draft as it was.
abbrev pub kept : ℕ → Draft → Drafted
kept number d = record { refusal = number; draft = d }

-- "either touches one job and one row": the job y gets k, the row r the load
abbrev pub touched : Draft → ℕ → ℕ → ℕ → ℕ → Draft
touched d y k r load = record { f = d.f; frames = set d.frames y k; loads = set d.loads r load }

module _ (x : Instance) (d : Draft) where
  -- the row of frame k; the C + g of the job at place y
  abbrev pub row_in : ℕ → ℕ
  row_in k = k % row_count x d

  abbrev pub cost_at : ℕ → ℕ
  cost_at y = get_or (costs x) y 0

  -- "A lift marks its job lifted"
  abbrev pub after_lift : ℕ → Draft
  after_lift y = let r = row_in (frame_of x d y) in touched d y lifted r (load_at x d r - cost_at y)

  -- "a put gives it the frame named"
  abbrev pub after_put : ℕ → ℕ → Draft
  after_put y k = touched d y k (row_in k) (load_at x d (row_in k) + cost_at y)

  -- not "an unknown job"
  abbrev pub can_move : ℕ → Bool
  can_move y = ltb y (length x.jobs) && sound_draft x d

  -- not "a row over f or a pair out of order with a placed job": the row has room for the job's C + g, and with the job there the draft is sound
  abbrev pub can_stand : ℕ → ℕ → Bool
  can_stand y k = has_room (load_at x d (row_in k)) d.f (cost_at y) && sound_draft x (after_put y k)

  -- "a lift of a lifted job"
  unfoldable pub lift_in : ℕ → Drafted
  lift_in y = cond (can_move y) (cond (is_lifted (frame_of x d y)) (kept 26 d) (kept 0 (after_lift y))) (kept 26 d)

  -- "then with 27 a frame outside the window, then with 28"
  unfoldable pub put_there : ℕ → ℕ → Drafted
  put_there y k = cond (in_window d.f (job_at x y) k) (cond (can_stand y k) (kept 0 (after_put y k)) (kept 28 d)) (kept 27 d)

  -- "a put of a placed one"
  unfoldable pub put_in : ℕ → ℕ → Drafted
  put_in y k = cond (can_move y) (cond (is_lifted (frame_of x d y)) (put_there y k) (kept 26 d)) (kept 26 d)

  -- not "writing while a job is lifted"
  unfoldable pub none_lifted : Bool
  none_lifted = every (length x.jobs) (is_down d.frames)

  -- "A draft with no job lifted writes the table of exactly its frame length and frames"
  unfoldable pub write_in : Outcome
  write_in = cond (none_lifted && sound_draft x d) (handed (plan_table x d.f (frames_held x d))) (refusal 26)

-- "Each later call takes the request too and first refuses it by its own numbers, 7 and 8 included."
abbrev pub lift_of : Cycle → Draft → ℕ → Drafted
lift_of (cycle tasks pairs g h jobs) d y = lift_in (instance tasks pairs g h jobs) d y
lift_of (no_cycle number) d y = kept number d

abbrev pub put_of : Cycle → Draft → ℕ → ℕ → Drafted
put_of (cycle tasks pairs g h jobs) d y k = put_in (instance tasks pairs g h jobs) d y k
put_of (no_cycle number) d y k = kept number d

abbrev pub write_of : Cycle → Draft → Outcome
write_of (cycle tasks pairs g h jobs) d = write_in (instance tasks pairs g h jobs) d
write_of (no_cycle number) d = refusal number

unfoldable pub lift : List ℕ → Draft → ℕ → Drafted
lift request d y = lift_of (cycle_of request) d y

unfoldable pub put : List ℕ → Draft → ℕ → ℕ → Drafted
put request d y k = put_of (cycle_of request) d y k

-- what writing comes to; 11 is the writer's: the answer is outcome_answer, the buffer after it outcome_buffer of this
unfoldable pub write : List ℕ → Draft → Outcome
write request d = write_of (cycle_of request) d
