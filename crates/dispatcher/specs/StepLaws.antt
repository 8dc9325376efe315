-- One turn of the loop over a row's places, and each way out of next-frame and report, as the definitions have them.
use Rattle.std.specs.Prelude.{ℕ, ◌+◌, ◌-◌, ◌≤◌, ◌<◌, ◌≡◌, true, false, min, cond, List, [], ◌∷◌, ◌++◌, length, get_or, set, replicate, ltb}
use Rattle.std.proofs.Common.{refl, sym, ap, ◌∙◌, append-nil, arith, leb-false, lt-ltb, le-ltb, ◌⊎◌, inl, inr}
use Rattle.std.proofs.Math.Nat.{sub-zero}
use Rattle.std.proofs.Math.Seq.{append_snoc}
use Rattle.cursor.specs.ChoiceLaws.{lt_or_ge}
use Rattle.request.specs.Request.{reading, no_task}
use Rattle.request.specs.Answers.{request_answered}
use Rattle.request.specs.AnswerLaws.{WasRead, not_read}
use Rattle.request.specs.Numbered.{Request}
use Rattle.table.specs.Table.{Entry, Decoded, table, malformed, carried_in, decode, entry_of, row_of}
use Rattle.table.specs.EntryLaws.{carried_of_byte}
use Rattle.table.specs.RisingLaws.{row_rises, row_few}
use Rattle.table.specs.Inverse.{decode_wellformed}
use Rattle.table.specs.Answers.{sizes_of, row_given, row_refused, row_answer, entries_said}
use Rattle.table.specs.AnswerLaws.{EntriesPlaced, none_placed, one_placed, placed_given}
use Rattle.table.specs.AnswerLaws.{entries_at, entries_more, entries_none, entries_given, given_count, given_refusal, refused_is, height_is}
use Rattle.table.specs.AnswerLaws.{RowSought, found, behind, no_table, row_sought, RowFound}
use Rattle.table.specs.Answers.{Row}
use Rattle.table.specs.Answers.{Sizes}
use Rattle.dispatcher.specs.Dispatch.{uncarried, framed, no_frame, moved, next_frame, raised, raised_at, with_counts, report_taken, report_refused, reported}
use Rattle.dispatcher.specs.FrameLaws.{uncarried_none, uncarried_kept, uncarried_passed, frame_served_lem, frame_behind, frame_malformed}
use Rattle.dispatcher.specs.ReportLaws.{report_counted, report_unknown, report_unreadable}
use Rattle.dispatcher.specs.declared.State.{State}

-- Leaving out carried entries

-- what is kept of the first i entries stands in the places, and what is kept of those left comes behind it
pub record KeptSoFar (tasks jobs : List ℕ) (n : ℕ) (kept_tasks kept_jobs : List ℕ) (count i : ℕ) : Type 0 where
  pub done : List Entry
  pub placed : EntriesPlaced done count kept_tasks kept_jobs
  pub left : done ++ uncarried (entries_at tasks jobs (n - i) i) ≡ uncarried (entries_at tasks jobs n 0)

module _ (tasks jobs : List ℕ) (n : ℕ) where
  pub kept_start : KeptSoFar tasks jobs n (replicate 16 0) (replicate 16 0) 0 0
  kept_start = record { done = []; placed = none_placed; left = simp sub-zero }

  module _ (kept_tasks kept_jobs : List ℕ) (count i : ℕ) (so : KeptSoFar tasks jobs n kept_tasks kept_jobs count i) where
    abbrev here : Entry
    here = entry_of (get_or tasks i 0) (get_or jobs i 0)

    abbrev behind_it : List Entry
    behind_it = entries_at tasks jobs (n - (i + 1)) (i + 1)

    pub kept_more : i < n → count < 16 → carried_in (get_or jobs i 0) ≡ false
        → KeptSoFar tasks jobs n (set kept_tasks count (get_or tasks i 0)) (set kept_jobs count (get_or jobs i 0)) (count + 1) (i + 1)
    kept_more h room bit =
        let kept : here.carried ≡ false = carried_of_byte (get_or tasks i 0) (get_or jobs i 0) ∙ bit in
        let low : get_or jobs i 0 < 128 = leb-false 128 (get_or jobs i 0) bit in
        record {
          done = so.done ++ (here ∷ []);
          placed = one_placed so.done count kept_tasks kept_jobs so.placed (get_or tasks i 0) (get_or jobs i 0) room (omega arith);
          left = append_snoc so.done here (uncarried behind_it) ∙ rw (entries_more tasks jobs n i h, uncarried_kept here behind_it kept) at so.left;
        }

    pub kept_passed : i < n → carried_in (get_or jobs i 0) ≡ true → KeptSoFar tasks jobs n kept_tasks kept_jobs count (i + 1)
    kept_passed h bit =
        let passed : here.carried ≡ true = carried_of_byte (get_or tasks i 0) (get_or jobs i 0) ∙ bit in
        record { done = so.done; placed = so.placed; left = rw (entries_more tasks jobs n i h, uncarried_passed here behind_it passed) at so.left }

    pub kept_all : n ≤ i → record { refusal = 0; count = count; tasks = kept_tasks; jobs = kept_jobs } ≡ row_given (uncarried (entries_at tasks jobs n 0))
    kept_all h =
        let all : so.done ≡ uncarried (entries_at tasks jobs n 0) = rw (entries_none tasks jobs n i h, uncarried_none, append-nil) at so.left in
        placed_given so.done count kept_tasks kept_jobs so.placed ∙ ap row_given all

-- Next-frame

-- 12 is the table reader's
pub form_refused : (bytes : List ℕ) (s : State) (z : Sizes) → z ≡ sizes_of (decode bytes) → (z.refusal ≡ 0 → ⊥) → no_frame z.refusal s ≡ next_frame (decode bytes) s
form_refused bytes s z e ne = let none = refused_is (decode bytes) z e ne in rw none.1 (sym (frame_malformed bytes s none.0))

-- the table has no such row
pub row_missing : (bytes : List ℕ) (s : State) → row_refused 15 ≡ row_answer s.row (decode bytes) → no_frame 15 s ≡ next_frame (decode bytes) s
row_missing bytes s e = go (row_sought bytes s.row (row_refused 15) e)
  where
    go : RowSought bytes s.row (row_refused 15) → no_frame 15 s ≡ next_frame (decode bytes) s
    go (found w) = absurd (omega (arith, given_refusal (row_of w.t s.row), ap (λ (y : Row). y.refusal) w.row_is))
    go (behind t is l q) = sym (frame_behind bytes s t is l)
    go (no_table is q) = absurd (omega (arith, ap (λ (y : Row). y.refusal) q))

module _ (bytes : List ℕ) (s : State) (r : Row) (w : RowFound bytes s.row r) where
  abbrev row : List Entry
  row = row_of w.t s.row

  pub few_entries : r.count ≤ 16
  few_entries = rw (w.row_is, given_count row) (row_few w.t s.row (decode_wellformed bytes w.t w.is))

  module _ (sizes : Sizes) (sizes_are : sizes ≡ sizes_of (decode bytes)) where
    height : sizes.height ≡ length w.t.rows
    height = height_is bytes w.t sizes w.is sizes_are

    pub row_below : s.row < sizes.height
    row_below = rw height w.below

    pub first_frame : (kept : Row) → s.first ≡ true → kept ≡ row_given (uncarried (entries_said r))
        → framed kept (moved sizes.height s) ≡ next_frame (decode bytes) s
    first_frame kept mark e =
        let entries : entries_said r ≡ row = rw w.row_is (entries_given row (row_rises w.t s.row (decode_wellformed bytes w.t w.is))) in
        rw (e, entries, height) (sym (frame_served_lem bytes s w.t w.is w.below ∙ rw mark))

    pub later_frame : s.first ≡ false → framed r (moved sizes.height s) ≡ next_frame (decode bytes) s
    later_frame mark = rw (w.row_is, height) (sym (frame_served_lem bytes s w.t w.is w.below ∙ rw mark))

-- Report

-- a count that stops at 65,535
pub raised_lem : (count : ℕ) → count ≤ 65535 → min (count + 1) 65535 ≡ cond (ltb count 65535) (count + 1) count
raised_lem count h = go (lt_or_ge count 65535)
  where
    go : (count < 65535) ⊎ (65535 ≤ count) → min (count + 1) 65535 ≡ cond (ltb count 65535) (count + 1) count
    go (inl below) = rw (lt-ltb count 65535 below) (omega arith)
    go (inr full) = rw (le-ltb count 65535 full) (omega arith)

-- 1 to 6 and 17 are the request reader's
pub report_refused_lem : (bytes : List ℕ) (task ticks : ℕ) (s : State) (r : Request) → r ≡ request_answered (reading bytes) → (r.refusal ≡ 0 → ⊥)
    → report_refused r.refusal s ≡ reported (reading bytes) task ticks s
report_refused_lem bytes task ticks s r e ne = sym (report_unreadable (reading bytes) task ticks s r.refusal (not_read bytes r e ne))

module _ (bytes : List ℕ) (task ticks : ℕ) (s : State) (r : Request) (w : WasRead bytes r) where
  pub task_unknown : r.n ≤ task → report_refused 16 s ≡ reported (reading bytes) task ticks s
  task_unknown h = sym (report_unknown (reading bytes) task ticks s w.tasks w.pairs w.g w.is (omega (arith, w.n_is)))

  module _ (h : task < r.n) where
    below : task < length w.tasks
    below = omega (arith, w.n_is)

    pub task_placed : task < 16
    task_placed = omega (arith, below, w.kept.few_tasks)

    pub task_known : (count : ℕ) → count ≡ raised (ltb (get_or r.tasks task no_task).c ticks) (get_or s.counts task 0)
        → report_taken (ltb (get_or r.tasks task no_task).c ticks) (with_counts (set s.counts task count) s) ≡ reported (reading bytes) task ticks s
    unfolding raised_at
    task_known count e = rw (e, w.task_is task below) (sym (report_counted (reading bytes) task ticks s w.tasks w.pairs w.g w.is below))
