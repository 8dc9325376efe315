-- Every listing has at most 4,096 bytes: at most 33 for the line of the sizes, 11 for the number, the busy ticks and the newline of each of at most 256
-- rows, and 8 for each of at most 128 entries. So `plan` never cuts one.
use Rattle.std.specs.Prelude.{ℕ, ◌+◌, ◌*◌, ◌≤◌, ◌<◌, ◌≡◌, refl, Bool, true, false, cond, length, drop, get_or, ltb}
use mathlib.Core.List.{List, [], ◌∷◌, ◌++◌}
use Rattle.std.proofs.Math.Nat.{mul-le-mul_right}
use native.Mathlib.Omega.{arith}
use Rattle.std.proofs.Math.ListN.{length-append, get_or-eq_default}
use Rattle.std.proofs.Common.{ltb-true, ltb-false}
use Rattle.request.specs.Request.{reading, no_task}
use Rattle.request.specs.declared.Task.{Task}
use Rattle.request.specs.declared.Pair.{Pair}
use Rattle.cycle.specs.LimitLaws.{WithinLimits, cycle_within, cycle_reading}
use Rattle.cycle.specs.declared.Job.{Job}
use Rattle.table.specs.Table.{Entry, Table}
use Rattle.table.specs.WellFormed.{RisingFrom, AllRising}
use Rattle.table.specs.RisingLaws.{rising_few}
use Rattle.table.specs.LengthLaws.{entry_count}
use Rattle.plan_writer.specs.Outcome.{Outcome, handed, refusal}
use Rattle.planner.specs.Outcome.{program_tries, program_outcome}
use Rattle.planner.specs.TableLaws.{GoodTable, GoodOutcome, outcome_within_good, handed_within_cycle}
use Rattle.text.specs.Text.{ascii, PutIn}
use Rattle.text.specs.TextLaws.{decimal_length, put_whole}
use Rattle.plan_listing.specs.Listing.{refused_line, head_line, busy_ticks, named, entry_text, each, row_line, row_lines, table_lines, tasks_in, printed, listing}

pub refused_length : (number : ℕ) → number ≤ 99 → length (refused_line number) ≤ 11
unfolding refused_line
refused_length number h = simp length-append (omega (arith, decimal_length 1 number (omega arith)))

head_length : (f h height : ℕ) → f ≤ 10000 → h ≤ 10000 → height ≤ 256 → length (head_line f h height) ≤ 33
unfolding head_line
head_length f h height a b c =
    simp length-append (omega (arith, decimal_length 4 f (omega arith), decimal_length 4 h (omega arith), decimal_length 2 height (omega arith)))

pub name_length : (e : Entry) → e.task < 16 → e.number < 128 → length (named e) ≤ 7
unfolding named
name_length e a b = simp length-append (omega (arith, decimal_length 1 e.task (omega arith), decimal_length 2 e.number (omega arith)))

entry_length : (e : Entry) → e.task < 16 → e.number < 128 → length (entry_text e) ≤ 8
unfolding entry_text
entry_length e a b = go e.carried
  where
    go : (c : Bool) → length (named e ++ cond c (ascii "+") []) ≤ 8
    go true = simp length-append (omega (arith, name_length e a b))
    go false = simp length-append (omega (arith, name_length e a b))

-- entries of at most `most` bytes each
pub each_length : (one : Entry → List ℕ) (most : ℕ) → ((e : Entry) → e.task < 16 → e.number < 128 → length (one e) ≤ most)
    → (es : List Entry) (low : ℕ) → RisingFrom low es → length (each one es) ≤ most * length es
unfolding each RisingFrom
each_length one most few [] low h = omega arith
each_length one most few (e ∷ es) low h = simp length-append (omega (arith, few e h.1 h.2, each_length one most few es (e.task + 1) h.3))

module _ (tasks : List Task) (small : (i : ℕ) → (get_or tasks i no_task).c ≤ 10000) where
  busy_few : (es : List Entry) → busy_ticks tasks es ≤ 10000 * length es
  unfolding busy_ticks
  busy_few [] = omega arith
  busy_few (e ∷ es) = omega (arith, small e.task, busy_few es)

  row_length : (k : ℕ) (es : List Entry) → k < 1000 → RisingFrom 0 es → length (row_line tasks k es) ≤ 11 + 8 * length es
  unfolding row_line
  row_length k es h rises =
      let busy : busy_ticks tasks es < 1000000 = omega (arith, busy_few es, rising_few es 0 (omega arith) rises) in
      simp length-append (omega (arith, decimal_length 2 k h, decimal_length 5 (busy_ticks tasks es) busy, each_length entry_text 8 entry_length es 0 rises))

  rows_length : (rows : List (List Entry)) (k : ℕ) → k + length rows ≤ 1000 → AllRising rows → length (row_lines tasks k rows) ≤ 11 * length rows + 8 * entry_count rows
  unfolding row_lines AllRising entry_count
  rows_length [] k h rise = omega arith
  rows_length (es ∷ rows) k h rise = simp length-append (omega (arith, row_length k es (omega arith) rise.0, rows_length rows (k + 1) (omega arith) rise.1))

  table_length : (t : Table) → GoodTable t → length (table_lines tasks t) ≤ 4096
  unfolding table_lines
  table_length t good =
      let form = good.form in
      let f_few : t.f ≤ 10000 = omega (arith, mul-le-mul_right t.f form.some_rows, form.whole, form.few_ticks) in
      let head = head_length t.f t.h (length t.rows) f_few form.few_ticks form.few_rows in
      let rows = rows_length t.rows 0 (omega (arith, form.few_rows)) form.rising in
      simp length-append (omega (arith, head, rows, form.few_rows, good.few_entries))

-- C is at most D, T and H
task_small : {tasks : List Task} {pairs : List Pair} {h : ℕ} {jobs : List Job} → WithinLimits tasks pairs h jobs → (i : ℕ) → (get_or tasks i no_task).c ≤ 10000
task_small {tasks} w i = go (ltb i (length tasks)) refl
  where
    go : (b : Bool) → ltb i (length tasks) ≡ b → (get_or tasks i no_task).c ≤ 10000
    go true q =
        let known : i < length tasks = ltb-true i (length tasks) q in
        let kept = w.readable.task i known in
        omega (arith, kept.room, kept.due, w.period_le i known, w.h_few)
    go false q = rw (get_or-eq_default tasks no_task (ltb-false i (length tasks) q)) (omega arith)

tasks_small : (request : List ℕ) (t : Table) → program_outcome request ≡ handed t → (i : ℕ) → (get_or (tasks_in (reading request)) i no_task).c ≤ 10000
tasks_small request t e i =
    let (x, is) = handed_within_cycle program_tries request t e in
    rw (cycle_reading request x.tasks x.pairs x.g x.h x.jobs is)
    (task_small (cycle_within request x.tasks x.pairs x.g x.h x.jobs is) i)

pub listing_short : (request : List ℕ) → length (listing request) ≤ 4096
unfolding listing
listing_short request = go (program_outcome request) refl (outcome_within_good program_tries request)
  where
    go : (o : Outcome) → program_outcome request ≡ o → GoodOutcome o → length (printed (tasks_in (reading request)) o) ≤ 4096
    go (handed t) is good = table_length (tasks_in (reading request)) (tasks_small request t is) t good
    go (refusal number) is good = omega (arith, refused_length number (omega (arith, good.1)))

-- so a buffer of 4,096 bytes or more holds it whole, with the old bytes behind it
pub listing_whole : (request out new : List ℕ) (end : ℕ) → 4096 ≤ length out → PutIn (listing request) out end new
    → (end ≡ length (listing request)) × (new ≡ listing request ++ drop (length (listing request)) out)
listing_whole request out new end room put = put_whole (listing request) out new end (omega (arith, listing_short request)) put
