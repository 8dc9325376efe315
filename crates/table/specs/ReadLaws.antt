-- One turn of each loop of the reader, and its ends: some records are read, and the rest of the reading gives what the whole gives.
use Rattle.std.specs.Prelude.{ℕ, ◌+◌, ◌*◌, ◌-◌, ◌≤◌, ◌<◌, ◌≡◌, refl, Bool, get_or, drop, set, replicate, Option, Some, None, Ok}
use Rattle.std.proofs.Math.Path.{sym, ap}
use Rattle.std.proofs.Common.{◌∙◌, length-append}
use mathlib.Core.List.{List, [], ◌∷◌, ◌++◌}
use Rattle.std.proofs.Math.Bool.{true, false, cond}
use native.Mathlib.Omega.{arith}
use Rattle.std.proofs.Math.Nat.{sub-zero}
use Rattle.std.proofs.Math.ListN.{length, drop_of_length-le, get_or-append}
use Rattle.std.proofs.Math.Seq.{drop-cons, get_or_at}
use Rattle.std.proofs.Math.Dec.{ltb}
use borrow.Author.Tests.{ltb-true, ltb-false, lt-ltb, le-ltb, le-leb}
use Rattle.cursor.specs.Parsed.{got, refused, records}
use Rattle.cursor.specs.Fields.{byte_of, word_of}
use Rattle.cursor.specs.declared.Cursor.{Cursor}
use Rattle.table.specs.Left.{less_one, none_left}
use Rattle.table.specs.Table.{Entry, Lengths, table, malformed, entry_of, entries_from, row_from, height_fits, rows_from, whole_table}
use Rattle.table.specs.EntryLaws.{task_of_byte}
use Rattle.table.specs.Answers.{Row, row_given, row_refused, row_said, sizes_of, row_answer, table_read, table_said, row_at, taken_said}
use Rattle.table.specs.AnswerLaws.{EntriesPlaced, none_placed, one_placed, placed_given}
use Rattle.table.specs.Promises.{EntryAt, RowHere}
use Rattle.table.specs.declared.Row as r

one_longer : {A : Type 0} (xs : List A) (x : A) (i : ℕ) → length xs ≡ i → length (xs ++ (x ∷ [])) ≡ i + 1
one_longer xs x i e = rw (length-append, e)

-- the first i of a row's n entries are read, and stand in the places
pub record EntriesSoFar (s : List ℕ) (n start : ℕ) (tasks jobs : List ℕ) (low at i : ℕ) : Type 0 where
  pub done : List Entry
  pub placed : EntriesPlaced done i tasks jobs
  pub left : entries_from (n - i) low done (drop at s) ≡ entries_from n 0 [] (drop start s)
  pub place : at ≡ start + 2 * i

module _ (s : List ℕ) (n start : ℕ) where
  pub entries_start : EntriesSoFar s n start (replicate 16 0) (replicate 16 0) 0 start 0
  entries_start = record { done = []; placed = none_placed; left = simp sub-zero; place = omega arith }

  module _ (tasks jobs : List ℕ) (low at i : ℕ) (so : EntriesSoFar s n start tasks jobs low at i) where
    pub entries_more : (task job : ℕ) (next : Cursor) → i < n → n ≤ 16 → EntryAt s at low (Some (task, job, next))
        → EntriesSoFar s n start (set tasks i task) (set jobs i job) (task + 1) next.at (i + 1)
    unfolding entries_from
    entries_more task job next h few e = record {
      done = so.done ++ (entry_of task job ∷ []);
      placed = one_placed so.done i tasks jobs so.placed task job (omega arith) e.2;
      place = omega (arith, so.place, e.3);
      left = ap (λ (low : ℕ). entries_from (n - (i + 1)) (low + 1) (so.done ++ (entry_of task job ∷ [])) (drop next.at s)) (sym (task_of_byte task job))
          ∙ sym (rw (less_one n i h, e.0)) ∙ so.left;
    }

    pub entries_refused : i < n → EntryAt s at low None → entries_from n 0 [] (drop start s) ≡ refused 12
    unfolding entries_from
    entries_refused h e = sym so.left ∙ rw (less_one n i h, e)

    pub entries_row : (first : ℕ) → n ≤ i → i ≤ n → n ≤ 16 → byte_of 12 (drop first s) ≡ got n (drop start s) → start ≡ first + 1
        → RowHere s first (record { count = n; tasks = tasks; jobs = jobs }) at
    unfolding row_from entries_from
    entries_row first h k few byte begins =
        let all : i ≡ n = omega arith in
        record {
          entries = so.done;
          read = rw (byte, le-leb n 16 few) (sym so.left ∙ rw (none_left n i h));
          given = rw (← all) (placed_given so.done i tasks jobs so.placed);
          ends = omega (arith, so.place);
        }

-- a row that was read is the one at its place
pub row_taken : (s : List ℕ) (at : ℕ) (row : r.Row) (next : Cursor) → RowHere s at row next.at → taken_said at (Some (row, next)) ≡ row_at s at
unfolding row_at row_given
row_taken s at row next here =
    let count : length here.entries ≡ row.count = sym (ap (λ (r : Row). r.count) here.given) in
    let place : next.at ≡ at + 1 + 2 * length here.entries = here.ends ∙ rw count in
    rw here.read (λ i. record { row = here.given i; next = record { at = place i } })

-- the rows' section as far as its first i rows: the row k is kept once it is read
pub record RowsSoFar (s : List ℕ) (z : Lengths) (height start k : ℕ) (kept : Option r.Row) (at i : ℕ) : Type 0 where
  pub done : List (List Entry)
  pub count : length done ≡ i
  pub kept_is : row_said kept ≡ row_answer k (table (record { f = z.f; h = z.h; rows = done }))
  pub left : records row_from (height - i) done (drop at s) ≡ records row_from height [] (drop start s)

module _ (z : Lengths) (k : ℕ) (done : List (List Entry)) (es : List Entry) (i : ℕ) (count : length done ≡ i) where
  row_found : i ≡ k → row_given es ≡ row_answer k (table (record { f = z.f; h = z.h; rows = done ++ (es ∷ []) }))
  unfolding row_answer
  row_found e = rw (one_longer done es i count, lt-ltb k (i + 1) (omega arith), get_or_at done es [] [] k (count ∙ e))

  row_other : (i ≡ k → ⊥) → row_answer k (table (record { f = z.f; h = z.h; rows = done }))
      ≡ row_answer k (table (record { f = z.f; h = z.h; rows = done ++ (es ∷ []) }))
  unfolding row_answer
  row_other n = rw (count, one_longer done es i count) (go (ltb k i) refl)
    where
      go : (t : Bool) → ltb k i ≡ t → cond (ltb k i) (row_given (get_or done k [])) (row_refused 15)
          ≡ cond (ltb k (i + 1)) (row_given (get_or (done ++ (es ∷ [])) k [])) (row_refused 15)
      go true q =
          let before : k < i = ltb-true k i q in
          rw (q, lt-ltb k (i + 1) (omega arith), get_or-append done (es ∷ []) [] k (rw count before))
      go false q =
          let behind : i ≤ k = ltb-false k i q in
          let after : i + 1 ≤ k = omega (arith, n) in
          rw (q, le-ltb k (i + 1) after)

module _ (s : List ℕ) (z : Lengths) (height start k : ℕ) where
  pub rows_start : RowsSoFar s z height start k None start 0
  unfolding row_answer
  rows_start = record { done = []; count = refl; kept_is = rw (le-ltb k 0 (omega arith)); left = simp sub-zero }

  module _ (kept : Option r.Row) (at i : ℕ) (so : RowsSoFar s z height start k kept at i) where
    rows_more : (row : r.Row) (next : ℕ) (new : Option r.Row) → i < height → (here : RowHere s at row next)
        → row_said new ≡ row_answer k (table (record { f = z.f; h = z.h; rows = so.done ++ (here.entries ∷ []) })) → RowsSoFar s z height start k new next (i + 1)
    unfolding records
    rows_more row next new h here e = record {
      done = so.done ++ (here.entries ∷ []);
      count = one_longer so.done here.entries i so.count;
      kept_is = e;
      left = sym (rw (less_one height i h, here.read)) ∙ so.left;
    }

    pub rows_kept_lem : (row : r.Row) (next : ℕ) → i < height → RowHere s at row next → i ≡ k → RowsSoFar s z height start k (Some row) next (i + 1)
    rows_kept_lem row next h here e = rows_more row next _ h here (here.given ∙ row_found z k so.done here.entries i so.count e)

    pub rows_passed : (row : r.Row) (next : ℕ) → i < height → RowHere s at row next → (i ≡ k → ⊥) → RowsSoFar s z height start k kept next (i + 1)
    rows_passed row next h here e = rows_more row next kept h here (so.kept_is ∙ row_other z k so.done here.entries i so.count e)

    module _ (word : word_of 12 s ≡ got height (drop start s)) (fits : height_fits height z ≡ true) where
      pub rows_refused : i < height → row_from (drop at s) ≡ refused 12 → whole_table (rows_from z s) ≡ malformed
      unfolding rows_from records
      rows_refused h e = rw (word, fits) (rw (← so.left, less_one height i h, e))

      pub rows_tail : height ≤ i → at < length s → whole_table (rows_from z s) ≡ malformed
      unfolding rows_from records
      rows_tail h l = rw (word, fits) (rw (← so.left, none_left height i h, drop-cons s at 0 l))

      pub rows_end : height ≤ i → i ≤ height → length s ≤ at
          → table_read k (whole_table (rows_from z s)) ≡ table_said (Ok (record { f = z.f; h = z.h; height = height }, kept))
      unfolding rows_from records table_read sizes_of
      rows_end h l e =
          let all : length so.done ≡ height = omega (arith, so.count) in
          rw (word, fits) (rw (← so.left, none_left height i h, drop_of_length-le s e) (rw (all, ← so.kept_is)))
