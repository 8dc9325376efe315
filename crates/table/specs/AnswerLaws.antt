-- What the reader's answers say: entries in places and how they are filled, the entries that a row says, and which row and sizes were found.
use Rattle.std.specs.Prelude.{ℕ, suc, ◌+◌, ◌-◌, ◌≤◌, ◌<◌, ◌≡◌, Bool, List, [], ◌∷◌, ◌++◌, map, length, get_or, set, replicate}
use Rattle.std.proofs.Math.Path.{refl}
use Rattle.std.proofs.Common.{sym, ap, arith, length-append}
use Rattle.std.proofs.Math.Bool.{true, false, cond}
use Rattle.std.proofs.Math.Dec.{ltb}
use borrow.Author.Tests.{ltb-true, ltb-false, lt-ltb}
use Rattle.cursor.specs.Padded.{padded}
use Rattle.cursor.specs.PaddedLaws.{padded_none, get_or_padded_any, set_mapped}
use Rattle.cursor.specs.Range.{range}
use Rattle.table.specs.Left.{less_one, none_left}
use Rattle.table.specs.Table.{Entry, Table, Decoded, table, malformed, decode, job_byte, entry_of, row_of}
use Rattle.table.specs.WellFormed.{RisingFrom}
use Rattle.table.specs.EntryLaws.{task_of_byte, job_of_byte, entry_back}
use Rattle.table.specs.RisingLaws.{rising_first}
use Rattle.table.specs.Answers.{Sizes, Row, sizes_of, task_byte, row_given, row_refused, row_answer, entries_said}

-- Entries in places

-- the entries es stand in the first places, as many as `count`
pub record EntriesPlaced (es : List Entry) (count : ℕ) (tasks jobs : List ℕ) : Type 0 where
  pub number : length es ≡ count
  pub tasks_are : tasks ≡ padded 16 0 (map task_byte es)
  pub jobs_are : jobs ≡ padded 16 0 (map job_byte es)

pub none_placed : EntriesPlaced [] 0 (replicate 16 0) (replicate 16 0)
none_placed = record { number = refl; tasks_are = sym (padded_none 16 0); jobs_are = sym (padded_none 16 0) }

module _ (es : List Entry) (count : ℕ) (tasks jobs : List ℕ) (so : EntriesPlaced es count tasks jobs) where
  stored : (value : Entry → ℕ) (column : List ℕ) (e : Entry) (v : ℕ) → column ≡ padded 16 0 (map value es) → value e ≡ v → count < 16
      → set column count v ≡ padded 16 0 (map value (es ++ (e ∷ [])))
  stored value column e v is q room = rw (is, ← q) (set_mapped value 16 0 es e count so.number room)

  -- the next place is filled
  pub one_placed : (task byte : ℕ) → count < 16 → byte < 256
      → EntriesPlaced (es ++ (entry_of task byte ∷ [])) (count + 1) (set tasks count task) (set jobs count byte)
  one_placed task byte room small =
      let e = entry_of task byte in
      record {
        number = omega (arith, length-append es (e ∷ []), so.number);
        tasks_are = stored task_byte tasks e task so.tasks_are (task_of_byte task byte) room;
        jobs_are = stored job_byte jobs e byte so.jobs_are (job_of_byte task byte small) room;
      }

  pub placed_given : record { refusal = 0; count = count; tasks = tasks; jobs = jobs } ≡ row_given es
  unfolding row_given
  placed_given = rw (so.number, so.tasks_are, so.jobs_are)

-- The entries that a row says

-- n of them, from place p on
abbrev pub entries_at : List ℕ → List ℕ → ℕ → ℕ → List Entry
entries_at tasks jobs n p = map (λ i. entry_of (get_or tasks i 0) (get_or jobs i 0)) (range p n)

-- of n places, those from place i on
module _ (tasks jobs : List ℕ) (n i : ℕ) where
  pub entries_more : i < n → entries_at tasks jobs (n - i) i ≡ entry_of (get_or tasks i 0) (get_or jobs i 0) ∷ entries_at tasks jobs (n - (i + 1)) (i + 1)
  entries_more h = rw (less_one n i h)

  pub entries_none : n ≤ i → entries_at tasks jobs (n - i) i ≡ []
  entries_none h = rw (none_left n i h)

-- places that hold the entries' bytes from place p on
entries_at_lem : (tasks jobs : List ℕ) (es : List Entry) (low p : ℕ) → RisingFrom low es
    → ((i k : ℕ) → k ≡ p + i → (get_or tasks k 0 ≡ get_or (map task_byte es) i 0) × (get_or jobs k 0 ≡ get_or (map job_byte es) i 0))
    → entries_at tasks jobs (length es) p ≡ es
entries_at_lem tasks jobs [] low p h same = refl
entries_at_lem tasks jobs (e ∷ es) low p h same =
    let r = rising_first low e es h in
    let here = same 0 p (omega arith) in
    let head : entry_of (get_or tasks p 0) (get_or jobs p 0) ≡ e = rw (here.0, here.1) (entry_back e r.small) in
    let rest = entries_at_lem tasks jobs es (e.task + 1) (p + 1) r.rest (λ i k q. same (suc i) k (omega arith)) in
    λ i. head i ∷ rest i

pub entries_given : (es : List Entry) → RisingFrom 0 es → entries_said (row_given es) ≡ es
unfolding row_given
entries_given es h = entries_at_lem (padded 16 0 (map task_byte es)) (padded 16 0 (map job_byte es)) es 0 0 h at_place
  where
    at_place : (i k : ℕ) → k ≡ 0 + i
        → (get_or (padded 16 0 (map task_byte es)) k 0 ≡ get_or (map task_byte es) i 0) × (get_or (padded 16 0 (map job_byte es)) k 0 ≡ get_or (map job_byte es) i 0)
    at_place i k q =
        let place : k ≡ i = omega arith in
        (rw place (get_or_padded_any 16 0 (map task_byte es) i), rw place (get_or_padded_any 16 0 (map job_byte es) i))

pub given_count : (es : List Entry) → (row_given es).count ≡ length es
unfolding row_given
given_count es = refl

pub given_refusal : (es : List Entry) → (row_given es).refusal ≡ 0
unfolding row_given
given_refusal es = refl

-- The answers of a table, and of what is none

pub sizes_table : (t : Table) → sizes_of (table t) ≡ record { refusal = 0; f = t.f; h = t.h; height = length t.rows }
unfolding sizes_of
sizes_table t = refl

-- sizes that are refused are those of bytes without the form, with 12
pub refused_is : (d : Decoded) (z : Sizes) → z ≡ sizes_of d → (z.refusal ≡ 0 → ⊥) → (d ≡ malformed) × (z.refusal ≡ 12)
unfolding sizes_of
refused_is (table t) z e ne = absurd (ne (ap (λ (y : Sizes). y.refusal) e))
refused_is malformed z e ne = (refl, ap (λ (y : Sizes). y.refusal) e)

pub height_is : (bytes : List ℕ) (t : Table) (z : Sizes) → decode bytes ≡ table t → z ≡ sizes_of (decode bytes) → z.height ≡ length t.rows
height_is bytes t z is e = rw (e, is, sizes_table t)

pub row_answered_lem : (bytes : List ℕ) (t : Table) (k : ℕ) → decode bytes ≡ table t → k < length t.rows → row_answer k (decode bytes) ≡ row_given (row_of t k)
unfolding row_answer
row_answered_lem bytes t k e h = rw (e, lt-ltb k (length t.rows) h)

-- the row k is there
pub record RowFound (bytes : List ℕ) (k : ℕ) (r : Row) : Type 0 where
  pub t : Table
  pub is : decode bytes ≡ table t
  pub below : k < length t.rows
  pub row_is : r ≡ row_given (row_of t k)

-- it is there, or not and why
pub data RowSought (bytes : List ℕ) (k : ℕ) (r : Row) : Type 0 where
  found : RowFound bytes k r → RowSought bytes k r
  behind : (t : Table) → decode bytes ≡ table t → length t.rows ≤ k → r ≡ row_refused 15 → RowSought bytes k r
  no_table : decode bytes ≡ malformed → r ≡ row_refused 12 → RowSought bytes k r

module _ (bytes : List ℕ) (k : ℕ) (r : Row) (e : r ≡ row_answer k (decode bytes)) where
  pub row_sought : RowSought bytes k r
  unfolding row_answer
  row_sought = go (decode bytes) refl e
    where
      in_table : (t : Table) → decode bytes ≡ table t → (b : Bool) → ltb k (length t.rows) ≡ b → r ≡ cond b (row_given (row_of t k)) (row_refused 15)
          → RowSought bytes k r
      in_table t is true w q = found (record { t = t; is = is; below = ltb-true k (length t.rows) w; row_is = q })
      in_table t is false w q = behind t is (ltb-false k (length t.rows) w) q

      go : (d : Decoded) → decode bytes ≡ d → r ≡ row_answer k d → RowSought bytes k r
      go (table t) is q = in_table t is (ltb k (length t.rows)) refl q
      go malformed is q = no_table is q

  pub row_found : r.refusal ≡ 0 → RowFound bytes k r
  row_found z = go row_sought
    where
      go : RowSought bytes k r → RowFound bytes k r
      go (found w) = w
      go (behind t is l q) = absurd (omega (arith, ap (λ (y : Row). y.refusal) q))
      go (no_table is q) = absurd (omega (arith, ap (λ (y : Row). y.refusal) q))
