-- What the walk for a job finds: an entry naming it, in the row it says, and none only where no row has one; and what it says that each entry
-- is that of a job in its frame.
use Prim.Native.Nat.{ℕ, zero, suc, ◌+◌, ◌<◌}
use Rattle.std.specs.Prelude.{◌≡◌, Bool, cond, Some, None, length, get_or}
use Rattle.std.proofs.Math.Path.{refl}
use Rattle.std.proofs.Math.Bool.{true, false}
use mathlib.Core.List.{List, [], ◌∷◌}
use Rattle.std.proofs.Math.Logic.{inl, inr, ⊎_elim}
use native.Mathlib.Omega.{arith}
use Rattle.cursor.specs.ParsedLaws.{never, both_true}
use Rattle.cycle.specs.declared.Job.{Job}
use Rattle.table.specs.Table.{Entry}
use Rattle.model.specs.Named.{is_job}
use Rattle.model.specs.NamedLaws.{Named, job_says, says_job}
use Rattle.model.specs.Described.{Among}
use Rattle.checker.specs.Checked.{Position, position_in_row, or_else, position_in, entry_kept, row_kept, rows_kept}

-- the entry of a job
abbrev pub entry_with : Job → Bool → Entry
entry_with job carried = record { task = job.task; number = job.number; carried = carried }

module _ (job : Job) where
  -- what a place in a row says, and what in rows from row r on
  abbrev RightInRow : ℕ → List Entry → Position → Type 0
  RightInRow r es (Some (k, carried)) = (k ≡ r) × Among (entry_with job carried) es
  RightInRow r es None = (e : Entry) → Among e es → Named e.task e.number job → ⊥

  abbrev pub RightIn : ℕ → List (List Entry) → Position → Type 0
  RightIn r rows (Some (k, carried)) = (j : ℕ) × (k ≡ r + j) × (j < length rows) × Among (entry_with job carried) (get_or rows j [])
  RightIn r rows None = (j : ℕ) (e : Entry) → Among e (get_or rows j []) → Named e.task e.number job → ⊥

  entry_is : (e : Entry) → Named e.task e.number job → entry_with job e.carried ≡ e
  entry_is e v = λ i. record { task = v.task_is i; number = v.number_is i; carried = e.carried }

  row_right : (r : ℕ) (es : List Entry) → RightInRow r es (position_in_row job r es)
  unfolding position_in_row
  row_right r [] = λ e m v. m
  row_right r (e ∷ es) = go (is_job e.task e.number job) refl (position_in_row job r es) (row_right r es)
    where
      go : (b : Bool) → is_job e.task e.number job ≡ b → (p : Position) → RightInRow r es p → RightInRow r (e ∷ es) (cond b (Some (r, e.carried)) p)
      go true q p h = (refl, inl (entry_is e (job_says e.task e.number job q)))
      go false q (Some (k, carried)) h = (h.0, inr h.1)
      go false q None h = λ a m v.
          ⊎_elim (λ s. never (let t : is_job e.task e.number job ≡ true = rw (← s) (says_job a.task a.number job v) in cc))
          (λ m. h a m v) m

  pub place_right : (r : ℕ) (rows : List (List Entry)) → RightIn r rows (position_in job r rows)
  unfolding position_in
  place_right r [] = λ j e m v. m
  place_right r (es ∷ rows) = go (position_in_row job r es) (row_right r es) (position_in job (r + 1) rows) (place_right (r + 1) rows)
    where
      go : (p : Position) → RightInRow r es p → (q : Position) → RightIn (r + 1) rows q → RightIn r (es ∷ rows) (or_else p q)
      go (Some (k, carried)) h q rest = (0, omega (arith, h.0), omega arith, h.1)
      go None h (Some (k, carried)) rest = let (j, k_is, low, m) = rest in (suc j, omega arith, omega arith, m)
      go None h None rest = λ j e m v. other j e m v
        where
          other : (j : ℕ) (e : Entry) → Among e (get_or (es ∷ rows) j []) → Named e.task e.number job → ⊥
          other zero e m v = h e m v
          other (suc j) e m v = rest j e m v

-- each entry is that of a job in its frame
module _ (jobs : List Job) (frames : List ℕ) (n rows : ℕ) where
  row_says : (r : ℕ) (es : List Entry) → row_kept jobs frames n rows r es ≡ true → (e : Entry) → Among e es → entry_kept jobs frames n rows r e ≡ true
  unfolding row_kept
  row_says r [] q e m = absurd m
  row_says r (a ∷ es) q e m =
      let b = both_true (entry_kept jobs frames n rows r a) (row_kept jobs frames n rows r es) q in
      ⊎_elim (λ s. rw s b.0) (row_says r es b.1 e) m

  says_row : (r : ℕ) (es : List Entry) → ((e : Entry) → Among e es → entry_kept jobs frames n rows r e ≡ true) → row_kept jobs frames n rows r es ≡ true
  unfolding row_kept
  says_row r [] h = refl
  says_row r (a ∷ es) h = rw (h a (inl refl)) (says_row r es (λ e m. h e (inr m)))

  pub rows_say : (r : ℕ) (left : List (List Entry)) → rows_kept jobs frames n rows r left ≡ true
      → (j : ℕ) → j < length left → (e : Entry) → Among e (get_or left j []) → entry_kept jobs frames n rows (r + j) e ≡ true
  unfolding rows_kept
  rows_say r [] q j h e m = absurd (omega arith)
  rows_say r (es ∷ left) q zero h e m =
      let same : r + 0 ≡ r = omega arith in
      rw same (row_says r es (both_true (row_kept jobs frames n rows r es) (rows_kept jobs frames n rows (r + 1) left) q).0 e m)
  rows_say r (es ∷ left) q (suc j) h e m =
      let same : r + suc j ≡ r + 1 + j = omega arith in
      rw same (rows_say (r + 1) left (both_true (row_kept jobs frames n rows r es) (rows_kept jobs frames n rows (r + 1) left) q).1 j (omega arith) e m)

  pub say_rows : (r : ℕ) (left : List (List Entry))
      → ((j : ℕ) → j < length left → (e : Entry) → Among e (get_or left j []) → entry_kept jobs frames n rows (r + j) e ≡ true)
      → rows_kept jobs frames n rows r left ≡ true
  unfolding rows_kept
  say_rows r [] h = refl
  say_rows r (es ∷ left) h =
      let first : row_kept jobs frames n rows r es ≡ true
      = says_row r es (λ e m. let same : r + 0 ≡ r = omega arith in rw same at (h 0 (omega arith) e m)) in
      rw first (say_rows (r + 1) left (λ j k e m. let same : r + suc j ≡ r + 1 + j = omega arith in rw same at (h (suc j) (omega arith) e m)))
