-- In a frame that next-frame answers, tasks rise from place to place.
use Rattle.std.specs.Prelude.{ℕ, zero, suc, ◌+◌, ◌-◌, ◌≤◌, ◌<◌, ◌≡◌, refl, List, length, get_or}
use Rattle.std.proofs.Common.{⊎_elim, arith}
use Rattle.std.proofs.Math.Nat.{sub-zero}
use Rattle.cursor.specs.ChoiceLaws.{lt_or_ge}
use Rattle.table.specs.Table.{Decoded, table, malformed, decode, row_of, entry_of}
use Rattle.table.specs.WellFormed.{RisingFrom}
use Rattle.table.specs.RisingLaws.{rising_none, rising_first, row_rises}
use Rattle.table.specs.Inverse.{decode_wellformed}
use Rattle.table.specs.EntryLaws.{task_of_byte}
use Rattle.table.specs.AnswerLaws.{entries_at, entries_more, entries_given}
use Rattle.dispatcher.specs.Dispatch.{served, next_frame, entries_of}
use Rattle.dispatcher.specs.FrameLaws.{served_rises, frame_served_lem, frame_behind, frame_malformed}
use Rattle.dispatcher.specs.declared.State.{State}

-- the entries of a frame rise
entries_rise : (bytes : List ℕ) (s : State) → RisingFrom 0 (entries_of (next_frame (decode bytes) s))
entries_rise bytes s = go (decode bytes) refl
  where
    go : (d : Decoded) → decode bytes ≡ d → RisingFrom 0 (entries_of (next_frame (decode bytes) s))
    go (table t) is =
        let rises = served_rises s.first (row_of t s.row) (row_rises t s.row (decode_wellformed bytes t is)) in
        ⊎_elim
        (λ h. rw (frame_served_lem bytes s t is h, entries_given (served s.first (row_of t s.row)) rises) rises)
        (λ h. rw (frame_behind bytes s t is h) (rising_none 0))
        (lt_or_ge s.row (length t.rows))
    go malformed is = rw (frame_malformed bytes s is) (rising_none 0)

-- n places; those from place i on rise, the first from `low` on
module _ (tasks jobs : List ℕ) (n : ℕ) where
  abbrev RiseFrom : ℕ → ℕ → Type 0
  RiseFrom i low = RisingFrom low (entries_at tasks jobs (n - i) i)

  -- the first of them, and those behind it
  low_here : (i low : ℕ) → i < n → RiseFrom i low → low ≤ get_or tasks i 0
  low_here i low h rise =
      let r = rising_first low (entry_of (get_or tasks i 0) (get_or jobs i 0)) _ (rw (entries_more tasks jobs n i h) at rise) in
      rw (task_of_byte (get_or tasks i 0) (get_or jobs i 0)) at r.above

  behind : (i low : ℕ) → i < n → RiseFrom i low → RiseFrom (i + 1) (get_or tasks i 0 + 1)
  behind i low h rise =
      let r = rising_first low (entry_of (get_or tasks i 0) (get_or jobs i 0)) _ (rw (entries_more tasks jobs n i h) at rise) in
      rw (task_of_byte (get_or tasks i 0) (get_or jobs i 0)) at r.rest

  not_below : (k i low : ℕ) → RiseFrom i low → (p : ℕ) → p ≡ i + k → p < n → low ≤ get_or tasks p 0
  not_below zero i low rise p e h = let same : p ≡ i = omega arith in rw same (low_here i low (omega arith) rise)
  not_below (suc k) i low rise p e h =
      let first = low_here i low (omega arith) rise in
      let rest = not_below k (i + 1) (get_or tasks i 0 + 1) (behind i low (omega arith) rise) p (omega arith) h in
      omega arith

  above : (k i low : ℕ) → RiseFrom i low → (p q : ℕ) → p ≡ i + k → p < q → q < n → get_or tasks p 0 < get_or tasks q 0
  above zero i low rise p q e l h =
      let same : p ≡ i = omega arith in
      let rest = not_below (q - (i + 1)) (i + 1) (get_or tasks i 0 + 1) (behind i low (omega arith) rise) q (omega arith) h in
      rw same (omega arith)
  above (suc k) i low rise p q e l h = above k (i + 1) (get_or tasks i 0 + 1) (behind i low (omega arith) rise) p q (omega arith) l h

pub tasks_rise : (bytes : List ℕ) (s : State) (p q : ℕ) → p < q → q < (next_frame (decode bytes) s).count
    → get_or (next_frame (decode bytes) s).tasks p 0 < get_or (next_frame (decode bytes) s).tasks q 0
tasks_rise bytes s p q l h =
    let a = next_frame (decode bytes) s in
    above a.tasks a.jobs a.count p 0 0 (rw sub-zero (entries_rise bytes s)) p q (omega arith) l h
