-- Rows whose entries rise by task: what that says of their entries, that parts of them rise, and that they have at most 16 entries.
use Rattle.std.specs.Prelude.{ℕ, zero, suc, ◌+◌, ◌≤◌, ◌<◌, List, [], ◌∷◌, length, get_or}
use Rattle.std.proofs.Common.{arith}
use Rattle.table.specs.Table.{Entry, Table, row_of}
use Rattle.table.specs.WellFormed.{RisingFrom, AllRising, WellFormed}

-- the first entry, and those behind it
pub record Rises (low : ℕ) (e : Entry) (es : List Entry) : Type 0 where
  pub above : low ≤ e.task
  pub below : e.task < 16
  pub small : e.number < 128
  pub rest : RisingFrom (e.task + 1) es

pub rising_none : (low : ℕ) → RisingFrom low []
unfolding RisingFrom
rising_none low = tt

module _ (low : ℕ) (e : Entry) (es : List Entry) where
  pub rising_first : RisingFrom low (e ∷ es) → Rises low e es
  unfolding RisingFrom
  rising_first h = record { above = h.0; below = h.1; small = h.2; rest = h.3 }

  pub rising_cons : Rises low e es → RisingFrom low (e ∷ es)
  unfolding RisingFrom
  rising_cons r = (r.above, r.below, r.small, r.rest)

pub rising_less : (es : List Entry) (low high : ℕ) → low ≤ high → RisingFrom high es → RisingFrom low es
rising_less [] low high l h = rising_none low
rising_less (e ∷ es) low high l h =
    let r = rising_first high e es h in
    rising_cons low e es (record { above = omega (arith, r.above); below = r.below; small = r.small; rest = r.rest })

pub rising_few : (es : List Entry) (low : ℕ) → low ≤ 16 → RisingFrom low es → length es + low ≤ 16
rising_few [] low l h = omega arith
rising_few (e ∷ es) low l h =
    let r = rising_first low e es h in
    omega (arith, r.above, rising_few es (e.task + 1) (omega (arith, r.below)) r.rest)

pub rising_at : (rows : List (List Entry)) → AllRising rows → (k : ℕ) → RisingFrom 0 (get_or rows k [])
unfolding AllRising
rising_at [] h k = rising_none 0
rising_at (es ∷ rows) h zero = h.0
rising_at (es ∷ rows) h (suc k) = rising_at rows h.1 k

pub all_rising : (rows : List (List Entry)) → ((k : ℕ) → k < length rows → RisingFrom 0 (get_or rows k [])) → AllRising rows
unfolding AllRising
all_rising [] each = tt
all_rising (es ∷ rows) each = (each 0 (omega arith), all_rising rows (λ k h. each (suc k) (omega arith)))

pub row_rises : (t : Table) (k : ℕ) → WellFormed t → RisingFrom 0 (row_of t k)
row_rises t k w = rising_at t.rows w.rising k

pub row_few : (t : Table) (k : ℕ) → WellFormed t → length (row_of t k) ≤ 16
row_few t k w = omega (arith, rising_few (row_of t k) 0 (omega arith) (row_rises t k w))
