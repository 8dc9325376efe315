-- The table of a plan describes it, and no other table does; and how long it is.
-- A row of it has the jobs of the row by task, and rises, since no row holds a task twice. Two rows that rise and have the same entries are
-- equal.
use Rattle.std.specs.Prelude.{◌≡◌, length}
use Rattle.std.proofs.Math.Path.{refl, sym}
use Rattle.std.proofs.Common.{ap, ◌∙◌, inl, inr, ⊎_elim, arith, ext_get_or}
use mathlib.Core.List.{List, [], ◌∷◌, map, Memᴰ}
use Prim.Native.Nat.{ℕ, zero, suc, ◌+◌, ◌*◌, ◌≤◌, ◌<◌}
use Rattle.std.proofs.Math.Nat.{mod-lt, div-mul_cancel, eq_of_mul-eq-mul_right}
use Rattle.std.proofs.Math.ListN.{length-append, length-map}
use Rattle.cursor.specs.Range.{range}
use Rattle.cursor.specs.RangeLaws.{over_length, over_here}
use Rattle.cycle.specs.OrderLaws.{All, all_implies, Pairwise}
use Rattle.table.specs.Table.{Entry, Table, row_of, encode}
use Rattle.table.specs.WellFormed.{RisingFrom, AllRising}
use Rattle.table.specs.RisingLaws.{row_rises}
use Rattle.table.specs.LengthLaws.{entry_count, encode_length}
use Rattle.model.specs.Plan.{Instance, job_at, rows_at, frame_at, IsPlan}
use Rattle.model.specs.Good.{Good}
use Rattle.model.specs.GoodLaws.{job_facts}
use Rattle.model.specs.PlanLaws.{length_pos, rows_pos}
use Rattle.model.specs.RowLaws.{task_once}
use Rattle.model.specs.Described.{Among, row_for, entry_for, StandsIn, Describes, places_by_task, places_in, plan_row, plan_table}
use Rattle.model.specs.Places.{
  up_rises,
  all_both,
  pairwise_implies,
  spread,
  Keyed,
  all_picked,
  pairwise_picked,
  picked,
  pairwise_spread,
  spread_length,
  Inside,
  task_for,
  all_places,
  places_are,
  within,
  places_within,
  places_length,
  places_have,
  number_small,
}

-- The rows of the table of a plan.

module _ (x : Instance) (f : ℕ) (frames : List ℕ) where
  -- n rows of the plan, from row r on
  abbrev pub plan_rows : ℕ → ℕ → List (List Entry)
  plan_rows n r = map (plan_row x f frames) (range r n)

  pub plan_height : length (plan_table x f frames).rows ≡ rows_at x f
  unfolding plan_table
  plan_height = over_length (plan_row x f frames) 0 (rows_at x f)

  pub plan_row_lem : (r : ℕ) → r < rows_at x f → row_of (plan_table x f frames) r ≡ plan_row x f frames r
  unfolding plan_table
  plan_row_lem r h = over_here (plan_row x f frames) [] (rows_at x f) r h

-- the entries of the places in a list, and no others
among_map : (e : ℕ → Entry) {y : ℕ} {l : List ℕ} → Memᴰ y l → Among (e y) (map e l)
among_map e (Memᴰ.head q) = inl (ap e q)
among_map e (Memᴰ.tail m) = inr (among_map e m)

of_map : (e : ℕ → Entry) (P : ℕ → Type 0) (l : List ℕ) → All P l → (a : Entry) → Among a (map e l) → (y : ℕ) × P y × (a ≡ e y)
of_map e P [] h a m = absurd m
of_map e P (y ∷ l) h a m = ⊎_elim (λ q. (y, h.0, q)) (λ m. of_map e P l h.1 a m) m

-- Rows rise.
module _ (x : Instance) (g : Good x) (f : ℕ) (frames : List ℕ) (v : IsPlan x f frames) where
  -- of two places in one row the first has the smaller task
  abbrev Less : ℕ → ℕ → Type 0
  Less y z = row_for x f frames y ≡ row_for x f frames z → (job_at x y).task < (job_at x z).task

  -- y is a place in row r
  abbrev Here : ℕ → ℕ → Type 0
  Here r = Keyed (row_for x f frames) (Inside x) r

  places_rise : Pairwise Less (places_by_task x)
  unfolding row_for task_for
  places_rise = rw (places_are x) (pairwise_spread (task_for x) (Inside x) (all_places x) (within x) Less of_task (λ y z h row. h) (length x.tasks) 0)
    where
      apart : (i y z : ℕ) → Keyed (task_for x) (Inside x) i y → Keyed (task_for x) (Inside x) i z → y < z → Less y z
      apart i y z hy hz up row = absurd (omega (arith, task_once x g f frames v y z hy.0 hz.0 (hy.1 ∙ sym hz.1) row))

      of_task : (i : ℕ) → Pairwise Less (places_in (task_for x) i (all_places x))
      of_task i =
          pairwise_implies (Keyed (task_for x) (Inside x) i) (λ y z. y < z) Less (apart i) (places_in (task_for x) i (all_places x))
          (all_picked (task_for x) (Inside x) i (all_places x) (within x))
          (pairwise_picked (task_for x) (λ y z. y < z) i (all_places x) (up_rises (length x.jobs) 0))

  here : (r : ℕ) → All (Here r) (places_in (row_for x f frames) r (places_by_task x))
  here r = all_picked (row_for x f frames) (Inside x) r (places_by_task x) (places_within x)

  rising_map : (r low : ℕ) (l : List ℕ) → All (Here r) l → All (λ y. low ≤ (job_at x y).task) l → Pairwise Less l
      → RisingFrom low (map (entry_for x f frames) l)
  unfolding RisingFrom entry_for
  rising_map r low [] h above less = tt
  rising_map r low (y ∷ l) h above less = (
    above.0,
    omega (arith, (job_facts x g y h.0.0).known, g.readable.few_tasks),
    number_small x g y h.0.0,
    rising_map r ((job_at x y).task + 1) l h.1
        (all_both (Here r) (Less y) (λ z. (job_at x y).task + 1 ≤ (job_at x z).task) (λ z q s. omega (arith, s (h.0.1 ∙ sym q.1))) l h.1 less.0)
        less.1,
  )

  row_rising : (r : ℕ) → RisingFrom 0 (plan_row x f frames r)
  row_rising r =
      let places : List ℕ = places_in (row_for x f frames) r (places_by_task x) in
      rising_map r 0 places (here r) (all_implies (Here r) (λ y. 0 ≤ (job_at x y).task) (λ y h. omega arith) places (here r))
      (pairwise_picked (row_for x f frames) Less r (places_by_task x) places_rise)

  all_rising : (n r : ℕ) → AllRising (plan_rows x f frames n r)
  unfolding AllRising
  all_rising zero r = tt
  all_rising (suc n) r = (row_rising r, all_rising n (r + 1))

  pub row_below : (y : ℕ) → row_for x f frames y < rows_at x f
  unfolding row_for
  row_below y = mod-lt (frame_at frames y) (rows_pos x g f frames v)

  -- The table of a plan describes it.
  pub plan_table_describes : x.h ≤ 10000 → Describes x f frames (plan_table x f frames)
  unfolding plan_table
  plan_table_describes few = record {
    form = record {
      some_ticks = g.some_time;
      few_ticks = few;
      some_rows = rw (plan_height x f frames) (rows_pos x g f frames v);
      few_rows = rw (plan_height x f frames) v.few_rows;
      whole = rw (plan_height x f frames) (div-mul_cancel f v.divides);
      rising = all_rising (rows_at x f) 0;
    };
    same_f = refl;
    same_h = refl;
    each = λ y h.
        rw (plan_row_lem x f frames (row_for x f frames y) (row_below y))
        (among_map (entry_for x f frames) (picked (row_for x f frames) (places_have x g y h)));
    only = λ r h e m.
        let low : r < rows_at x f = rw (plan_height x f frames) at h in
        let places : List ℕ = places_in (row_for x f frames) r (places_by_task x) in
        let (y, q, s) = of_map (entry_for x f frames) (Here r) places (here r) e (rw (plan_row_lem x f frames r low) at m) in
        (y, record { within = q.0; in_row = q.1; is_entry = s });
  }

-- Two rows that rise and have the same entries are equal.

rising_above : (e : Entry) (low : ℕ) (es : List Entry) → RisingFrom low es → Among e es → low ≤ e.task
unfolding RisingFrom
rising_above e low [] h m = absurd m
rising_above e low (a ∷ es) h m =
    ⊎_elim (λ q. let same : e.task ≡ a.task = ap (λ b. b.task) q in omega (arith, h.0))
    (λ m. omega (arith, h.0, rising_above e (a.task + 1) es h.3 m)) m

rising_same : (low low' : ℕ) (es es' : List Entry) → RisingFrom low es → RisingFrom low' es'
    → ((e : Entry) → Among e es → Among e es') → ((e : Entry) → Among e es' → Among e es) → es ≡ es'
unfolding RisingFrom
rising_same low low' [] [] h h' to from = refl
rising_same low low' [] (a' ∷ es') h h' to from = absurd (from a' (inl refl))
rising_same low low' (a ∷ es) [] h h' to from = absurd (to a (inl refl))
rising_same low low' (a ∷ es) (a' ∷ es') h h' to from =
    let first : a ≡ a' = heads (to a (inl refl)) (from a' (inl refl)) in
    let to_rest : (e : Entry) → Among e es → Among e es'
    = λ e m. behind e a a' es' (rising_above e (a.task + 1) es h.3 m) first (to e (inr m)) in
    let from_rest : (e : Entry) → Among e es' → Among e es
    = λ e m. behind e a' a es (rising_above e (a'.task + 1) es' h'.3 m) (sym first) (from e (inr m)) in
    rw (first, rising_same (a.task + 1) (a'.task + 1) es es' h.3 h'.3 to_rest from_rest)
  where
    heads : Among a (a' ∷ es') → Among a' (a ∷ es) → a ≡ a'
    heads (inl q) m' = q
    heads (inr m) (inl q) = sym q
    heads (inr m) (inr m') = absurd (omega (arith, rising_above a (a'.task + 1) es' h'.3 m, rising_above a' (a.task + 1) es h.3 m'))

    behind : (e b b' : Entry) (bs : List Entry) → b.task + 1 ≤ e.task → b ≡ b' → Among e (b' ∷ bs) → Among e bs
    behind e b b' bs late same (inl q) = let equal : e.task ≡ b.task = ap (λ c. c.task) (q ∙ sym same) in absurd (omega arith)
    behind e b b' bs late same (inr m) = m

module _ (x : Instance) (g : Good x) (f : ℕ) (frames : List ℕ) (v : IsPlan x f frames) where
  pub described_height : (t : Table) → Describes x f frames t → length t.rows ≡ rows_at x f
  described_height t d =
      eq_of_mul-eq-mul_right f (length_pos x g f frames v) (length t.rows) (rows_at x f)
      (omega (arith, ap (λ z. length t.rows * z) d.same_f, d.form.whole, d.same_h, div-mul_cancel f v.divides))

  entries_shared : (t t' : Table) → Describes x f frames t → Describes x f frames t' → (r : ℕ) → r < rows_at x f
      → (e : Entry) → Among e (row_of t r) → Among e (row_of t' r)
  entries_shared t t' d d' r h e m = let (y, stands) = d.only r (rw (described_height t d) h) e m in there y stands
    where
      there : (y : ℕ) → StandsIn x f frames r e y → Among e (row_of t' r)
      there y s = rw (s.is_entry, ← s.in_row) (d'.each y s.within)

  described_once : (t t' : Table) → Describes x f frames t → Describes x f frames t' → t ≡ t'
  described_once t t' d d' =
      same (d.same_f ∙ sym d'.same_f) (d.same_h ∙ sym d'.same_h)
      (ext_get_or [] t.rows t'.rows (described_height t d ∙ sym (described_height t' d')) (λ r h. same_row r (rw (described_height t d) at h)))
    where
      same_row : (r : ℕ) → r < rows_at x f → row_of t r ≡ row_of t' r
      same_row r h =
          rising_same 0 0 (row_of t r) (row_of t' r) (row_rises t r d.form) (row_rises t' r d'.form)
          (entries_shared t t' d d' r h) (entries_shared t' t d' d r h)

      same : t.f ≡ t'.f → t.h ≡ t'.h → t.rows ≡ t'.rows → t ≡ t'
      same p q r = λ i. record { f = p i; h = q i; rows = r i }

  -- A table that describes a plan is the plan's table.
  pub describes_is : (t : Table) → Describes x f frames t → t ≡ plan_table x f frames
  describes_is t d = described_once t (plan_table x f frames) d (plan_table_describes x g f frames v (omega (arith, d.form.few_ticks, d.same_h)))

-- "7 + F + 2·(number of jobs) bytes"

module _ (x : Instance) (f : ℕ) (frames : List ℕ) where
  -- the rows hold the places, row by row
  rows_hold : (n r : ℕ) → entry_count (plan_rows x f frames n r) ≡ length (spread (row_for x f frames) (places_by_task x) n r)
  unfolding entry_count
  rows_hold zero r = refl
  rows_hold (suc n) r =
      let here : List ℕ = places_in (row_for x f frames) r (places_by_task x) in
      omega (arith, length-map here (entry_for x f frames), length-append here (spread (row_for x f frames) (places_by_task x) n (r + 1)), rows_hold n (r + 1))

module _ (x : Instance) (g : Good x) (f : ℕ) (frames : List ℕ) (v : IsPlan x f frames) where
  pub plan_entries : entry_count (plan_table x f frames).rows ≡ length x.jobs
  unfolding plan_table
  plan_entries =
      rows_hold x f frames (rows_at x f) 0
      ∙ spread_length (row_for x f frames) (rows_at x f) (places_by_task x)
      (all_implies (Inside x) (λ y. row_for x f frames y < rows_at x f) (λ y h. row_below x g f frames v y) (places_by_task x) (places_within x))
      ∙ places_length x g

  pub plan_table_length : length (encode (plan_table x f frames)) ≡ 7 + rows_at x f + 2 * length x.jobs
  plan_table_length = omega (arith, encode_length (plan_table x f frames), plan_height x f frames, plan_entries)
