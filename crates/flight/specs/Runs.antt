-- Runs and places, of any frames: a job that has run started at some place, and a job that has run at most once started at no two places. In a flight
-- what has started is a job of the request.
use Rattle.std.specs.Prelude.{◌≡◌, Bool, length, get_or}
use Rattle.std.proofs.Math.Path.{refl, ap}
use Rattle.std.proofs.Common.{sym, ◌∙◌, zero-add}
use Rattle.std.proofs.Math.Bool.{true, false}
use Rattle.std.proofs.Math.Logic.{⊎_elim}
use mathlib.Core.List.{List, [], ◌∷◌}
use Prim.Native.Nat.{ℕ, zero, suc, ◌+◌, ◌/◌, ◌≤◌, ◌<◌}
use native.Mathlib.Omega.{arith}
use Rattle.cursor.specs.Choice.{bit}
use Rattle.cursor.specs.ChoiceLaws.{lt_or_ge}
use Rattle.cycle.specs.Planned.{IsJob}
use Rattle.table.specs.Table.{Entry, Table}
use Rattle.model.specs.Plan.{Instance}
use Rattle.flight.specs.Calls.{Call, height}
use Rattle.flight.specs.Timing.{no_entry, served_at, stands_for, Starts, runs_in, runs_from, times_run}
use Rattle.flight.specs.Flight.{frames_flown, Started, Flight}
use Rattle.flight.specs.Rows.{meant}

-- In one frame

module _ (now i j q : ℕ) where
  -- the entry at place p stands for the job
  pub record StandsAt (es : List Entry) (p : ℕ) : Type 0 where
    pub filled : p < length es
    pub stands : stands_for now i j q (get_or es p no_entry) ≡ true

  run_in : (es : List Entry) → 1 ≤ runs_in now i j q es → (p : ℕ) × StandsAt es p
  unfolding runs_in
  run_in [] h = absurd (omega arith)
  run_in (e ∷ es) h = go (stands_for now i j q e) refl h (run_in es)
    where
      go : (b : Bool) → stands_for now i j q e ≡ b → 1 ≤ bit b + runs_in now i j q es → (1 ≤ runs_in now i j q es → (p : ℕ) × StandsAt es p)
          → (p : ℕ) × StandsAt (e ∷ es) p
      go true w k ih = (0, record { filled = omega arith; stands = w })
      go false w k ih = let (p, s) = ih (omega arith) in (suc p, record { filled = omega (arith, s.filled); stands = s.stands })

  in_run : (es : List Entry) (p : ℕ) → StandsAt es p → 1 ≤ runs_in now i j q es
  unfolding runs_in
  in_run [] p s = absurd (omega (arith, s.filled))
  in_run (e ∷ es) zero s = let one : bit (stands_for now i j q e) ≡ 1 = ap bit s.stands in omega arith
  in_run (e ∷ es) (suc p) s = omega (arith, in_run es p (record { filled = omega (arith, s.filled); stands = s.stands }))

  in_once : (es : List Entry) → runs_in now i j q es ≤ 1 → (p o : ℕ) → StandsAt es p → StandsAt es o → p ≡ o
  unfolding runs_in
  in_once [] h p o s z = absurd (omega (arith, s.filled))
  in_once (e ∷ es) h zero zero s z = refl
  in_once (e ∷ es) h zero (suc o) s z =
      let one : bit (stands_for now i j q e) ≡ 1 = ap bit s.stands in
      absurd (omega (arith, in_run es o (record { filled = omega (arith, z.filled); stands = z.stands })))
  in_once (e ∷ es) h (suc p) zero s z =
      let one : bit (stands_for now i j q e) ≡ 1 = ap bit z.stands in
      absurd (omega (arith, in_run es p (record { filled = omega (arith, s.filled); stands = s.stands })))
  in_once (e ∷ es) h (suc p) (suc o) s z =
      ap suc (in_once es (omega arith) p o (record { filled = omega (arith, s.filled); stands = s.stands }) (record { filled = omega (arith, z.filled); stands = z.stands }))

-- In frames of which the first is frame m

module _ (F i j q : ℕ) where
  -- the entry at place p of the frame behind n others stands for the job
  abbrev pub StandsFrom : ℕ → List (List Entry) → ℕ → ℕ → Type 0
  StandsFrom m frames n p = (n < length frames) × StandsAt ((m + n) / F) i j q (get_or frames n []) p

  -- the same place, with the frame before the first counted too
  moved : (m : ℕ) (es : List Entry) (frames : List (List Entry)) (n p : ℕ) → StandsFrom (m + 1) frames n p → StandsFrom m (es ∷ frames) (suc n) p
  moved m es frames n p s = let same : m + 1 + n ≡ m + suc n = omega arith in (omega (arith, s.0), rw same at s.1)

  back : (m : ℕ) (es : List Entry) (frames : List (List Entry)) (n p : ℕ) → StandsFrom m (es ∷ frames) (suc n) p → StandsFrom (m + 1) frames n p
  back m es frames n p s = let same : m + suc n ≡ m + 1 + n = omega arith in (omega (arith, s.0), rw same at s.1)

  at_first : (m : ℕ) (es : List Entry) (frames : List (List Entry)) (p : ℕ) → StandsAt (m / F) i j q es p → StandsFrom m (es ∷ frames) 0 p
  at_first m es frames p s = let same : m ≡ m + 0 = omega arith in (omega arith, rw same at s)

  first : (m : ℕ) (es : List Entry) (frames : List (List Entry)) (p : ℕ) → StandsFrom m (es ∷ frames) 0 p → StandsAt (m / F) i j q es p
  first m es frames p s = let same : m + 0 ≡ m = omega arith in rw same at s.1

  run_from : (frames : List (List Entry)) (m : ℕ) → 1 ≤ runs_from F i j q m frames → (n : ℕ) × (p : ℕ) × StandsFrom m frames n p
  unfolding runs_from
  run_from [] m h = absurd (omega arith)
  run_from (es ∷ rest) m h =
      ⊎_elim
      (λ here. let (p, s) = run_in (m / F) i j q es here in (0, p, at_first m es rest p s))
      (λ none. let (n, p, s) = run_from rest (m + 1) (omega arith) in (suc n, p, moved m es rest n p s))
      (lt_or_ge 0 (runs_in (m / F) i j q es))

  from_run : (frames : List (List Entry)) (m n p : ℕ) → StandsFrom m frames n p → 1 ≤ runs_from F i j q m frames
  unfolding runs_from
  from_run [] m n p s = absurd (omega (arith, s.0))
  from_run (es ∷ rest) m zero p s = omega (arith, in_run (m / F) i j q es p (first m es rest p s))
  from_run (es ∷ rest) m (suc n) p s = omega (arith, from_run rest (m + 1) n p (back m es rest n p s))

  from_once : (frames : List (List Entry)) (m : ℕ) → runs_from F i j q m frames ≤ 1 → (n p u v : ℕ) → StandsFrom m frames n p → StandsFrom m frames u v
      → (n ≡ u) × (p ≡ v)
  unfolding runs_from
  from_once [] m h n p u v s z = absurd (omega (arith, s.0))
  from_once (es ∷ rest) m h zero p zero v s z = (refl, in_once (m / F) i j q es (omega arith) p v (first m es rest p s) (first m es rest v z))
  from_once (es ∷ rest) m h zero p (suc u) v s z =
      absurd (omega (arith, in_run (m / F) i j q es p (first m es rest p s), from_run rest (m + 1) u v (back m es rest u v z)))
  from_once (es ∷ rest) m h (suc n) p zero v s z =
      absurd (omega (arith, in_run (m / F) i j q es v (first m es rest v z), from_run rest (m + 1) n p (back m es rest n p s)))
  from_once (es ∷ rest) m h (suc n) p (suc u) v s z =
      let w = from_once rest (m + 1) (omega arith) n p u v (back m es rest n p s) (back m es rest u v z) in
      (ap suc w.0, w.1)

-- From frame 0 on

module _ (F : ℕ) (frames : List (List Entry)) (i j q : ℕ) where
  from_zero : (m p : ℕ) → Starts F frames i j q m p → StandsFrom F i j q 0 frames m p
  from_zero m p s =
      (s.served_there.frame_flown, rw (zero-add m) (record { filled = s.served_there.place_filled; stands = s.stands }))

  -- a job that has run started at some place
  pub run_starts : 1 ≤ times_run F frames i j q → (m : ℕ) × (p : ℕ) × Starts F frames i j q m p
  run_starts h =
      let (m, p, s) = run_from F i j q frames 0 h in
      let there = rw (zero-add m) at s.1 in
      (m, p, record { served_there = record { frame_flown = s.0; place_filled = there.filled }; stands = there.stands })

  -- two places are two runs: where it has run at most once, it started at one place
  pub one_place : times_run F frames i j q ≤ 1 → (m p u v : ℕ) → Starts F frames i j q m p → Starts F frames i j q u v → (m ≡ u) × (p ≡ v)
  one_place h m p u v s z = from_once F i j q frames 0 h m p u v (from_zero m p s) (from_zero u v z)

-- what has started is a job of the request
pub started_job : (x : Instance) (table_bytes : List ℕ) (t : Table) (calls : List Call) (actual : ℕ → ℕ → ℕ) → Flight x table_bytes t calls actual
    → (i j q m p : ℕ) → Started x table_bytes t calls actual i j q m p → IsJob x.tasks x.h i j
started_job x table_bytes t calls actual flies i j q m p s =
    let e : Entry = served_at (frames_flown table_bytes calls) m p in
    let w = flies.each_stands m p s.served_there in
    let here = meant (m / height t) i j q e s.stands in
    let there = meant (m / height t) w.i w.j w.q e w.starts.stands in
    let task : w.i ≡ i = sym there.task ∙ here.task in
    let number : w.j ≡ j = sym there.number ∙ here.number in
    rw (task, number) at w.is_job
