-- A job of cycle q, whose frame in the plan is k, is served in frame q·F + k and in no other.
use Rattle.std.specs.Prelude.{◌≡◌, refl, Bool, true, false, ◌≢◌, List, length, leb, ltb, eqb}
use Rattle.std.proofs.Math.Path.{sym, ap}
use Rattle.std.proofs.Common.{subst, ◌∙◌, mod-lt, mul-div_cancel, le-div_iff_mul-le, leb-true, leb-false, ltb-true, ltb-false, eqb-true}
use Prim.Native.Nat.{ℕ, zero, suc, ◌+◌, ◌*◌, ◌-◌, ◌/◌, ◌%◌, ◌≤◌, ◌<◌, min}
use Rattle.std.proofs.Math.Nat.{div-eq_of_lt, div-eq_of_lt-le}
use native.Mathlib.Omega.{arith}
use Rattle.std.proofs.lemmas.Bool.{eqb-false, lt-leb}
use Rattle.cursor.specs.Choice.{bit}
use Rattle.cycle.specs.Cycle.{jobs_in, job_of}
use Rattle.cycle.specs.Planned.{IsJob}
use Rattle.table.specs.Table.{Entry, Table, row_of}
use Rattle.table.specs.WellFormed.{RisingFrom}
use Rattle.table.specs.RisingLaws.{row_rises}
use Rattle.table.specs.AnswerLaws.{entries_given}
use Rattle.model.specs.Plan.{Instance, task_at, job_at, rows_at, frame_at, IsPlan}
use Rattle.model.specs.PlanLaws.{length_pos}
use Rattle.model.specs.Disjoint.{row_and_cycle}
use Rattle.model.specs.Good.{Good}
use Rattle.model.specs.GoodLaws.{PlaceOf, job_facts, same_place, place_of}
use Rattle.model.specs.RowLaws.{frame_small}
use Rattle.model.specs.Described.{Among, row_for, entry_for, StandsIn, Describes}
use Rattle.model.specs.DescribedLaws.{row_of_frame, entry_names, entry_carried, stands_named}
use Rattle.dispatcher.specs.FrameLaws.{served_rises}
use Rattle.flight.specs.Calls.{height, plain_frame}
use Rattle.flight.specs.Timing.{late, stands_for, runs_in, runs_from}
use Rattle.flight.specs.Same.{frames_from, read_off}
use Rattle.flight.specs.Rows.{not_both, among_served, served_among, served_uncarried, Meant, meant, means, runs_none, runs_once}

add_chain : (a b u v w : ℕ) → a + u ≡ v → b + v ≡ w → a + b + u ≡ w
add_chain a b u v w h k = omega arith

-- a plan's frame has a carry if it is F or above
carry_is : (F k : ℕ) → 0 < F → k < 2 * F → bit (leb F k) ≡ k / F
carry_is F k pos h = go (leb F k) refl
  where
    go : (b : Bool) → leb F k ≡ b → bit b ≡ k / F
    go true e = let w : F ≤ k = leb-true _ _ e in sym (div-eq_of_lt-le {k = 1} F (omega arith) (omega arith))
    go false e = sym (div-eq_of_lt (leb-false _ _ e))

-- A request within the limits and a table that describes a plan of it

module _ (x : Instance) (g : Good x) where
  pub place_of_job : (i j : ℕ) → IsJob x.tasks x.h i j → PlaceOf x i j
  unfolding jobs_in
  place_of_job i j is = place_of x g i j is.known is.early

  pub job_of_place : (i j : ℕ) → PlaceOf x i j → IsJob x.tasks x.h i j
  unfolding jobs_in
  job_of_place i j w =
      let facts = job_facts x g w.place w.within in
      record { known = rw w.task at facts.known; early = rw (w.task, w.number) at facts.early }

  -- its release and its due time are those in the list of jobs
  pub job_there : (i j : ℕ) (w : PlaceOf x i j)
      → ((job_at x w.place).release ≡ (job_of x.tasks i j).release) × ((job_at x w.place).due ≡ (job_of x.tasks i j).release + (task_at x i).d)
  unfolding job_of
  job_there i j w =
      let facts = job_facts x g w.place w.within in
      let released = rw (w.task, w.number) at facts.released in
      (released, rw (w.task, released) at facts.due)

module _ (x : Instance) (g : Good x) (t : Table) (frames : List ℕ) (v : IsPlan x t.f frames) (d : Describes x t.f frames t) where
  pub some_row : 0 < height t
  some_row = d.form.some_rows

  pub some_length : 0 < t.f
  some_length = length_pos x g t.f frames v

  pub whole : height t * t.f ≡ x.h
  whole = d.form.whole ∙ d.same_h

  pub height_is : rows_at x t.f ≡ height t
  height_is = rw (← whole) (mul-div_cancel (height t) some_length)

  -- the row and the carry of the job at place y
  pub row_is : (y : ℕ) → row_for x t.f frames y ≡ frame_at frames y % height t
  row_is y = row_of_frame x t.f frames y ∙ rw height_is

  late_is : (y : ℕ) → y < length x.jobs → late (entry_for x t.f frames y) ≡ frame_at frames y / height t
  late_is y h = rw (entry_carried x t.f frames y, height_is) (carry_is (height t) (frame_at frames y) some_row (rw height_is at (frame_small x g t.f frames v y h)))

  pub frame_rising : (m : ℕ) → RisingFrom 0 (plain_frame t m)
  frame_rising m = served_rises (ltb m (height t)) (row_of t (m % height t)) (row_rises t (m % height t) d.form)

  -- its entries can be read off its answer
  pub frame_read_off : (m : ℕ) → read_off (plain_frame t m) ≡ plain_frame t m
  frame_read_off m = entries_given (plain_frame t m) (frame_rising m)

  pub frame_planned : (m : ℕ) (e : Entry) → Among e (plain_frame t m) → (y : ℕ) × StandsIn x t.f frames (m % height t) e y
  frame_planned m e h = d.only (m % height t) (mod-lt m some_row) e (served_among (ltb m (height t)) e (row_of t (m % height t)) h)

  -- an entry of frame m that stands for a job of some cycle is the job's entry, and the frame is q·F + k
  module _ (m i j q : ℕ) (e : Entry) (there : Among e (plain_frame t m)) (stands : stands_for (m / height t) i j q e ≡ true) where
    means_it : Meant (m / height t) i j q e
    means_it = meant (m / height t) i j q e stands

    pub its_place : PlaceOf x i j
    its_place =
        let (y, s) = frame_planned m e there in
        record {
          place = y;
          within = s.within;
          task = (stands_named s).task_is ∙ means_it.task;
          number = (stands_named s).number_is ∙ means_it.number;
        }

    pub its_frame : m ≡ frame_at frames its_place.place + q * height t
    unfolding its_place
    its_frame =
        let (y, s) = frame_planned m e there in
        let row : frame_at frames y % height t ≡ m % height t = sym (row_is y) ∙ s.in_row in
        let carry : late e ≡ frame_at frames y / height t = ap late s.is_entry ∙ late_is y s.within in
        (row_and_cycle (height t) (frame_at frames y) m q some_row).1 (sym row, omega (arith, means_it.cycle))

  -- a carried entry is served from the second cycle on, so every entry served stands for its job of some cycle
  pub stands_for_some : (m : ℕ) (e : Entry) → Among e (plain_frame t m) → stands_for (m / height t) e.task e.number (m / height t - late e) e ≡ true
  stands_for_some m e h =
      means (m / height t) e.task e.number (m / height t - late e) e
      (record { task = refl; number = refl; cycle = let w : late e ≤ m / height t = go e.carried refl in omega arith })
    where
      not_first : (b : Bool) → ltb m (height t) ≡ b → e.carried ≡ true → 1 ≤ m / height t
      not_first true l c = not_both e.carried c (served_uncarried (ltb m (height t)) e (row_of t (m % height t)) h l)
      not_first false l c = let k : height t ≤ m = ltb-false _ _ l in (le-div_iff_mul-le some_row).1 (let k1 : 1 * height t ≤ m = omega arith in k1)

      go : (b : Bool) → e.carried ≡ b → bit b ≤ m / height t
      go true c = not_first (ltb m (height t)) refl c
      go false c = omega arith

  -- a job of cycle q
  module _ (i j : ℕ) (w : PlaceOf x i j) (q : ℕ) where
    -- its frame
    abbrev pub frame_then : ℕ
    frame_then = frame_at frames w.place + q * height t

    its_row_and_cycle : (frame_then % height t ≡ frame_at frames w.place % height t) × (frame_then / height t ≡ frame_at frames w.place / height t + q)
    its_row_and_cycle = (row_and_cycle (height t) (frame_at frames w.place) frame_then q some_row).0 refl

    -- its entry there
    abbrev pub entry_then : Entry
    entry_then = entry_for x t.f frames w.place

    pub served_then : Among entry_then (plain_frame t frame_then)
    served_then =
        let row : ℕ = frame_at frames w.place % height t in
        let there : Among entry_then (row_of t row) = subst (λ (r : ℕ). Among entry_then (row_of t r)) (row_is w.place) (d.each w.place w.within) in
        rw its_row_and_cycle.0 (among_served (ltb frame_then (height t)) entry_then (row_of t row) there not_yet)
      where
        not_yet : ltb frame_then (height t) ≡ true → entry_then.carried ≡ false
        not_yet e =
            let before : frame_then < height t = ltb-true _ _ e in
            rw (entry_carried x t.f frames w.place, height_is) (lt-leb (height t) (frame_at frames w.place) (omega arith))

    pub stands_then : stands_for (frame_then / height t) i j q entry_then ≡ true
    stands_then =
        let named = entry_names x t.f frames w.place in
        means (frame_then / height t) i j q entry_then (record {
          task = sym named.task_is ∙ w.task;
          number = sym named.number_is ∙ w.number;
          cycle = omega (arith, its_row_and_cycle.1, late_is w.place w.within);
        })

    pub served_when : (m : ℕ) (e : Entry) → Among e (plain_frame t m) → stands_for (m / height t) i j q e ≡ true → m ≡ frame_then
    served_when m e there stands =
        let u : PlaceOf x i j = its_place m i j q e there stands in
        let same : u.place ≡ w.place = same_place x g u.place w.place u.within w.within (u.task ∙ sym w.task) (u.number ∙ sym w.number) in
        its_frame m i j q e there stands ∙ ap (λ (y : ℕ). frame_at frames y + q * height t) same

    -- How often it runs in frame m, and in n frames from m on: once if its frame is one of them

    runs_in_lem : (m : ℕ) → runs_in (m / height t) i j q (plain_frame t m) + min 1 (m - frame_then) ≡ min 1 (m + 1 - frame_then)
    runs_in_lem m = go (eqb m frame_then) refl
      where
        go : (b : Bool) → eqb m frame_then ≡ b → runs_in (m / height t) i j q (plain_frame t m) + min 1 (m - frame_then) ≡ min 1 (m + 1 - frame_then)
        go true e =
            let same : m ≡ frame_then = eqb-true _ _ e in
            let one : runs_in (m / height t) i j q (plain_frame t m) ≡ 1 =
            rw same (runs_once (frame_then / height t) i j q 0 (plain_frame t frame_then) (frame_rising frame_then) entry_then served_then stands_then) in
            omega arith
        go false e =
            let other : m ≢ frame_then = eqb-false _ _ e in
            let none : runs_in (m / height t) i j q (plain_frame t m) ≡ 0 = runs_none (m / height t) i j q (plain_frame t m) (λ e h s. other (served_when m e h s)) in
            omega arith

    pub runs_from_lem : (n m : ℕ) → runs_from (height t) i j q m (frames_from t m n) + min 1 (m - frame_then) ≡ min 1 (m + n - frame_then)
    unfolding runs_from frames_from
    runs_from_lem zero m = omega arith
    runs_from_lem (suc n) m =
        add_chain (runs_in (m / height t) i j q (plain_frame t m)) _ _ _ _ (runs_in_lem m) (runs_from_lem n (m + 1))
        ∙ ap (λ (z : ℕ). min 1 (z - frame_then)) (omega arith)
