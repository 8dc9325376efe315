-- Each step of the code as the definitions have it: one entry more of a row, one frame tested, one frame more passed, and each way out.
use Rattle.std.specs.Prelude.{ℕ, zero, suc, ◌+◌, ◌*◌, ◌-◌, ◌%◌, ◌≤◌, ◌<◌, min, ◌≡◌, refl, Bool, true, false, cond, get_or, set, leb, Option, Some, None, Err}
use Rattle.std.specs.Option.{IsSome}
use Rattle.refusal.specs.declared.Refusal.{Refusal}
use Rattle.request.specs.SectionLaws.{no_zero}
use Rattle.std.proofs.Math.Path.{sym, ap}
use Rattle.std.proofs.Common.{◌∙◌, ⊎_elim, mod-lt, get_or-set_same, get_or-set_other}
use mathlib.Core.List.{List, [], foldr}
use native.Mathlib.Omega.{arith}
use Rattle.std.proofs.Math.ListN.{length}
use borrow.Author.Tests.{lt-leb, le-leb, eq-eqb, ne_eqb}
use Rattle.cursor.specs.Range.{range}
use Rattle.cursor.specs.ChoiceLaws.{lt_or_ge}
use Rattle.cursor.specs.Fields.{Bytes}
use Rattle.cursor.specs.Padded.{firsts}
use Rattle.request.specs.Request.{no_task}
use Rattle.request.specs.declared.Task.{Task}
use Rattle.cycle.specs.Cycle.{cycle_of}
use Rattle.cycle.specs.Answers.{cycle_answered}
use Rattle.cycle.specs.Numbered.{cycle_number}
use Rattle.cycle.specs.declared.Cycle.{Cycle}
use Rattle.table.specs.Table.{Table, table, decode, row_of}
use Rattle.table.specs.EntryLaws.{task_of_byte}
use Rattle.table.specs.RisingLaws.{row_rises, row_few}
use Rattle.table.specs.Inverse.{decode_wellformed}
use Rattle.table.specs.Answers.{sizes_of, sizes_said, row_given, row_at, taken_said, entries_said}
use Rattle.table.specs.AnswerLaws.{entries_at, entries_more, entries_none, entries_given, given_count, sizes_table, row_answered_lem}
use Rattle.table.specs.RowsLeft.{RowsLeft, row_there, rows_go_on}
use Rattle.table.specs.Answers.{Row}
use Rattle.table.specs.Answers.{TakenRow}
use Rattle.table.specs.Answers as answered
use Rattle.table.specs.declared.Row as code
use Rattle.table.specs.declared.Sizes.{Sizes}
use Rattle.cursor.specs.declared.Cursor.{Cursor}
use Rattle.model.specs.Plan.{Instance, slot}
use Rattle.model.specs.Slots.{slots}
use Rattle.model.specs.Answers.{instance_of}
use Rattle.model.specs.WithinLaws.{Taken, read_within}
use Rattle.checker.specs.Checked.{Verdict, accepted, refusal, checked, verdict_number, check_number}
use Rattle.checker.specs.ReadLaws.{Formed}
use Rattle.checker.specs.Verdicts.{PlanRead, plan_read_lem, refusal_number}
use Rattle.one_off.specs.OneOff as spec
use Rattle.one_off.specs.OneOff.{frame_fits, well_asked, earliest, offered, one_off}
use Rattle.one_off.specs.Answers.{offer_answer, UsedTimes, fits_by, FitsIn, EarliestIn}
use Rattle.one_off.specs.Numbered.{FrameFound}

-- The used time of a row

-- the tasks and the silent ticks are all that counts of a request, and the tasks all that counts of the entries
abbrev pub of_tasks : List Task → ℕ → ℕ → Instance
of_tasks tasks n g = record { tasks = firsts (min n 16) no_task tasks; pairs = []; g = g; h = 0; jobs = [] }

-- those of n places from place i on
abbrev pub used_from : List Task → ℕ → ℕ → List ℕ → ℕ → ℕ → ℕ
used_from tasks n g entries count i = slots (of_tasks tasks n g) (entries_at entries [] (count - i) i)

module _ (tasks : List Task) (n g : ℕ) (entries : List ℕ) (count i : ℕ) where
  pub used_more : i < count → used_from tasks n g entries count i
      ≡ slot g (get_or (firsts (min n 16) no_task tasks) (get_or entries i 0) no_task) + used_from tasks n g entries count (i + 1)
  used_more h = rw (entries_more entries [] count i h, task_of_byte (get_or entries i 0) (get_or {A = ℕ} [] i 0))

  pub used_none : count ≤ i → used_from tasks n g entries count i ≡ 0
  used_none h = rw (entries_none entries [] count i h)

same_slots : (c : Cycle) (entries jobs : List ℕ) (k p : ℕ)
    → slots (of_tasks c.tasks c.n c.g) (entries_at entries [] k p) ≡ slots (instance_of c) (entries_at entries jobs k p)
same_slots c entries jobs zero p = refl
same_slots c entries jobs (suc k) p =
    rw (task_of_byte (get_or entries p 0) (get_or {A = ℕ} [] p 0), task_of_byte (get_or entries p 0) (get_or jobs p 0), same_slots c entries jobs k (p + 1))

pub used_all : (c : Cycle) (r : Row) → used_from c.tasks c.n c.g r.tasks r.count 0 ≡ slots (instance_of c) (entries_said r)
used_all c r = let all : r.count - 0 ≡ r.count = omega arith in rw all (same_slots c r.tasks r.jobs r.count 0)

-- The used times of the rows: the bytes are a table's, and these are its sizes

module _ (bytes : List ℕ) (z : Sizes) (o : Formed bytes z) where
  pub some_row : 0 < z.height
  some_row = omega (arith, o.height_is, (decode_wellformed bytes o.t o.is).some_rows)

  pub few_rows : z.height ≤ 256
  few_rows = omega (arith, o.height_is, (decode_wellformed bytes o.t o.is).few_rows)

  same_table : (t : Table) → decode bytes ≡ table t → o.t ≡ t
  same_table t is = let q : table o.t ≡ table t = sym o.is ∙ is in cc

  -- the row k is read where it begins
  module _ (at k : ℕ) (so : RowsLeft bytes at k) (are : Bytes bytes) (below : k < z.height) (r : TakenRow) (e : r ≡ row_at bytes at) where
    inside : k < length o.t.rows
    inside = omega (arith, o.height_is)

    row_is : r.row ≡ row_given (row_of o.t k)
    row_is = row_there bytes at k so are o.t o.is inside r e ∙ row_answered_lem bytes o.t k o.is inside

    pub row_short : r.row.count ≤ 16
    row_short = rw (row_is, given_count (row_of o.t k)) (row_few o.t k (decode_wellformed bytes o.t o.is))

    pub next_row : RowsLeft bytes r.next.at (k + 1)
    next_row = rows_go_on bytes at k so are o.t o.is inside r e

    row_used : (x : Instance) → slots x (entries_said r.row) ≡ slots x (row_of o.t k)
    row_used x = rw (row_is, entries_given (row_of o.t k) (row_rises o.t k (decode_wellformed bytes o.t o.is)))

    pub one_used : (x : Instance) (times : List ℕ) (v : ℕ) → length times ≡ 256 → UsedTimes x bytes k times → v ≡ slots x (entries_said r.row)
        → v ≤ 16 * 4294967295 → UsedTimes x bytes (k + 1) (set times k v)
    one_used x times v long before is few = record {
      of = λ t d i h. ⊎_elim
          (λ l. get_or-set_other times k i v 0 (λ q. omega arith) ∙ before.of t d i l)
          (λ g. let same : i ≡ k = omega arith in rw same (here ∙ is ∙ row_used x ∙ ap (λ (y : Table). slots x (row_of y k)) (same_table t d)))
          (lt_or_ge i k);
      few = λ i h. ⊎_elim
          (λ l. rw (get_or-set_other times k i v 0 (λ q. omega arith)) (before.few i l))
          (λ g. let same : i ≡ k = omega arith in rw (same, here) few)
          (lt_or_ge i k);
    }
      where
        here : get_or (set times k v) k 0 ≡ v
        here = get_or-set_same times k v 0 (omega (arith, few_rows))

-- so there is a row
module _ (bytes : List ℕ) (z : Sizes) (o : Formed bytes z) (at k : ℕ) (so : RowsLeft bytes at k) (are : Bytes bytes) (below : k < z.height) where
  pub row_taken : (r : Option (code.Row × Cursor)) → taken_said at r ≡ row_at bytes at → IsSome r
  unfolding row_given
  row_taken (Some p) e = refl
  row_taken None e =
      let number : 12 ≡ 0 = ap (λ (y : Row). y.refusal) (row_is bytes z o at k so are below (taken_said at None) e) in
      absurd (omega (arith, number))

pub none_used : (x : Instance) (bytes times : List ℕ) → UsedTimes x bytes 0 times
none_used x bytes times = record { of = λ t is i h. absurd (omega arith); few = λ i h. absurd (omega arith) }

-- One frame, by the used time of its row

module _ (L s e f g used k : ℕ) where
  pub too_early : k * f < s → false ≡ fits_by L s e f g used k
  unfolding fits_by
  too_early h = rw (lt-leb s (k * f) h)

  module _ (early : s ≤ k * f) where
    ends : (k + 1) * f ≡ k * f + f
    ends = omega arith

    pub too_late : e < k * f + f → false ≡ fits_by L s e f g used k
    unfolding fits_by
    too_late h = rw (le-leb s (k * f) early, ends, lt-leb (k * f + f) e h)

    pub room_decides : k * f + f ≤ e → leb (used + (L + g)) f ≡ fits_by L s e f g used k
    unfolding fits_by
    room_decides late = rw (le-leb s (k * f) early, ends, le-leb (k * f + f) e late)

module _ (L s e : ℕ) (c : Cycle) (bytes : List ℕ) (z : Sizes) (o : Formed bytes z) (times : List ℕ) (used : UsedTimes (instance_of c) bytes z.height times) (k : ℕ) where
  row_below : k % z.height < z.height
  row_below = mod-lt k (some_row bytes z o)

  pub time_few : get_or times (k % z.height) 0 ≤ 16 * 4294967295
  time_few = used.few (k % z.height) row_below

  -- the used time is that of the frame's row
  pub frame_decided : (r : Bool) → r ≡ fits_by L s e z.f c.g (get_or times (k % z.height) 0) k → FitsIn L s e (instance_of c) bytes k r
  unfolding fits_by frame_fits
  frame_decided r q = record {
    of = λ t is.
        let same = same_table bytes z o t is in
        let f : z.f ≡ t.f = o.f_is ∙ ap (λ (y : Table). y.f) same in
        let height : z.height ≡ length t.rows = o.height_is ∙ ap (λ (y : Table). length y.rows) same in
        let time = used.of t is (k % z.height) row_below in
        q ∙ rw (time, f, height);
  }

-- The frames in turn

-- the earliest of n frames that fits, the first is k
abbrev pub earliest_of : (ℕ → Bool) → ℕ → ℕ → spec.Offer
earliest_of fits n k = foldr (λ j later. cond (fits j) (spec.in_frame j) later) (spec.refusal 22) (range k n)

module _ (L s e : ℕ) (x : Instance) (bytes : List ℕ) where
  -- the frames from k on decide
  pub record LeftFrom (k : ℕ) : Type 0 where
    pub of : (t : Table) → decode bytes ≡ table t → earliest_of (frame_fits L s e x t) (2 * length t.rows - k) k ≡ earliest L s e x t

  pub all_left : LeftFrom 0
  unfolding earliest
  all_left = record { of = λ t is. let all : 2 * length t.rows - 0 ≡ 2 * length t.rows = omega arith in rw all }

  module _ (z : Sizes) (o : Formed bytes z) (k : ℕ) (left : LeftFrom k) where
    height_of : (t : Table) → decode bytes ≡ table t → z.height ≡ length t.rows
    height_of t is = o.height_is ∙ ap (λ (y : Table). length y.rows) (let q : table o.t ≡ table t = sym o.is ∙ is in let w : o.t ≡ t = cc in w)

    module _ (h : k < 2 * z.height) where
      one_less : (t : Table) → decode bytes ≡ table t → 2 * length t.rows - k ≡ suc (2 * length t.rows - (k + 1))
      one_less t is = omega (arith, height_of t is)

      pub frame_found : FitsIn L s e x bytes k true → EarliestIn L s e x bytes (record { refusal = 0; frame = k })
      frame_found fits = record { of = λ t is. ap offer_answer (rw (one_less t is, ← fits.of t is) at (left.of t is)) }

      pub frame_passed : FitsIn L s e x bytes k false → LeftFrom (k + 1)
      frame_passed fits = record { of = λ t is. rw (one_less t is, ← fits.of t is) at (left.of t is) }

    pub none_fits : 2 * z.height ≤ k → EarliestIn L s e x bytes (offer_answer (spec.refusal 22))
    none_fits h = record {
      of = λ t is. let none : 2 * length t.rows - k ≡ 0 = omega (arith, height_of t is) in ap offer_answer (rw none at (left.of t is));
    }

-- The whole call

module _ (L s e : ℕ) (request bytes : List ℕ) where
  -- "The request and table are checked first."
  pub check_refuses : (number : ℕ) → number ≡ check_number request bytes → (number ≡ 0 → ⊥) → spec.refusal number ≡ one_off L s e request bytes
  unfolding one_off
  check_refuses number is ne = rw (ne_eqb (check_number request bytes) 0 (λ q. ne (is ∙ q)), is)

  -- what passes the check is read
  pub record Passed : Type 0 where
    pub f : ℕ
    pub frames : List ℕ
    pub read : PlanRead request bytes f frames

  module _ (pass : check_number request bytes ≡ 0) where
    pub passed : Passed
    passed = go (checked (cycle_of request) (decode bytes)) refl pass
      where
        go : (v : Verdict) → checked (cycle_of request) (decode bytes) ≡ v → verdict_number v ≡ 0 → Passed
        go (accepted f frames) is q = record { f = f; frames = frames; read = plan_read_lem request bytes f frames is }
        go (refusal n) is q = absurd (omega (arith, (refusal_number request bytes n is).0))

    -- and has its sizes
    pub sizes_there : (e : Refusal) → sizes_said (Err e) ≡ sizes_of (decode bytes) → ⊥
    sizes_there e is =
        let p = passed.read in
        no_zero e (ap (λ (y : answered.Sizes). y.refusal) (is ∙ ap sizes_of p.read ∙ sizes_table p.t))

    module _ (c : Cycle) (is : c ≡ cycle_answered (cycle_of request)) where
      taken : Taken request c
      taken = read_within request c is (ap cycle_number passed.read.within)

      offered_is : one_off L s e request bytes ≡ offered L s e (instance_of c) passed.read.t
      unfolding one_off
      offered_is = rw (eq-eqb (check_number request bytes) 0 pass, taken.within, passed.read.read)

      -- 21
      pub badly_asked : well_asked L s e c.h ≡ false → spec.refusal 21 ≡ one_off L s e request bytes
      unfolding offered
      badly_asked q = sym (offered_is ∙ rw q)

      pub earliest_answers : well_asked L s e c.h ≡ true → (r : FrameFound) → EarliestIn L s e (instance_of c) bytes r
          → r ≡ offer_answer (one_off L s e request bytes)
      unfolding offered
      earliest_answers q r found =
          let all : one_off L s e request bytes ≡ earliest L s e (instance_of c) passed.read.t = offered_is ∙ rw q in
          rw all (found.of passed.read.t passed.read.read)
