-- The check accepts exactly the tables that describe a plan, of any frame length.
-- An accepted table describes the plan read from it: a job's entry is the one its walk stops at, and every entry is such a one. A table that
-- describes a plan has for each job the plan's entry only, so the walk stops there; and an entry gives its frame, since that is below 2F.
use Prim.Native.Nat.{ℕ, ◌+◌, ◌*◌, ◌-◌, ◌%◌, ◌≤◌, ◌<◌}
use Rattle.std.specs.Prelude.{Some, None, ◌≡◌, Bool, ◌&&◌, List, ◌↔◌, get_or, eqb}
use Rattle.std.proofs.Math.Path.{refl, sym}
use Rattle.std.proofs.Common.{ap, subst, ◌∙◌}
use Rattle.std.proofs.Math.Bool.{true, false, cond}
use Rattle.std.proofs.Math.Nat.{mod-eq_of_lt, mod-eq-sub-mod, eq_of_mul-eq-mul_right, div-mul_cancel}
use native.Mathlib.Omega.{arith}
use Rattle.std.proofs.Math.ListN.{length, length-map}
use Rattle.std.proofs.Math.Seq.{ext_get_or}
use Rattle.std.proofs.Math.Dec.{leb}
use borrow.Author.Tests.{le-leb, lt-leb, leb-true, leb-false, eq-eqb, eqb-true}
use Rattle.cursor.specs.ParsedLaws.{never, both_true}
use Rattle.request.specs.declared.Task.{Task}
use Rattle.cycle.specs.Cycle.{cycle_of}
use Rattle.cycle.specs.Planned.{no_job}
use Rattle.cycle.specs.declared.Job.{Job}
use Rattle.table.specs.Table.{Entry, Table, table, decode, row_of}
use Rattle.table.specs.WellFormed.{WellFormed}
use Rattle.table.specs.Inverse.{decode_wellformed}
use Rattle.model.specs.Plan.{Instance, job_at, rows_at, frame_at, IsPlan}
use Rattle.model.specs.Named.{is_job}
use Rattle.model.specs.NamedLaws.{Named, job_says, says_job}
use Rattle.model.specs.Plausible.{phase_rule, plausible_by}
use Rattle.model.specs.Good.{Good}
use Rattle.model.specs.GoodLaws.{same_place}
use Rattle.model.specs.Within.{Within}
use Rattle.model.specs.WithinLaws.{within_good}
use Rattle.cursor.specs.PaddedLaws.{map_at}
use Rattle.model.specs.PlausibleLaws.{PlausibleBy, plausible_says, plausible_needed}
use Rattle.model.specs.RowLaws.{frame_small}
use Rattle.model.specs.Described.{Among, row_for, entry_for, StandsIn, Describes}
use Rattle.model.specs.DescribedLaws.{row_of_frame, entry_names, names_entry, stands_named, stands_carried, stands_row}
use Rattle.model.specs.PlanTable.{described_height}
use Rattle.plan_rules.specs.Every.{every}
use Rattle.plan_rules.specs.EveryLaws.{every_says, says_every, some_says, says_some}
use Rattle.plan_rules.specs.Rules.{rules_right}
use Rattle.plan_rules.specs.RulesSay.{rules_say, say_rules}
use Rattle.checker.specs.Checked.{Position, position_in, frame_for, is_found, frame_at_position, frame_in, frames_in, is_placed, is_there}
use Rattle.checker.specs.Checked.{entry_kept, rows_kept, entries_right, Verdict, accepted, refusal, plan_of, judged_by, judged, checked_by, checked}
use Rattle.checker.specs.PositionLaws.{entry_with, RightIn, place_right, rows_say, say_rows}

-- a frame below 2F, its row and its carry
module _ (rows : ℕ) where
  frame_row : (r : ℕ) (carried : Bool) → r < rows → frame_for rows r carried % rows ≡ r
  unfolding frame_for
  frame_row r true h =
      let back : r + rows - rows ≡ r = omega arith in
      mod-eq-sub-mod (omega arith) ∙ rw back (mod-eq_of_lt h)
  frame_row r false h = let same : r + 0 ≡ r = omega arith in rw same (mod-eq_of_lt h)

  frame_carried : (r : ℕ) (carried : Bool) → r < rows → leb rows (frame_for rows r carried) ≡ carried
  unfolding frame_for
  frame_carried r true h = le-leb rows (r + rows) (omega arith)
  frame_carried r false h = lt-leb rows (r + 0) (omega arith)

  frame_is : (k : ℕ) → k < 2 * rows → frame_for rows (k % rows) (leb rows k) ≡ k
  unfolding frame_for
  frame_is k h = go (leb rows k) refl
    where
      go : (b : Bool) → leb rows k ≡ b → k % rows + cond b rows 0 ≡ k
      go true q =
          let far : rows ≤ k = leb-true rows k q in
          let less : k % rows ≡ k - rows = mod-eq-sub-mod far ∙ mod-eq_of_lt (omega arith) in
          omega arith
      go false q =
          let less : k % rows ≡ k = mod-eq_of_lt (leb-false rows k q) in
          omega arith

-- the rules of a plan, and their tests

module _ (jobs : List Job) (frames : List ℕ) (y : ℕ) where
  there_says : (task number k : ℕ) → is_there jobs frames task number k y ≡ true → Named task number (get_or jobs y no_job) × (frame_at frames y ≡ k)
  unfolding is_there
  there_says task number k e =
      let b = both_true (is_job task number (get_or jobs y no_job)) (eqb (frame_at frames y) k) e in
      (job_says task number (get_or jobs y no_job) b.0, eqb-true (frame_at frames y) k b.1)

  says_there : (task number k : ℕ) → Named task number (get_or jobs y no_job) → frame_at frames y ≡ k → is_there jobs frames task number k y ≡ true
  unfolding is_there
  says_there task number k v e = rw (says_job task number (get_or jobs y no_job) v, eq-eqb (frame_at frames y) k e)

-- what was picked, if it is a plan
picked : (b : Bool) (v : Verdict) (number f : ℕ) (frames : List ℕ) → cond b v (refusal number) ≡ accepted f frames → (b ≡ true) × (v ≡ accepted f frames)
picked true v number f frames e = (refl, e)
picked false v number f frames e = absurd (never (cc))

-- An accepted table describes the plan read from it.
module _ {rule : ℕ → Task → Bool} (x : Instance) (t : Table) (form : WellFormed t) (same_h : t.h ≡ x.h) (can : PlausibleBy rule x t.f) where
  height : length t.rows ≡ rows_at x t.f
  height =
      eq_of_mul-eq-mul_right t.f can.some (length t.rows) (rows_at x t.f)
      (omega (arith, form.whole, same_h, div-mul_cancel t.f can.divides))

  abbrev frames : List ℕ
  frames = frames_in t.rows x.jobs

  frame_read : (y : ℕ) → y < length x.jobs → frame_at frames y ≡ frame_in t.rows (job_at x y)
  unfolding frames_in
  frame_read y h = map_at (frame_in t.rows) 0 no_job x.jobs y h

  -- the entry of a job that the rows give a frame
  record Placed (y : ℕ) : Type 0 where
    row : ℕ
    carried : Bool
    below : row < length t.rows
    frame : frame_at frames y ≡ frame_for (length t.rows) row carried
    there : Among (entry_with (job_at x y) carried) (row_of t row)

  placed : (y : ℕ) → y < length x.jobs → is_placed t.rows x.jobs y ≡ true → Placed y
  unfolding is_placed frame_in
  placed y h e = go (position_in (job_at x y) 0 t.rows) (place_right (job_at x y) 0 t.rows) e (frame_read y h)
    where
      go : (p : Position) → RightIn (job_at x y) 0 t.rows p → is_found p ≡ true → frame_at frames y ≡ frame_at_position (length t.rows) p → Placed y
      go (Some (r, carried)) right found frame =
          let (j, is, low, m) = right in
          let same : r ≡ j = omega arith in
          record { row = j; carried = carried; below = low; frame = rw same at frame; there = m }
      go None right found frame = absurd (never (cc))

  describes : entries_right x t.rows frames ≡ true → Describes x t.f frames t
  unfolding entries_right entry_kept
  describes e =
      record {
        form = form;
        same_f = refl;
        same_h = same_h;
        each = λ y h. each y (placed y h (every_says (is_placed t.rows x.jobs) (length x.jobs) tests.0 y h));
        only = λ r h a m. only r h a (rows_say x.jobs frames (length x.jobs) (length t.rows) 0 t.rows tests.1 r h a m);
      }
    where
      tests : (every (length x.jobs) (is_placed t.rows x.jobs) ≡ true)
          × (rows_kept x.jobs frames (length x.jobs) (length t.rows) 0 t.rows ≡ true)
      tests = both_true (every (length x.jobs) (is_placed t.rows x.jobs)) _ e

      each : (y : ℕ) → Placed y → Among (entry_for x t.f frames y) (row_of t (row_for x t.f frames y))
      each y p =
          let row_is : frame_at frames y % rows_at x t.f ≡ p.row = rw (← height, p.frame) (frame_row (length t.rows) p.row p.carried p.below) in
          let carry_is : leb (rows_at x t.f) (frame_at frames y) ≡ p.carried
          = rw (← height, p.frame) (frame_carried (length t.rows) p.row p.carried p.below) in
          let entry_is = names_entry x t.f frames y (entry_with (job_at x y) p.carried) (record { task_is = refl; number_is = refl }) (sym carry_is) in
          rw (row_of_frame x t.f frames y, row_is, ← entry_is) p.there

      only : (r : ℕ) → r < length t.rows → (a : Entry) → entry_kept x.jobs frames (length x.jobs) (length t.rows) (0 + r) a ≡ true
          → (y : ℕ) × StandsIn x t.f frames r a y
      only r h a q =
          let same : 0 + r ≡ r = omega arith in
          let k : ℕ = frame_for (length t.rows) r a.carried in
          let (y, within, there) = some_says (is_there x.jobs frames a.task a.number k) (length x.jobs) (rw same at q) in
          let (job, frame) = there_says x.jobs frames y a.task a.number k there in
          let row_is : frame_at frames y % rows_at x t.f ≡ r = rw (← height, frame) (frame_row (length t.rows) r a.carried h) in
          let carry_is : leb (rows_at x t.f) (frame_at frames y) ≡ a.carried
          = rw (← height, frame) (frame_carried (length t.rows) r a.carried h) in
          (y, record { within = within; in_row = row_of_frame x t.f frames y ∙ row_is; is_entry = names_entry x t.f frames y a job (sym carry_is) })

  is_plan : rules_right x (length t.rows) t.f frames ≡ true → IsPlan x t.f frames
  unfolding frames_in
  is_plan e =
      let k = rules_say x (length t.rows) t.f frames e in
      record {
        divides = can.divides;
        few_rows = can.few_rows;
        all = length-map x.jobs (frame_in t.rows);
        window = k.window;
        capacity = rw (← height) k.capacity;
        order = k.order;
      }

pub judged_plan : (rule : ℕ → Task → Bool) (x : Instance) (t : Table) → WellFormed t → (f : ℕ) (frames : List ℕ)
    → judged_by (plausible_by rule) x t ≡ accepted f frames → IsPlan x f frames × Describes x f frames t
unfolding judged_by plan_of
judged_plan rule x t form f frames e =
    let one = picked (eqb t.h x.h && plausible_by rule x t.f) (plan_of x t.f t.rows) 13 f frames e in
    let tests = both_true (eqb t.h x.h) (plausible_by rule x t.f) one.0 in
    let read = frames_in t.rows x.jobs in
    let two = picked (entries_right x t.rows read && rules_right x (length t.rows) t.f read) (accepted t.f read) 14 f frames one.1 in
    let rules = both_true (entries_right x t.rows read) (rules_right x (length t.rows) t.f read) two.0 in
    let same_f : t.f ≡ f = cc in
    let same_frames : read ≡ frames = cc in
    let same_h : t.h ≡ x.h = eqb-true t.h x.h tests.0 in
    let can : PlausibleBy rule x t.f = plausible_says x t.f tests.1 in
    rw (← same_f, ← same_frames) (is_plan x t form same_h can rules.1, describes x t form same_h can rules.0)

-- A table that describes a plan is accepted, and the plan is read from it.
module _ (x : Instance) (g : Good x) (t : Table) (frames : List ℕ) (v : IsPlan x t.f frames) (d : Describes x t.f frames t) where
  high : length t.rows ≡ rows_at x t.f
  high = described_height x g t.f frames v t d

  -- an entry of row r that names the job at place y gives its frame
  entry_frame : (y r : ℕ) (e : Entry) → y < length x.jobs → r < length t.rows → Among e (row_of t r) → Named e.task e.number (job_at x y)
      → frame_for (length t.rows) r e.carried ≡ frame_at frames y
  entry_frame y r e hy h m names = let (z, stands) = d.only r h e m in go z stands
    where
      go : (z : ℕ) → StandsIn x t.f frames r e z → frame_for (length t.rows) r e.carried ≡ frame_at frames y
      go z s =
          let there = stands_named s in
          let here : y ≡ z = same_place x g y z hy s.within (names.task_is ∙ sym there.task_is) (names.number_is ∙ sym there.number_is) in
          let frame = frame_is (rows_at x t.f) (frame_at frames z) (frame_small x g t.f frames v z s.within) in
          rw (high, ← stands_row s, stands_carried s, frame) (ap (frame_at frames) (sym here))

  -- the walk for a job stops at its entry
  walked : (y : ℕ) → y < length x.jobs → (is_placed t.rows x.jobs y ≡ true) × (frame_in t.rows (job_at x y) ≡ frame_at frames y)
  unfolding is_placed frame_in
  walked y h = go (position_in (job_at x y) 0 t.rows) (place_right (job_at x y) 0 t.rows)
    where
      go : (p : Position) → RightIn (job_at x y) 0 t.rows p → (is_found p ≡ true) × (frame_at_position (length t.rows) p ≡ frame_at frames y)
      go (Some (r, carried)) right =
          let (j, is, low, m) = right in
          let same : r ≡ j = omega arith in
          (refl, rw same (entry_frame y j (entry_with (job_at x y) carried) h low m (record { task_is = refl; number_is = refl })))
      go None right =
          absurd (right (row_for x t.f frames y) (entry_for x t.f frames y) (d.each y h) (entry_names x t.f frames y))

  frames_read_lem : frames_in t.rows x.jobs ≡ frames
  unfolding frames_in
  frames_read_lem =
      let count = length-map x.jobs (frame_in t.rows) in
      ext_get_or 0 (frames_in t.rows x.jobs) frames (count ∙ sym v.all)
      (λ y h. let low : y < length x.jobs = rw count at h in map_at (frame_in t.rows) 0 no_job x.jobs y low ∙ (walked y low).1)

  entries_right_lem : entries_right x t.rows frames ≡ true
  unfolding entries_right entry_kept
  entries_right_lem =
      rw (says_every (is_placed t.rows x.jobs) (length x.jobs) (λ y h. (walked y h).0))
      (say_rows x.jobs frames (length x.jobs) (length t.rows) 0 t.rows (λ r h e m. let (y, stands) = d.only r h e m in go r h e m y stands))
    where
      go : (r : ℕ) → r < length t.rows → (e : Entry) → Among e (row_of t r) → (y : ℕ) → StandsIn x t.f frames r e y
          → entry_kept x.jobs frames (length x.jobs) (length t.rows) (0 + r) e ≡ true
      go r h e m y s =
          let same : 0 + r ≡ r = omega arith in
          let k : ℕ = frame_for (length t.rows) r e.carried in
          let names = stands_named s in
          rw same (says_some (is_there x.jobs frames e.task e.number k) (length x.jobs) y s.within
          (says_there x.jobs frames y e.task e.number k names (sym (entry_frame y r e s.within h m names))))

  rules_right_lem : rules_right x (length t.rows) t.f frames ≡ true
  rules_right_lem = say_rules x (length t.rows) t.f frames (record {
    some_row = d.form.some_rows;
    few_rows = d.form.few_rows;
    window = v.window;
    capacity = rw high v.capacity;
    order = v.order;
  })

  plan_judged : judged x t ≡ accepted t.f frames
  unfolding judged_by plan_of
  plan_judged =
      rw (eq-eqb t.h x.h d.same_h, plausible_needed x g t.f frames v, frames_read_lem, entries_right_lem, rules_right_lem)

module _ (request bytes : List ℕ) (x : Instance) (t : Table) (within : Within request x) (read : decode bytes ≡ table t) where
  checked_is : checked (cycle_of request) (decode bytes) ≡ judged x t
  unfolding checked_by
  checked_is = rw (within, read)

  plan_accepted : (f : ℕ) (frames : List ℕ) → IsPlan x f frames → Describes x f frames t → judged x t ≡ accepted f frames
  plan_accepted f frames v d =
      let e : t.f ≡ f = d.same_f in
      plan_judged x (within_good request x within) t frames
      (subst (λ k. IsPlan x k frames) (sym e) v) (subst (λ k. Describes x k frames t) (sym e) d)
      ∙ ap (λ k. accepted k frames) e

  -- THE THEOREM: the check accepts a table, and reads this plan from it, exactly if it is a plan and the table describes it.
  pub accepts_described : (f : ℕ) (frames : List ℕ)
      → (checked (cycle_of request) (decode bytes) ≡ accepted f frames) ↔ (IsPlan x f frames × Describes x f frames t)
  accepts_described f frames = (
    λ e. judged_plan phase_rule x t (decode_wellformed bytes t read) f frames (sym checked_is ∙ e),
    λ p. checked_is ∙ plan_accepted f frames p.0 p.1,
  )
