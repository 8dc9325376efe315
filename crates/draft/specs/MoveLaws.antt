-- The steps of lifting, putting, starting and writing, on the answers of the functions that are called.
use Rattle.std.specs.Prelude.{ℕ, ◌+◌, ◌-◌, ◌/◌, ◌%◌, ◌≤◌, ◌<◌, min, ◌≡◌, refl, Bool, List, length, get_or, take, ltb}
use Rattle.std.proofs.Math.Path.{sym, ap, ap₂}
use Rattle.std.proofs.Common.{◌∙◌, mod-lt, arith, ext_get_or}
use Rattle.std.proofs.Math.Bool.{true, false}
use Rattle.std.proofs.Math.ListN.{get_or-eq_default}
use borrow.Author.Tests.{lt-ltb, le-ltb, ltb-true, ltb-false, leb-true, eq-eqb, ne_eqb, eqb-true, eqb-false}
use Rattle.arith.specs.Residue.{quotient_pos}
use Rattle.cursor.specs.RangeLaws.{over_length, over_here}
use Rattle.cursor.specs.ParsedLaws.{both_true}
use Rattle.cursor.specs.Padded.{padded, firsts}
use Rattle.cursor.specs.PaddedLaws.{padded_length, get_or_padded_any, firsts_length, get_or_firsts, firsts_padded}
use Rattle.request.specs.Request.{no_task}
use Rattle.cycle.specs.Cycle.{Cycle, cycle, no_cycle, cycle_of}
use Rattle.cycle.specs.Planned.{no_job}
use Rattle.cycle.specs.Answers.{cycle_answered}
use Rattle.cycle.specs.declared.Cycle as answer
use Rattle.table.specs.Table.{decode}
use Rattle.search.specs.Placing.{row_sum, has_room}
use Rattle.model.specs.Plan.{Instance, job_at, slot, costs}
use Rattle.model.specs.PlanLaws.{costs_length, cost_at_lem, length_pos, rows_pos}
use Rattle.model.specs.Plausible.{plausible}
use Rattle.model.specs.PlausibleLaws.{IsPlausible, plausible_says}
use Rattle.model.specs.Answers.{instance_of}
use Rattle.model.specs.AnswerLaws.{jobs_counted}
use Rattle.model.specs.WithinLaws.{Taken}
use Rattle.plan_rules.specs.Every.{every}
use Rattle.plan_rules.specs.EveryLaws.{every_says}
use Rattle.plan_rules.specs.Slices.{firsts_take}
use Rattle.plan_rules.specs.Rules.{in_window, rules_right}
use Rattle.plan_rules.specs.RulesSay.{RulesKept, rules_say}
use Rattle.checker.specs.Checked as checker
use Rattle.checker.specs.Answers.{read_answer}
use Rattle.checker.specs.Verdicts.{HandedOn, handed_on}
use Rattle.checker.specs.Numbered.{Read}
use Rattle.cursor.specs.Written.{Written}
use Rattle.model.specs.Described.{plan_table}
use Rattle.plan_writer.specs.Outcome.{handed, refusal, outcome_answer, outcome_buffer}
use Rattle.plan_writer.specs.OutcomeLaws.{refused_answer, refused_buffer, table_answer, table_buffer}
use Rattle.plan_writer.specs.Written.{plan_written, plan_buffer}
use Rattle.draft.specs.Draft.{lifted, is_lifted, frames_held, placed_part, placed_frames, row_count, sum_of, load_right, sound_draft, no_draft, loads_of, draft_of, start_of, start, kept, touched}
use Rattle.plan_writer.specs.WriteLaws.{held_written}
use Rattle.draft.specs.Draft.{after_lift, after_put, can_move, lift_in, put_there, put_in, lift_of, put_of, lift, put, is_down, none_lifted, write_in, write_of, write}
use Rattle.draft.specs.Answers.{RowsFit, LoadsAre, Movable}
use Rattle.draft.specs.SumLaws.{placed_cost}
use Rattle.draft.specs.declared.Draft.{Draft}

-- the three parts of the test of a draft
pub record Tests (x : Instance) (d : Draft) : Type 0 where
  pub can : IsPlausible x d.f
  pub rules : RulesKept (placed_part x d) (row_count x d) d.f (placed_frames x d)
  pub loads : (r : ℕ) → r < row_count x d → get_or d.loads r 0 ≡ sum_of x d r

pub tests : (x : Instance) (d : Draft) → sound_draft x d ≡ true → Tests x d
unfolding sound_draft
tests x d e =
    let a = both_true (plausible x d.f) _ e in
    let b = both_true (rules_right (placed_part x d) (row_count x d) d.f (placed_frames x d)) _ a.1 in
    record {
      can = plausible_says x d.f a.0;
      rules = rules_say (placed_part x d) (row_count x d) d.f (placed_frames x d) b.0;
      loads = λ r low. eqb-true _ _ (every_says (load_right x d) (row_count x d) b.1 r low);
    }

-- the C + g of the job at place y
pub cost_is : (c : answer.Cycle) (y : ℕ) → y < c.count → c.count ≤ 128 → (v : ℕ)
    → v ≡ slot c.g (get_or (firsts (min c.n 16) no_task c.tasks) (get_or c.jobs y no_job).task no_task) → v ≡ get_or (costs (instance_of c)) y 0
cost_is c y h few v e =
    let low : y < min c.count 128 = omega arith in
    let job = get_or_firsts no_job c.jobs (min c.count 128) y low in
    let known : y < length (instance_of c).jobs = omega (arith, firsts_length no_job c.jobs (min c.count 128)) in
    e ∙ sym (rw job at (cost_at_lem (instance_of c) y known))

module _ (c : answer.Cycle) (d : Draft) (y : ℕ) where
  pub unknown : min c.count 128 ≤ y → false ≡ can_move (instance_of c) d y
  unknown h = rw (le-ltb y (length (firsts (min c.count 128) no_job c.jobs)) (omega (arith, firsts_length no_job c.jobs (min c.count 128))))

  pub sound_decides : y < min c.count 128 → sound_draft (instance_of c) d ≡ can_move (instance_of c) d y
  sound_decides h = rw (lt-ltb y (length (firsts (min c.count 128) no_job c.jobs)) (omega (arith, firsts_length no_job c.jobs (min c.count 128))))

  pub movable : (request : List ℕ) → Taken request c → can_move (instance_of c) d y ≡ true → Movable c d y
  movable request t e =
      let b = both_true (ltb y (length (instance_of c).jobs)) (sound_draft (instance_of c) d) e in
      record {
        limits = t.limits;
        known = omega (arith, ltb-true y (length (instance_of c).jobs) b.0, jobs_counted c t.limits.few_jobs);
        sound = b.1;
      }

  module _ (m : Movable c d y) where
    test : Tests (instance_of c) d
    test = tests (instance_of c) d m.sound

    pub in_range : y < 128
    in_range = omega (arith, m.known, m.limits.few_jobs)

    pub rows_are : (0 < d.f) × (0 < c.h / d.f) × (c.h / d.f ≤ 256)
    rows_are = (test.can.some, quotient_pos c.h d.f m.limits.good.some_time test.can.divides, test.can.few_rows)

    known_there : y < length (instance_of c).jobs
    known_there = omega (arith, m.known, jobs_counted c m.limits.few_jobs)

    job_is : get_or c.jobs y no_job ≡ job_at (instance_of c) y
    job_is = sym (get_or_firsts no_job c.jobs (min c.count 128) y (omega (arith, m.known, m.limits.few_jobs)))

    -- a placed job's row has it in its load
    pub load_has : is_lifted (get_or d.frames y 0) ≡ false
        → (get_or (costs (instance_of c)) y 0 ≤ get_or d.loads (get_or d.frames y 0 % (c.h / d.f)) 0) × (get_or (costs (instance_of c)) y 0 ≤ d.f)
    load_has down =
        let r : ℕ = get_or d.frames y 0 % (c.h / d.f) in
        let low : r < c.h / d.f = mod-lt (get_or d.frames y 0) rows_are.1 in
        let has = placed_cost (instance_of c) d y known_there (eqb-false _ _ down) in
        (omega (arith, has, test.loads r low), omega (arith, has, test.rules.capacity r low))

    pub lift_is : (row v : ℕ) → row ≡ get_or d.frames y 0 % (c.h / d.f) → v ≡ get_or (costs (instance_of c)) y 0
        → touched d y lifted row (get_or d.loads row 0 - v) ≡ after_lift (instance_of c) d y
    lift_is row v row_is v_is = rw (row_is, v_is)

    module _ (k : ℕ) where
      pub put_is : (row v : ℕ) → row ≡ k % (c.h / d.f) → v ≡ get_or (costs (instance_of c)) y 0
          → touched d y k row (get_or d.loads row 0 + v) ≡ after_put (instance_of c) d y k
      put_is row v row_is v_is = rw (row_is, v_is)

      pub outside : in_window d.f (get_or c.jobs y no_job) k ≡ false → kept 27 d ≡ put_there (instance_of c) d y k
      unfolding put_there
      outside e = rw (rw job_is at e)

      module _ (inside : in_window d.f (get_or c.jobs y no_job) k ≡ true) (row v : ℕ) (row_is : row ≡ k % (c.h / d.f)) (v_is : v ≡ get_or (costs (instance_of c)) y 0) where
        room_is : (b : Bool) → has_room (get_or d.loads row 0) d.f v ≡ b
            → has_room (get_or d.loads (k % row_count (instance_of c) d) 0) d.f (get_or (costs (instance_of c)) y 0) ≡ b
        room_is b e = rw (row_is, v_is) at e

        pub full : has_room (get_or d.loads row 0) d.f v ≡ false → kept 28 d ≡ put_there (instance_of c) d y k
        unfolding put_there
        full e = rw (rw job_is at inside, room_is false e)

        pub room_fits : has_room (get_or d.loads row 0) d.f v ≡ true → get_or d.loads row 0 + v ≤ d.f
        room_fits e = leb-true _ _ e

        module _ (room : has_room (get_or d.loads row 0) d.f v ≡ true) (e : Draft) (e_is : e ≡ touched d y k row (get_or d.loads row 0 + v)) where
          after_is : e ≡ after_put (instance_of c) d y k
          after_is = e_is ∙ put_is row v row_is v_is

          pub breaks : sound_draft (instance_of c) e ≡ false → kept 28 d ≡ put_there (instance_of c) d y k
          unfolding put_there
          breaks q = rw (rw job_is at inside, room_is true room, rw after_is at q)

          pub stands : sound_draft (instance_of c) e ≡ true → kept 0 e ≡ put_there (instance_of c) d y k
          unfolding put_there
          stands q = rw (rw job_is at inside, room_is true room, rw after_is at q) (ap (kept 0) after_is)

-- The later calls: of a request that is refused, and of one within the limits.
module _ (request : List ℕ) (d : Draft) (y : ℕ) where
  pub lift_refused : (number : ℕ) → cycle_of request ≡ no_cycle number → kept number d ≡ lift request d y
  unfolding lift
  lift_refused number e = rw e

  pub put_refused : (k number : ℕ) → cycle_of request ≡ no_cycle number → kept number d ≡ put request d y k
  unfolding put
  put_refused k number e = rw e

  module _ (c : answer.Cycle) (t : Taken request c) where
    lift_in_lem : lift request d y ≡ lift_in (instance_of c) d y
    unfolding lift
    lift_in_lem = ap (λ (z : Cycle). lift_of z d y) t.within

    put_in_lem : (k : ℕ) → put request d y k ≡ put_in (instance_of c) d y k
    unfolding put
    put_in_lem k = ap (λ (z : Cycle). put_of z d y k) t.within

    pub lift_not : can_move (instance_of c) d y ≡ false → kept 26 d ≡ lift request d y
    unfolding lift_in
    lift_not e = sym (lift_in_lem ∙ rw e)

    pub put_not : (k : ℕ) → can_move (instance_of c) d y ≡ false → kept 26 d ≡ put request d y k
    unfolding put_in
    put_not k e = sym (put_in_lem k ∙ rw e)

    module _ (can : can_move (instance_of c) d y ≡ true) where
      pub lift_lifted : get_or d.frames y 0 ≡ lifted → kept 26 d ≡ lift request d y
      unfolding lift_in
      lift_lifted up = sym (lift_in_lem ∙ rw (can, eq-eqb (get_or d.frames y 0) lifted up))

      pub lift_done : (get_or d.frames y 0 ≡ lifted → ⊥) → (e : Draft) → e ≡ after_lift (instance_of c) d y → kept 0 e ≡ lift request d y
      unfolding lift_in
      lift_done down e is = ap (kept 0) is ∙ sym (lift_in_lem ∙ rw (can, ne_eqb (get_or d.frames y 0) lifted down))

      pub put_placed : (k : ℕ) → (get_or d.frames y 0 ≡ lifted → ⊥) → kept 26 d ≡ put request d y k
      unfolding put_in
      put_placed k down = sym (put_in_lem k ∙ rw (can, ne_eqb (get_or d.frames y 0) lifted down))

      pub put_done : (k : ℕ) → get_or d.frames y 0 ≡ lifted → put_there (instance_of c) d y k ≡ put request d y k
      unfolding put_in
      put_done k up = sym (put_in_lem k ∙ rw (can, eq-eqb (get_or d.frames y 0) lifted up))

-- Starting

-- the list of the loads
module _ (rows : ℕ) (cost frames : List ℕ) where
  loads_count : length (loads_of rows cost frames) ≡ rows
  loads_count = over_length (row_sum rows cost frames) 0 rows

  pub load_there : (j : ℕ) → j < rows → get_or (loads_of rows cost frames) j 0 ≡ row_sum rows cost frames j
  load_there j h = over_here (row_sum rows cost frames) 0 rows j h

  pub load_behind : (j : ℕ) → rows ≤ j → get_or (loads_of rows cost frames) j 0 ≡ 0
  load_behind j h = get_or-eq_default (loads_of rows cost frames) 0 {n = j} (omega (arith, loads_count))

  pub loads_length : rows ≤ 256 → length (padded 256 0 (loads_of rows cost frames)) ≡ 256
  loads_length few = padded_length 256 0 (loads_of rows cost frames) (omega (arith, loads_count))

  loads_listed : rows ≤ 256 → (loads : List ℕ) → LoadsAre rows cost frames loads → loads ≡ padded 256 0 (loads_of rows cost frames)
  loads_listed few loads are =
      ext_get_or 0 loads (padded 256 0 (loads_of rows cost frames)) (are.size ∙ sym (loads_length few)) (λ r h. there r (ltb r rows) refl)
    where
      there : (r : ℕ) (b : Bool) → ltb r rows ≡ b → get_or loads r 0 ≡ get_or (padded 256 0 (loads_of rows cost frames)) r 0
      there r true q = rw (get_or_padded_any 256 0 (loads_of rows cost frames) r, load_there r (ltb-true r rows q)) (are.sums r (ltb-true r rows q))
      there r false q = rw (get_or_padded_any 256 0 (loads_of rows cost frames) r, load_behind r (ltb-false r rows q)) (are.unused r (ltb-false r rows q))

-- the answer of the check, and the cycle that it hands on
module _ (request bytes : List ℕ) (r : Read) (e : r ≡ read_answer (cycle_answered (cycle_of request)) (checker.checked (cycle_of request) (decode bytes))) where
  pub start_refused : (r.refusal ≡ 0 → ⊥) → kept r.refusal no_draft ≡ start request bytes
  unfolding start
  start_refused ne = go (checker.checked (cycle_of request) (decode bytes)) (cycle_of request) e
    where
      go : (v : checker.Verdict) (c : Cycle) → r ≡ read_answer (cycle_answered (cycle_of request)) v → kept r.refusal no_draft ≡ start_of c v
      go (checker.accepted f frames) c q = absurd (ne (ap (λ (z : Read). z.refusal) q))
      go (checker.refusal n) (cycle tasks pairs g h jobs) q = rw (ap (λ (z : Read). z.refusal) q)
      go (checker.refusal n) (no_cycle number) q = rw (ap (λ (z : Read). z.refusal) q)

  module _ (z : r.refusal ≡ 0) where
    abbrev x : Instance
    x = instance_of r.cycle

    abbrev plan : HandedOn request bytes r
    plan = handed_on request bytes r e z

    pub some_f : 0 < r.f
    some_f = length_pos x plan.taken.limits.good r.f plan.frames plan.is_plan

    pub few : r.cycle.count ≤ 128
    few = plan.taken.limits.few_jobs

    count_is : length plan.frames ≡ r.cycle.count
    count_is = plan.is_plan.all ∙ jobs_counted r.cycle few

    frames_first : firsts r.cycle.count 0 r.frames ≡ plan.frames
    frames_first =
        ap (firsts r.cycle.count 0) plan.frames_are ∙ ap (λ (n : ℕ). firsts n 0 (padded 128 0 plan.frames)) (sym count_is)
        ∙ firsts_padded 128 0 plan.frames

    started : start request bytes ≡ kept 0 (draft_of x r.f plan.frames)
    unfolding start
    started = ap₂ start_of plan.taken.within plan.verdict

    module _ (cost : List ℕ) (cost_list : cost ≡ padded 128 0 (costs (instance_of r.cycle))) where
      costs_first : firsts r.cycle.count 0 cost ≡ costs x
      costs_first =
          let size : length (costs x) ≡ r.cycle.count = costs_length x ∙ jobs_counted r.cycle few in
          ap (λ (n : ℕ). firsts n 0 cost) (sym size) ∙ ap (firsts (length (costs x)) 0) cost_list ∙ firsts_padded 128 0 (costs x)

      pub rows_fit : r.f ≤ 65535 → RowsFit (r.cycle.h / r.f) (firsts r.cycle.count 0 cost) (firsts r.cycle.count 0 r.frames)
      rows_fit wide = record {
        some_row = rows_pos x plan.taken.limits.good r.f plan.frames plan.is_plan;
        few_rows = plan.is_plan.few_rows;
        small = rw (costs_first, frames_first) (λ s low. omega (arith, plan.is_plan.capacity s low));
      }

      pub start_done : (loads : List ℕ) → LoadsAre (r.cycle.h / r.f) (firsts r.cycle.count 0 cost) (firsts r.cycle.count 0 r.frames) loads
          → kept 0 (record { f = r.f; frames = r.frames; loads = loads }) ≡ start request bytes
      unfolding draft_of
      start_done loads are =
          let same = loads_listed (r.cycle.h / r.f) (costs x) plan.frames plan.is_plan.few_rows loads (rw (costs_first, frames_first) at are) in
          (λ i. kept 0 (record { f = r.f; frames = plan.frames_are i; loads = same i })) ∙ sym started

      -- the same of the places that are lent
      module _ (cost_long : length cost ≡ 128) (frames_long : length r.frames ≡ 128) where
        pub rows_fit_lent : r.f ≤ 65535 → RowsFit (r.cycle.h / r.f) (take r.cycle.count cost) (take r.cycle.count r.frames)
        rows_fit_lent wide =
            rw (← firsts_take 0 cost r.cycle.count (omega (arith, few)), ← firsts_take 0 r.frames r.cycle.count (omega (arith, few))) (rows_fit wide)

        pub start_done_lent : (loads : List ℕ) → LoadsAre (r.cycle.h / r.f) (take r.cycle.count cost) (take r.cycle.count r.frames) loads
            → kept 0 (record { f = r.f; frames = r.frames; loads = loads }) ≡ start request bytes
        start_done_lent loads are =
            start_done loads
            (rw (firsts_take 0 cost r.cycle.count (omega (arith, few)), firsts_take 0 r.frames r.cycle.count (omega (arith, few))) are)

-- Writing
pub write_none : (request : List ℕ) (d : Draft) (number : ℕ) → cycle_of request ≡ no_cycle number → write request d ≡ refusal number
unfolding write
write_none request d number e = rw e

pub write_in_lem : (request : List ℕ) (d : Draft) (c : answer.Cycle) → Taken request c → write request d ≡ write_in (instance_of c) d
unfolding write
write_in_lem request d c t = ap (λ (z : Cycle). write_of z d) t.within

module _ (request : List ℕ) (d : Draft) (out : List ℕ) where
  -- what is answered, and left in the buffer
  abbrev pub Hands : Written → List ℕ → Type 0
  Hands w out' = (w ≡ outcome_answer (write request d) out) × (out' ≡ outcome_buffer (write request d) out)

  refuses : (number : ℕ) → write request d ≡ refusal number → Hands (record { refusal = number; length = 0 }) out
  refuses number e = rw e (sym (refused_answer number out), sym (refused_buffer number out))

  pub write_refused : (number : ℕ) → cycle_of request ≡ no_cycle number → Hands (record { refusal = number; length = 0 }) out
  write_refused number e = refuses number (write_none request d number e)

  module _ (c : answer.Cycle) (t : Taken request c) where
    none_is : every c.count (is_down d.frames) ≡ none_lifted (instance_of c) d
    unfolding none_lifted
    none_is = ap (λ (n : ℕ). every n (is_down d.frames)) (sym (jobs_counted c t.limits.few_jobs))

    pub write_lifted : every c.count (is_down d.frames) ≡ false → Hands (record { refusal = 26; length = 0 }) out
    unfolding write_in
    write_lifted e = refuses 26 (write_in_lem request d c t ∙ rw (sym none_is ∙ e))

    module _ (down : every c.count (is_down d.frames) ≡ true) where
      pub write_unsound : sound_draft (instance_of c) d ≡ false → Hands (record { refusal = 26; length = 0 }) out
      unfolding write_in
      write_unsound e = refuses 26 (write_in_lem request d c t ∙ rw (sym none_is ∙ down, e))

      pub write_done : sound_draft (instance_of c) d ≡ true → Hands (plan_written (instance_of c) d.f d.frames out) (plan_buffer (instance_of c) d.f d.frames out)
      unfolding write_in
      write_done e =
          let x = instance_of c in
          let table = plan_table x d.f (frames_held x d) in
          let is : write request d ≡ handed table = write_in_lem request d c t ∙ rw (sym none_is ∙ down, e) in
          rw (is, table_answer table out, table_buffer table out) (held_written x t.limits.good d.f d.frames out)
