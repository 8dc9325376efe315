-- The frame test that knows the phase is exact: for an f that divides H a task passes exactly if each of its windows holds a whole frame.
-- The rule says 2·f ≤ D + since (gcd f T) P, since p is P mod gcd(f, T) and `since` takes the gcd where p is 0; by `Phase` that is so exactly
-- if the window of each job j of the task holds a frame, and the jobs of the cycle are these.
use Rattle.std.specs.Prelude.{◌≡◌, refl, true, ◌↔◌, ◌⊎◌, ℕ, ◌+◌, ◌*◌, ◌%◌, ◌≤◌, ◌<◌, length, leb}
use Rattle.std.proofs.Common.{inl, inr, eq-zero-or-pos, arith}
use Rattle.std.specs.Int.{◌∣◌}
use borrow.Author.Tests.{le-leb, leb-true, eq-eqb, ne_eqb}
use Rattle.arith.specs.Gcd.{gcd_of}
use Rattle.arith.specs.GcdLaws.{gcd_pos}
use Rattle.request.specs.declared.Task.{Task}
use Rattle.model.specs.WindowLaws.{since, since_le, since_multiple, since_other}
use Rattle.model.specs.Phase.{EveryWindowHolds, windows_hold}
use Rattle.model.specs.Plan.{Instance, task_at, job_at}
use Rattle.model.specs.Plausible.{common_rule, phase_rule, WindowsHold}
use Rattle.model.specs.Good.{Good}
use Rattle.model.specs.GoodLaws.{JobFacts, job_facts, PlaceOf, place_of}

-- the rule where p is 0, and where it is not
module _ (f : ℕ) (task : Task) (common : ℕ) (is : common ≡ gcd_of f task.t) where
  pub rule_multiple : task.p % common ≡ 0 → leb (2 * f) (task.d + common) ≡ phase_rule f task
  unfolding phase_rule common_rule
  rule_multiple e = rw (← is, eq-eqb (task.p % common) 0 e)

  pub rule_other : (task.p % common ≡ 0 → ⊥) → leb (2 * f) (task.d + task.p % common) ≡ phase_rule f task
  unfolding phase_rule
  rule_other ne = rw (← is, ne_eqb (task.p % common) 0 ne)

module _ (f : ℕ) (task : Task) where
  abbrev common : ℕ
  common = gcd_of f task.t

  as_test : (off : ℕ) → leb (2 * f) (task.d + off) ≡ phase_rule f task → (phase_rule f task ≡ true) ↔ (2 * f ≤ task.d + off)
  as_test off e = rw (← e) (leb-true (2 * f) (task.d + off), le-leb (2 * f) (task.d + off))

  pub rule_since : (phase_rule f task ≡ true) ↔ (2 * f ≤ task.d + since (gcd_of f task.t) task.p)
  rule_since = go (eq-zero-or-pos (task.p % common))
    where
      go : (task.p % common ≡ 0) ⊎ (0 < task.p % common) → (phase_rule f task ≡ true) ↔ (2 * f ≤ task.d + since common task.p)
      go (inl e) = rw (since_multiple common task.p e) (as_test common (rule_multiple f task common refl e))
      go (inr h) = rw (since_other common task.p h) (as_test (task.p % common) (rule_other f task common refl (λ e. omega arith)))

  -- what keeps it keeps 01's rule
  pub phase_common : 0 < f → phase_rule f task ≡ true → common_rule f task ≡ true
  unfolding common_rule
  phase_common pos e = le-leb (2 * f) (task.d + common) (omega (arith, rule_since.0 e, since_le common task.p (gcd_pos f task.t pos)))

module _ (x : Instance) (g : Good x) (f : ℕ) (divides : f ∣ x.h) (i : ℕ) (known : i < length x.tasks) where
  abbrev task : Task
  task = task_at x i

  -- the jobs of the cycle are the task's jobs j
  by_number : WindowsHold x f i ↔ EveryWindowHolds x.h f task.t task.d task.p
  by_number = (numbers, places)
    where
      numbers : WindowsHold x f i → EveryWindowHolds x.h f task.t task.d task.p
      numbers all j early =
          let there : PlaceOf x i j = place_of x g i j known early in
          let facts : JobFacts x there.place = job_facts x g there.place there.within in
          let (k, w) = all there.place there.within there.task in
          let r : (job_at x there.place).release ≡ task.p + j * task.t = rw (there.task, there.number) at facts.released in
          let due : (job_at x there.place).due ≡ task.p + j * task.t + task.d = rw (there.task, r) at facts.due in
          (k, rw (r, due) at w)

      places : EveryWindowHolds x.h f task.t task.d task.p → WindowsHold x f i
      places all y h e =
          let facts : JobFacts x y = job_facts x g y h in
          let (k, w) = all (job_at x y).number (rw e at facts.early) in
          (k, rw (facts.due, facts.released, e) w)

  -- THE THEOREM: "a task passes exactly if each of its windows holds a whole frame"
  pub phase_exact : (phase_rule f (task_at x i) ≡ true) ↔ WindowsHold x f i
  phase_exact =
      let rule = rule_since f task in
      let hold = windows_hold x.h f task.t task.d task.p g.some_time divides (g.whole_periods i known) in
      (λ r. by_number.1 (hold.1 (rule.0 r)), λ all. rule.1 (hold.0 (by_number.0 all)))
