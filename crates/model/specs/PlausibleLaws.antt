-- Plausible is necessary for a plan. Each job of a task stands in its window, so all windows of the task hold a frame, which is the rule
-- of the phase by `PhaseExact`; and a row holds a job of the task, so its C is at most f.
use Rattle.std.specs.Prelude.{◌≡◌, Bool, true, length, get_or, leb, ltb, eqb}
use Rattle.std.proofs.Math.Path.{refl}
use mathlib.Core.List.{List, [], ◌∷◌}
use Prim.Native.Nat.{ℕ, zero, suc, ◌%◌, ◌≤◌, ◌<◌, ◌∣◌}
use Rattle.std.proofs.Math.Nat.{mod-eq-zero_of_dvd, dvd_of_mod-eq-zero}
use Rattle.std.proofs.Common.{arith}
use borrow.Author.Tests.{lt-ltb, ltb-true, le-leb, leb-true, eq-eqb, eqb-true}
use Rattle.cursor.specs.ParsedLaws.{both_true}
use Rattle.request.specs.Request.{no_task}
use Rattle.request.specs.declared.Task.{Task}
use Rattle.model.specs.Plan.{Instance, task_at, rows_at, slot, frame_at}
use Rattle.model.specs.Plausible.{common_rule, phase_rule, frame_rule, frame_rules, plausible_by, plausible, Needed}
use Rattle.model.specs.PhaseExact.{phase_common, phase_exact}
use Rattle.model.specs.Good.{Good}
use Rattle.model.specs.PlanLaws.{length_pos, slot_fits}

-- "f ≥ every C", C counting as C + g, and the rule on the windows: for one task
pub record FrameRule (rule : ℕ → Task → Bool) (g f : ℕ) (task : Task) : Type 0 where
  pub room : slot g task ≤ f
  pub windows : rule f task ≡ true

-- what the test says
pub record PlausibleBy (rule : ℕ → Task → Bool) (x : Instance) (f : ℕ) : Type 0 where
  pub some : 0 < f
  pub divides : f ∣ x.h
  pub few_rows : rows_at x f ≤ 256
  pub rules : (i : ℕ) → i < length x.tasks → FrameRule rule x.g f (task_at x i)

abbrev pub IsPlausible : Instance → ℕ → Type 0
IsPlausible = PlausibleBy phase_rule

module _ (rule : ℕ → Task → Bool) (g f : ℕ) where
  rule_says : (task : Task) → frame_rule rule g f task ≡ true → FrameRule rule g f task
  unfolding frame_rule
  rule_says task e = let b = both_true (leb (slot g task) f) (rule f task) e in record { room = leb-true (slot g task) f b.0; windows = b.1 }

  says_rule : (task : Task) → FrameRule rule g f task → frame_rule rule g f task ≡ true
  unfolding frame_rule
  says_rule task v = rw (le-leb (slot g task) f v.room) v.windows

  rules_say : (tasks : List Task) → frame_rules rule g f tasks ≡ true → (i : ℕ) → i < length tasks → FrameRule rule g f (get_or tasks i no_task)
  unfolding frame_rules
  rules_say [] e i h = absurd (omega arith)
  rules_say (task ∷ tasks) e zero h = rule_says task (both_true (frame_rule rule g f task) (frame_rules rule g f tasks) e).0
  rules_say (task ∷ tasks) e (suc i) h = rules_say tasks (both_true (frame_rule rule g f task) (frame_rules rule g f tasks) e).1 i (omega arith)

  say_rules : (tasks : List Task) → ((i : ℕ) → i < length tasks → FrameRule rule g f (get_or tasks i no_task)) → frame_rules rule g f tasks ≡ true
  unfolding frame_rules
  say_rules [] v = refl
  say_rules (task ∷ tasks) v = rw (says_rule task (v 0 (omega arith))) (say_rules tasks (λ i h. v (suc i) (omega arith)))

module _ {rule : ℕ → Task → Bool} (x : Instance) (f : ℕ) where
  pub plausible_says : plausible_by rule x f ≡ true → PlausibleBy rule x f
  unfolding plausible_by
  plausible_says e =
      let b = both_true (ltb 0 f) _ e in
      let c = both_true (eqb (x.h % f) 0) _ b.1 in
      let d = both_true (leb (rows_at x f) 256) _ c.1 in
      record {
        some = ltb-true 0 f b.0;
        divides = dvd_of_mod-eq-zero f (eqb-true (x.h % f) 0 c.0);
        few_rows = leb-true (rows_at x f) 256 d.0;
        rules = rules_say rule x.g f x.tasks d.1;
      }

  pub says_plausible : PlausibleBy rule x f → plausible_by rule x f ≡ true
  unfolding plausible_by
  says_plausible v =
      rw (lt-ltb 0 f v.some, eq-eqb (x.h % f) 0 (mod-eq-zero_of_dvd f v.divides), le-leb (rows_at x f) 256 v.few_rows)
      (say_rules rule x.g f x.tasks v.rules)

pub plausible_needed : (x : Instance) → Good x → Needed phase_rule x
plausible_needed x g f frames v =
    says_plausible x f (record {
      some = length_pos x g f frames v;
      divides = v.divides;
      few_rows = v.few_rows;
      rules = λ i known. record {
        room = slot_fits x g f frames v i known;
        windows = (phase_exact x g f v.divides i known).1 (λ y h e. (frame_at frames y, v.window y h));
      };
    })

-- A length that is plausible was so by 01's rule, for p is at most gcd(f, T).
pub plausible_before : (x : Instance) (f : ℕ) → plausible x f ≡ true → plausible_by common_rule x f ≡ true
plausible_before x f e =
    let v : IsPlausible x f = plausible_says x f e in
    says_plausible x f (record {
      some = v.some;
      divides = v.divides;
      few_rows = v.few_rows;
      rules = λ i known. record { room = (v.rules i known).room; windows = phase_common f (task_at x i) v.some (v.rules i known).windows };
    })
