-- The steps of the reader, section by section: what each record is judged by, and that the sections end where the statement says.
use Prim.Native.Nat.{ℕ, suc, ◌+◌, ◌*◌, ◌≤◌, ◌<◌}
use Rattle.std.specs.Prelude.{◌≡◌, Bool, false, cond, List, ◌⊎◌, drop}
use Rattle.std.proofs.Math.Path.{refl, sym}
use Rattle.std.proofs.Common.{ap, subst, ◌∙◌, inl, inr}
use Rattle.std.proofs.Math.Bool.{true}
use native.Mathlib.Omega.{arith}
use Rattle.std.proofs.Math.ListN.{length}
use borrow.Author.Tests.{lt-ltb, le-leb, eq-eqb, leb-true}
use Rattle.cursor.specs.Parsed.{Parsed, got, refused, then}
use Rattle.cursor.specs.ParsedLaws.{never}
use Rattle.cursor.specs.ChoiceLaws.{lt_or_ge}
use Rattle.cursor.specs.Fields.{byte_of, word_of}
use Rattle.cursor.specs.FieldLaws.{byte_here, byte_none, word_here, word_none}
use Rattle.request.specs.Request.{no_task, no_pair, period_of, task_rule, judged_task, task_of, task_count, tasks_of, pair_rule, judged_pair, pair_of, pair_count, pairs_of}
use Rattle.request.specs.Readable.{TaskKept}
use Rattle.request.specs.ReadableLaws.{rule_kept, pair_rule_kept}
use Rattle.request.specs.SectionLaws.{count_some}
use Rattle.request.specs.Exactly.{task_count_lem, pair_count_lem, task, pair, n, task_at, second, m, pair_at, third, field}
use Rattle.request.specs.ExactlyLaws.{KeptBelow, none_below, Step, stops, goes, cut_here, broken_here, kept_here, Filled, section_step}
use Rattle.request.specs.declared.Task.{Task}

-- A test says that a fact holds, or that it does not.
pub data Tells (Fact : Type 0) (b : Bool) : Type 0 where
  yes : b ≡ true → Fact → Tells Fact b
  no : b ≡ false → (Fact → ⊥) → Tells Fact b

pub tells : {Fact : Type 0} (b : Bool) → (b ≡ true → Fact) → (Fact → b ≡ true) → Tells Fact b
tells true f g = yes refl (f refl)
tells false f g = no refl (λ x. let z = g x in never (cc))

task_told_lem : (x : Task) → Tells (TaskKept x) (task_rule x)
unfolding task_rule
task_told_lem x =
    tells (task_rule x) (rule_kept x)
    (λ k. rw (le-leb 1 x.c k.some, le-leb x.c x.d k.room, le-leb x.d x.t k.due, lt-ltb x.p x.t k.phase))

module _ (s : List ℕ) where
  -- A task: four words in a row.
  module _ (at : ℕ) where
    word_cut : {A : Type 0} (next : ℕ → List ℕ → Parsed A) → ((w : ℕ) → at + 1 < length s → next w (drop (at + 1 + 1) s) ≡ refused 1)
        → then (word_of 1 (drop at s)) next ≡ refused 1
    word_cut next f = go (lt_or_ge (at + 1) (length s))
      where
        go : (at + 1 < length s) ⊎ (length s ≤ at + 1) → then (word_of 1 (drop at s)) next ≡ refused 1
        go (inl h) = rw (word_here 1 s at h) (f _ h)
        go (inr h) = rw (word_none 1 s at h)

  task_cut : (at : ℕ) → length s < at + 8 → task_of (drop at s) ≡ refused 1
  unfolding task_of
  task_cut at h =
      word_cut at _ (λ c k1. word_cut (at + 1 + 1) _ (λ t k2. word_cut (at + 1 + 1 + 1 + 1) _ (λ d k3. word_cut (at + 1 + 1 + 1 + 1 + 1 + 1) _ (λ p k4. absurd (omega arith)))))

  task_whole : (i : ℕ) → 1 + 8 * i + 8 ≤ length s → task_of (drop (1 + 8 * i) s) ≡ judged_task (task_at s i) (drop (1 + 8 * suc i) s)
  unfolding task_of
  task_whole i h =
      let at = 1 + 8 * i in
      let t_at : at + 1 + 1 ≡ 3 + 8 * i = omega arith in
      let d_at : 3 + 8 * i + 1 + 1 ≡ 5 + 8 * i = omega arith in
      let p_at : 5 + 8 * i + 1 + 1 ≡ 7 + 8 * i = omega arith in
      let end : 7 + 8 * i + 1 + 1 ≡ 1 + 8 * suc i = omega arith in
      rw (word_here 1 s at (omega arith), t_at)
      (rw (word_here 1 s (3 + 8 * i) (omega arith), d_at) (rw (word_here 1 s (5 + 8 * i) (omega arith), p_at) (rw (word_here 1 s (7 + 8 * i) (omega arith), end))))

  task_step : (i : ℕ) → i < n s → KeptBelow s (1 + 8 * i) → Step s (1 + 8 * suc i) (λ x. x ≡ task_at s i) (task_of (drop (1 + 8 * i) s))
  unfolding judged_task
  task_step i here below = go (lt_or_ge (length s) (1 + 8 * i + 8))
    where
      judged : 1 + 8 * i + 8 ≤ length s → (b : Bool) → Tells (TaskKept (task_at s i)) b
          → Step s (1 + 8 * suc i) (λ x. x ≡ task_at s i) (cond b (got (task_at s i) (drop (1 + 8 * suc i) s)) (refused 3))
      judged h b (yes e kept) =
          let end : 1 + 8 * i + 8 ≡ 1 + 8 * suc i = omega arith in
          goes (subst (KeptBelow s) end (kept_here s (task i) here below h kept)) (task_at s i) refl (rw e)
      judged h b (no e bad) = stops 3 (broken_here s (task i) here below h bad) (rw e)

      go : (length s < 1 + 8 * i + 8) ⊎ (1 + 8 * i + 8 ≤ length s) → Step s (1 + 8 * suc i) (λ x. x ≡ task_at s i) (task_of (drop (1 + 8 * i) s))
      go (inl h) = stops 1 (cut_here s (task i) here below h) (task_cut (1 + 8 * i) h)
      go (inr h) = rw (task_whole i h) (judged h (task_rule (task_at s i)) (task_told_lem (task_at s i)))

  pub tasks_step : Step s (second s) (Filled s no_task (task_at s) (n s)) (tasks_of s)
  unfolding tasks_of
  tasks_step =
      section_step s task_count task_of 2 no_task (task_at s) 0 8 task_step
      (λ h. cut_here s task_count_lem tt (none_below s) (omega arith))
      (λ h e. broken_here s task_count_lem tt (none_below s) (omega arith)
      (λ (k : (1 ≤ n s) × (n s ≤ 16)). let t : task_count (n s) ≡ true = rw (le-leb 1 (n s) k.0, le-leb (n s) 16 k.1) in never (cc)))
      (λ h e. kept_here s task_count_lem tt (none_below s) (omega arith) (count_some (n s) e))

  -- A pair, for the tasks that the first section says.
  module _ (tasks : List Task) (filled : Filled s no_task (task_at s) (n s) tasks) where
    period_is : (i : ℕ) → i < n s → period_of tasks i ≡ (task_at s i).t
    period_is i h = ap (λ (x : Task). x.t) (filled.1 i h)

    pair_told_lem : (j : ℕ) → Tells (field s (pair j)).Rule (pair_rule tasks (pair_at s j).a (pair_at s j).b)
    unfolding pair_rule
    pair_told_lem j =
        let a = (pair_at s j).a in
        let b = (pair_at s j).b in
        tells (pair_rule tasks a b)
        (λ e.
        let k = pair_rule_kept tasks a b e in
        let known : b < n s = omega (arith, k.known, filled.0) in
        let below : a < n s = omega (arith, k.rises) in
        (k.rises, known, sym (period_is a below) ∙ k.period ∙ period_is b known))
        (λ k.
        let known : b < length tasks = omega (arith, k.1, filled.0) in
        let below : a < n s = omega (arith, k.0, k.1) in
        let same : period_of tasks a ≡ period_of tasks b = period_is a below ∙ k.2 ∙ sym (period_is b k.1) in
        rw (lt-ltb a b k.0, lt-ltb b (length tasks) known, eq-eqb _ _ same))

    pair_cut : (at : ℕ) → length s < at + 2 → pair_of tasks (drop at s) ≡ refused 1
    unfolding pair_of
    pair_cut at h = go (lt_or_ge at (length s))
      where
        go : (at < length s) ⊎ (length s ≤ at)
            → then (byte_of 1 (drop at s)) (λ a rest. then (byte_of 1 rest) (λ b rest. judged_pair tasks a b rest)) ≡ refused 1
        go (inl k) = rw (byte_here 1 s at k) (rw (byte_none 1 s (at + 1) (omega arith)))
        go (inr k) = rw (byte_none 1 s at k)

    pair_whole : (j : ℕ) → second s + 1 + 2 * j + 2 ≤ length s
        → pair_of tasks (drop (second s + 1 + 2 * j) s) ≡ judged_pair tasks (pair_at s j).a (pair_at s j).b (drop (second s + 1 + 2 * suc j) s)
    unfolding pair_of
    pair_whole j h =
        let b_at : second s + 1 + 2 * j + 1 ≡ second s + 2 + 2 * j = omega arith in
        let end : second s + 2 + 2 * j + 1 ≡ second s + 1 + 2 * suc j = omega arith in
        rw (byte_here 1 s (second s + 1 + 2 * j) (omega arith), b_at) (rw (byte_here 1 s (second s + 2 + 2 * j) (omega arith), end))

    pair_step : (j : ℕ) → j < m s → KeptBelow s (second s + 1 + 2 * j)
        → Step s (second s + 1 + 2 * suc j) (λ x. x ≡ pair_at s j) (pair_of tasks (drop (second s + 1 + 2 * j) s))
    unfolding judged_pair
    pair_step j here below = go (lt_or_ge (length s) (second s + 1 + 2 * j + 2))
      where
        judged : second s + 1 + 2 * j + 2 ≤ length s → (b : Bool) → Tells (field s (pair j)).Rule b
            → Step s (second s + 1 + 2 * suc j) (λ x. x ≡ pair_at s j) (cond b (got (pair_at s j) (drop (second s + 1 + 2 * suc j) s)) (refused 5))
        judged h b (yes e kept) =
            let end : second s + 1 + 2 * j + 2 ≡ second s + 1 + 2 * suc j = omega arith in
            goes (subst (KeptBelow s) end (kept_here s (pair j) here below h kept)) (pair_at s j) refl (rw e)
        judged h b (no e bad) = stops 5 (broken_here s (pair j) here below h bad) (rw e)

        go : (length s < second s + 1 + 2 * j + 2) ⊎ (second s + 1 + 2 * j + 2 ≤ length s)
            → Step s (second s + 1 + 2 * suc j) (λ x. x ≡ pair_at s j) (pair_of tasks (drop (second s + 1 + 2 * j) s))
        go (inl h) = stops 1 (cut_here s (pair j) here below h) (pair_cut (second s + 1 + 2 * j) h)
        go (inr h) = rw (pair_whole j h) (judged h (pair_rule tasks (pair_at s j).a (pair_at s j).b) (pair_told_lem j))

    pub pairs_step : KeptBelow s (second s) → Step s (third s) (Filled s no_pair (pair_at s) (m s)) (pairs_of tasks (drop (second s) s))
    unfolding pairs_of
    pairs_step below =
        section_step s pair_count (pair_of tasks) 4 no_pair (pair_at s) (second s) 2 pair_step
        (λ h. cut_here s pair_count_lem tt below (omega arith))
        (λ h e. broken_here s pair_count_lem tt below (omega arith) (λ (k : m s ≤ 16). let t : pair_count (m s) ≡ true = le-leb (m s) 16 k in never (cc)))
        (λ h e. kept_here s pair_count_lem tt below (omega arith) (leb-true (m s) 16 e))
