-- A request that was read, with another phase for one of its tasks, is still one that could have been read.
use Rattle.std.specs.Prelude.{ℕ, ◌<◌, ◌≡◌, refl, Bool, true, false, List, ◌⊎◌, length, get_or, set, eqb}
use Rattle.std.proofs.Common.{sym, ap, subst, ◌∙◌, inl, inr, ⊎_elim, arith, length-set, get_or-set_same, get_or-set_other, eqb-true}
use Rattle.std.proofs.lemmas.Bool.{eqb-false}
use Rattle.cursor.specs.Padded.{padded}
use Rattle.cursor.specs.PaddedLaws.{get_or_padded}
use Rattle.cursor.specs.ArrayLaws.{set_inside}
use Rattle.request.specs.Request.{no_task, period_of}
use Rattle.request.specs.Numbered as read
use Rattle.request.specs.Readable.{Readable, TaskKept}
use Rattle.request.specs.declared.Task.{Task}
use Rattle.request.specs.declared.Pair.{Pair}
use Rattle.request.specs.declared.Request.{Request}
use Rattle.cycle.specs.Answers.{AsRead}

-- task x with phase p
abbrev pub task_with : Task → ℕ → Task
task_with x p = record { c = x.c; t = x.t; d = x.d; p = p }

-- phase p for task i
abbrev pub tasks_with : List Task → ℕ → ℕ → List Task
tasks_with tasks i p = set tasks i (task_with (get_or tasks i no_task) p)

abbrev pub request_with : Request → ℕ → ℕ → Request
request_with r i p = record { n = r.n; tasks = tasks_with r.tasks i p; m = r.m; pairs = r.pairs; g = r.g }

module _ (tasks : List Task) (i p : ℕ) (known : i < length tasks) (early : p < period_of tasks i) where
  -- task i changed, or another one as it was
  abbrev Changed : ℕ → Type 0
  Changed k =
      ((k ≡ i) × (get_or (tasks_with tasks i p) k no_task ≡ task_with (get_or tasks i no_task) p)) ⊎ (get_or (tasks_with tasks i p) k no_task ≡ get_or tasks k no_task)

  task_with_lem : (k : ℕ) → Changed k
  task_with_lem k = go (eqb k i) refl
    where
      go : (b : Bool) → eqb k i ≡ b → Changed k
      go true e =
          let same = eqb-true k i e in
          inl (same, ap (λ (j : ℕ). get_or (tasks_with tasks i p) j no_task) same ∙ get_or-set_same tasks i (task_with (get_or tasks i no_task) p) no_task known)
      go false e = inr (get_or-set_other tasks i k (task_with (get_or tasks i no_task) p) no_task (eqb-false k i e))

  -- no period changes
  pub periods_with : (k : ℕ) → period_of (tasks_with tasks i p) k ≡ period_of tasks k
  periods_with k =
      ⊎_elim (λ e. ap (λ (x : Task). x.t) e.1 ∙ ap (period_of tasks) (sym e.0)) (λ e. ap (λ (x : Task). x.t) e) (task_with_lem k)

  -- the form is kept
  pub readable_with : (pairs : List Pair) → Readable tasks pairs → Readable (tasks_with tasks i p) pairs
  readable_with pairs kept = record {
    some_task = omega (arith, size, kept.some_task);
    few_tasks = omega (arith, size, kept.few_tasks);
    few_pairs = kept.few_pairs;
    task = λ k h. ⊎_elim (λ e. subst TaskKept (sym e.1) changed) (λ e. subst TaskKept (sym e) (kept.task k (omega (arith, size)))) (task_with_lem k);
    pair = λ u h.
        let q = kept.pair u h in
        record { rises = q.rises; known = omega (arith, size, q.known); period = periods_with _ ∙ q.period ∙ sym (periods_with _) };
  }
    where
      size : length (tasks_with tasks i p) ≡ length tasks
      size = length-set tasks i (task_with (get_or tasks i no_task) p)

      changed : TaskKept (task_with (get_or tasks i no_task) p)
      changed = let x = kept.task i known in record { some = x.some; room = x.room; due = x.due; phase = early }

-- "phases from 0 to T − 1": the request with such a phase is as if it had been read
pub phase_as_read : {r : Request} → AsRead r → (i p : ℕ) → i < r.n → p < period_of r.tasks i → AsRead (request_with r i p)
phase_as_read {r} a i p known early =
    let is = a.is in
    let inside : i < length a.tasks = omega (arith, known, ap (λ (y : read.Request). y.n) is) in
    let task : get_or r.tasks i no_task ≡ get_or a.tasks i no_task
    = ap (λ (y : read.Request). get_or y.tasks i no_task) is ∙ get_or_padded 16 no_task a.tasks i inside in
    let soon : p < period_of a.tasks i = omega (arith, early, ap (λ (x : Task). x.t) task) in
    let size : length (tasks_with a.tasks i p) ≡ length a.tasks = length-set a.tasks i (task_with (get_or a.tasks i no_task) p) in
    let places : tasks_with r.tasks i p ≡ padded 16 no_task (tasks_with a.tasks i p)
    = rw (task, ap (λ (y : read.Request). y.tasks) is) (set_inside 16 no_task a.tasks i (task_with (get_or a.tasks i no_task) p) inside) in
    record {
      tasks = tasks_with a.tasks i p;
      pairs = a.pairs;
      g = a.g;
      is = λ q. record { refusal = 0; n = (ap (λ (y : read.Request). y.n) is ∙ sym size) q; tasks = places q; m = (is q).m; pairs = (is q).pairs; g = (is q).g };
      kept = readable_with a.tasks i p inside soon a.pairs a.kept;
    }
