-- A request that was cut: the old one is within the limits where the cut one is. Its H is the same, since its periods are; and the cut adds the second piece's jobs.
-- Job j of a piece is released and due as job j of the old task.
use Rattle.std.specs.Prelude.{ℕ, zero, suc, ◌+◌, ◌-◌, ◌/◌, ◌≤◌, ◌<◌, ◌≡◌, ◌⊎◌, length, get_or}
use Rattle.std.specs.Int.{◌∣◌}
use Rattle.std.proofs.Math.Path.{refl}
use Rattle.std.proofs.Common.{sym, ap, subst, ◌∙◌, inl, inr, eq-or-lt_of_le, arith, le-ltb}
use mathlib.Core.List.{List, flat_map}
use Rattle.std.proofs.Math.Nat.{dvd_antisymm}
use Rattle.request.specs.Request.{readable, reading, no_task, period_of}
use Rattle.request.specs.declared.Task.{Task}
use Rattle.request.specs.declared.Pair.{Pair}
use Rattle.cycle.specs.Cycle.{hyperperiod, jobs_in, all_jobs, planned, cycle, cycle_of}
use Rattle.cycle.specs.LimitLaws.{hyperperiod_divides, hyperperiod_dvd}
use Rattle.cycle.specs.PlannedLaws.{Periodic, jobs_of, all_jobs_are, jobs_then_length}
use Rattle.cut.specs.Exactly.{CutTasks}
use Rattle.cut.specs.Valid.{around, rest_piece}

-- How many jobs k tasks have, from task a on

module _ (h : ℕ) where
  abbrev count : List Task → ℕ → ℕ → ℕ
  count tasks k a = length (jobs_of tasks h k a)

  count_more : (tasks : List Task) (k a : ℕ) → count tasks (suc k) a ≡ h / period_of tasks a + count tasks k (a + 1)
  unfolding jobs_of jobs_in flat_map
  count_more tasks k a = jobs_then_length tasks a (h / period_of tasks a) 0 (jobs_of tasks h k (a + 1))

  count_none : (tasks : List Task) (a : ℕ) → count tasks 0 a ≡ 0
  unfolding jobs_of flat_map
  count_none tasks a = refl

  count_split : (tasks : List Task) (j k a : ℕ) → count tasks (j + k) a ≡ count tasks j a + count tasks k (a + j)
  count_split tasks zero k a =
      let z : 0 + k ≡ k = omega arith in
      let e : a + 0 ≡ a = omega arith in
      rw (z, e) (omega (arith, count_none tasks a))
  count_split tasks (suc j) k a =
      let s : suc j + k ≡ suc (j + k) = omega arith in
      let e : a + suc j ≡ a + 1 + j = omega arith in
      rw (s, e) (omega (arith, count_more tasks (j + k) a, count_more tasks j a, count_split tasks j k (a + 1)))

  -- tasks of the same periods, s places further up
  count_same : (tasks tasks' : List Task) (s k a : ℕ) → ((m : ℕ) → a ≤ m → m < a + k → period_of tasks (m + s) ≡ period_of tasks' m)
      → count tasks k (a + s) ≡ count tasks' k a
  count_same tasks tasks' s zero a same = omega (arith, count_none tasks (a + s), count_none tasks' a)
  count_same tasks tasks' s (suc k) a same =
      let e : a + s + 1 ≡ a + 1 + s = omega arith in
      let one : h / period_of tasks (a + s) ≡ h / period_of tasks' a = ap (λ (t : ℕ). h / t) (same a (omega arith) (omega arith)) in
      let rest : count tasks k (a + s + 1) ≡ count tasks' k (a + 1)
      = ap (count tasks k) e ∙ count_same tasks tasks' s k (a + 1) (λ m l r. same m (omega arith) (omega arith)) in
      omega (arith, count_more tasks k (a + s), count_more tasks' k a)

module _ (i u : ℕ) (old tasks : List Task) (are : CutTasks i u old tasks) (known : i < length old) (short : u ≤ (get_or old i no_task).c) where
  -- the periods

  before_period : (k : ℕ) → k < i → period_of tasks k ≡ period_of old k
  before_period k h = ap (λ (x : Task). x.t) (are.before k h)

  later_period : (k : ℕ) → i < k → period_of tasks (k + 1) ≡ period_of old k
  later_period k h = ap (λ (x : Task). x.t) (are.later k h)

  -- the task of the old request that task k stands for
  pub record OldOf (k l : ℕ) : Type 0 where
    pub old_known : l < length old
    pub same_t : (get_or tasks k no_task).t ≡ (get_or old l no_task).t
    pub same_d : (get_or tasks k no_task).d ≡ (get_or old l no_task).d
    pub same_p : (get_or tasks k no_task).p ≡ (get_or old l no_task).p
    pub uncut_below : l < i → k ≡ l
    pub cut_itself : l ≡ i → (i ≤ k) × (k ≤ i + 1)
    pub uncut_above : i < l → k ≡ l + 1

  pub first_old : OldOf i i
  first_old = let p = are.first_piece in record {
    old_known = known;
    same_t = p.same_t;
    same_d = p.same_d;
    same_p = p.same_p;
    uncut_below = λ h. absurd (omega arith);
    cut_itself = λ e. (omega arith, omega arith);
    uncut_above = λ h. absurd (omega arith);
  }

  pub second_old : OldOf (i + 1) i
  second_old = let p = rest_piece i u old tasks are short in record {
    old_known = known;
    same_t = p.same_t;
    same_d = p.same_d;
    same_p = p.same_p;
    uncut_below = λ h. absurd (omega arith);
    cut_itself = λ e. (omega arith, omega arith);
    uncut_above = λ h. absurd (omega arith);
  }

  uncut : (k l : ℕ) → l < length old → get_or tasks k no_task ≡ get_or old l no_task → ((l < i) × (k ≡ l)) ⊎ ((i < l) × (k ≡ l + 1)) → OldOf k l
  uncut k l h e place = record {
    old_known = h;
    same_t = ap (λ (x : Task). x.t) e;
    same_d = ap (λ (x : Task). x.d) e;
    same_p = ap (λ (x : Task). x.p) e;
    uncut_below = λ b. below place b;
    cut_itself = λ z. itself place z;
    uncut_above = λ a. above place a;
  }
    where
      below : ((l < i) × (k ≡ l)) ⊎ ((i < l) × (k ≡ l + 1)) → l < i → k ≡ l
      below (inl w) b = w.1
      below (inr w) b = absurd (omega (arith, w.0))

      itself : ((l < i) × (k ≡ l)) ⊎ ((i < l) × (k ≡ l + 1)) → l ≡ i → (i ≤ k) × (k ≤ i + 1)
      itself (inl w) z = absurd (omega (arith, w.0))
      itself (inr w) z = absurd (omega (arith, w.0))

      above : ((l < i) × (k ≡ l)) ⊎ ((i < l) × (k ≡ l + 1)) → i < l → k ≡ l + 1
      above (inl w) a = absurd (omega (arith, w.0))
      above (inr w) a = w.1

  pub old_of : (k : ℕ) → k < length tasks → (l : ℕ) × OldOf k l
  old_of k h = go (around i k)
    where
      behind : (i + 1 ≡ k) ⊎ (i + 1 < k) → (l : ℕ) × OldOf k l
      behind (inl e) = (i, subst (λ (m : ℕ). OldOf m i) e second_old)
      behind (inr l) =
          let place : k ≡ k - 1 + 1 = omega arith in
          let same : get_or tasks k no_task ≡ get_or old (k - 1) no_task = ap (λ (m : ℕ). get_or tasks m no_task) place ∙ are.later (k - 1) (omega arith) in
          (k - 1, uncut k (k - 1) (omega (arith, are.one_more)) same (inr (omega arith, omega arith)))

      go : (k < i) ⊎ ((k ≡ i) ⊎ (i < k)) → (l : ℕ) × OldOf k l
      go (inl l) = (k, uncut k k (omega arith) (are.before k l) (inl (l, refl)))
      go (inr (inl e)) = (i, subst (λ (m : ℕ). OldOf m i) (sym e) first_old)
      go (inr (inr l)) = behind (eq-or-lt_of_le (let m : i + 1 ≤ k = omega arith in m))

  -- and a task for each of the old ones
  new_period : (l : ℕ) → l < length old → (k : ℕ) × (k < length tasks) × (period_of tasks k ≡ period_of old l)
  new_period l h = go (around i l)
    where
      go : (l < i) ⊎ ((l ≡ i) ⊎ (i < l)) → (k : ℕ) × (k < length tasks) × (period_of tasks k ≡ period_of old l)
      go (inl b) = (l, omega (arith, are.one_more), before_period l b)
      go (inr (inl e)) = (i, omega (arith, are.one_more), rw e are.first_piece.same_t)
      go (inr (inr a)) = (l + 1, omega (arith, are.one_more), later_period l a)

  -- H is the same

  pub same_hyperperiod : Periodic tasks → Periodic old → hyperperiod old ≡ hyperperiod tasks
  same_hyperperiod pos pos' =
      dvd_antisymm
      (hyperperiod_dvd old (hyperperiod tasks) pos'
      (λ l h. let w = new_period l h in subst (λ (t : ℕ). t ∣ hyperperiod tasks) w.2 (hyperperiod_divides tasks w.0 w.1)))
      (hyperperiod_dvd tasks (hyperperiod old) pos
      (λ k h. let w = old_of k h in subst (λ (t : ℕ). t ∣ hyperperiod old) (sym w.1.same_t) (hyperperiod_divides old w.0 w.1.old_known)))

  -- and the jobs are not fewer

  pub more_jobs : (h : ℕ) → length (all_jobs old h) ≤ length (all_jobs tasks h)
  more_jobs h =
      let b = length old - 1 - i in
      let n : length old ≡ i + suc b = omega arith in
      let n' : length tasks ≡ i + suc (suc b) = omega (arith, are.one_more) in
      let front : count h tasks i 0 ≡ count h old i 0
      = count_same h tasks old 0 i 0 (λ m l r. let e : m + 0 ≡ m = omega arith in rw e (before_period m (omega arith))) in
      let back : count h tasks b (i + 1 + 1) ≡ count h old b (i + 1)
      = count_same h tasks old 1 b (i + 1) (λ m l r. later_period m (omega arith)) in
      let new : length (all_jobs tasks h) ≡ count h tasks (i + suc (suc b)) 0 = ap length (all_jobs_are tasks h) ∙ ap (λ (k : ℕ). count h tasks k 0) n' in
      let was : length (all_jobs old h) ≡ count h old (i + suc b) 0 = ap length (all_jobs_are old h) ∙ ap (λ (k : ℕ). count h old k 0) n in
      let z : 0 + i ≡ i = omega arith in
      let split : count h tasks (i + suc (suc b)) 0 ≡ count h tasks i 0 + count h tasks (suc (suc b)) i = rw z at (count_split h tasks i (suc (suc b)) 0) in
      let split' : count h old (i + suc b) 0 ≡ count h old i 0 + count h old (suc b) i = rw z at (count_split h old i (suc b) 0) in
      let first : h / period_of tasks i ≡ h / period_of old i = ap (λ (t : ℕ). h / t) are.first_piece.same_t in
      omega (arith, new, was, split, split', front, back, first, count_more h tasks (suc b) i, count_more h tasks b (i + 1), count_more h old b i)

-- a request that was read is within the limits where its H and its jobs are
pub is_within : (request : List ℕ) (tasks : List Task) (pairs : List Pair) (g : ℕ) → reading request ≡ readable tasks pairs g
    → hyperperiod tasks ≤ 10000 → length (all_jobs tasks (hyperperiod tasks)) ≤ 128
    → cycle_of request ≡ cycle tasks pairs g (hyperperiod tasks) (planned tasks (hyperperiod tasks))
unfolding cycle_of
is_within request tasks pairs g is few_ticks few_jobs = rw (is, le-ltb 10000 _ few_ticks, le-ltb 128 _ few_jobs)
