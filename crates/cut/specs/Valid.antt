-- R-9: the request that a cut comes to keeps the form of a request.
-- A piece keeps its task's rule, since it is not longer. A pair names the same tasks as before, or a piece of the same T.
use Rattle.std.specs.Prelude.{ℕ, zero, suc, ◌+◌, ◌-◌, ◌≤◌, ◌<◌, ◌≡◌, ◌⊎◌, List, length, get_or}
use Rattle.std.proofs.Common.{sym, ap, ◌∙◌, inl, inr, eq-or-lt_of_le, arith}
use Rattle.cursor.specs.ChoiceLaws.{lt_or_ge}
use Rattle.request.specs.Request.{no_task, no_pair, period_of}
use Rattle.request.specs.Readable.{TaskKept, PairKept, Readable}
use Rattle.request.specs.declared.Task.{Task}
use Rattle.request.specs.declared.Pair.{Pair}
use Rattle.cut.specs.Exactly.{PieceOf, FirstOf, SecondOf, CutTasks, CutPairs}

-- where a number stands to i
pub around : (i k : ℕ) → (k < i) ⊎ ((k ≡ i) ⊎ (i < k))
around i k = go (lt_or_ge k i)
  where
    at_least : (i ≡ k) ⊎ (i < k) → (k < i) ⊎ ((k ≡ i) ⊎ (i < k))
    at_least (inl e) = inr (inl (sym e))
    at_least (inr l) = inr (inr l)

    go : (k < i) ⊎ (i ≤ k) → (k < i) ⊎ ((k ≡ i) ⊎ (i < k))
    go (inl l) = inl l
    go (inr l) = at_least (eq-or-lt_of_le l)

module _ (i u : ℕ) (old tasks : List Task) (are : CutTasks i u old tasks) where
  -- the second piece has what the first leaves
  pub rest_piece : u ≤ (get_or old i no_task).c → PieceOf (get_or old i no_task) ((get_or old i no_task).c - u) (get_or tasks (i + 1) no_task)
  rest_piece h = let whole : u + ((get_or old i no_task).c - u) ≡ (get_or old i no_task).c = omega arith in are.second_piece ((get_or old i no_task).c - u) whole

  -- the task that a task of the old request has become, first or second in a pair, has its T
  pub first_period : u ≤ (get_or old i no_task).c → (a y : ℕ) → FirstOf i a y → period_of tasks y ≡ period_of old a
  first_period h a y o = go (around i a)
    where
      go : (a < i) ⊎ ((a ≡ i) ⊎ (i < a)) → period_of tasks y ≡ period_of old a
      go (inl l) = rw (o.below l) (ap (λ (x : Task). x.t) (are.before a l))
      go (inr (inl e)) = rw (o.itself e, e) (rest_piece h).same_t
      go (inr (inr l)) = rw (o.above l) (ap (λ (x : Task). x.t) (are.later a l))

  pub second_period : (b y : ℕ) → SecondOf i b y → period_of tasks y ≡ period_of old b
  second_period b y o = go (around i b)
    where
      go : (b < i) ⊎ ((b ≡ i) ⊎ (i < b)) → period_of tasks y ≡ period_of old b
      go (inl l) = rw (o.below l) (ap (λ (x : Task). x.t) (are.before b l))
      go (inr (inl e)) = rw (o.itself e, e) are.first_piece.same_t
      go (inr (inr l)) = rw (o.above l) (ap (λ (x : Task). x.t) (are.later b l))

-- a pair's tasks stay in order
pub rises_still : (i a b y z : ℕ) → FirstOf i a y → SecondOf i b z → a < b → y < z
rises_still i a b y z first second h = go (around i a) (around i b)
  where
    go : (a < i) ⊎ ((a ≡ i) ⊎ (i < a)) → (b < i) ⊎ ((b ≡ i) ⊎ (i < b)) → y < z
    go (inl l) (inl k) = omega (arith, first.below l, second.below k)
    go (inl l) (inr (inl k)) = omega (arith, first.below l, second.itself k)
    go (inl l) (inr (inr k)) = omega (arith, first.below l, second.above k)
    go (inr (inl l)) (inl k) = absurd (omega arith)
    go (inr (inl l)) (inr (inl k)) = absurd (omega arith)
    go (inr (inl l)) (inr (inr k)) = omega (arith, first.itself l, second.above k)
    go (inr (inr l)) (inl k) = absurd (omega arith)
    go (inr (inr l)) (inr (inl k)) = absurd (omega arith)
    go (inr (inr l)) (inr (inr k)) = omega (arith, first.above l, second.above k)

pub second_bound : (i b z : ℕ) → SecondOf i b z → z ≤ b + 1
second_bound i b z o = go (around i b)
  where
    go : (b < i) ⊎ ((b ≡ i) ⊎ (i < b)) → z ≤ b + 1
    go (inl l) = omega (arith, o.below l)
    go (inr (inl e)) = omega (arith, o.itself e)
    go (inr (inr l)) = omega (arith, o.above l)

piece_kept : (x y : Task) (c : ℕ) → PieceOf x c y → 1 ≤ c → c ≤ x.c → TaskKept x → TaskKept y
piece_kept x y c o some less k = record {
  some = omega (arith, o.c_is);
  room = omega (arith, o.c_is, o.same_d, k.room);
  due = omega (arith, o.same_d, o.same_t, k.due);
  phase = omega (arith, o.same_p, o.same_t, k.phase);
}

module _ (i u : ℕ) (old : List Task) (links : List Pair) (tasks : List Task) (pairs : List Pair) (are : CutTasks i u old tasks) (pairs_are : CutPairs i links pairs)
    (kept : Readable old links) (known : i < length old) (some : 1 ≤ u) (short : u < (get_or old i no_task).c) where
  task_kept : (k : ℕ) → k < length tasks → TaskKept (get_or tasks k no_task)
  task_kept k h = go (around i k)
    where
      x : Task
      x = get_or old i no_task

      at_second : (k ≡ i + 1) ⊎ (i + 1 < k) → TaskKept (get_or tasks k no_task)
      at_second (inl e) =
          rw e (piece_kept x (get_or tasks (i + 1) no_task) (x.c - u) (rest_piece i u old tasks are (let l : u ≤ x.c = omega arith in l)) (omega arith) (omega arith)
          (kept.task i known))
      at_second (inr l) =
          let place : k - 1 + 1 ≡ k = omega arith in
          let same : get_or tasks k no_task ≡ get_or old (k - 1) no_task = ap (λ (m : ℕ). get_or tasks m no_task) (sym place) ∙ are.later (k - 1) (omega arith) in
          rw same (kept.task (k - 1) (omega (arith, are.one_more)))

      next : (i + 1 ≡ k) ⊎ (i + 1 < k) → TaskKept (get_or tasks k no_task)
      next (inl e) = at_second (inl (sym e))
      next (inr l) = at_second (inr l)

      go : (k < i) ⊎ ((k ≡ i) ⊎ (i < k)) → TaskKept (get_or tasks k no_task)
      go (inl l) = rw (are.before k l) (kept.task k (omega arith))
      go (inr (inl e)) = rw e (piece_kept x (get_or tasks i no_task) u are.first_piece some (omega arith) (kept.task i known))
      go (inr (inr l)) = next (eq-or-lt_of_le (let m : i + 1 ≤ k = omega arith in m))

  pair_kept_lem : (v : ℕ) → v < length pairs → PairKept tasks (get_or pairs v no_pair)
  pair_kept_lem zero h =
      let second = rest_piece i u old tasks are (let l : u ≤ (get_or old i no_task).c = omega arith in l) in
      rw pairs_are.front
      (record { rises = omega arith; known = omega (arith, are.one_more); period = are.first_piece.same_t ∙ sym second.same_t })
  pair_kept_lem (suc v) h =
      let l : v < length links = omega (arith, pairs_are.one_more) in
      let k = kept.pair v l in
      let first = pairs_are.first_of v l in
      let second = pairs_are.second_of v l in
      record {
        rises = rises_still i _ _ _ _ first second k.rises;
        known = omega (arith, second_bound i _ _ second, k.known, are.one_more);
        period = first_period i u old tasks are (let m : u ≤ (get_or old i no_task).c = omega arith in m) _ _ first ∙ k.period ∙ sym (second_period i u old tasks are _ _ second);
      }

  pub cut_kept : length old < 16 → length links < 16 → Readable tasks pairs
  cut_kept few_tasks few_pairs = record {
    some_task = omega (arith, are.one_more);
    few_tasks = omega (arith, are.one_more);
    few_pairs = omega (arith, pairs_are.one_more);
    task = task_kept;
    pair = pair_kept_lem;
  }
