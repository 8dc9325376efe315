-- The records leave one list of tasks and one list of pairs.
use Rattle.std.specs.Prelude.{ℕ, zero, suc, ◌+◌, ◌-◌, ◌≤◌, ◌<◌, ◌≡◌, ◌⊎◌, List, length, get_or}
use Rattle.std.proofs.Common.{sym, ap, ap₂, ◌∙◌, inl, inr, eq-or-lt_of_le, arith, ext_get_or}
use Rattle.request.specs.Request.{no_task, no_pair}
use Rattle.request.specs.declared.Task.{Task}
use Rattle.request.specs.declared.Pair.{Pair}
use Rattle.cut.specs.Exactly.{FirstOf, SecondOf, CutTasks, CutPairs}
use Rattle.cut.specs.CutLaws.{piece_is}
use Rattle.cut.specs.Valid.{around, rest_piece}

module _ (i u : ℕ) (old tasks tasks' : List Task) (one : CutTasks i u old tasks) (two : CutTasks i u old tasks') (short : u ≤ (get_or old i no_task).c) where
  same_at : (k : ℕ) → get_or tasks k no_task ≡ get_or tasks' k no_task
  same_at k = go (around i k)
    where
      behind : (i + 1 ≡ k) ⊎ (i + 1 < k) → get_or tasks k no_task ≡ get_or tasks' k no_task
      behind (inl e) = rw (← e) (sym (piece_is (rest_piece i u old tasks one short)) ∙ piece_is (rest_piece i u old tasks' two short))
      behind (inr l) =
          let place : k ≡ k - 1 + 1 = omega arith in
          let later : i < k - 1 = omega arith in
          ap (λ (m : ℕ). get_or tasks m no_task) place ∙ one.later (k - 1) later ∙ sym (two.later (k - 1) later) ∙ ap (λ (m : ℕ). get_or tasks' m no_task) (sym place)

      go : (k < i) ⊎ ((k ≡ i) ⊎ (i < k)) → get_or tasks k no_task ≡ get_or tasks' k no_task
      go (inl l) = one.before k l ∙ sym (two.before k l)
      go (inr (inl e)) = rw e (sym (piece_is one.first_piece) ∙ piece_is two.first_piece)
      go (inr (inr l)) = behind (eq-or-lt_of_le (let m : i + 1 ≤ k = omega arith in m))

  pub same_tasks : tasks ≡ tasks'
  same_tasks = ext_get_or no_task tasks tasks' (one.one_more ∙ sym two.one_more) (λ k h. same_at k)

pub first_same : (i a y z : ℕ) → FirstOf i a y → FirstOf i a z → y ≡ z
first_same i a y z one two = go (around i a)
  where
    go : (a < i) ⊎ ((a ≡ i) ⊎ (i < a)) → y ≡ z
    go (inl l) = one.below l ∙ sym (two.below l)
    go (inr (inl e)) = one.itself e ∙ sym (two.itself e)
    go (inr (inr l)) = one.above l ∙ sym (two.above l)

pub second_same : (i b y z : ℕ) → SecondOf i b y → SecondOf i b z → y ≡ z
second_same i b y z one two = go (around i b)
  where
    go : (b < i) ⊎ ((b ≡ i) ⊎ (i < b)) → y ≡ z
    go (inl l) = one.below l ∙ sym (two.below l)
    go (inr (inl e)) = one.itself e ∙ sym (two.itself e)
    go (inr (inr l)) = one.above l ∙ sym (two.above l)

module _ (i : ℕ) (old pairs pairs' : List Pair) (one : CutPairs i old pairs) (two : CutPairs i old pairs') where
  pair_at_lem : (v : ℕ) → v < length pairs → get_or pairs v no_pair ≡ get_or pairs' v no_pair
  pair_at_lem zero h = one.front ∙ sym two.front
  pair_at_lem (suc v) h =
      let l : v < length old = omega (arith, one.one_more) in
      ap₂ (λ (a b : ℕ). record { a = a; b = b }) (first_same i _ _ _ (one.first_of v l) (two.first_of v l)) (second_same i _ _ _ (one.second_of v l) (two.second_of v l))

  pub same_pairs : pairs ≡ pairs'
  same_pairs = ext_get_or no_pair pairs pairs' (one.one_more ∙ sym two.one_more) pair_at_lem
