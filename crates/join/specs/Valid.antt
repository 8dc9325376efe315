-- R-4: the request that two boards are joined to keeps the form of a request.
-- A task keeps its rule wherever it stands. A pair of the first request names the same tasks as before, and one of the second too, since both its
-- numbers are raised by the number of tasks in front.
use Rattle.std.specs.Prelude.{ℕ, ◌+◌, ◌-◌, ◌≤◌, ◌<◌, ◌≡◌, ◌⊎◌, List, ◌++◌, map, length, get_or}
use Rattle.std.proofs.Common.{sym, ap, ◌∙◌, inl, inr, arith, length-append, get_or-append-add}
use Rattle.std.proofs.lemmas.List.{length-map}
use Rattle.std.proofs.Math.ListN.{get_or-append}
use Rattle.cursor.specs.ChoiceLaws.{lt_or_ge}
use Rattle.cursor.specs.PaddedLaws.{map_at}
use Rattle.request.specs.Request.{no_task, no_pair, period_of}
use Rattle.request.specs.Readable.{TaskKept, PairKept, Readable}
use Rattle.request.specs.declared.Task.{Task}
use Rattle.request.specs.declared.Pair.{Pair}
use Rattle.join.specs.Joined.{raised_by, joined_tasks, joined_pairs}
use Rattle.join.specs.JoinLaws.{pairs_counted}

-- Two lists one behind the other: what holds of each element of both.
each_of_two : {A : Type 0} (blank : A) (P : A → Type 0) (xs ys : List A) → ((i : ℕ) → i < length xs → P (get_or xs i blank))
    → ((i : ℕ) → i < length ys → P (get_or ys i blank)) → (i : ℕ) → i < length (xs ++ ys) → P (get_or (xs ++ ys) i blank)
each_of_two blank P xs ys first second i h = go (lt_or_ge i (length xs))
  where
    go : (i < length xs) ⊎ (length xs ≤ i) → P (get_or (xs ++ ys) i blank)
    go (inl l) = rw (get_or-append xs ys blank i l) (first i l)
    go (inr l) =
        let place : i ≡ length xs + (i - length xs) = omega arith in
        rw (place, get_or-append-add xs ys (i - length xs) blank) (second (i - length xs) (omega (arith, length-append xs ys)))

module _ (tasks₁ tasks₂ : List Task) where
  -- a pair of the first
  pair_stays : (q : Pair) → PairKept tasks₁ q → PairKept (tasks₁ ++ tasks₂) q
  pair_stays q k =
      let a = get_or-append tasks₁ tasks₂ no_task q.a (omega (arith, k.rises, k.known)) in
      let b = get_or-append tasks₁ tasks₂ no_task q.b k.known in
      record { rises = k.rises; known = omega (arith, k.known, length-append tasks₁ tasks₂); period = ap (λ (x : Task). x.t) a ∙ k.period ∙ sym (ap (λ (x : Task). x.t) b) }

  -- a pair of the second
  period_raised : (i : ℕ) → period_of (tasks₁ ++ tasks₂) (i + length tasks₁) ≡ period_of tasks₂ i
  period_raised i =
      let place : i + length tasks₁ ≡ length tasks₁ + i = omega arith in
      ap (λ (j : ℕ). period_of (tasks₁ ++ tasks₂) j) place ∙ ap (λ (x : Task). x.t) (get_or-append-add tasks₁ tasks₂ i no_task)

  pair_moves : (q : Pair) → PairKept tasks₂ q → PairKept (tasks₁ ++ tasks₂) (raised_by (length tasks₁) q)
  pair_moves q k = record {
    rises = omega (arith, k.rises);
    known = omega (arith, k.known, length-append tasks₁ tasks₂);
    period = period_raised q.a ∙ k.period ∙ sym (period_raised q.b);
  }

  module _ (pairs₁ pairs₂ : List Pair) where
    pub joined_kept : Readable tasks₁ pairs₁ → Readable tasks₂ pairs₂ → length tasks₁ + length tasks₂ ≤ 16 → length pairs₁ + length pairs₂ ≤ 16
        → Readable (joined_tasks tasks₁ tasks₂) (joined_pairs (length tasks₁) pairs₁ pairs₂)
    joined_kept one two few_tasks few_pairs =
        let raise = map (raised_by (length tasks₁)) pairs₂ in
        let count : length raise ≡ length pairs₂ = length-map pairs₂ (raised_by (length tasks₁)) in
        record {
          some_task = omega (arith, one.some_task, length-append tasks₁ tasks₂);
          few_tasks = omega (arith, length-append tasks₁ tasks₂);
          few_pairs = omega (arith, pairs_counted (length tasks₁) pairs₁ pairs₂);
          task = each_of_two no_task TaskKept tasks₁ tasks₂ one.task two.task;
          pair = each_of_two no_pair (PairKept (tasks₁ ++ tasks₂)) pairs₁ raise (λ i h. pair_stays _ (one.pair i h))
              (λ i h. let l : i < length pairs₂ = omega (arith, count) in rw (map_at (raised_by (length tasks₁)) no_pair no_pair pairs₂ i l) (pair_moves _ (two.pair i l)));
        }
