-- The lists of two boards that are joined are what the records say of them, place by place; and no others are.
use Rattle.std.specs.Prelude.{ℕ, ◌+◌, ◌-◌, ◌≤◌, ◌<◌, ◌≡◌, ◌⊎◌, List, map, length, get_or}
use Rattle.std.proofs.Common.{sym, ap, ap₂, ◌∙◌, inl, inr, arith, length-append, ext_get_or, get_or-append-add}
use Rattle.std.proofs.Math.ListN.{get_or-append}
use Rattle.cursor.specs.ChoiceLaws.{lt_or_ge}
use Rattle.cursor.specs.PaddedLaws.{map_at}
use Rattle.request.specs.Request.{no_task, no_pair}
use Rattle.request.specs.declared.Task.{Task}
use Rattle.request.specs.declared.Pair.{Pair}
use Rattle.join.specs.Joined.{raised_by, joined_tasks, joined_pairs}
use Rattle.join.specs.JoinLaws.{pairs_counted}
use Rattle.join.specs.Exactly.{JoinTasks, RaisedPair, JoinPairs}

pub tasks_are : (old new : List Task) → JoinTasks old new (joined_tasks old new)
tasks_are old new = record {
  as_many = length-append old new;
  of_first = λ k h. get_or-append old new no_task k h;
  of_second = λ k h. get_or-append-add old new k no_task;
}

pub pairs_are : (n : ℕ) (old new : List Pair) → JoinPairs n old new (joined_pairs n old new)
pairs_are n old new = record {
  as_many = pairs_counted n old new;
  of_first = λ v h. get_or-append old (map (raised_by n) new) no_pair v h;
  of_second = λ v h.
      let e : get_or (joined_pairs n old new) (length old + v) no_pair ≡ raised_by n (get_or new v no_pair)
      = get_or-append-add old (map (raised_by n) new) v no_pair ∙ map_at (raised_by n) no_pair no_pair new v h in
      record { a_is = ap (λ (q : Pair). q.a) e; b_is = ap (λ (q : Pair). q.b) e };
}

-- Two lists that agree in the first places and in those behind them

module _ {A : Type 0} (blank : A) (n m : ℕ) (xs ys : List A) (count : length xs ≡ n + m) (same_count : length ys ≡ n + m) where
  by_parts : ((k : ℕ) → k < n → get_or xs k blank ≡ get_or ys k blank) → ((k : ℕ) → k < m → get_or xs (n + k) blank ≡ get_or ys (n + k) blank) → xs ≡ ys
  by_parts front behind = ext_get_or blank xs ys (count ∙ sym same_count) (λ k h. go k h (lt_or_ge k n))
    where
      go : (k : ℕ) → k < length xs → (k < n) ⊎ (n ≤ k) → get_or xs k blank ≡ get_or ys k blank
      go k h (inl l) = front k l
      go k h (inr l) =
          let place : k ≡ n + (k - n) = omega arith in
          ap (λ (j : ℕ). get_or xs j blank) place ∙ behind (k - n) (omega arith) ∙ ap (λ (j : ℕ). get_or ys j blank) (sym place)

pub same_tasks : (old new tasks tasks' : List Task) → JoinTasks old new tasks → JoinTasks old new tasks' → tasks ≡ tasks'
same_tasks old new tasks tasks' one two =
    by_parts no_task (length old) (length new) tasks tasks' one.as_many two.as_many
    (λ k h. one.of_first k h ∙ sym (two.of_first k h))
    (λ k h. one.of_second k h ∙ sym (two.of_second k h))

raised_same : (n : ℕ) (q r s : Pair) → RaisedPair n q r → RaisedPair n q s → r ≡ s
raised_same n q r s one two = ap₂ (λ (a b : ℕ). record { a = a; b = b }) (one.a_is ∙ sym two.a_is) (one.b_is ∙ sym two.b_is)

pub same_pairs : (n : ℕ) (old new pairs pairs' : List Pair) → JoinPairs n old new pairs → JoinPairs n old new pairs' → pairs ≡ pairs'
same_pairs n old new pairs pairs' one two =
    by_parts no_pair (length old) (length new) pairs pairs' one.as_many two.as_many
    (λ v h. one.of_first v h ∙ sym (two.of_first v h))
    (λ v h. raised_same n (get_or new v no_pair) _ _ (one.of_second v h) (two.of_second v h))
