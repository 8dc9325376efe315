-- Why the statement of the cycle determines it: one H, one count of jobs, one list in planning order, one cycle in an answer.
use Rattle.std.specs.Prelude.{ℕ, zero, suc, ◌+◌, ◌≤◌, ◌<◌, ◌≡◌, true, length, get_or, take, drop}
use Rattle.std.proofs.Common.{sym, ap, subst₂, ◌∙◌, ⊎_elim, eq-or-lt_of_le, le_antisymm, add-one, arith, drop_of_length-le, drop-cons, ext_get_or}
use mathlib.Core.List.{List, flat_map}
use Rattle.cursor.specs.ChoiceLaws.{lt_or_ge}
use Rattle.cursor.specs.ParsedLaws.{never}
use Rattle.cursor.specs.PaddedLaws.{take_padded}
use Rattle.request.specs.Request.{no_task, no_pair}
use Rattle.request.specs.declared.Task.{Task}
use Rattle.request.specs.declared.Pair.{Pair}
use Rattle.cycle.specs.Cycle.{hyperperiod, jobs_in, all_jobs, before, cycle}
use Rattle.cycle.specs.Planned.{no_job, InPlanningOrder}
use Rattle.cycle.specs.PlannedLaws.{Periodic, jobs_of, all_jobs_are, jobs_then_length}
use Rattle.cycle.specs.OrderLaws.{before_irreflexive, before_asymmetric}
use Rattle.cycle.specs.LimitLaws.{hyperperiod_divides, hyperperiod_pos, hyperperiod_least}
use Rattle.cycle.specs.Answers.{listed}
use Rattle.cycle.specs.Numbered.{cycle_numbered}
use Rattle.cycle.specs.Exactly.{IsH, jobs_in_all}
use Rattle.cycle.specs.declared.Job.{Job}
use Rattle.cycle.specs.Numbered as answer

-- H

pub hyperperiod_is_h : (tasks : List Task) → Periodic tasks → IsH tasks (hyperperiod tasks)
hyperperiod_is_h tasks pos =
    record { some = hyperperiod_pos tasks pos; common = hyperperiod_divides tasks; least = λ k some each. hyperperiod_least tasks k some pos each }

pub one_h : (tasks : List Task) (h k : ℕ) → IsH tasks h → IsH tasks k → h ≡ k
one_h tasks h k a b = le_antisymm (a.least k b.some b.common) (b.least h a.some a.common)

-- The count of the jobs: k tasks are left, from task i on.

counted_from : (tasks : List Task) (h k i : ℕ) → i + k ≡ length tasks → length (jobs_of tasks h k i) ≡ jobs_in_all (drop i tasks) h
unfolding jobs_of jobs_in flat_map jobs_in_all
counted_from tasks h zero i e = rw (drop_of_length-le tasks {i = i} (omega arith))
counted_from tasks h (suc k) i e =
    let rest : length (jobs_of tasks h k (i + 1)) ≡ jobs_in_all (drop (suc i) tasks) h =
    counted_from tasks h k (i + 1) (omega arith) ∙ ap (λ (j : ℕ). jobs_in_all (drop j tasks) h) (add-one i) in
    rw (drop-cons tasks i no_task (omega arith), jobs_then_length tasks i) (omega (arith, rest))

pub jobs_counted : (tasks : List Task) (h : ℕ) → length (all_jobs tasks h) ≡ jobs_in_all tasks h
jobs_counted tasks h = rw (all_jobs_are tasks h) (counted_from tasks h (length tasks) 0 (omega arith))

-- Two lists in planning order: each job of the one has a place in the other, later ones later places.

module _ (tasks : List Task) (h : ℕ) where
  module _ (xs : List Job) (a : InPlanningOrder tasks h xs) where
    -- no job stands twice
    apart : (x y : ℕ) → x < y → y < length xs → get_or xs x no_job ≡ get_or xs y no_job → ⊥
    apart x y up k e =
        let itself : before (get_or xs x no_job) (get_or xs x no_job) ≡ true = rw (← e) at (a.sorted x y up k) in
        never (cc (before_irreflexive (get_or xs x no_job)))

    one_place : (x y : ℕ) → x < length xs → y < length xs → get_or xs x no_job ≡ get_or xs y no_job → x ≡ y
    one_place x y k l e =
        ⊎_elim (λ up. absurd (apart x y up l e))
        (λ low. ⊎_elim sym (λ (up : y < x). absurd (apart y x up k (sym e))) (eq-or-lt_of_le low))
        (lt_or_ge x y)

    module _ (ys : List Job) (b : InPlanningOrder tasks h ys) where
      place : (x : ℕ) → x < length xs → (y : ℕ) × (y < length ys) × (get_or xs x no_job ≡ get_or ys y no_job)
      place x k =
          let (i, j, is, s) = a.each x k in
          let (y, t) = b.every i j is in
          (y, t.within, s.here ∙ sym t.here)

      later : (x z : ℕ) → x < z → (k : x < length xs) (l : z < length xs) → (place x k).0 < (place z l).0
      later x z up k l =
          let p = place x k in
          let q = place z l in
          ⊎_elim (λ above. above) (λ low. absurd (⊎_elim (same p q) (back p q) (eq-or-lt_of_le low))) (lt_or_ge p.0 q.0)
        where
          same : (p : (y : ℕ) × (y < length ys) × (get_or xs x no_job ≡ get_or ys y no_job)) (q : (y : ℕ) × (y < length ys) × (get_or xs z no_job ≡ get_or ys y no_job))
              → q.0 ≡ p.0 → ⊥
          same p q e = apart x z up l (p.2 ∙ ap (λ (y : ℕ). get_or ys y no_job) (sym e) ∙ sym q.2)

          back : (p : (y : ℕ) × (y < length ys) × (get_or xs x no_job ≡ get_or ys y no_job)) (q : (y : ℕ) × (y < length ys) × (get_or xs z no_job ≡ get_or ys y no_job))
              → q.0 < p.0 → ⊥
          back p q low =
              let one : before (get_or xs z no_job) (get_or xs x no_job) ≡ true =
              subst₂ (λ m n. before m n ≡ true) (sym q.2) (sym p.2) (b.sorted q.0 p.0 low p.1) in
              never (cc (before_asymmetric (get_or xs x no_job) (get_or xs z no_job) (a.sorted x z up l)))

      not_lower : (x : ℕ) (k : x < length xs) → x ≤ (place x k).0
      not_lower zero k = omega arith
      not_lower (suc x) k = let l : x < length xs = omega arith in omega (arith, not_lower x l, later x (suc x) (omega arith) l k)

  module _ (xs : List Job) (a : InPlanningOrder tasks h xs) (ys : List Job) (b : InPlanningOrder tasks h ys) where
    same_place : (x : ℕ) → x < length xs → (x < length ys) × (get_or xs x no_job ≡ get_or ys x no_job)
    same_place x k =
        let p = place xs a ys b x k in
        let q = place ys b xs a p.0 p.1 in
        let home : q.0 ≡ x = sym (one_place xs a x q.0 k q.1 (p.2 ∙ q.2)) in
        let stays : p.0 ≡ x = omega (arith, not_lower xs a ys b x k, not_lower ys b xs a p.0 p.1) in
        (omega (arith, p.1), p.2 ∙ ap (λ (y : ℕ). get_or ys y no_job) stays)

    as_long : length xs ≤ length ys
    as_long = ⊎_elim (λ (short : length ys < length xs). absurd (omega (arith, (same_place (length ys) short).0))) (λ l. l) (lt_or_ge (length ys) (length xs))

  pub one_order : (xs ys : List Job) → InPlanningOrder tasks h xs → InPlanningOrder tasks h ys → xs ≡ ys
  one_order xs ys a b =
      ext_get_or no_job xs ys (le_antisymm (as_long xs a ys b) (as_long ys b xs a)) (λ i k. (same_place xs a ys b i k).1)

-- The answer holds the whole cycle.
pub answered_once : (ts us : List Task) (ps qs : List Pair) (g k h l : ℕ) (xs ys : List Job)
    → cycle_numbered (cycle ts ps g h xs) ≡ cycle_numbered (cycle us qs k l ys) → cycle ts ps g h xs ≡ cycle us qs k l ys
unfolding listed
answered_once ts us ps qs g k h l xs ys e =
    let tasks : ts ≡ us = sym (take_padded 16 no_task ts) ∙ ap (λ (c : answer.Cycle). take c.n c.tasks) e ∙ take_padded 16 no_task us in
    let pairs : ps ≡ qs = sym (take_padded 16 no_pair ps) ∙ ap (λ (c : answer.Cycle). take c.m c.pairs) e ∙ take_padded 16 no_pair qs in
    let jobs : xs ≡ ys = sym (take_padded 128 no_job xs) ∙ ap (λ (c : answer.Cycle). take c.count c.jobs) e ∙ take_padded 128 no_job ys in
    let silent : g ≡ k = ap (λ (c : answer.Cycle). c.g) e in
    let ticks : h ≡ l = ap (λ (c : answer.Cycle). c.h) e in
    λ i. cycle (tasks i) (pairs i) (silent i) (ticks i) (jobs i)
