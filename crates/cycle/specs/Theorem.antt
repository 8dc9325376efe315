-- Which answer a request's bytes get as a cycle, exactly: the theorem. One of the conditions holds, each gives its answer, and no two hold.
use Prim.Native.Nat.{ℕ, ◌≤◌, ◌<◌}
use Rattle.std.specs.Prelude.{◌≡◌, Bool, true, false, cond, List, ◌↔◌, length, ltb}
use Rattle.std.proofs.Math.Path.{refl}
use Rattle.std.proofs.Common.{sym, ap, subst, ◌∙◌, inl, inr, arith, ltb-true, ltb-false}
use Rattle.cursor.specs.ParsedLaws.{never}
use Rattle.request.specs.Request.{Reading, readable, unreadable, reading}
use Rattle.request.specs.Readable.{UnreadNumber}
use Rattle.request.specs.ReadableLaws.{readable_kept, unreadable_number}
use Rattle.request.specs.declared.Task.{Task}
use Rattle.request.specs.declared.Pair.{Pair}
use Rattle.cycle.specs.Cycle.{Cycle, cycle, no_cycle, hyperperiod, all_jobs, planned, after_reading, cycle_of}
use Rattle.cycle.specs.Planned.{InPlanningOrder}
use Rattle.cycle.specs.PlannedLaws.{Periodic, planned_in_order}
use Rattle.cycle.specs.LimitLaws.{readable_periodic}
use Rattle.cycle.specs.Numbered.{cycle_numbered}
use Rattle.cycle.specs.Exactly.{IsH, jobs_in_all, HasH, HasCycle, OfH, CycleExact}
use Rattle.cycle.specs.ExactlyLaws.{hyperperiod_is_h, one_h, jobs_counted, one_order, answered_once}
use Rattle.cycle.specs.declared.Job.{Job}
use Rattle.cycle.specs.Numbered as answer

module _ (s : List ℕ) where
  -- the conditions
  data Outcome (d : Cycle) : Type 0 where
    own : (number : ℕ) → reading s ≡ unreadable number → d ≡ no_cycle number → Outcome d
    long : (tasks : List Task) (pairs : List Pair) (g h : ℕ) → HasH s tasks pairs g h → 10000 < h → d ≡ no_cycle 7 → Outcome d
    many : (tasks : List Task) (pairs : List Pair) (g h : ℕ) → HasH s tasks pairs g h → h ≤ 10000 → 128 < jobs_in_all tasks h → d ≡ no_cycle 8 → Outcome d
    made : (tasks : List Task) (pairs : List Pair) (g h : ℕ) (jobs : List Job) → HasCycle s tasks pairs g h → InPlanningOrder tasks h jobs
        → d ≡ cycle tasks pairs g h jobs → Outcome d

  outcome : Outcome (cycle_of s)
  unfolding cycle_of
  outcome = go (reading s) refl
    where
      go : (r : Reading) → reading s ≡ r → Outcome (after_reading r)
      go (unreadable number) e = own number e refl
      go (readable tasks pairs g) e = judged (ltb 10000 h) refl (ltb 128 (length (all_jobs tasks h))) refl
        where
          h : ℕ
          h = hyperperiod tasks

          pos : Periodic tasks
          pos = readable_periodic tasks pairs (readable_kept s tasks pairs g e)

          has : HasH s tasks pairs g h
          has = record { reads = e; h_is = hyperperiod_is_h tasks pos }

          judged : (a : Bool) → ltb 10000 h ≡ a → (b : Bool) → ltb 128 (length (all_jobs tasks h)) ≡ b
              → Outcome (cond a (no_cycle 7) (cond b (no_cycle 8) (cycle tasks pairs g h (planned tasks h))))
          judged true p b q = long tasks pairs g h has (ltb-true 10000 h p) refl
          judged false p true q = many tasks pairs g h has (ltb-false 10000 h p) (rw (jobs_counted tasks h) at (ltb-true 128 (length (all_jobs tasks h)) q)) refl
          judged false p false q =
              made tasks pairs g h (planned tasks h)
              (record { has_h = has; h_few = ltb-false 10000 h p; jobs_few = rw (jobs_counted tasks h) at (ltb-false 128 (length (all_jobs tasks h)) q) })
              (planned_in_order tasks h pos)
              refl

  -- What the bytes say, and its H, are one.
  module _ {ts us : List Task} {ps qs : List Pair} {g k h l : ℕ} (a : HasH s ts ps g h) (b : HasH s us qs k l) where
    same_reading : readable ts ps g ≡ readable us qs k
    same_reading = sym a.reads ∙ b.reads

    same_tasks : ts ≡ us
    same_tasks = let e = same_reading in cc

    same_h : h ≡ l
    same_h = one_h us h l (subst (λ x. IsH x h) same_tasks a.h_is) b.h_is

    same_count : jobs_in_all ts h ≡ jobs_in_all us l
    same_count = ap (λ (x : List Task). jobs_in_all x h) same_tasks ∙ ap (jobs_in_all us) same_h

    same_cycle : (xs ys : List Job) → InPlanningOrder ts h xs → InPlanningOrder us l ys → cycle ts ps g h xs ≡ cycle us qs k l ys
    same_cycle xs ys x y =
        let r = same_reading in
        let pairs : ps ≡ qs = cc in
        let silent : g ≡ k = cc in
        let tasks = same_tasks in
        let ticks = same_h in
        let moved = subst (λ t. InPlanningOrder t l xs) tasks (subst (λ t. InPlanningOrder ts t xs) ticks x) in
        let jobs = one_order us l xs ys moved y in
        λ i. cycle (tasks i) (pairs i) (silent i) (ticks i) (jobs i)

  unread_not : {ts : List Task} {ps : List Pair} {g h number : ℕ} → reading s ≡ unreadable number → HasH s ts ps g h → ⊥
  unread_not e a = let r = sym e ∙ a.reads in never (cc)

  -- Which cycle there is.

  is_seven : OfH s (λ tasks h. 10000 < h) → cycle_of s ≡ no_cycle 7
  is_seven (tasks, pairs, g, h, has, above) = go (cycle_of s) outcome
    where
      go : (d : Cycle) → Outcome d → d ≡ no_cycle 7
      go d (own number e is) = absurd (unread_not e has)
      go d (long ts ps k l b more is) = is
      go d (many ts ps k l b few more is) = absurd (omega (arith, same_h b has))
      go d (made ts ps k l jobs b order is) = absurd (omega (arith, b.h_few, same_h b.has_h has))

  is_eight : OfH s (λ tasks h. (h ≤ 10000) × (128 < jobs_in_all tasks h)) → cycle_of s ≡ no_cycle 8
  is_eight (tasks, pairs, g, h, has, (few, above)) = go (cycle_of s) outcome
    where
      go : (d : Cycle) → Outcome d → d ≡ no_cycle 8
      go d (own number e is) = absurd (unread_not e has)
      go d (long ts ps k l b more is) = absurd (omega (arith, same_h b has))
      go d (many ts ps k l b low more is) = is
      go d (made ts ps k l jobs b order is) = absurd (omega (arith, b.jobs_few, same_count b.has_h has))

  pub cycle_exactly : (tasks : List Task) (pairs : List Pair) (g h : ℕ) (jobs : List Job)
      → (cycle_of s ≡ cycle tasks pairs g h jobs) ↔ (HasCycle s tasks pairs g h × InPlanningOrder tasks h jobs)
  cycle_exactly tasks pairs g h jobs = (go (cycle_of s) outcome, λ x. back x (cycle_of s) outcome)
    where
      go : (d : Cycle) → Outcome d → d ≡ cycle tasks pairs g h jobs → HasCycle s tasks pairs g h × InPlanningOrder tasks h jobs
      go d (own number e is) q = absurd (never (cc))
      go d (long ts ps k l b more is) q = absurd (never (cc))
      go d (many ts ps k l b low more is) q = absurd (never (cc))
      go d (made ts ps k l xs b order is) q =
          let e : cycle ts ps k l xs ≡ cycle tasks pairs g h jobs = sym is ∙ q in
          let t : ts ≡ tasks = cc in
          let p : ps ≡ pairs = cc in
          let silent : k ≡ g = cc in
          let ticks : l ≡ h = cc in
          let list : xs ≡ jobs = cc in
          subst (λ x. HasCycle s x pairs g h × InPlanningOrder x h jobs) t
          (subst (λ x. HasCycle s ts x g h × InPlanningOrder ts h jobs) p
          (subst (λ x. HasCycle s ts ps x h × InPlanningOrder ts h jobs) silent
          (subst (λ x. HasCycle s ts ps k x × InPlanningOrder ts x jobs) ticks (b, subst (λ x. InPlanningOrder ts l x) list order))))

      back : HasCycle s tasks pairs g h × InPlanningOrder tasks h jobs → (d : Cycle) → Outcome d → d ≡ cycle tasks pairs g h jobs
      back x d (own number e is) = absurd (unread_not e x.0.has_h)
      back x d (long ts ps k l b more is) = absurd (omega (arith, x.0.h_few, same_h b x.0.has_h))
      back x d (many ts ps k l b low more is) = absurd (omega (arith, x.0.jobs_few, same_count b x.0.has_h))
      back x d (made ts ps k l xs b order is) = is ∙ same_cycle b.has_h x.0.has_h xs jobs order x.1

  -- a request that has a cycle has the list of its jobs too
  pub cycle_there : (tasks : List Task) (pairs : List Pair) (g h : ℕ) → HasCycle s tasks pairs g h → (jobs : List Job) × InPlanningOrder tasks h jobs
  cycle_there tasks pairs g h x =
      (planned tasks h, planned_in_order tasks h (readable_periodic tasks pairs (readable_kept s tasks pairs g x.has_h.reads)))

own_of : (s : List ℕ) (number : ℕ) → reading s ≡ unreadable number → cycle_of s ≡ no_cycle number
unfolding cycle_of
own_of s number e = rw e

-- The answer tells the number of a refusal, 0 for a cycle.
told : (d e f : Cycle) → d ≡ e → cycle_numbered d ≡ cycle_numbered f → (cycle_numbered e).refusal ≡ (cycle_numbered f).refusal
told d e f is q = ap (λ (c : answer.Cycle). c.refusal) (ap cycle_numbered (sym is) ∙ q)

not_own : {number : ℕ} → UnreadNumber number → 6 < number → number < 17 → ⊥
not_own (inl x) low high = omega (arith, x.1)
not_own (inr x) low high = omega arith

pub cycle_exact : (s : List ℕ) → CycleExact s (cycle_numbered (cycle_of s))
cycle_exact s = record {
  own_number = λ number e. ap cycle_numbered (own_of s number e);
  seven = (seven (cycle_of s) (outcome s), λ x. ap cycle_numbered (is_seven s x));
  eight = (eight (cycle_of s) (outcome s), λ x. ap cycle_numbered (is_eight s x));
  cycles = λ tasks pairs g h jobs. (
    λ e. (cycle_exactly s tasks pairs g h jobs).0 (cycles tasks pairs g h jobs (cycle_of s) refl (outcome s) e),
    λ x. ap cycle_numbered ((cycle_exactly s tasks pairs g h jobs).1 x),
  );
}
  where
    seven : (d : Cycle) → Outcome s d → cycle_numbered d ≡ cycle_numbered (no_cycle 7) → OfH s (λ tasks h. 10000 < h)
    seven d (own number e is) q =
        let same : number ≡ 7 = told d (no_cycle number) (no_cycle 7) is q in absurd (not_own (unreadable_number s number e) (omega arith) (omega arith))
    seven d (long tasks pairs g h has more is) q = (tasks, pairs, g, h, has, more)
    seven d (many tasks pairs g h has low more is) q = absurd (omega (arith, told d (no_cycle 8) (no_cycle 7) is q))
    seven d (made tasks pairs g h jobs has order is) q = absurd (omega (arith, told d (cycle tasks pairs g h jobs) (no_cycle 7) is q))

    eight : (d : Cycle) → Outcome s d → cycle_numbered d ≡ cycle_numbered (no_cycle 8) → OfH s (λ tasks h. (h ≤ 10000) × (128 < jobs_in_all tasks h))
    eight d (own number e is) q =
        let same : number ≡ 8 = told d (no_cycle number) (no_cycle 8) is q in absurd (not_own (unreadable_number s number e) (omega arith) (omega arith))
    eight d (long tasks pairs g h has more is) q = absurd (omega (arith, told d (no_cycle 7) (no_cycle 8) is q))
    eight d (many tasks pairs g h has low more is) q = (tasks, pairs, g, h, has, (low, more))
    eight d (made tasks pairs g h jobs has order is) q = absurd (omega (arith, told d (cycle tasks pairs g h jobs) (no_cycle 8) is q))

    -- a number that is given is not 0
    refused_pos : (number : ℕ) → UnreadNumber number → 0 < number
    refused_pos number (inl x) = x.0
    refused_pos number (inr x) = omega arith

    cycles : (tasks : List Task) (pairs : List Pair) (g h : ℕ) (jobs : List Job) (d : Cycle) → cycle_of s ≡ d → Outcome s d
        → cycle_numbered d ≡ cycle_numbered (cycle tasks pairs g h jobs) → cycle_of s ≡ cycle tasks pairs g h jobs
    cycles tasks pairs g h jobs d at (own number e is) q =
        let same : number ≡ 0 = told d (no_cycle number) (cycle tasks pairs g h jobs) is q in absurd (omega (arith, refused_pos number (unreadable_number s number e)))
    cycles tasks pairs g h jobs d at (long ts ps k l has more is) q = absurd (omega (arith, told d (no_cycle 7) (cycle tasks pairs g h jobs) is q))
    cycles tasks pairs g h jobs d at (many ts ps k l has low more is) q = absurd (omega (arith, told d (no_cycle 8) (cycle tasks pairs g h jobs) is q))
    cycles tasks pairs g h jobs d at (made ts ps k l xs has order is) q =
        at ∙ is ∙ answered_once ts tasks ps pairs k g l h xs jobs (ap cycle_numbered (sym is) ∙ q)

-- So there is no other answer.
pub cycle_alone : (s : List ℕ) (c : answer.Cycle) → CycleExact s c → c ≡ cycle_numbered (cycle_of s)
cycle_alone s c x = go (cycle_of s) (outcome s)
  where
    go : (d : Cycle) → Outcome s d → c ≡ cycle_numbered d
    go d (own number e is) = x.own_number number e ∙ ap cycle_numbered (sym is)
    go d (long tasks pairs g h has more is) = x.seven.1 (tasks, pairs, g, h, has, more) ∙ ap cycle_numbered (sym is)
    go d (many tasks pairs g h has low more is) = x.eight.1 (tasks, pairs, g, h, has, (low, more)) ∙ ap cycle_numbered (sym is)
    go d (made tasks pairs g h jobs has order is) = (x.cycles tasks pairs g h jobs).1 (has, order) ∙ ap cycle_numbered (sym is)
