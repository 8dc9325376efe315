-- Which answer a report gets, exactly: the theorem. The request is read or not, and the task is one of it or not. So the number tells which of the three holds.
use Rattle.std.specs.Prelude.{ℕ, ◌≤◌, ◌<◌, ◌↔◌, ◌≢◌, Bool, false, List, length, get_or, ltb, eqb}
use Rattle.std.proofs.Math.Path.{◌≡◌, refl}
use Rattle.std.proofs.Common.{sym, ap, subst, ◌∙◌, inl, inr, ⊎_elim, arith, length-set, ext_get_or, get_or-set_same, get_or-set_other}
use Rattle.std.proofs.Math.Bool.{true}
use borrow.Author.Tests.{lt-ltb, le-ltb, ltb-true, eqb-true, eqb-false}
use Rattle.cursor.specs.ChoiceLaws.{lt_or_ge}
use Rattle.cursor.specs.ParsedLaws.{both_true}
use Rattle.request.specs.Request.{Reading, readable, unreadable, reading, no_task}
use Rattle.request.specs.Readable.{UnreadNumber}
use Rattle.request.specs.ReadableLaws.{readable_kept, unreadable_number}
use Rattle.request.specs.declared.Task.{Task}
use Rattle.dispatcher.specs.Dispatch.{exceeds, raised, raised_at, counted, report_refused, reported, overran}
use Rattle.dispatcher.specs.ReportLaws.{report_counted, report_unknown, report_unreadable, report_over, report_refused_still}
use Rattle.dispatcher.specs.Exactly.{Counts, Counted, OfTasks, ReportExact}
use Rattle.dispatcher.specs.declared.State.{State}
use Rattle.dispatcher.specs.Numbered.{Reported}

-- How the counts change

raised_counts : (c ticks count : ℕ) → Counts c ticks count (raised (ltb c ticks) count)
unfolding raised
raised_counts c ticks count = record {
  rises = λ h l. rw (lt-ltb c ticks h, lt-ltb count 65535 l);
  stops = λ h l. rw (lt-ltb c ticks h, le-ltb count 65535 l);
  keeps = λ h. rw (le-ltb c ticks h);
}

-- the state after a report of a task that has a count
counted_so : (tasks : List Task) (task ticks : ℕ) (s : State) → task < length s.counts
    → Counted task (get_or tasks task no_task).c ticks s (counted (exceeds tasks task ticks) task s)
unfolding raised_at
counted_so tasks task ticks s within =
    let c = (get_or tasks task no_task).c in
    let new = raised (ltb c ticks) (get_or s.counts task 0) in
    record {
      its_own = rw (get_or-set_same s.counts task new 0 within) (raised_counts c ticks (get_or s.counts task 0));
      no_other = λ i other. get_or-set_other s.counts task i new 0 other;
      as_many = length-set s.counts task new;
      row_stays = refl;
      mark_stays = refl;
    }

counts_one : (c ticks before a b : ℕ) → Counts c ticks before a → Counts c ticks before b → a ≡ b
counts_one c ticks before a b one two =
    ⊎_elim
    (λ (h : c < ticks). ⊎_elim (λ (l : before < 65535). one.rises h l ∙ sym (two.rises h l)) (λ (l : 65535 ≤ before). one.stops h l ∙ sym (two.stops h l)) (lt_or_ge before 65535))
    (λ (h : ticks ≤ c). one.keeps h ∙ sym (two.keeps h))
    (lt_or_ge c ticks)

counted_one : (task c ticks : ℕ) (s a b : State) → Counted task c ticks s a → Counted task c ticks s b → a ≡ b
counted_one task c ticks s a b one two =
    let row : a.row ≡ b.row = one.row_stays ∙ sym two.row_stays in
    let mark : a.first ≡ b.first = one.mark_stays ∙ sym two.mark_stays in
    let counts : a.counts ≡ b.counts = ext_get_or 0 a.counts b.counts (one.as_many ∙ sym two.as_many) (λ i h. go i (eqb i task) refl) in
    λ i. record { row = row i; first = mark i; counts = counts i }
  where
    go : (i : ℕ) (same : Bool) → eqb i task ≡ same → get_or a.counts i 0 ≡ get_or b.counts i 0
    go i true q = rw (eqb-true i task q) (counts_one c ticks (get_or s.counts task 0) _ _ one.its_own two.its_own)
    go i false q = let other = eqb-false i task q in one.no_other i other ∙ sym (two.no_other i other)

-- two tests that say the same
same_test : {P : Type 0} (a b : Bool) → (a ≡ true) ↔ P → (b ≡ true) ↔ P → a ≡ b
same_test true true one two = refl
same_test false false one two = refl
same_test true false one two = sym (two.1 (one.0 refl))
same_test false true one two = one.1 (two.0 refl)

-- One of three holds

module _ (request : List ℕ) (task ticks : ℕ) (s : State) where
  data Which : Type 0 where
    own_case : (number : ℕ) → reading request ≡ unreadable number → Which
    unknown_case : OfTasks request task ticks s (λ tasks. length tasks ≤ task) → Which
    taken_case : OfTasks request task ticks s (λ tasks. task < length tasks) → Which

  which : Which
  which = go (reading request) refl
    where
      go : (r : Reading) → reading request ≡ r → Which
      go (unreadable number) is = own_case number is
      go (readable tasks pairs g) is =
          ⊎_elim (λ (h : task < length tasks). taken_case (tasks, pairs, g, is, h)) (λ (h : length tasks ≤ task). unknown_case (tasks, pairs, g, is, h))
          (lt_or_ge task (length tasks))

  not_zero : {number : ℕ} → UnreadNumber number → number ≢ 0
  not_zero (inl n) z = omega (arith, n.0)
  not_zero (inr n) z = omega arith

  -- Each gives its number

  abbrev answer : Reported
  answer = reported (reading request) task ticks s

  numbered : (number : ℕ) → answer ≡ report_refused number s → answer.refusal ≡ number
  numbered number e = ap (λ (r : Reported). r.refusal) e

  own_number : (number : ℕ) → reading request ≡ unreadable number → answer.refusal ≡ number
  own_number number is = numbered number (report_unreadable (reading request) task ticks s number is)

  unknown_number : OfTasks request task ticks s (λ tasks. length tasks ≤ task) → answer.refusal ≡ 16
  unknown_number (tasks, pairs, g, is, h) = numbered 16 (report_unknown (reading request) task ticks s tasks pairs g is h)

  taken_number : OfTasks request task ticks s (λ tasks. task < length tasks) → answer.refusal ≡ 0
  taken_number (tasks, pairs, g, is, h) = ap (λ (r : Reported). r.refusal) (report_counted (reading request) task ticks s tasks pairs g is h)

  -- and the number tells which one holds
  abbrev Tells : ℕ → Type 0
  Tells n = (n ≡ 16 → OfTasks request task ticks s (λ tasks. length tasks ≤ task)) × (n ≡ 0 → OfTasks request task ticks s (λ tasks. task < length tasks))

  own_tells : (number : ℕ) → UnreadNumber number → Tells number
  own_tells number (inl n) = (λ e. absurd (omega (arith, n.1)), λ e. absurd (omega (arith, n.0)))
  own_tells number (inr n) = (λ e. absurd (omega arith), λ e. absurd (omega arith))

  tells : Which → Tells answer.refusal
  tells (own_case number is) = rw (own_number number is) (own_tells number (unreadable_number request number is))
  tells (unknown_case c) = rw (unknown_number c) (λ e. c, λ e. absurd (omega arith))
  tells (taken_case c) = rw (taken_number c) (λ e. absurd (omega arith), λ e. c)

  -- Above C

  abbrev Above : Type 0
  Above = OfTasks request task ticks s (λ tasks. (task < length tasks) × ((get_or tasks task no_task).c < ticks))

  over_then : answer.over ≡ true → Above
  unfolding overran
  over_then e = go (reading request) refl (sym (report_over (reading request) task ticks s) ∙ e)
    where
      go : (r : Reading) → reading request ≡ r → overran r task ticks ≡ true → Above
      go (unreadable number) is q = absurd (let z : ◌≡◌ {A = ℕ} 0 1 = cc in omega arith)
      go (readable tasks pairs g) is q =
          let both = both_true (ltb task (length tasks)) (exceeds tasks task ticks) q in
          (tasks, pairs, g, is, (ltb-true task (length tasks) both.0, ltb-true (get_or tasks task no_task).c ticks both.1))

  then_over : Above → answer.over ≡ true
  unfolding overran
  then_over (tasks, pairs, g, is, (h, l)) =
      report_over (reading request) task ticks s ∙ rw (is, lt-ltb task (length tasks) h, lt-ltb (get_or tasks task no_task).c ticks l)

  -- THE THEOREM: for all byte strings, task numbers, ticks and states with "a count for each of 16 tasks".
  module _ (sixteen : length s.counts ≡ 16) where
    state_is : OfTasks request task ticks s (λ tasks. task < length tasks)
        → OfTasks request task ticks s (λ tasks. Counted task (get_or tasks task no_task).c ticks s answer.state)
    state_is (tasks, pairs, g, is, h) =
        let within : task < length s.counts = omega (arith, (readable_kept request tasks pairs g is).few_tasks) in
        (tasks, pairs, g, is, rw (report_counted (reading request) task ticks s tasks pairs g is h) (counted_so tasks task ticks s within))

    pub report_exact : ReportExact request task ticks s answer
    report_exact =
        let told = tells which in
        record {
          own_number = own_number;
          sixteen = (told.0, unknown_number);
          taken = (told.1, taken_number);
          state_after = λ e. state_is (told.1 e);
          above = (over_then, then_over);
          refused_still = report_refused_still (reading request) task ticks s;
        }

  -- THE LAW: an answer that meets the statement is the only one.
  module _ (r r' : Reported) (one : ReportExact request task ticks s r) (two : ReportExact request task ticks s r') where
    same_over : r.over ≡ r'.over
    same_over = same_test r.over r'.over one.above two.above

    both_refused : (number : ℕ) → number ≢ 0 → r.refusal ≡ number → r'.refusal ≡ number → r ≡ r'
    both_refused number ne e f =
        let n : r.refusal ≡ r'.refusal = e ∙ sym f in
        let state : r.state ≡ r'.state = one.refused_still (λ z. ne (sym e ∙ z)) ∙ sym (two.refused_still (λ z. ne (sym f ∙ z))) in
        λ i. record { refusal = n i; over = same_over i; state = state i }

    both_taken : r.refusal ≡ 0 → r'.refusal ≡ 0 → r ≡ r'
    both_taken e f = go (one.state_after e) (two.state_after f)
      where
        go : OfTasks request task ticks s (λ tasks. Counted task (get_or tasks task no_task).c ticks s r.state)
            → OfTasks request task ticks s (λ tasks. Counted task (get_or tasks task no_task).c ticks s r'.state) → r ≡ r'
        go (tasks, pairs, g, is, c) (tasks', pairs', g', is', c') =
            let both : readable tasks pairs g ≡ readable tasks' pairs' g' = sym is ∙ is' in
            let same : tasks' ≡ tasks = cc in
            let again = subst (λ (l : List Task). Counted task (get_or l task no_task).c ticks s r'.state) same c' in
            let n : r.refusal ≡ r'.refusal = e ∙ sym f in
            let state : r.state ≡ r'.state = counted_one task (get_or tasks task no_task).c ticks s r.state r'.state c again in
            λ i. record { refusal = n i; over = same_over i; state = state i }

    pub report_alone : r ≡ r'
    report_alone = go which
      where
        go : Which → r ≡ r'
        go (own_case number is) = both_refused number (not_zero (unreadable_number request number is)) (one.own_number number is) (two.own_number number is)
        go (unknown_case c) = both_refused 16 (λ z. omega arith) (one.sixteen.1 c) (two.sixteen.1 c)
        go (taken_case c) = both_taken (one.taken.1 c) (two.taken.1 c)
