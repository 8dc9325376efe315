-- The counts after a list, and their sum: how many accepted reports above C there were of each task, and of all.
use Prim.Native.Nat.{ℕ, zero, suc, ◌+◌, ◌≤◌, ◌<◌, min}
use Rattle.std.specs.Prelude.{◌≡◌, Bool, cond, ◌&&◌, ◌⊎◌, List, [], ◌∷◌, length, get_or, ltb}
use Rattle.std.proofs.Math.Path.{refl}
use Rattle.std.proofs.Common.{sym, ap, ◌∙◌, inl, inr, zero-add, arith}
use Rattle.std.proofs.Math.Bool.{true, false}
use Rattle.std.proofs.lemmas.Bool.{false≢true}
use Rattle.std.proofs.Math.Dec.{eqb}
use borrow.Author.Tests.{ltb-true, eqb-true, eqb-false, ne_eqb}
use Rattle.cursor.specs.Choice.{bit}
use Rattle.cursor.specs.ChoiceLaws.{lt_or_ge}
use Rattle.request.specs.Request.{Reading, readable, unreadable, reading}
use Rattle.request.specs.ReadableLaws.{readable_kept}
use Rattle.table.specs.Table.{decode}
use Rattle.dispatcher.specs.Dispatch.{fresh_state, next_frame, exceeds, reported, overran}
use Rattle.dispatcher.specs.FrameLaws.{frame_counts}
use Rattle.dispatcher.specs.ReportLaws.{report_counted, report_unknown, report_unreadable}
use Rattle.dispatcher.specs.declared.State.{State}
use Rattle.flight.specs.Calls as flight
use Rattle.flight.specs.Overruns.{overruns}
use Rattle.flight.specs.Counted.{overruns_counted}
use Rattle.timer.specs.Registers.{sum_shown, fresh_timer}
use Rattle.timer.specs.RegisterLaws.{sum_from, sum_is, write_parts, event_parts, serve_parts}
use Rattle.timer.specs.declared.Timer.{Timer}
use Rattle.flight_timer.specs.Calls.{RegisterCall, read, write, event, serve, report, line, turn, timer_from, timer_after}
use Rattle.flight_timer.specs.Told.{reports_in, above_in}

-- The counts depend on the reports alone

-- the counts after a report, on the counts before it
report_same : (r : Reading) (task ticks : ℕ) (s u : State) → s.counts ≡ u.counts → (reported r task ticks s).state.counts ≡ (reported r task ticks u).state.counts
report_same (unreadable n) task ticks s u e = rw (report_unreadable (unreadable n) task ticks s n refl, report_unreadable (unreadable n) task ticks u n refl) e
report_same (readable tasks pairs g) task ticks s u e = go (lt_or_ge task (length tasks))
  where
    r : Reading
    r = readable tasks pairs g

    go : (task < length tasks) ⊎ (length tasks ≤ task) → (reported r task ticks s).state.counts ≡ (reported r task ticks u).state.counts
    go (inl h) = rw (report_counted r task ticks s tasks pairs g refl h, report_counted r task ticks u tasks pairs g refl h, e)
    go (inr h) = rw (report_unknown r task ticks s tasks pairs g refl h, report_unknown r task ticks u tasks pairs g refl h) e

-- a serving changes none
serve_same : (bytes : List ℕ) (t : Timer) → (turn t (serve bytes)).after.state.counts ≡ t.state.counts
unfolding turn
serve_same bytes t = ap (λ (s : State). s.counts) (serve_parts (decode bytes) t).2 ∙ go t.status.due
  where
    go : (b : Bool) → (cond b (next_frame (decode bytes) t.state).state t.state).counts ≡ t.state.counts
    go true = frame_counts (decode bytes) t.state
    go false = refl

-- so they are those of a dispatcher that got the reports alone
counts_from : (t : Timer) (s : State) (calls : List RegisterCall) → t.state.counts ≡ s.counts
    → (timer_from t calls).state.counts ≡ (flight.final (flight.dispatch []) s (reports_in calls)).counts
unfolding timer_from turn reports_in flight.final flight.dispatch
counts_from t s [] e = e
counts_from t s (report bytes task ticks ∷ cs) e =
    counts_from (turn t (report bytes task ticks)).after (reported (reading bytes) task ticks s).state cs (report_same (reading bytes) task ticks t.state s e)
counts_from t s (write address value ∷ cs) e = counts_from (turn t (write address value)).after s cs (ap (λ (u : State). u.counts) (write_parts address value t).2 ∙ e)
counts_from t s (event ∷ cs) e = counts_from (turn t event).after s cs (ap (λ (u : State). u.counts) (event_parts t).2 ∙ e)
counts_from t s (serve bytes ∷ cs) e = counts_from (turn t (serve bytes)).after s cs (serve_same bytes t ∙ e)
counts_from t s (read address ∷ cs) e = counts_from t s cs e
counts_from t s (line ∷ cs) e = counts_from t s cs e

pub counts_are : (calls : List RegisterCall) (i : ℕ) → i < 16 → get_or (timer_after calls).state.counts i 0 ≡ min 65535 (overruns i (reports_in calls))
counts_are calls i h = rw (counts_from fresh_timer fresh_state calls refl) (overruns_counted i [] h (reports_in calls))

-- The sum

-- n values of a, from that at i on
unfoldable total : (ℕ → ℕ) → ℕ → ℕ → ℕ
total a zero i = 0
total a (suc n) i = a i + total a n (i + 1)

-- where each count is capped, the sum that is capped is that of the uncapped ones
capped : (counts : List ℕ) (a : ℕ → ℕ) → ((i : ℕ) → i < 16 → get_or counts i 0 ≡ min 65535 (a i)) → (n i : ℕ) → i + n ≤ 16
    → min 65535 (sum_from counts n i) ≡ min 65535 (total a n i)
unfolding sum_from total
capped counts a each zero i h = refl
capped counts a each (suc n) i h =
    let one : get_or counts i 0 ≡ min 65535 (a i) = each i (omega arith) in
    let rest : min 65535 (sum_from counts n (i + 1)) ≡ min 65535 (total a n (i + 1)) = capped counts a each n (i + 1) (omega arith) in
    omega arith

total_none : (a : ℕ → ℕ) → ((i : ℕ) → a i ≡ 0) → (n i : ℕ) → total a n i ≡ 0
unfolding total
total_none a none zero i = refl
total_none a none (suc n) i = omega (arith, none i, total_none a none n (i + 1))

total_both : (a b : ℕ → ℕ) (n i : ℕ) → total (λ j. a j + b j) n i ≡ total a n i + total b n i
unfolding total
total_both a b zero i = refl
total_both a b (suc n) i = omega (arith, total_both a b n (i + 1))

-- 1 at one place: none is seen from behind it, one from before it
module _ (task : ℕ) where
  abbrev one_there : ℕ → ℕ
  one_there i = bit (eqb task i && true)

  behind : (n i : ℕ) → task < i → total one_there n i ≡ 0
  unfolding total
  behind zero i h = refl
  behind (suc n) i h =
      let other : one_there i ≡ 0 = rw (ne_eqb task i (λ e. omega arith)) in
      omega (arith, behind n (i + 1) (omega arith))

  before : (n i : ℕ) → i ≤ task → task < i + n → total one_there n i ≡ 1
  unfolding total
  before zero i l h = absurd (omega arith)
  before (suc n) i l h = go (eqb task i) refl (λ k. before n (i + 1) k (omega arith))
    where
      go : (b : Bool) → eqb task i ≡ b → (i + 1 ≤ task → total one_there n (i + 1) ≡ 1) → one_there i + total one_there n (i + 1) ≡ 1
      go true e rest =
          let own : one_there i ≡ 1 = rw e in
          omega (arith, behind n (i + 1) (omega (arith, eqb-true task i e)))
      go false e rest =
          let ne = eqb-false task i e in
          let other : one_there i ≡ 0 = rw e in
          omega (arith, rest (omega arith))

-- one report counts once, for its own task
own_task : (task : ℕ) (over : Bool) → (over ≡ true → task < 16) → total (λ i. bit (eqb task i && over)) 16 0 ≡ bit over
own_task task true few = before task 16 0 (omega arith) (omega (arith, few refl))
own_task task false few = total_none (λ i. bit (eqb task i && false)) (λ i. none (eqb task i)) 16 0
  where
    none : (b : Bool) → bit (b && false) ≡ 0
    none true = refl
    none false = refl

-- a report that is accepted is one of 16 tasks
few_tasks : (bytes : List ℕ) (task ticks : ℕ) → overran (reading bytes) task ticks ≡ true → task < 16
unfolding overran
few_tasks bytes task ticks e = go (reading bytes) refl e
  where
    known : (b over : Bool) → b && over ≡ true → b ≡ true
    known true over q = refl
    known false over q = q

    go : (r : Reading) → reading bytes ≡ r → overran r task ticks ≡ true → task < 16
    go (readable tasks pairs g) is q =
        let below : task < length tasks = ltb-true task (length tasks) (known (ltb task (length tasks)) (exceeds tasks task ticks) q) in
        omega (arith, (readable_kept bytes tasks pairs g is).few_tasks)
    go (unreadable number) is q = absurd (false≢true q)

all_above : (calls : List RegisterCall) → total (λ i. overruns i (reports_in calls)) 16 0 ≡ above_in calls
unfolding total reports_in above_in overruns
all_above [] = refl
all_above (report bytes task ticks ∷ cs) =
    let over = overran (reading bytes) task ticks in
    let own = own_task task over (few_tasks bytes task ticks) in
    total_both (λ i. bit (eqb task i && over)) (λ i. overruns i (reports_in cs)) 16 0 ∙ omega (arith, own, all_above cs)
all_above (read address ∷ cs) = all_above cs ∙ sym (zero-add (above_in cs))
all_above (write address value ∷ cs) = all_above cs ∙ sym (zero-add (above_in cs))
all_above (event ∷ cs) = all_above cs ∙ sym (zero-add (above_in cs))
all_above (serve bytes ∷ cs) = all_above cs ∙ sym (zero-add (above_in cs))
all_above (line ∷ cs) = all_above cs ∙ sym (zero-add (above_in cs))

pub sum_of_all : (calls : List RegisterCall) → sum_shown (timer_after calls).state.counts ≡ min 65535 (above_in calls)
sum_of_all calls =
    rw (sum_is (timer_after calls).state.counts)
    (capped (timer_after calls).state.counts (λ i. overruns i (reports_in calls)) (counts_are calls) 16 0 (omega arith) ∙ ap (min 65535) (all_above calls))
