-- The laws of report that crates above go by.
use Rattle.std.specs.Prelude.{ℕ, ◌+◌, ◌≤◌, ◌<◌, min, ◌≡◌, refl, Bool, true, false, cond, ◌&&◌, List, length, get_or, ltb, eqb}
use Rattle.std.proofs.Common.{sym, ◌∙◌, arith, length-set, get_or-set_same, get_or-set_other}
use borrow.Author.Tests.{ltb-true, ltb-false, lt-ltb, le-ltb, eqb-true, eqb-false}
use Rattle.cursor.specs.Choice.{bit}
use Rattle.request.specs.Request.{Reading, readable, unreadable}
use Rattle.request.specs.declared.Task.{Task}
use Rattle.request.specs.declared.Pair.{Pair}
use Rattle.dispatcher.specs.Dispatch.{exceeds, raised, raised_at, counted, report_taken, report_refused, reported, overran}
use Rattle.dispatcher.specs.declared.State.{State}

module _ (r : Reading) (task ticks : ℕ) (s : State) where
  module _ (tasks : List Task) (pairs : List Pair) (g : ℕ) (is : r ≡ readable tasks pairs g) where
    pub report_counted : task < length tasks → reported r task ticks s ≡ report_taken (exceeds tasks task ticks) (counted (exceeds tasks task ticks) task s)
    unfolding reported
    report_counted h = rw (is, lt-ltb task (length tasks) h)

    -- 16
    pub report_unknown : length tasks ≤ task → reported r task ticks s ≡ report_refused 16 s
    unfolding reported
    report_unknown h = rw (is, le-ltb task (length tasks) h)

  -- 1 to 6 and 17
  pub report_unreadable : (number : ℕ) → r ≡ unreadable number → reported r task ticks s ≡ report_refused number s
  unfolding reported
  report_unreadable number is = rw is

-- a refusal leaves the state as it was
pub report_refused_still : (r : Reading) (task ticks : ℕ) (s : State) → ((reported r task ticks s).refusal ≡ 0 → ⊥) → (reported r task ticks s).state ≡ s
unfolding reported
report_refused_still (unreadable number) task ticks s ne = refl
report_refused_still (readable tasks pairs g) task ticks s ne = go (ltb task (length tasks)) ne
  where
    over : Bool
    over = exceeds tasks task ticks

    go : (b : Bool) → let a = cond b (report_taken over (counted over task s)) (report_refused 16 s) in (a.refusal ≡ 0 → ⊥) → a.state ≡ s
    go true ne = absurd (ne refl)
    go false ne = refl

-- the answer tells whether the report was above C; a refused one was not
pub report_over : (r : Reading) (task ticks : ℕ) (s : State) → (reported r task ticks s).over ≡ overran r task ticks
unfolding reported overran
report_over (unreadable number) task ticks s = refl
report_over (readable tasks pairs g) task ticks s = go (ltb task (length tasks))
  where
    over : Bool
    over = exceeds tasks task ticks

    go : (b : Bool) → (cond b (report_taken over (counted over task s)) (report_refused 16 s)).over ≡ b && over
    go true = refl
    go false = refl

pub report_refused_below : (r : Reading) (task ticks : ℕ) (s : State) → ((reported r task ticks s).refusal ≡ 0 → ⊥) → (reported r task ticks s).over ≡ false
unfolding reported
report_refused_below (unreadable number) task ticks s ne = refl
report_refused_below (readable tasks pairs g) task ticks s ne = go (ltb task (length tasks)) ne
  where
    over : Bool
    over = exceeds tasks task ticks

    go : (b : Bool) → let a = cond b (report_taken over (counted over task s)) (report_refused 16 s) in (a.refusal ≡ 0 → ⊥) → a.over ≡ false
    go true ne = absurd (ne refl)
    go false ne = refl

-- the counts stay as many
pub report_as_many : (r : Reading) (task ticks : ℕ) (s : State) → length (reported r task ticks s).state.counts ≡ length s.counts
unfolding reported raised_at
report_as_many (unreadable number) task ticks s = refl
report_as_many (readable tasks pairs g) task ticks s = go (ltb task (length tasks))
  where
    over : Bool
    over = exceeds tasks task ticks

    go : (b : Bool) → length (cond b (report_taken over (counted over task s)) (report_refused 16 s)).state.counts ≡ length s.counts
    go true = length-set s.counts task (raised over (get_or s.counts task 0))
    go false = refl

-- the count rises by one, or stays at 65,535
pub raised_is : (over : Bool) (count : ℕ) → count ≤ 65535 → raised over count ≡ min 65535 (count + bit over)
unfolding raised
raised_is true count h = go (ltb count 65535) refl
  where
    go : (b : Bool) → ltb count 65535 ≡ b → cond b (count + 1) count ≡ min 65535 (count + 1)
    go true e = let below = ltb-true count 65535 e in omega arith
    go false e = let above = ltb-false count 65535 e in omega arith
raised_is false count h = omega arith

-- the reported task's count rises, and no other
pub raised_only : (over : Bool) (task : ℕ) (counts : List ℕ) (i : ℕ) → i < length counts → get_or counts i 0 ≤ 65535
    → get_or (raised_at over task counts) i 0 ≡ min 65535 (get_or counts i 0 + bit (eqb task i && over))
unfolding raised_at
raised_only over task counts i within small = go (eqb task i) refl
  where
    go : (b : Bool) → eqb task i ≡ b → get_or (raised_at over task counts) i 0 ≡ min 65535 (get_or counts i 0 + bit (b && over))
    go true q = rw (eqb-true task i q) (get_or-set_same counts i (raised over (get_or counts i 0)) 0 within ∙ raised_is over (get_or counts i 0) small)
    go false q = get_or-set_other counts task i (raised over (get_or counts task 0)) 0 (λ e. eqb-false task i q (sym e)) ∙ omega arith

-- a report does not depend on the silent ticks
pub report_silent : (tasks : List Task) (pairs : List Pair) (g k task ticks : ℕ) (s : State)
    → reported (readable tasks pairs g) task ticks s ≡ reported (readable tasks pairs k) task ticks s
unfolding reported
report_silent tasks pairs g k task ticks s = refl
