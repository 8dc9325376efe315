-- The laws of next-frame that crates above go by: what it answers of a table, that what it serves rises, and how its state moves.
use Rattle.std.specs.Prelude.{ℕ, suc, ◌+◌, ◌%◌, ◌≤◌, ◌<◌, ◌≡◌, Bool, not, cond, List, [], ◌∷◌, length, ltb, eqb}
use Rattle.std.proofs.Math.Path.{refl}
use Rattle.std.proofs.Common.{sym, ◌∙◌, mod-lt, mod-eq_of_lt, add-one}
use Rattle.std.proofs.Math.Bool.{true, false}
use Rattle.std.proofs.Math.Nat.{mod-le, mod_self, suc-mod, zero-mod}
use native.Mathlib.Omega.{arith}
use borrow.Author.Tests.{ltb-true, ltb-false, eqb-true, eqb-false, lt-ltb, le-ltb, eq-eqb, ne_eqb}
use Rattle.cursor.specs.Choice.{keep}
use Rattle.table.specs.Table.{Entry, Table, Decoded, table, malformed, decode, row_of}
use Rattle.table.specs.WellFormed.{RisingFrom}
use Rattle.table.specs.RisingLaws.{rising_none, rising_first, rising_cons, rising_less, rising_few, row_rises}
use Rattle.table.specs.Inverse.{decode_wellformed}
use Rattle.table.specs.AnswerLaws.{given_count, given_refusal}
use Rattle.dispatcher.specs.Dispatch.{no_overruns, fresh_state, state_at, uncarried, served, shown, no_frame, onward, around, moved, next_frame}
use Rattle.dispatcher.specs.declared.State.{State}

-- What is served

pub uncarried_none : uncarried [] ≡ []
unfolding uncarried
uncarried_none = refl

module _ (e : Entry) (es : List Entry) where
  pub uncarried_kept : e.carried ≡ false → uncarried (e ∷ es) ≡ e ∷ uncarried es
  unfolding uncarried
  uncarried_kept h = rw h

  pub uncarried_passed : e.carried ≡ true → uncarried (e ∷ es) ≡ uncarried es
  unfolding uncarried
  uncarried_passed h = rw h

uncarried_rises : (es : List Entry) (low : ℕ) → RisingFrom low es → RisingFrom low (uncarried es)
uncarried_rises [] low h = rw uncarried_none (rising_none low)
uncarried_rises (e ∷ es) low h = go e.carried refl (uncarried_rises es (e.task + 1) (rising_first low e es h).rest)
  where
    go : (b : Bool) → e.carried ≡ b → RisingFrom (e.task + 1) (uncarried es) → RisingFrom low (uncarried (e ∷ es))
    go true q rest = rw (uncarried_passed e es q) (rising_less (uncarried es) low (e.task + 1) (omega (arith, (rising_first low e es h).above)) rest)
    go false q rest =
        let r = rising_first low e es h in
        rw (uncarried_kept e es q) (rising_cons low e (uncarried es) (record { above = r.above; below = r.below; small = r.small; rest = rest }))

-- what is served of a rising row rises
pub served_rises : (first : Bool) (es : List Entry) → RisingFrom 0 es → RisingFrom 0 (served first es)
served_rises true es h = uncarried_rises es 0 h
served_rises false es h = h

-- and is not more than the row
pub served_few : (first : Bool) (es : List Entry) → length (served first es) ≤ length es
unfolding uncarried
served_few false es = omega arith
served_few true [] = omega arith
served_few true (e ∷ es) = go e.carried (served_few true es)
  where
    go : (b : Bool) → length (uncarried es) ≤ length es → length (keep (not b) e (uncarried es)) ≤ suc (length es)
    go true k = omega arith
    go false k = omega arith

-- The answer

module _ (bytes : List ℕ) (s : State) where
  module _ (t : Table) (is : decode bytes ≡ table t) where
    pub frame_served_lem : s.row < length t.rows → next_frame (decode bytes) s ≡ shown (served s.first (row_of t s.row)) (moved (length t.rows) s)
    unfolding next_frame
    frame_served_lem h = rw (is, lt-ltb s.row (length t.rows) h)

    -- 15
    pub frame_behind : length t.rows ≤ s.row → next_frame (decode bytes) s ≡ no_frame 15 s
    unfolding next_frame
    frame_behind h = rw (is, le-ltb s.row (length t.rows) h)

  -- 12
  pub frame_malformed : decode bytes ≡ malformed → next_frame (decode bytes) s ≡ no_frame 12 s
  unfolding next_frame
  frame_malformed is = rw is

  pub frame_few : (next_frame (decode bytes) s).count ≤ 16
  unfolding next_frame
  frame_few = go (decode bytes) refl
    where
      in_table : (t : Table) → decode bytes ≡ table t → (b : Bool)
          → (cond b (shown (served s.first (row_of t s.row)) (moved (length t.rows) s)) (no_frame 15 s)).count ≤ 16
      in_table t is true =
          let es = served s.first (row_of t s.row) in
          let rises = served_rises s.first (row_of t s.row) (row_rises t s.row (decode_wellformed bytes t is)) in
          omega (arith, given_count es, rising_few es 0 (omega arith) rises)
      in_table t is false = omega arith

      go : (d : Decoded) → decode bytes ≡ d → (next_frame d s).count ≤ 16
      go (table t) is = in_table t is (ltb s.row (length t.rows))
      go malformed is = omega arith

-- a refusal leaves the state as it was
pub frame_refused_still : (d : Decoded) (s : State) → ((next_frame d s).refusal ≡ 0 → ⊥) → (next_frame d s).state ≡ s
unfolding next_frame
frame_refused_still (table t) s ne = go (ltb s.row (length t.rows)) ne
  where
    go : (b : Bool) → ((cond b (shown (served s.first (row_of t s.row)) (moved (length t.rows) s)) (no_frame 15 s)).refusal ≡ 0 → ⊥)
        → (cond b (shown (served s.first (row_of t s.row)) (moved (length t.rows) s)) (no_frame 15 s)).state ≡ s
    go true ne = absurd (ne (given_refusal (served s.first (row_of t s.row))))
    go false ne = refl
frame_refused_still malformed s ne = refl

-- The state

module _ (height : ℕ) (s : State) where
  pub moved_next : s.row + 1 < height → moved height s ≡ onward s
  unfolding moved
  moved_next h = rw (ne_eqb (s.row + 1) height (λ e. omega arith))

  pub moved_last : s.row + 1 ≡ height → moved height s ≡ around s
  unfolding moved
  moved_last e = rw (eq-eqb (s.row + 1) height e)

-- no count changes
pub frame_counts : (d : Decoded) (s : State) → (next_frame d s).state.counts ≡ s.counts
unfolding next_frame moved
frame_counts (table t) s = go (ltb s.row (length t.rows)) (eqb (s.row + 1) (length t.rows))
  where
    go : (b last : Bool) → (cond b (shown (served s.first (row_of t s.row)) (cond last (around s) (onward s))) (no_frame 15 s)).state.counts ≡ s.counts
    go true true = refl
    go true false = refl
    go false last = refl
frame_counts malformed s = refl

pub fresh_at : (height : ℕ) → 0 < height → fresh_state ≡ state_at height 0 no_overruns
fresh_at height pos = rw (zero-mod height, lt-ltb 0 height pos)

pub moved_at : (height m : ℕ) (v : List ℕ) → 0 < height → moved height (state_at height m v) ≡ state_at height (m + 1) v
moved_at height m v pos = go (eqb (m % height + 1) height) refl
  where
    next : (m + 1) % height ≡ suc (m % height) % height
    next = rw add-one (suc-mod m height)

    mark : (b : Bool) → ltb m height ≡ b → suc (m % height) < height → ltb (m + 1) height ≡ b
    mark true q h = let before : m < height = ltb-true m height q in lt-ltb (m + 1) height (omega (arith, rw (mod-eq_of_lt before) at h))
    mark false q h = let behind : height ≤ m = ltb-false m height q in le-ltb (m + 1) height (omega arith)

    go : (b : Bool) → eqb (m % height + 1) height ≡ b → moved height (state_at height m v) ≡ state_at height (m + 1) v
    go true e =
        let last : m % height + 1 ≡ height = eqb-true (m % height + 1) height e in
        let full : suc (m % height) ≡ height = omega arith in
        let row : (m + 1) % height ≡ 0 = next ∙ rw full (mod_self height) in
        let cleared : ltb (m + 1) height ≡ false = le-ltb (m + 1) height (omega (arith, mod-le m height)) in
        moved_last height (state_at height m v) last ∙ rw (row, cleared)
    go false e =
        let ne = eqb-false (m % height + 1) height e in
        let less : suc (m % height) < height = omega (arith, mod-lt m pos) in
        let row : (m + 1) % height ≡ m % height + 1 = next ∙ mod-eq_of_lt less ∙ sym (add-one (m % height)) in
        moved_next height (state_at height m v) (omega arith) ∙ rw (row, mark (ltb m height) refl less)
