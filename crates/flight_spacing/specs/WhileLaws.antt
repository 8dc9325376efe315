-- The bounds where only what was served before the later start kept to its C. Cut all times at C: then all keep to it, and the flight's claim holds. Nothing that
-- was served before the later start is cut, so both starts stay.
use Rattle.std.specs.Prelude.{◌≡◌, ◌⊎◌, List, [], length, get_or}
use Rattle.std.proofs.Math.Path.{refl}
use Rattle.std.proofs.Common.{sym, eq-or-lt_of_le, mul-le-mul_right, arith}
use Rattle.std.proofs.Math.Logic.{inl, inr, ⊎_elim}
use Prim.Native.Nat.{ℕ, zero, suc, ◌+◌, ◌*◌, ◌≤◌, ◌<◌, min}
use Rattle.cursor.specs.ChoiceLaws.{lt_or_ge}
use Rattle.table.specs.Table.{Entry, Table, table, decode}
use Rattle.model.specs.Plan.{Instance, task_at}
use Rattle.model.specs.Good.{Good}
use Rattle.model.specs.Within.{Within}
use Rattle.model.specs.WithinLaws.{within_good}
use Rattle.model.specs.Described.{Accepted}
use Rattle.flight.specs.Calls.{Call}
use Rattle.flight.specs.Timing.{served_at, KeepToC, start_time, finish}
use Rattle.flight.specs.Flight.{frames_flown, Flight}
use Rattle.flight.specs.OnTime.{frame_begins, one_by_one}
use Rattle.flight.specs.Theorem.{flight}
use Rattle.flight_spacing.specs.Spacing.{Before, KeepBefore, ApartWhile}
use Rattle.flight_spacing.specs.SuccessiveLaws.{task_kept}
use Rattle.flight_spacing.specs.SpacingLaws.{apart}

-- an entry that starts earlier was served before
module _ (g f : ℕ) (actual : ℕ → ℕ → ℕ) (m p n o : ℕ) (in_frame : finish g f actual n o ≤ (n + 1) * f) (earlier : start_time g f actual m p < start_time g f actual n o) where
  not_in_later : n < m → ⊥
  not_in_later l =
      let w : (n + 1) * f ≤ m * f = mul-le-mul_right f (let k : n + 1 ≤ m = omega arith in k) in
      omega (arith, frame_begins g f actual m p)

  in_same : m ≡ n → p < o
  in_same e = ⊎_elim (λ w. w) (λ w. ⊎_elim at_it behind (eq-or-lt_of_le w)) (lt_or_ge p o)
    where
      then : start_time g f actual n p < start_time g f actual n o
      then = rw e at earlier

      at_it : o ≡ p → p < o
      at_it same = absurd (let k : start_time g f actual n p < start_time g f actual n p = rw same at then in omega arith)

      behind : o < p → p < o
      behind l = absurd (omega (arith, then, one_by_one g f actual n o p l))

  served_before : Before m p n o
  served_before = ⊎_elim (λ w. inl w) (λ w. ⊎_elim (λ e. inr (sym e, in_same (sym e))) (λ l. absurd (not_in_later l)) (eq-or-lt_of_le w)) (lt_or_ge m n)

module _ (x : Instance) (frames : List (List Entry)) (actual : ℕ → ℕ → ℕ) where
  abbrev cut_at_c : ℕ → ℕ → ℕ
  cut_at_c m p = min (actual m p) (task_at x (served_at frames m p).task).c

  cut_keeps : KeepToC x frames cut_at_c
  cut_keeps m p s = omega arith

  module _ (n o : ℕ) (keep : KeepBefore x frames actual n o) where
    -- a start up to the later one is not cut
    same_start : (f m p : ℕ) → m < length frames → p ≤ length (get_or frames m []) → (m < n) ⊎ ((m ≡ n) × (p ≤ o))
        → start_time x.g f cut_at_c m p ≡ start_time x.g f actual m p
    unfolding start_time
    same_start f m zero flown filled h = refl
    same_start f m (suc p) flown filled h =
        omega (arith, kept, same_start f m p flown (omega (arith, filled)) (⊎_elim (λ w. inl w) (λ w. inr (w.0, omega (arith, w.1))) h))
      where
        before : Before m p n o
        before = ⊎_elim (λ w. inl w) (λ w. inr (w.0, omega (arith, w.1))) h

        kept : actual m p ≤ (task_at x (served_at frames m p).task).c
        kept = keep m p (record { frame_flown = flown; place_filled = omega (arith, filled) }) before

module _ (x : Instance) (good : Good x) (table_bytes : List ℕ) (t : Table) (calls : List Call)
    (flies : (actual : ℕ → ℕ → ℕ) → KeepToC x (frames_flown table_bytes calls) actual → Flight x table_bytes t calls actual) where
  pub apart_while : (actual : ℕ → ℕ → ℕ) → ApartWhile x table_bytes t calls actual
  apart_while actual i j q k r next m p one n o two keep =
      let frames : List (List Entry) = frames_flown table_bytes calls in
      let cut : ℕ → ℕ → ℕ = cut_at_c x frames actual in
      let flown = flies cut (cut_keeps x frames actual) in
      let w = apart x good table_bytes t calls cut flown i j q k r next m p one n o two in
      let kept = task_kept x good i next.first_is.known in
      let in_frame = flown.ends_in_frame n o two.served_there in
      let before = served_before x.g t.f cut m p n o (omega (arith, in_frame)) (omega (arith, w.at_least, kept.some, kept.due)) in
      let up_to_lem = ⊎_elim {C = (m < n) ⊎ ((m ≡ n) × (p ≤ o))} (λ l. inl l) (λ l. inr (l.0, omega (arith, l.1))) before in
      let there = one.served_there in
      let then = two.served_there in
      let first = same_start x frames actual n o keep t.f m p there.frame_flown (omega (arith, there.place_filled)) up_to_lem in
      let second = same_start x frames actual n o keep t.f n o then.frame_flown (omega (arith, then.place_filled)) (inr (refl, omega arith)) in
      record { at_least = omega (arith, w.at_least, first, second); at_most = omega (arith, w.at_most, first, second) }

-- For every request within the limits, every table accepted for it, every list of calls and all actual times.
pub spacing_while : (request_bytes table_bytes : List ℕ) (x : Instance) (t : Table) → Within request_bytes x → decode table_bytes ≡ table t → Accepted x t
    → (calls : List Call) (actual : ℕ → ℕ → ℕ) → ApartWhile x table_bytes t calls actual
spacing_while request_bytes table_bytes x t within says a calls =
    apart_while x (within_good request_bytes x within) table_bytes t calls (flight request_bytes table_bytes x t within says a calls)
