-- A started job starts at its release or later, and C or more before its deadline; and successive jobs are released T apart. That gives both bounds.
-- Nothing but the claim about the flight is used.
use Rattle.std.specs.Prelude.{◌≡◌, ◌⊎◌, List, ℕ, ◌+◌, ◌*◌, ◌≤◌, ◌<◌}
use Rattle.std.proofs.Common.{sym, inl, inr, ⊎_elim, eq-or-lt_of_le, mul-le-mul_right, arith}
use Rattle.cursor.specs.ChoiceLaws.{lt_or_ge}
use Rattle.table.specs.Table.{Table, table, decode}
use Rattle.model.specs.Plan.{Instance, task_at}
use Rattle.model.specs.Good.{Good}
use Rattle.model.specs.Within.{Within}
use Rattle.model.specs.WithinLaws.{within_good}
use Rattle.model.specs.Described.{Accepted}
use Rattle.flight.specs.Calls.{Call, height}
use Rattle.flight.specs.Timing.{KeepToC, released_in, due_in}
use Rattle.flight.specs.Flight.{frames_flown, plain_after, Started, starts, Flight}
use Rattle.flight.specs.Runs.{run_starts, one_place, started_job}
use Rattle.flight.specs.Theorem.{flight}
use Rattle.flight_spacing.specs.Spacing.{Successive, Apart, HasStarted, Spacing}
use Rattle.flight_spacing.specs.SuccessiveLaws.{task_kept, same_release, period_later}

module _ (x : Instance) (g : Good x) (table_bytes : List ℕ) (t : Table) (calls : List Call) (actual : ℕ → ℕ → ℕ)
    (flies : Flight x table_bytes t calls actual) where
  abbrev At : ℕ → ℕ → ℕ → ℕ → ℕ → Type 0
  At = Started x table_bytes t calls actual

  abbrev start_at : ℕ → ℕ → ℕ
  start_at = starts x table_bytes t calls actual

  pub apart : (i j q k r : ℕ) → Successive x i j q k r → (m p : ℕ) → At i j q m p → (n o : ℕ) → At i k r n o → Apart (task_at x i) (start_at m p) (start_at n o)
  apart i j q k r next m p one n o two = record {
    at_least = omega (arith, next.one_period, flies.leaves_time i j q m p one, flies.not_before_release i k r n o two);
    at_most = omega (arith, next.one_period, flies.leaves_time i k r n o two, flies.not_before_release i j q m p one);
  }

  -- D ≤ T, so the earlier job is due by the later one's release: where the later one has started, the earlier one has run
  none_left_out : (i j q k r : ℕ) → Successive x i j q k r → HasStarted x table_bytes t calls actual i k r → HasStarted x table_bytes t calls actual i j q
  none_left_out i j q k r next (n, o, two) =
      let known = next.first_is.known in
      let flown : n + 1 ≤ (plain_after t calls).m = omega (arith, flies.frames_are, two.served_there.frame_flown) in
      let by : (n + 1) * t.f ≤ (plain_after t calls).m * t.f = mul-le-mul_right t.f flown in
      let due : due_in x q i j ≤ (plain_after t calls).m * t.f =
      omega (arith, next.one_period, (task_kept x g i known).due, flies.not_before_release i k r n o two, flies.ends_in_frame n o two.served_there) in
      run_starts (height t) (frames_flown table_bytes calls) i j q (omega (arith, flies.due_ran_once i j next.first_is q due))

  -- jobs of a task start in the order of their releases
  in_order : (i j q k r m p n o : ℕ) → At i j q m p → At i k r n o → released_in x q i j < released_in x r i k → start_at m p < start_at n o
  in_order i j q k r m p n o one two l =
      let known = (started_job x table_bytes t calls actual flies i j q m p one).known in
      let kept = task_kept x g i known in
      omega (arith, period_later x g i known j q k r l, kept.some, kept.due, flies.leaves_time i j q m p one, flies.not_before_release i k r n o two)

  -- and a job starts at one place
  same_start : (i j q k r m p n o : ℕ) → At i j q m p → At i k r n o → released_in x q i j ≡ released_in x r i k → (m ≡ n) × (p ≡ o)
  same_start i j q k r m p n o one two e =
      let is = started_job x table_bytes t calls actual flies i j q m p one in
      let same = same_release x g i is.known j q k r is (started_job x table_bytes t calls actual flies i k r n o two) e in
      let again : At i j q n o = rw (same.0, same.1) two in
      one_place (height t) (frames_flown table_bytes calls) i j q (flies.none_twice i j is q) m p n o one again

  module _ (i j q k r : ℕ) (next : Successive x i j q k r) (m p : ℕ) (one : At i j q m p) (n o : ℕ) (two : At i k r n o)
      (l s u v : ℕ) (third : At i l s u v) (after : start_at m p ≤ start_at u v) (before : start_at u v ≤ start_at n o) where
    not_earlier : released_in x q i j ≤ released_in x s i l
    not_earlier =
        ⊎_elim (λ w. absurd (omega (arith, in_order i l s j q u v m p third one w))) (λ w. w) (lt_or_ge (released_in x s i l) (released_in x q i j))

    not_later : released_in x s i l ≤ released_in x r i k
    not_later =
        ⊎_elim (λ w. absurd (omega (arith, in_order i k r l s n o u v two third w))) (λ w. w) (lt_or_ge (released_in x r i k) (released_in x s i l))

    none_between : ((u ≡ m) × (v ≡ p)) ⊎ ((u ≡ n) × (v ≡ o))
    none_between = ⊎_elim first second (eq-or-lt_of_le not_earlier)
      where
        first : released_in x q i j ≡ released_in x s i l → ((u ≡ m) × (v ≡ p)) ⊎ ((u ≡ n) × (v ≡ o))
        first e = inl (same_start i l s j q u v m p third one (sym e))

        second : released_in x q i j < released_in x s i l → ((u ≡ m) × (v ≡ p)) ⊎ ((u ≡ n) × (v ≡ o))
        second w =
            let period = period_later x g i next.first_is.known j q l s w in
            inr (same_start i l s k r u v n o third two (omega (arith, next.one_period, not_later)))

  pub spaced : Spacing x table_bytes t calls actual
  spaced = record { apart = apart; none_left_out = none_left_out; none_between = none_between }

-- THE THEOREM: of the same requests, tables, lists of calls and actual times as the flight's.
pub spacing : (request_bytes table_bytes : List ℕ) (x : Instance) (t : Table) → Within request_bytes x → decode table_bytes ≡ table t → Accepted x t
    → (calls : List Call) (actual : ℕ → ℕ → ℕ) → KeepToC x (frames_flown table_bytes calls) actual → Spacing x table_bytes t calls actual
spacing request_bytes table_bytes x t within says a calls actual keep =
    spaced x (within_good request_bytes x within) table_bytes t calls actual (flight request_bytes table_bytes x t within says a calls actual keep)
