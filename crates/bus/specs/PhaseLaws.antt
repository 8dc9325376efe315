-- The ways out of bus_phases.
use Rattle.std.specs.Prelude.{ℕ, ◌≤◌, ◌<◌, ◌≡◌, List, ◌++◌, ℤ, pos, length, drop}
use borrow.Author.Tests.{lt-ltb, le-ltb}
use Rattle.phases.specs.Phases.{phases}
use Rattle.phases.specs.Numbered.{PhaseCounts}
use Rattle.lent.specs.Numbers.{counts_bytes}
use Rattle.bus.specs.Reply.{refused_reply}
use Rattle.bus.specs.ReplyLaws.{reply_refused, reply_value, after_refusal, after_value}
use Rattle.bus.specs.Phases.{phases_reply, phases_counts}

module _ (allowance : ℕ) (request : List ℕ) (task : ℕ) (counts : List ℕ) where
  abbrev pub PhasesAnswered : ℤ → List ℕ → Type 0
  PhasesAnswered z counts' = (z ≡ phases_reply allowance request task counts) × (counts' ≡ phases_counts allowance request task counts)

  pub no_room : length counts < 8 → PhasesAnswered (refused_reply 99) counts
  unfolding phases_reply phases_counts
  no_room h = let e = lt-ltb (length counts) 8 h in (rw e, rw e)

  module _ (room : 8 ≤ length counts) (found : PhaseCounts) (is : found ≡ phases allowance request task) where
    pub phases_refused : (found.refusal ≡ 0 → ⊥) → PhasesAnswered (refused_reply found.refusal) counts
    unfolding phases_reply phases_counts
    phases_refused h = rw (le-ltb (length counts) 8 room, ← is) (reply_refused found.refusal 0 h, after_refusal found.refusal _ counts h)

    pub phases_counted : found.refusal ≡ 0 → PhasesAnswered (pos 0) (counts_bytes found ++ drop 8 counts)
    unfolding phases_reply phases_counts
    phases_counted h = rw (le-ltb (length counts) 8 room, ← is) (reply_value found.refusal 0 h, after_value found.refusal _ counts h)
