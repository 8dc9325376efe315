-- The four counts of phases, read off the 8 bytes that bus_phases filled: where it answered 0, they are the counts of the call below it.
use Rattle.std.specs.Prelude.{ℕ, ◌+◌, ◌≡◌, List, pos, get_or}
use Rattle.phases.specs.Phases.{phases}
use Rattle.phases.specs.Numbered.{PhaseCounts}
use Rattle.lent.specs.Words.{u16_of}
use Rattle.bus.specs.Phases.{phases_reply, phases_counts}

-- the u16 at a place
abbrev pub word_at : List ℕ → ℕ → ℕ
word_at bytes at = u16_of (get_or bytes at 0) (get_or bytes (at + 1) 0)

pub record SaysCounts (bytes : List ℕ) (found : PhaseCounts) : Type 0 where
  pub tables : word_at bytes 0 ≡ found.tables
  pub nines : word_at bytes 2 ≡ found.nines
  pub tens : word_at bytes 4 ≡ found.tens
  pub ended : word_at bytes 6 ≡ found.ended

-- bus_phases answered 0
pub record PhasesTold (allowance : ℕ) (request : List ℕ) (task : ℕ) (counts : List ℕ) : Type 0 where
  pub accepted : (phases allowance request task).refusal ≡ 0
  pub says : SaysCounts (phases_counts allowance request task counts) (phases allowance request task)

abbrev pub PhasesBack : Type 0
PhasesBack = (allowance : ℕ) (request : List ℕ) (task : ℕ) (counts : List ℕ) → phases_reply allowance request task counts ≡ pos 0
    → PhasesTold allowance request task counts
