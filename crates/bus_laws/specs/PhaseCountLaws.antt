-- The bytes of the counts of phases give them back.
use Rattle.std.specs.Prelude.{ℕ, ◌≤◌, List, ◌++◌, length, drop}
use Rattle.std.proofs.Common.{◌∙◌, ⊎_elim, arith, le-ltb}
use Rattle.cursor.specs.ChoiceLaws.{lt_or_ge}
use Rattle.phases.specs.Phases.{phases}
use Rattle.phases.specs.Numbered.{PhaseCounts}
use Rattle.lent.specs.Numbers.{counts_bytes}
use Rattle.lent.specs.NumberLaws.{four_read}
use Rattle.bus.specs.ReplyLaws.{after_value}
use Rattle.bus.specs.Phases.{phases_reply, phases_counts}
use Rattle.bus.specs.PhaseLaws.{no_room}
use Rattle.bus_laws.specs.Answered.{not_refused, reply_told}
use Rattle.bus_laws.specs.PhaseCounts.{SaysCounts, PhasesTold, PhasesBack}

counts_back : (found : PhaseCounts) (rest : List ℕ) → SaysCounts (counts_bytes found ++ rest) found
counts_back found rest = record {
  tables = four_read found rest 0 (omega arith);
  nines = four_read found rest 1 (omega arith);
  tens = four_read found rest 2 (omega arith);
  ended = four_read found rest 3 (omega arith);
}

pub phases_told : PhasesBack
unfolding phases_reply phases_counts
phases_told allowance request task counts e =
    ⊎_elim (λ h. absurd (not_refused 98 0 ((no_room allowance request task counts h).0 ∙ e))) room (lt_or_ge (length counts) 8)
  where
    room : 8 ≤ length counts → PhasesTold allowance request task counts
    room h =
        let enough = le-ltb (length counts) 8 h in
        let found = phases allowance request task in
        let told = reply_told found.refusal 0 0 (rw enough at e) in
        record {
          accepted = told.0;
          says = rw (enough, ← after_value found.refusal (counts_bytes found ++ drop 8 counts) counts told.0) (counts_back found (drop 8 counts));
        }
