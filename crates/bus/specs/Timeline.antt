-- bus_timeline: what it answers and leaves in the list. The list has as many places as whole records of 8 bytes fit.
use Rattle.std.specs.Prelude.{ℕ, ◌*◌, ◌/◌, ℤ, length, drop}
use mathlib.Core.List.{List, ◌++◌, flat_map}
use Rattle.job_records.specs.Timeline.{Timeline, filling, records_in, filled_answer}
use Rattle.job_records.specs.Numbered.{RecordsFilled}
use Rattle.lent.specs.Records.{record_bytes}
use Rattle.bus.specs.Reply.{reply}

abbrev pub filled_reply : RecordsFilled → ℤ
filled_reply r = reply r.refusal r.count

-- the records at the front, and behind them what was there; a refusal has no records
abbrev pub filled_bytes : Timeline → List ℕ → List ℕ
filled_bytes tl records = flat_map record_bytes (records_in tl) ++ drop (8 * length (records_in tl)) records

module _ (request table records : List ℕ) where
  abbrev pub filling_in_c : Timeline
  filling_in_c = filling request table (length records / 8)

  -- the number of jobs, or the number negated
  unfoldable pub timeline_reply : ℤ
  timeline_reply = filled_reply (filled_answer filling_in_c)

  -- the bytes of no whole place stay too
  unfoldable pub timeline_records : List ℕ
  timeline_records = filled_bytes filling_in_c records
