-- The bytes of the job records, read as include/bus.h says it: record y of bus_timeline's list is record y of the timeline.
use Rattle.std.specs.Prelude.{ℕ, ◌*◌, ◌<◌, ◌≡◌, List, length, get_or, drop}
use Rattle.job_records.specs.Timeline.{no_record, records_in}
use Rattle.job_records.specs.declared.JobRecord.{JobRecord}
use Rattle.lent.specs.Words.{u16_of}
use Rattle.bus.specs.Timeline.{filling_in_c, timeline_records}

-- what the first 8 bytes say: task, job, and release, due and frame, low byte first
unfoldable pub record_in : List ℕ → JobRecord
record_in bytes = record {
  task = get_or bytes 0 0;
  job = get_or bytes 1 0;
  release = u16_of (get_or bytes 2 0) (get_or bytes 3 0);
  due = u16_of (get_or bytes 4 0) (get_or bytes 5 0);
  frame = u16_of (get_or bytes 6 0) (get_or bytes 7 0);
}

abbrev pub RecordsBack : Type 0
RecordsBack = (request table records : List ℕ) (y : ℕ) → y < length (records_in (filling_in_c request table records))
    → record_in (drop (8 * y) (timeline_records request table records)) ≡ get_or (records_in (filling_in_c request table records)) y no_record
