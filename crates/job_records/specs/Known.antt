-- What filling goes by: the jobs and their frames in arrays, as the answer of `known`, and the records that are made of them.
use Rattle.std.specs.Prelude.{ℕ, zero, suc, ◌+◌, List, [], ◌∷◌, map, length, get_or}
use Rattle.cursor.specs.Padded.{padded}
use Rattle.cycle.specs.Planned.{no_job}
use Rattle.cycle.specs.declared.Job.{Job}
use Rattle.job_records.specs.Timeline.{record_of, Timeline, records_in, filled_answer}
use Rattle.job_records.specs.declared.JobRecord.{JobRecord}
use Rattle.job_records.specs.declared.JobsKnown.{JobsKnown}
use Rattle.job_records.specs.Numbered as numbered

-- the job that a record is made of
abbrev pub job_in : JobRecord → Job
job_in r = record { task = r.task; number = r.job; release = r.release; due = r.due }

abbrev pub frame_in : JobRecord → ℕ
frame_in r = r.frame

-- the answer for what filling comes to: its number, how many records, and the jobs and frames that they are made of, with zeros in the unused places
abbrev pub known_answer : Timeline → numbered.JobsKnown
known_answer tl = record {
  refusal = (filled_answer tl).refusal;
  count = length (records_in tl);
  jobs = padded 128 no_job (map job_in (records_in tl));
  frames = padded 128 0 (map frame_in (records_in tl));
}

-- the record of the job at place y
abbrev pub record_here : JobsKnown → ℕ → JobRecord
record_here k y = record_of (get_or k.jobs y no_job) (get_or k.frames y 0)

-- The records, one place after the other

-- n of them, from place y on
unfoldable pub records_from : JobsKnown → ℕ → ℕ → List JobRecord
records_from k zero y = []
records_from k (suc n) y = record_here k y ∷ records_from k n (y + 1)

abbrev pub records_known : JobsKnown → List JobRecord
records_known k = records_from k k.count 0
