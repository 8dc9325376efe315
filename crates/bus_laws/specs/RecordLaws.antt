-- The bytes of the records of a timeline give them back.
use Rattle.std.specs.Prelude.{ℕ, zero, suc, ◌+◌, ◌*◌, ◌<◌, ◌≡◌, length, get_or, drop}
use Rattle.std.proofs.Common.{ap, ◌∙◌, arith}
use mathlib.Core.List.{List, [], ◌∷◌, ◌++◌, flat_map, append_assoc}
use Rattle.std.proofs.Math.Seq.{drop-append-add}
use Rattle.job_records.specs.Timeline.{no_record, records_in}
use Rattle.job_records.specs.declared.JobRecord.{JobRecord}
use Rattle.lent.specs.Records.{record_bytes}
use Rattle.lent.specs.RecordLaws.{record_wide, record_task, record_job, record_words}
use Rattle.bus.specs.Timeline.{filling_in_c, timeline_records}
use Rattle.bus_laws.specs.Records.{record_in, RecordsBack}

record_back : (r : JobRecord) (rest : List ℕ) → record_in (record_bytes r ++ rest) ≡ r
unfolding record_in
record_back r rest = λ i. record {
  task = record_task r rest i;
  job = record_job r rest i;
  release = record_words r rest 0 (omega arith) i;
  due = record_words r rest 1 (omega arith) i;
  frame = record_words r rest 2 (omega arith) i;
}

all_back : (rs : List JobRecord) (rest : List ℕ) (y : ℕ) → y < length rs → record_in (drop (8 * y) (flat_map record_bytes rs ++ rest)) ≡ get_or rs y no_record
unfolding flat_map
all_back [] rest y h = absurd (omega arith)
all_back (r ∷ rs) rest zero h = rw append_assoc (record_back r (flat_map record_bytes rs ++ rest))
all_back (r ∷ rs) rest (suc y) h =
    let next : 8 * suc y ≡ length (record_bytes r) + 8 * y = omega (arith, record_wide r) in
    rw (append_assoc, next) (ap record_in (drop-append-add (record_bytes r) (flat_map record_bytes rs ++ rest) (8 * y)) ∙ all_back rs rest y (omega arith))

pub records_back : RecordsBack
unfolding timeline_records
records_back request table records y h = all_back (records_in (filling_in_c request table records)) _ y h
