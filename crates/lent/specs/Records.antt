-- A record of a timeline in the bytes that the caller lends: 8, which are task, job, and release, due and frame as u16.
use Rattle.std.specs.Prelude.{ℕ, List, ◌∷◌, ◌++◌}
use Rattle.cursor.specs.Fields.{word_bytes}
use Rattle.job_records.specs.declared.JobRecord.{JobRecord}

unfoldable pub record_bytes : JobRecord → List ℕ
record_bytes r = r.task ∷ r.job ∷ word_bytes r.release ++ word_bytes r.due ++ word_bytes r.frame
