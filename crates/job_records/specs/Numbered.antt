-- The answers as the paper numbers them: the number of a refusal, where 0 is none, and zeros on a refusal. "A refusal returns its number, length 0 or no entries"
use Rattle.std.specs.Prelude.{ℕ, List, replicate, Result, Ok, Err}
use Rattle.refusal.specs.Refusal.{number_of}
use Rattle.refusal.specs.declared.Refusal.{Refusal}
use Rattle.cycle.specs.Planned.{no_job}
use Rattle.cycle.specs.declared.Job.{Job}
use Rattle.job_records.specs.declared.JobsKnown as code

pub record RecordsFilled : Type 0 where
  pub refusal : ℕ
  pub count : ℕ

abbrev pub filled_said : Result ℕ Refusal → RecordsFilled
filled_said (Ok n) = record { refusal = 0; count = n }
filled_said (Err e) = record { refusal = number_of e; count = 0 }

-- the answer of `known`; the code's JobsKnown, which is in its Ok, has no number
pub record JobsKnown : Type 0 where
  pub refusal : ℕ
  pub count : ℕ
  pub jobs : List Job
  pub frames : List ℕ

abbrev pub known_said : Result code.JobsKnown Refusal → JobsKnown
known_said (Ok k) = record { refusal = 0; count = k.count; jobs = k.jobs; frames = k.frames }
known_said (Err e) = record { refusal = number_of e; count = 0; jobs = replicate 128 no_job; frames = replicate 128 0 }
