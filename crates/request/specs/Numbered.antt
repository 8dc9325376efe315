-- The answer of the reading as the paper numbers it: the number of a refusal, where 0 is none. "A refusal returns its number, length 0 or no entries"
use Rattle.std.specs.Prelude.{ℕ, List, replicate, Result, Ok, Err}
use Rattle.refusal.specs.Refusal.{number_of}
use Rattle.refusal.specs.declared.Refusal.{Refusal}
use Rattle.request.specs.Request.{no_task, no_pair}
use Rattle.request.specs.declared.Task.{Task}
use Rattle.request.specs.declared.Pair.{Pair}
use Rattle.request.specs.declared.Request as code

pub record Request : Type 0 where
  pub refusal : ℕ
  pub n : ℕ
  pub tasks : List Task
  pub m : ℕ
  pub pairs : List Pair
  pub g : ℕ

abbrev pub unread : ℕ → Request
unread number = record { refusal = number; n = 0; tasks = replicate 16 no_task; m = 0; pairs = replicate 16 no_pair; g = 0 }

abbrev pub request_said : Result code.Request Refusal → Request
request_said (Ok r) = record { refusal = 0; n = r.n; tasks = r.tasks; m = r.m; pairs = r.pairs; g = r.g }
request_said (Err e) = unread (number_of e)
