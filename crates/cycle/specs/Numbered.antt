-- The answer for a cycle as the paper numbers it: the number of a refusal, where 0 is none. "A refusal returns its number, length 0 or no entries"
use Rattle.std.specs.Prelude.{ℕ, List, Result, Ok, Err}
use Rattle.refusal.specs.Refusal.{number_of}
use Rattle.refusal.specs.declared.Refusal.{Refusal}
use Rattle.request.specs.declared.Task.{Task}
use Rattle.request.specs.declared.Pair.{Pair}
use Rattle.cycle.specs.Cycle as cycle
use Rattle.cycle.specs.Answers.{no_places, cycle_answered}
use Rattle.cycle.specs.declared.Job.{Job}
use Rattle.cycle.specs.declared.Cycle as code

pub record Cycle : Type 0 where
  pub refusal : ℕ
  pub n : ℕ
  pub tasks : List Task
  pub m : ℕ
  pub pairs : List Pair
  pub g : ℕ
  pub h : ℕ
  pub count : ℕ
  pub jobs : List Job

abbrev pub numbered : ℕ → code.Cycle → Cycle
numbered number c = record { refusal = number; n = c.n; tasks = c.tasks; m = c.m; pairs = c.pairs; g = c.g; h = c.h; count = c.count; jobs = c.jobs }

abbrev pub refused_cycle : ℕ → Cycle
refused_cycle number = numbered number no_places

abbrev pub cycle_said : Result code.Cycle Refusal → Cycle
cycle_said (Ok c) = numbered 0 c
cycle_said (Err e) = refused_cycle (number_of e)

-- the number of a refusal, 0 for a cycle
abbrev pub cycle_number : cycle.Cycle → ℕ
cycle_number (cycle.cycle tasks pairs g h jobs) = 0
cycle_number (cycle.no_cycle number) = number

abbrev pub cycle_numbered : cycle.Cycle → Cycle
cycle_numbered d = numbered (cycle_number d) (cycle_answered d)
