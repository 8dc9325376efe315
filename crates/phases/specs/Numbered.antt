-- The counts with the paper's number, where 0 is none: "A refusal returns its number", and counts of 0. The record of the same name at `specs.declared` is
-- that of the code.
use Rattle.std.specs.Prelude.{ℕ, Result, Ok, Err}
use Rattle.refusal.specs.Refusal.{number_of}
use Rattle.refusal.specs.declared.Refusal.{Refusal}
use Rattle.phases.specs.declared.PhaseCounts as code

pub record PhaseCounts : Type 0 where
  pub refusal : ℕ
  pub tables : ℕ
  pub nines : ℕ
  pub tens : ℕ
  pub ended : ℕ

abbrev pub counts_ok : code.PhaseCounts → PhaseCounts
counts_ok c = record { refusal = 0; tables = c.tables; nines = c.nines; tens = c.tens; ended = c.ended }

abbrev pub counts_said : Result code.PhaseCounts Refusal → PhaseCounts
counts_said (Ok c) = counts_ok c
counts_said (Err e) = record { refusal = number_of e; tables = 0; nines = 0; tens = 0; ended = 0 }
