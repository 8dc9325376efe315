-- The answer as the paper numbers it: the number of a refusal, where 0 is none, and the frame. "A refusal returns its number", and no frame
use Rattle.std.specs.Prelude.{ℕ, Result, Ok, Err}
use Rattle.refusal.specs.Refusal.{number_of}
use Rattle.refusal.specs.declared.Refusal.{Refusal}

pub record FrameFound : Type 0 where
  pub refusal : ℕ
  pub frame : ℕ

abbrev pub found_said : Result ℕ Refusal → FrameFound
found_said (Ok k) = record { refusal = 0; frame = k }
found_said (Err e) = record { refusal = number_of e; frame = 0 }
