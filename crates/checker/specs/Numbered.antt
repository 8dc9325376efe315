-- The answer of the reading as the paper numbers it: the number of a refusal, where 0 is none. "A refusal returns its number, length 0 or no entries"
use Rattle.std.specs.Prelude.{ℕ, List, replicate, Result, Ok, Err}
use Rattle.refusal.specs.Refusal.{number_of}
use Rattle.refusal.specs.declared.Refusal.{Refusal}
use Rattle.cycle.specs.Answers.{no_places}
use Rattle.cycle.specs.declared.Cycle.{Cycle}
use Rattle.checker.specs.declared.Read as code

pub record Read : Type 0 where
  pub refusal : ℕ
  pub cycle : Cycle
  pub f : ℕ
  pub frames : List ℕ

-- the request's cycle, and no plan
abbrev pub unread : Cycle → ℕ → Read
unread c number = record { refusal = number; cycle = c; f = 0; frames = replicate 128 0 }

-- the frame length and the frames that were found for this cycle
abbrev pub found_said : Cycle → Result (ℕ × List ℕ) Refusal → Read
found_said c (Ok p) = record { refusal = 0; cycle = c; f = p.0; frames = p.1 }
found_said c (Err e) = unread c (number_of e)

-- what is answered: the request's cycle also beside a refusal of the table, and none where the request is refused
abbrev pub read_said : Result code.Read Refusal → Read
read_said (Ok r) = found_said r.cycle r.plan
read_said (Err e) = unread no_places (number_of e)
