-- The answers of the calls as the paper numbers them: the number of a refusal, where 0 is none. The code's own served frame, at specs.declared, has no number.
-- "A refusal returns its number, length 0 or no entries, the state unchanged"
use Rattle.std.specs.Prelude.{ℕ, List, replicate, Result, Ok, Err}
use Rattle.refusal.specs.Refusal.{number_of}
use Rattle.refusal.specs.declared.Refusal.{Refusal}
use Rattle.timer.specs.declared.Timer.{Timer}
use Rattle.timer.specs.declared.FrameServed as f

-- a register's byte
pub record RegisterRead : Type 0 where
  pub refusal : ℕ
  pub value : ℕ

-- the timer after a write or a report
pub record Changed : Type 0 where
  pub refusal : ℕ
  pub timer : Timer

-- the entries of the frame that is served, and the timer after it
pub record FrameServed : Type 0 where
  pub refusal : ℕ
  pub count : ℕ
  pub tasks : List ℕ
  pub jobs : List ℕ
  pub timer : Timer

abbrev pub read_said : Result ℕ Refusal → RegisterRead
read_said (Ok value) = record { refusal = 0; value = value }
read_said (Err e) = record { refusal = number_of e; value = 0 }

-- of the timer that the caller has, which a refusal leaves to it
abbrev pub changed_said : Timer → Result Timer Refusal → Changed
changed_said t (Ok after) = record { refusal = 0; timer = after }
changed_said t (Err e) = record { refusal = number_of e; timer = t }

abbrev pub served_ok : f.FrameServed → FrameServed
served_ok f = record { refusal = 0; count = f.count; tasks = f.tasks; jobs = f.jobs; timer = f.timer }

abbrev pub served_said : Timer → Result f.FrameServed Refusal → FrameServed
served_said t (Ok f) = served_ok f
served_said t (Err e) = record { refusal = number_of e; count = 0; tasks = replicate 16 0; jobs = replicate 16 0; timer = t }
