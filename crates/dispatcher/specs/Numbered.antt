-- The answers of next-frame and of a report as the paper numbers them: the number of a refusal, where 0 is none. The code's own, at specs.declared, have no number.
-- "A refusal returns its number, length 0 or no entries, the state unchanged"
use Rattle.std.specs.Prelude.{ℕ, Bool, false, List, replicate, Result, Ok, Err}
use Rattle.refusal.specs.Refusal.{number_of}
use Rattle.refusal.specs.declared.Refusal.{Refusal}
use Rattle.dispatcher.specs.declared.State.{State}
use Rattle.dispatcher.specs.declared.Frame as f
use Rattle.dispatcher.specs.declared.Reported as r

pub record Frame : Type 0 where
  pub refusal : ℕ
  pub count : ℕ
  pub tasks : List ℕ
  pub jobs : List ℕ
  pub state : State

pub record Reported : Type 0 where
  pub refusal : ℕ
  pub over : Bool
  pub state : State

abbrev pub frame_ok : f.Frame → Frame
frame_ok f = record { refusal = 0; count = f.count; tasks = f.tasks; jobs = f.jobs; state = f.state }

-- of the state that the caller has, which a refusal leaves to it
abbrev pub frame_said : State → Result f.Frame Refusal → Frame
frame_said s (Ok f) = frame_ok f
frame_said s (Err e) = record { refusal = number_of e; count = 0; tasks = replicate 16 0; jobs = replicate 16 0; state = s }

abbrev pub reported_said : State → Result r.Reported Refusal → Reported
reported_said s (Ok r) = record { refusal = 0; over = r.over; state = r.state }
reported_said s (Err e) = record { refusal = number_of e; over = false; state = s }
