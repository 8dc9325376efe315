-- The answer of a call as the paper numbers it: the number of a refusal, where 0 is none. The code's own, at specs.declared, has no number.
-- "A refusal returns its number, length 0 or no entries, the state unchanged"
use Rattle.std.specs.Prelude.{ℕ, Bool, false, List, replicate, Result, Ok, Err}
use Rattle.refusal.specs.Refusal.{number_of}
use Rattle.refusal.specs.declared.Refusal.{Refusal}
use Rattle.heater_link.specs.declared.Link.{Link}
use Rattle.heater_link.specs.declared.Exchange as code

pub record Exchange : Type 0 where
  pub refusal : ℕ
  pub count : ℕ
  pub tasks : List ℕ
  pub jobs : List ℕ
  pub toggled : Bool
  pub answered : Bool
  pub link : Link

abbrev pub exchange_ok : code.Exchange → Exchange
exchange_ok x =
    record { refusal = 0; count = x.count; tasks = x.tasks; jobs = x.jobs; toggled = x.toggled; answered = x.answered; link = x.link }

-- of the link that the caller has, which a refusal leaves to it
abbrev pub exchange_said : Link → Result code.Exchange Refusal → Exchange
exchange_said s (Ok x) = exchange_ok x
exchange_said s (Err e) =
    record { refusal = number_of e; count = 0; tasks = replicate 16 0; jobs = replicate 16 0; toggled = false; answered = false; link = s }
