-- The answer of a call that moves as the paper numbers it: the number of a refusal, where 0 is none, and the draft after the call.
use Rattle.std.specs.Prelude.{ℕ, Result, Ok, Err}
use Rattle.refusal.specs.Refusal.{number_of}
use Rattle.refusal.specs.declared.Refusal.{Refusal}
use Rattle.draft.specs.declared.Draft.{Draft}

pub record Drafted : Type 0 where
  pub refusal : ℕ
  pub draft : Draft

-- where a call refuses, its caller keeps the old draft
abbrev pub drafted_said : Draft → Result Draft Refusal → Drafted
drafted_said old (Ok d) = record { refusal = 0; draft = d }
drafted_said old (Err e) = record { refusal = number_of e; draft = old }
