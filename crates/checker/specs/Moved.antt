-- What R-5 moved in the check: no table is accepted or refused that was not, and of the refusals some 14 became 13.
use Rattle.std.specs.Prelude.{◌≡◌, ◌⊎◌}
use Rattle.checker.specs.Checked.{Verdict, refusal}

-- a verdict by 01's rule, and now: the same, or 14 and 13
abbrev pub Moves : Verdict → Verdict → Type 0
Moves before now = (before ≡ now) ⊎ ((before ≡ refusal 14) × (now ≡ refusal 13))
