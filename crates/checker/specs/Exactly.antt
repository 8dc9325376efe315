-- Which number the check answers, exactly, for all byte strings.
use Rattle.std.specs.Prelude.{ℕ, ◌≡◌, true, ◌↔◌, List}
use Rattle.cycle.specs.Cycle.{no_cycle, cycle_of}
use Rattle.table.specs.Table.{Table}
use Rattle.table.specs.TableBytes.{SaysTable}
use Rattle.model.specs.Plan.{Instance}
use Rattle.model.specs.Plausible.{plausible}
use Rattle.model.specs.Within.{Within}
use Rattle.model.specs.Described.{Accepted}
use Rattle.checker.specs.Checked.{check_number}

-- the table has the request's H, and an f that is plausible
abbrev pub SizesFit : Instance → Table → Type 0
SizesFit x t = (t.h ≡ x.h) × (plausible x t.f ≡ true)

-- the request is within the limits, the table has the form, and they keep `Claim`
abbrev pub OfBoth : List ℕ → List ℕ → (Instance → Table → Type 0) → Type 0
OfBoth request bytes Claim = (x : Instance) × Within request x × (t : Table) × SaysTable bytes t × Claim x t

-- the request is within the limits, and no table of the form has these bytes
abbrev pub NoTable : List ℕ → List ℕ → Type 0
NoTable request bytes = (x : Instance) × Within request x × ((t : Table) → SaysTable bytes t → ⊥)

pub record CheckExact (request bytes : List ℕ) : Type 0 where
  -- "the check 1 to 8 then 12 to 14"
  pub request_refused : (number : ℕ) → cycle_of request ≡ no_cycle number → check_number request bytes ≡ number
  -- "not the form above"
  pub twelve : (check_number request bytes ≡ 12) ↔ NoTable request bytes
  -- "H not the request's, or f not plausible"
  pub thirteen : (check_number request bytes ≡ 13) ↔ OfBoth request bytes (λ x t. SizesFit x t → ⊥)
  -- "not a plan"
  pub fourteen : (check_number request bytes ≡ 14) ↔ OfBoth request bytes (λ x t. SizesFit x t × (Accepted x t → ⊥))
  -- "the check accepts exactly the tables that describe a plan"
  pub accepts : (check_number request bytes ≡ 0) ↔ OfBoth request bytes Accepted
