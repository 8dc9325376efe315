-- Which answer a request for a one-off transfer gets, exactly, for all byte strings.
use Rattle.std.specs.Prelude.{ℕ, ◌+◌, ◌*◌, ◌≤◌, ◌<◌, ◌≡◌, ◌↔◌, ◌⊎◌, List}
use Rattle.table.specs.Table.{Table}
use Rattle.model.specs.Plan.{Instance}
use Rattle.model.specs.Described.{Accepted}
use Rattle.checker.specs.Checked.{check_number}
use Rattle.checker.specs.Exactly.{OfBoth}
use Rattle.one_off.specs.OneOff.{in_frame, refusal, used_in, one_off}

-- "k·f ≥ s, (k+1)·f ≤ e and enough unused time in its row for L + g"
pub record Fits (x : Instance) (t : Table) (L s e k : ℕ) : Type 0 where
  pub not_early : s ≤ k * t.f
  pub not_late : (k + 1) * t.f ≤ e
  pub enough : used_in x t k + (L + x.g) ≤ t.f

-- "L is 0, s > e or e > 2H"
abbrev pub BadlyAsked : ℕ → ℕ → ℕ → ℕ → Type 0
BadlyAsked h L s e = (L ≡ 0) ⊎ ((e < s) ⊎ (2 * h < e))

-- "exactly when no frame fits": none at all, not only of two cycles
abbrev pub NoneFits : Instance → Table → ℕ → ℕ → ℕ → Type 0
NoneFits x t L s e = (k : ℕ) → Fits x t L s e k → ⊥

-- "the earliest frame"
pub record IsEarliest (x : Instance) (t : Table) (L s e k : ℕ) : Type 0 where
  pub fits : Fits x t L s e k
  pub none_before : (l : ℕ) → l < k → Fits x t L s e l → ⊥

-- what is said of an accepted table: that it was asked for badly; that no frame fits; that k is the frame
module _ (L s e : ℕ) where
  abbrev pub AskedBadly : Instance → Table → Type 0
  AskedBadly x t = Accepted x t × BadlyAsked x.h L s e

  abbrev pub NoFrame : Instance → Table → Type 0
  NoFrame x t = Accepted x t × (BadlyAsked x.h L s e → ⊥) × NoneFits x t L s e

  abbrev pub TheFrame : ℕ → Instance → Table → Type 0
  TheFrame k x t = Accepted x t × (BadlyAsked x.h L s e → ⊥) × IsEarliest x t L s e k

pub record OneOffExact (request bytes : List ℕ) (L s e : ℕ) : Type 0 where
  -- "The request and table are checked first."
  pub check_first : (check_number request bytes ≡ 0 → ⊥) → one_off L s e request bytes ≡ refusal (check_number request bytes)
  -- "It refuses with 21 if L is 0, s > e or e > 2H, and then with 22 exactly when no frame fits."
  pub twenty_one : (one_off L s e request bytes ≡ refusal 21) ↔ OfBoth request bytes (AskedBadly L s e)
  pub twenty_two : (one_off L s e request bytes ≡ refusal 22) ↔ OfBoth request bytes (NoFrame L s e)
  -- "answer the earliest frame k"
  pub found : (k : ℕ) → (one_off L s e request bytes ≡ in_frame k) ↔ OfBoth request bytes (TheFrame L s e k)
