-- The two ends of the link, and what they make of what arrives: 02, R-13. A command carries the master's bit, a reply the bit that the board last obeyed. Nothing
-- here speaks of tables. Last, the law of the link of these two ends alone, over what arrives.
use Rattle.std.specs.Prelude.{ℕ, ◌+◌, ◌≡◌, Bool, true, false, not, cond, ◌&&◌, List, [], ◌∷◌, length, get_or}
use Rattle.cursor.specs.Choice.{bit}
use Rattle.heater_link.specs.Law.{Lawful}

-- the bit that the master sends, and the bit that the board last obeyed
pub record Ends : Type 0 where
  pub master : Bool
  pub obeyed : Bool

-- "The master starts with 0", and the bit last obeyed is "1 when fresh"
abbrev pub fresh_ends : Ends
fresh_ends = record { master = false; obeyed = true }

-- which of the two arrive in a frame
pub record Arrivals : Type 0 where
  pub command : Bool
  pub reply : Bool

-- what comes of it: the board toggled; the command was answered
pub record Effect : Type 0 where
  pub toggled : Bool
  pub answered : Bool

abbrev pub differ : Bool → Bool → Bool
differ x y = cond x (not y) y

-- in one frame the command goes before the reply
module _ (e : Ends) (x : Arrivals) where
  -- "The board toggles exactly if an arriving bit differs from the last one it obeyed"; and then it has obeyed that one
  abbrev pub toggles : Bool
  toggles = x.command && differ e.master e.obeyed

  abbrev pub obeyed_now : Bool
  obeyed_now = cond x.command e.master e.obeyed

  -- "each reply carries the bit last obeyed": one that arrives answers the command if it "shows" the master's bit
  abbrev pub answers : Bool
  answers = x.reply && not (differ obeyed_now e.master)

  -- "repeats the bit until the reply shows it, then flips it for the next command"
  abbrev pub master_now : Bool
  master_now = differ answers e.master

  abbrev pub outcome : Effect
  outcome = record { toggled = toggles; answered = answers }

  abbrev pub ends_now : Ends
  ends_now = record { master = master_now; obeyed = obeyed_now }

-- frame by frame: "neither end restarts"
unfoldable pub outcomes : Ends → List Arrivals → List Effect
outcomes e [] = []
outcomes e (x ∷ xs) = outcome e x ∷ outcomes (ends_now e x) xs

-- how many of a list say so: that the board toggled, or that the command was answered
unfoldable pub count_of : {A : Type 0} → (A → Bool) → List A → ℕ
count_of says [] = 0
count_of says (x ∷ xs) = bit (says x) + count_of says xs

abbrev pub no_arrivals : Arrivals
no_arrivals = record { command = false; reply = false }

abbrev pub no_outcome : Effect
no_outcome = record { toggled = false; answered = false }

-- what happens in frame m of a list: nothing behind its end
module _ (xs : List Arrivals) where
  abbrev pub arrivals_at : ℕ → Arrivals
  arrivals_at m = get_or xs m no_arrivals

  abbrev pub outcome_at : ℕ → Effect
  outcome_at m = get_or (outcomes fresh_ends xs) m no_outcome

  -- THE LAW of the two ends
  abbrev pub EndsLaw : Type 0
  EndsLaw =
      Lawful (length xs) (λ m. (arrivals_at m).command ≡ true) (λ m. (arrivals_at m).reply ≡ true) (λ m. (outcome_at m).toggled ≡ true)
      (λ m. (outcome_at m).answered ≡ true) (count_of (λ (o : Effect). o.toggled) (outcomes fresh_ends xs)) (count_of (λ (o : Effect). o.answered) (outcomes fresh_ends xs))
