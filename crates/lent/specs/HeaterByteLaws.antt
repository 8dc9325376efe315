-- The heater's bytes: when they are one, and what the stores come to.
use Rattle.std.specs.Prelude.{ℕ, ◌≤◌, ◌≡◌, Bool, ◌&&◌, List, [], ◌∷◌, ◌++◌, set, take, drop}
use Rattle.std.proofs.Math.Path.{refl}
use Rattle.std.proofs.Common.{sym, ap, ◌∙◌, append_assoc, arith, drop-drop}
use Rattle.std.proofs.Math.Bool.{true, false, cond}
use Rattle.std.proofs.lemmas.Bool.{false≢true}
use Rattle.std.proofs.Math.ListN.{length}
use Rattle.std.proofs.lemmas.List.Edits.{sets-eq}
use Rattle.std.proofs.Math.Dec.{ltb}
use borrow.Author.Tests.{ltb-false}
use mir.Val.{bool_byte}
use Rattle.cursor.specs.Choice.{bit}
use Rattle.dispatcher.specs.declared.State.{State}
use Rattle.heater_link.specs.declared.Link.{Link}
use Rattle.lent.specs.State.{is_state, state_bytes}
use Rattle.lent.specs.StateBack.{state_behind}
use Rattle.lent.specs.HeaterBytes.{is_bit, is_heater, heater_bytes}

module _ (bytes : List ℕ) where
  pub heater_long : is_heater bytes ≡ true → 72 ≤ length bytes
  unfolding is_heater
  heater_long e = go (ltb (length bytes) 72) refl e
    where
      go : (b : Bool) → ltb (length bytes) 72 ≡ b
          → cond b false (is_state bytes && ((is_bit bytes 64 && is_bit bytes 65) && (is_bit bytes 66 && is_bit bytes 67))) ≡ true
          → 72 ≤ length bytes
      go true w q = absurd (false≢true q)
      go false w q = ltb-false (length bytes) 72 w

bit_is : (b : Bool) → bool_byte b ≡ bit b
bit_is true = refl
bit_is false = refl

-- behind the state the bytes are as they were
pub behind_state : (s : State) (bytes : List ℕ) → drop 68 (state_bytes s bytes) ≡ drop 68 bytes
behind_state s bytes = sym (drop-drop 33 35 (state_bytes s bytes)) ∙ ap (drop 33) (state_behind s bytes) ∙ drop-drop 33 35 bytes

-- four stores behind the state
pub heater_stored : (s : Link) (toggled answered : Bool) (bytes out : List ℕ) → out ≡ state_bytes s.state bytes → 72 ≤ length out
    → set (set (set (set out 64 (bool_byte s.master)) 65 (bool_byte s.obeyed)) 66 (bool_byte toggled)) 67 (bool_byte answered)
    ≡ heater_bytes s toggled answered bytes
unfolding heater_bytes
heater_stored s toggled answered bytes out e h =
    let four : List ℕ = bit s.master ∷ bit s.obeyed ∷ bit toggled ∷ bit answered ∷ [] in
    rw (bit_is s.master, bit_is s.obeyed, bit_is toggled, bit_is answered)
    (sets-eq four out 64 (omega arith) ∙ ap (λ (l : List ℕ). take 64 l ++ four ++ drop 68 l) e
    ∙ ap (λ (l : List ℕ). take 64 (state_bytes s.state bytes) ++ four ++ l) (behind_state s.state bytes)
    ∙ append_assoc (take 64 (state_bytes s.state bytes)) four (drop 68 bytes))
