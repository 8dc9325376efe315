-- A heater in the bytes that the caller lends: 72, of which 0 to 63 are the dispatcher's state, 64 is the master's bit, 65 the bit last obeyed, 66 and 67 whether the
-- board toggled and whether the command was answered in the last call that was not refused, and 68 to 71 are free.
use Rattle.std.specs.Prelude.{ℕ, Bool, false, cond, ◌&&◌, List, ◌∷◌, ◌++◌, length, get_or, take, drop, ltb, eqb}
use Rattle.cursor.specs.Choice.{bit}
use Rattle.heater_link.specs.declared.Link.{Link}
use Rattle.lent.specs.State.{is_state, state_of, state_bytes}

-- a byte that is 0 or 1
abbrev pub is_bit : List ℕ → ℕ → Bool
is_bit bytes at = ltb (get_or bytes at 0) 2

-- 72 bytes or more, a state in front, and bytes 64 to 67 each 0 or 1
unfoldable pub is_heater : List ℕ → Bool
is_heater bytes =
    cond (ltb (length bytes) 72) false
    (is_state bytes && ((is_bit bytes 64 && is_bit bytes 65) && (is_bit bytes 66 && is_bit bytes 67)))

unfoldable pub link_of : List ℕ → Link
link_of bytes = record { state = state_of bytes; master = eqb (get_or bytes 64 0) 1; obeyed = eqb (get_or bytes 65 0) 1 }

-- the link and what the call said, in the first 68 bytes, and behind them what was there
unfoldable pub heater_bytes : Link → Bool → Bool → List ℕ → List ℕ
heater_bytes s toggled answered bytes =
    take 64 (state_bytes s.state bytes) ++ (bit s.master ∷ bit s.obeyed ∷ bit toggled ∷ bit answered ∷ drop 68 bytes)
