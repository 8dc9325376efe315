-- The bytes of a heater, both ways: a link that was written is read again, with what the call said, and the bytes of a heater are those that it is written as.
use Rattle.std.specs.Prelude.{ℕ, ◌≤◌, ◌≡◌, Bool, true, List, length, get_or, eqb}
use Rattle.cursor.specs.Choice.{bit}
use Rattle.cursor.specs.Fields.{Bytes}
use Rattle.heater_link.specs.declared.Link.{Link}
use Rattle.lent.specs.HeaterBytes.{is_heater, link_of, heater_bytes}

pub record HeaterBack (s : Link) (toggled answered : Bool) (bytes : List ℕ) : Type 0 where
  pub heater_length : length (heater_bytes s toggled answered bytes) ≡ length bytes
  pub heater_is : is_heater (heater_bytes s toggled answered bytes) ≡ true
  pub link_read : link_of (heater_bytes s toggled answered bytes) ≡ s
  pub toggled_there : get_or (heater_bytes s toggled answered bytes) 66 0 ≡ bit toggled
  pub answered_there : get_or (heater_bytes s toggled answered bytes) 67 0 ≡ bit answered
  pub rest_kept : (i : ℕ) → 68 ≤ i → get_or (heater_bytes s toggled answered bytes) i 0 ≡ get_or bytes i 0

abbrev pub HeaterRoundTrip : Type 0
HeaterRoundTrip = ((s : Link) (toggled answered : Bool) (bytes : List ℕ) → 72 ≤ length bytes → length s.state.counts ≡ 16 → HeaterBack s toggled answered bytes)
    × ((bytes : List ℕ) → Bytes bytes → is_heater bytes ≡ true
    → heater_bytes (link_of bytes) (eqb (get_or bytes 66 0) 1) (eqb (get_or bytes 67 0) 1) bytes ≡ bytes)
