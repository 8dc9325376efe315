-- What each call of the heater link answers and what it leaves in the buffers that it was lent.
use Rattle.std.specs.Prelude.{ℕ, ◌%◌, ◌/◌, Bool, false, not, cond, ◌&&◌, List, ◌++◌, ℤ, pos, length, drop, ltb, eqb}
use Rattle.heater_link.specs.Exchange.{fresh_link, exchange}
use Rattle.heater_link.specs.declared.Losses.{Losses}
use Rattle.heater_link.specs.Numbered.{Exchange}
use Rattle.lent.specs.Words.{zeros}
use Rattle.lent.specs.Entries.{entry_bytes}
use Rattle.lent.specs.HeaterBytes.{is_heater, link_of, heater_bytes}
use Rattle.bus.specs.Reply.{refused_reply, reply, after}

-- bus_heater_fresh

unfoldable pub heater_fresh_reply : List ℕ → ℤ
heater_fresh_reply bytes = cond (ltb (length bytes) 72) (refused_reply 99) (pos 0)

-- it sets all 72 bytes
unfoldable pub heater_fresh_bytes : List ℕ → List ℕ
heater_fresh_bytes bytes = cond (ltb (length bytes) 72) bytes (heater_bytes fresh_link false false (zeros 72 ++ drop 72 bytes))

-- bus_heater_serve

-- of `lost` bit 0 is the command, bit 1 the reply; other bits mean nothing
abbrev pub losses_in : ℕ → Losses
losses_in lost = record { command = eqb (lost % 2) 1; reply = eqb (lost / 2 % 2) 1 }

module _ (request table : List ℕ) (a b lost : ℕ) (bytes entries : List ℕ) where
  abbrev pub heater_exchange : Exchange
  heater_exchange = exchange a b (losses_in lost) request table (link_of bytes)

  -- otherwise 99
  unfoldable pub can_exchange : Bool
  can_exchange = is_heater bytes && not (ltb (length entries) 32)

  -- the number of entries
  unfoldable pub heater_reply : ℤ
  heater_reply = cond can_exchange (reply heater_exchange.refusal heater_exchange.count) (refused_reply 99)

  -- a refusal leaves all of it as it was, bytes 66 and 67 too
  unfoldable pub heater_after : List ℕ
  heater_after =
      cond can_exchange
      (after heater_exchange.refusal (heater_bytes heater_exchange.link heater_exchange.toggled heater_exchange.answered bytes) bytes) bytes

  unfoldable pub heater_entries : List ℕ
  heater_entries =
      cond can_exchange (after heater_exchange.refusal (entry_bytes heater_exchange.tasks heater_exchange.jobs 16 0 ++ drop 32 entries) entries) entries
