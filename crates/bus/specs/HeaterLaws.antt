-- Each way out of a call of the heater link, as its definition has it.
use Rattle.std.specs.Prelude.{ℕ, ◌≤◌, ◌<◌, ◌≡◌, true, false, List, ◌++◌, ℤ, pos, length, drop}
use borrow.Author.Tests.{lt-ltb, le-ltb}
use Rattle.heater_link.specs.Exchange.{fresh_link}
use Rattle.heater_link.specs.Numbered.{Exchange}
use Rattle.lent.specs.Words.{zeros}
use Rattle.lent.specs.Entries.{entry_bytes}
use Rattle.lent.specs.HeaterBytes.{is_heater, heater_bytes}
use Rattle.bus.specs.Reply.{refused_reply}
use Rattle.bus.specs.ReplyLaws.{reply_refused, reply_value, after_refusal, after_value}
use Rattle.bus.specs.Heater.{heater_fresh_reply, heater_fresh_bytes, heater_exchange, can_exchange, heater_reply, heater_after, heater_entries}

-- bus_heater_fresh

module _ (bytes : List ℕ) where
  pub heater_fresh_refused : length bytes < 72 → (refused_reply 99 ≡ heater_fresh_reply bytes) × (bytes ≡ heater_fresh_bytes bytes)
  unfolding heater_fresh_reply heater_fresh_bytes
  heater_fresh_refused h = let e = lt-ltb (length bytes) 72 h in (rw e, rw e)

  pub heater_fresh_made : 72 ≤ length bytes
      → (pos 0 ≡ heater_fresh_reply bytes) × (heater_bytes fresh_link false false (zeros 72 ++ drop 72 bytes) ≡ heater_fresh_bytes bytes)
  unfolding heater_fresh_reply heater_fresh_bytes
  heater_fresh_made h = let e = le-ltb (length bytes) 72 h in (rw e, rw e)

-- bus_heater_serve

module _ (request table : List ℕ) (a b lost : ℕ) (bytes entries : List ℕ) where
  abbrev pub HeaterAnswered : ℤ → List ℕ → List ℕ → Type 0
  HeaterAnswered z bytes' entries' =
      (z ≡ heater_reply request table a b lost bytes entries) × (bytes' ≡ heater_after request table a b lost bytes entries)
      × (entries' ≡ heater_entries request table a b lost bytes entries)

  not_exchanged : can_exchange request table a b lost bytes entries ≡ false → HeaterAnswered (refused_reply 99) bytes entries
  unfolding heater_reply heater_after heater_entries
  not_exchanged e = (rw e, rw e, rw e)

  pub no_heater : is_heater bytes ≡ false → HeaterAnswered (refused_reply 99) bytes entries
  unfolding can_exchange
  no_heater e = not_exchanged (rw e)

  pub heater_no_room : is_heater bytes ≡ true → length entries < 32 → HeaterAnswered (refused_reply 99) bytes entries
  unfolding can_exchange
  heater_no_room e h = not_exchanged (rw (e, lt-ltb (length entries) 32 h))

  module _ (is : is_heater bytes ≡ true) (room : 32 ≤ length entries) (r : Exchange) (e : r ≡ heater_exchange request table a b lost bytes entries) where
    can : can_exchange request table a b lost bytes entries ≡ true
    unfolding can_exchange
    can = rw (is, le-ltb (length entries) 32 room)

    abbrev new : List ℕ
    new = heater_bytes r.link r.toggled r.answered bytes

    abbrev shown : List ℕ
    shown = entry_bytes r.tasks r.jobs 16 0 ++ drop 32 entries

    pub exchange_refused : (r.refusal ≡ 0 → ⊥) → HeaterAnswered (refused_reply r.refusal) bytes entries
    unfolding heater_reply heater_after heater_entries
    exchange_refused h = rw (can, ← e) (reply_refused r.refusal r.count h, after_refusal r.refusal new bytes h, after_refusal r.refusal shown entries h)

    pub exchange_made : r.refusal ≡ 0
        → HeaterAnswered (pos r.count) (heater_bytes r.link r.toggled r.answered bytes) (entry_bytes r.tasks r.jobs 16 0 ++ drop 32 entries)
    unfolding heater_reply heater_after heater_entries
    exchange_made h = rw (can, ← e) (reply_value r.refusal r.count h, after_value r.refusal new bytes h, after_value r.refusal shown entries h)
