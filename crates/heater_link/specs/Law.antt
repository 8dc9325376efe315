-- The law of the heater link, over what happened in the frames of a list: 02, R-13. It speaks of what arrived and what was answered; the two bits do not occur
-- in it.
use Rattle.std.specs.Prelude.{ℕ, ◌+◌, ◌%◌, ◌≤◌, ◌<◌, ◌≡◌, ◌↔◌, ◌⊎◌}

-- n frames, from frame 0 on. What may happen in frame m: a command arrives at the board, a reply arrives at the master, the board toggles, the command is answered
module _ (n : ℕ) (CommandArrives ReplyArrives Toggled Answered : ℕ → Type 0) where
  -- No frame from j on and before m answered. So a command of frame j and one of frame m are copies of one command: the master repeats a command until it is
  -- answered. In one frame the command goes before the reply.
  abbrev pub Unanswered : ℕ → ℕ → Type 0
  Unanswered j m = (k : ℕ) → j ≤ k → k < m → Answered k → ⊥

  -- "The first reply to arrive after a copy of the current command has arrived": that of frame m
  pub record FirstReply (m : ℕ) : Type 0 where
    pub reply_arrives : ReplyArrives m
    pub j : ℕ
    pub before : j ≤ m
    pub copy_arrived : CommandArrives j
    pub of_current : Unanswered j m
    pub first : (k : ℕ) → j ≤ k → k < m → ReplyArrives k → ⊥

  -- the first copy of the current command to arrive: that of frame m
  pub record FirstCopy (m : ℕ) : Type 0 where
    pub copy_arrives : CommandArrives m
    pub first : (j : ℕ) → j < m → CommandArrives j → Unanswered j m → ⊥

  -- "while the current command is unanswered": after the list, a copy of it has arrived and no answer
  pub record UnderWay : Type 0 where
    pub j : ℕ
    pub in_list : j < n
    pub copy_arrived : CommandArrives j
    pub of_current : Unanswered j n

  -- toggles done, commands answered
  module _ (toggles commands_answered : ℕ) where
    -- the heater is off at first, and each toggle turns it over
    abbrev pub HeaterOn : Type 0
    HeaterOn = toggles % 2 ≡ 1

    pub record Lawful : Type 0 where
      -- "toggles done equal commands answered, or exceed them by one while the current command is unanswered"
      pub counts : ((toggles ≡ commands_answered) × (UnderWay → ⊥)) ⊎ ((toggles ≡ commands_answered + 1) × UnderWay)
      -- "The first reply to arrive after a copy of the current command has arrived answers it, and no other reply does."
      pub answered_exactly : (m : ℕ) → Answered m ↔ FirstReply m
      -- and the board toggles with the first copy of a command that arrives, and with no other
      pub toggled_exactly : (m : ℕ) → Toggled m ↔ FirstCopy m
      -- a lost reply never toggles twice: between two toggles a command was answered
      pub never_twice : (j m : ℕ) → j < m → Toggled j → Toggled m → (k : ℕ) × (j ≤ k) × (k < m) × Answered k
      -- with no command under way the heater is on after an odd number of commands answered
      pub at_rest : (UnderWay → ⊥) → HeaterOn ↔ (commands_answered % 2 ≡ 1)
