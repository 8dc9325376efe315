-- Lists of calls of the heater link: what arrives in a call, in R-13's words, and the law over every list and every pattern of losses.
use Rattle.std.specs.Prelude.{ℕ, ◌<◌, ◌≡◌, true, false, List, [], ◌∷◌, length, get_or}
use Rattle.heater_link.specs.Machine.{count_of}
use Rattle.heater_link.specs.Law.{Lawful}
use Rattle.heater_link.specs.Exchange.{fresh_link, refused_exchange, exchange}
use Rattle.heater_link.specs.declared.Link.{Link}
use Rattle.heater_link.specs.declared.Losses.{Losses}
use Rattle.heater_link.specs.Numbered.{Exchange}

-- a call: "serves one frame, is told which of the two are lost in it". Request, table and pair are given anew each time, and may be any.
pub record Ask : Type 0 where
  pub request : List ℕ
  pub table : List ℕ
  pub a : ℕ
  pub b : ℕ
  pub lost : Losses

abbrev pub exchange_of : Link → Ask → Exchange
exchange_of s q = exchange q.a q.b q.lost q.request q.table s

-- each call takes the link that the last one returned
unfoldable pub exchanges_from : Link → List Ask → List Exchange
exchanges_from s [] = []
exchanges_from s (q ∷ asks) = exchange_of s q ∷ exchanges_from (exchange_of s q).link asks

unfoldable pub link_from : Link → List Ask → Link
link_from s [] = s
link_from s (q ∷ asks) = link_from (exchange_of s q).link asks

abbrev pub no_ask : Ask
no_ask = record { request = []; table = []; a = 0; b = 0; lost = record { command = false; reply = false } }

module _ (asks : List Ask) where
  abbrev pub ask_at : ℕ → Ask
  ask_at m = get_or asks m no_ask

  -- "neither end restarts": the list starts from the fresh link
  abbrev pub answers_given : List Exchange
  answers_given = exchanges_from fresh_link asks

  abbrev pub answer_at : ℕ → Exchange
  answer_at m = get_or answers_given m (refused_exchange 0 fresh_link)

  -- Call m

  -- it answered an entry of task i
  pub record TaskServed (m i : ℕ) : Type 0 where
    pub place : ℕ
    pub filled : place < (answer_at m).count
    pub is_task : get_or (answer_at m).tasks place 0 ≡ i

  -- "a command goes out each time task a is served": and this one is not lost
  pub record CommandArrives (m : ℕ) : Type 0 where
    pub a_served : TaskServed m (ask_at m).a
    pub not_lost : (ask_at m).lost.command ≡ false

  -- "and a reply each time task b is"
  pub record ReplyArrives (m : ℕ) : Type 0 where
    pub b_served : TaskServed m (ask_at m).b
    pub not_lost : (ask_at m).lost.reply ≡ false

  -- what it answered
  abbrev pub Toggled : ℕ → Type 0
  Toggled m = (answer_at m).toggled ≡ true

  abbrev pub Answered : ℕ → Type 0
  Answered m = (answer_at m).answered ≡ true

  pub record LinkLaw : Type 0 where
    -- counting the calls that said that the board toggled, and those that said that the command was answered
    pub lawful : Lawful (length asks) CommandArrives ReplyArrives Toggled Answered
        (count_of (λ (r : Exchange). r.toggled) answers_given) (count_of (λ (r : Exchange). r.answered) answers_given)
    -- "as it is served": in a call that answers both, the command stands before the reply, and neither stands twice
    pub command_before : (m p q : ℕ) → p < (answer_at m).count → q < (answer_at m).count
        → get_or (answer_at m).tasks p 0 ≡ (ask_at m).a → get_or (answer_at m).tasks q 0 ≡ (ask_at m).b → p < q
    pub once_served : (m p q : ℕ) → p < (answer_at m).count → q < (answer_at m).count
        → get_or (answer_at m).tasks p 0 ≡ get_or (answer_at m).tasks q 0 → p ≡ q

-- "For every list of served frames and every pattern of losses"
abbrev pub LinkHolds : Type 0
LinkHolds = (asks : List Ask) → LinkLaw asks
