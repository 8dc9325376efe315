-- The heater link: what a call answers, and the link after it. 02, R-13.
use Rattle.std.specs.Prelude.{ℕ, Bool, true, false, not, cond, ◌&&◌, List, [], ◌∷◌, get_or, replicate, eqb}
use Rattle.request.specs.declared.Pair.{Pair}
use Rattle.cycle.specs.Cycle.{Cycle, cycle, no_cycle, cycle_of}
use Rattle.table.specs.Table.{decode}
use Rattle.plan_rules.specs.Every.{some}
use Rattle.checker.specs.Checked.{check_number}
use Rattle.dispatcher.specs.Dispatch.{fresh_state, next_frame}
use Rattle.dispatcher.specs.declared.State.{State}
use Rattle.dispatcher.specs.Numbered.{Frame}
use Rattle.heater_link.specs.Machine.{Ends, fresh_ends, Arrivals, toggles, answers, ends_now}
use Rattle.heater_link.specs.declared.Link.{Link}
use Rattle.heater_link.specs.declared.Losses.{Losses}
use Rattle.heater_link.specs.Numbered.{Exchange}

-- a link is the dispatcher's state and the two ends
abbrev pub ends_of : Link → Ends
ends_of s = record { master = s.master; obeyed = s.obeyed }

abbrev pub linked : State → Ends → Link
linked state e = record { state = state; master = e.master; obeyed = e.obeyed }

abbrev pub fresh_link : Link
fresh_link = linked fresh_state fresh_ends

-- task i is served: it stands in one of the n places
abbrev pub serves : ℕ → List ℕ → ℕ → Bool
serves i tasks n = some n (λ p. eqb (get_or tasks p 0) i)

-- "Each command or reply is lost or arrives unaltered as it is served": where it is not served, what is told of its loss means nothing
abbrev pub arrives : Bool → Bool → Bool
arrives is_served lost = is_served && not lost

-- a frame was served, and in it a command and a reply arrived, or did not
abbrev pub exchanged : Bool → Bool → Frame → Link → Exchange
exchanged command reply frame s =
    let got : Arrivals = record { command = command; reply = reply } in
    record {
      refusal = 0;
      count = frame.count;
      tasks = frame.tasks;
      jobs = frame.jobs;
      toggled = toggles (ends_of s) got;
      answered = answers (ends_of s) got;
      link = linked frame.state (ends_now (ends_of s) got);
    }

-- "A refusal returns its number, .. no entries, the state unchanged"; nothing toggles and nothing is answered
abbrev pub refused_exchange : ℕ → Link → Exchange
refused_exchange number s =
    record { refusal = number; count = 0; tasks = replicate 16 0; jobs = replicate 16 0; toggled = false; answered = false; link = s }

-- a, b is one of the pairs
unfoldable pub is_pair : ℕ → ℕ → List Pair → Bool
is_pair a b [] = false
is_pair a b (p ∷ pairs) = cond (eqb p.a a && eqb p.b b) true (is_pair a b pairs)

abbrev pub pairs_in : Cycle → List Pair
pairs_in (cycle tasks pairs g h jobs) = pairs
pairs_in (no_cycle number) = []

-- "For a pair a, b of the request, a command goes out each time task a is served and a reply each time task b is." A call "is told which of the two are lost"
module _ (a b : ℕ) (lost : Losses) where
  abbrev pub arrivals_in : List ℕ → ℕ → Arrivals
  arrivals_in tasks n = record { command = arrives (serves a tasks n) lost.command; reply = arrives (serves b tasks n) lost.reply }

  -- the frame was served
  abbrev pub served_in : Frame → Link → Exchange
  served_in frame s = let got = arrivals_in frame.tasks frame.count in exchanged got.command got.reply frame s

  -- 15 is next-frame's
  abbrev pub exchanged_in : Frame → Link → Exchange
  exchanged_in frame s = cond (eqb frame.refusal 0) (served_in frame s) (refused_exchange frame.refusal s)

  -- "It refuses with 30, after the check's numbers and before 15, when a, b is no pair of the request."
  unfoldable pub exchange : List ℕ → List ℕ → Link → Exchange
  exchange request bytes s =
      cond (eqb (check_number request bytes) 0)
      (cond (is_pair a b (pairs_in (cycle_of request))) (exchanged_in (next_frame (decode bytes) s.state) s) (refused_exchange 30 s))
      (refused_exchange (check_number request bytes) s)
