-- Lists of bus_heater_serve from C, on the bytes of a heater: they answer as the link's calls do, so the law of the link holds of what the caller sees.
use Rattle.std.specs.Prelude.{ℕ, ◌≤◌, ◌<◌, ◌≡◌, Bool, false, ◌⊎◌, List, ◌++◌, ℤ, pos, negsuc, length, get_or, drop, leb, eqb}
use Rattle.heater_link.specs.Exchange.{fresh_link}
use Rattle.heater_link.specs.Machine.{count_of}
use Rattle.heater_link.specs.Calls.{Ask, exchange_of, link_from, answers_given, LinkLaw}
use Rattle.heater_link.specs.declared.Link.{Link}
use Rattle.heater_link.specs.Numbered.{Exchange}
use Rattle.lent.specs.Entries.{entry_bytes}
use Rattle.lent.specs.HeaterBytes.{is_heater, link_of}
use Rattle.bus.specs.Reply.{refused_reply, reply, after}
use Rattle.bus.specs.Heater.{heater_fresh_reply, heater_fresh_bytes, losses_in, heater_reply, heater_after, heater_entries}
use Rattle.calls_in_c.specs.Runs.{Lending, Kind, all_seen, fed, Runs, RunsAll}

-- bus_heater_serve, with any bytes as its request and its table, any pair, any byte of losses and the entries' buffer as it was lent
pub record HeaterCall : Type 0 where
  pub request : List ℕ
  pub table : List ℕ
  pub a : ℕ
  pub b : ℕ
  pub lost : ℕ
  pub entries : List ℕ

-- the int32_t, the bytes of the entries' buffer, and whether the call toggled and answered
pub record HeaterSeen : Type 0 where
  pub answer : ℤ
  pub entries : List ℕ
  pub toggled : Bool
  pub answered : Bool

-- bytes 66 and 67 tell it of a call that was not refused: 1 is yes
abbrev pub told_by : ℤ → ℕ → Bool
told_by (pos n) byte = eqb byte 1
told_by (negsuc n) byte = false

abbrev pub heater_left : HeaterCall → List ℕ → List ℕ
heater_left c bytes = heater_after c.request c.table c.a c.b c.lost bytes c.entries

abbrev pub seen_of_heater : HeaterCall → List ℕ → HeaterSeen
seen_of_heater c bytes =
    let answer : ℤ = heater_reply c.request c.table c.a c.b c.lost bytes c.entries in
    record {
      answer = answer;
      entries = heater_entries c.request c.table c.a c.b c.lost bytes c.entries;
      toggled = told_by answer (get_or (heater_left c bytes) 66 0);
      answered = told_by answer (get_or (heater_left c bytes) 67 0);
    }

abbrev pub heater_sent_back : HeaterCall → HeaterSeen
heater_sent_back c = record { answer = refused_reply 99; entries = c.entries; toggled = false; answered = false }

abbrev pub heater_asked : HeaterCall → Ask
heater_asked c = record { request = c.request; table = c.table; a = c.a; b = c.b; lost = losses_in c.lost }

-- An answer of the link as C sees it: 16 pairs of a task byte and a job byte, and the bytes behind them stay
abbrev pub exchange_shown : List ℕ → Exchange → HeaterSeen
exchange_shown entries r = record {
  answer = reply r.refusal r.count;
  entries = after r.refusal (entry_bytes r.tasks r.jobs 16 0 ++ drop 32 entries) entries;
  toggled = r.toggled;
  answered = r.answered;
}

-- the state's 35 bytes, the two bits, and what the last call said
abbrev pub UsedInHeater : ℕ → Type 0
UsedInHeater i = (i < 35) ⊎ ((64 ≤ i) × (i < 68))

abbrev pub heaters : Kind Link HeaterCall HeaterSeen Ask
heaters = record {
  size = 72;
  Used = UsedInHeater;
  good = is_heater;
  says = link_of;
  seen = seen_of_heater;
  leaves = heater_left;
  fits = λ c. leb 32 (length c.entries);
  sent_back = heater_sent_back;
  asked = heater_asked;
  shown = λ c s. exchange_shown c.entries (exchange_of s (heater_asked c));
  final = link_from;
}

-- a list of calls on a heater that bus_heater_fresh made
pub record HeaterToldInC (bytes : List ℕ) (calls : List (Lending HeaterCall)) : Type 0 where
  pub runs : Runs heaters (heater_fresh_bytes bytes) calls
  pub from_fresh : link_of (heater_fresh_bytes bytes) ≡ fresh_link
  -- so the caller counts as many toggles and answers as the calls below give, and of these the law holds
  pub toggles_seen : count_of (λ (s : HeaterSeen). s.toggled) (all_seen heaters (heater_fresh_bytes bytes) calls)
      ≡ count_of (λ (r : Exchange). r.toggled) (answers_given (fed heaters calls))
  pub answers_seen : count_of (λ (s : HeaterSeen). s.answered) (all_seen heaters (heater_fresh_bytes bytes) calls)
      ≡ count_of (λ (r : Exchange). r.answered) (answers_given (fed heaters calls))
  pub law : LinkLaw (fed heaters calls)

-- of all bytes; and of a heater to which bus_heater_fresh answered 0
abbrev pub HeaterInC : Type 0
HeaterInC = RunsAll heaters × ((bytes : List ℕ) → heater_fresh_reply bytes ≡ pos 0 → (calls : List (Lending HeaterCall)) → HeaterToldInC bytes calls)
