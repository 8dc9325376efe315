-- The law of the heater link holds over every list of calls. Call by call the two ends take what arrives, and a refused call is a frame in which nothing does:
-- so their law is the link's.
use Rattle.std.specs.Prelude.{ℕ, zero, suc, ◌≤◌, ◌<◌, ◌≡◌, refl, Bool, true, false, not, ◌↔◌, List, [], ◌∷◌, map, length, get_or}
use Rattle.std.proofs.Common.{sym, ap, ◌∙◌, ⊎_elim, arith}
use Rattle.std.proofs.Math.ListN.{get_or-map}
use Rattle.std.proofs.lemmas.Bool.{not-true}
use Rattle.cursor.specs.ChoiceLaws.{lt_or_ge}
use Rattle.cursor.specs.ParsedLaws.{both_true}
use Rattle.cycle.specs.Cycle.{cycle_of}
use Rattle.checker.specs.Checked.{check_number}
use Rattle.heater_link.specs.Machine.{Ends, Arrivals, Effect, outcome, ends_now, outcomes, count_of, no_arrivals, no_outcome, arrivals_at, outcome_at}
use Rattle.heater_link.specs.MachineLaws.{ends_law}
use Rattle.heater_link.specs.Law.{Lawful}
use Rattle.heater_link.specs.LawLaws.{same_law}
use Rattle.heater_link.specs.Exchange.{fresh_link, ends_of, serves, arrivals_in, refused_exchange, is_pair, pairs_in}
use Rattle.heater_link.specs.StepLaws.{passed, exchange_cases}
use Rattle.heater_link.specs.PairLaws.{is_pair_says, pair_rises, serves_says, says_serves}
use Rattle.heater_link.specs.OrderLaws.{tasks_rise}
use Rattle.heater_link.specs.Calls.{Ask, exchange_of, exchanges_from, no_ask}
use Rattle.heater_link.specs.Calls.{ask_at, answers_given, answer_at, TaskServed, CommandArrives, ReplyArrives, Toggled, Answered, LinkHolds}
use Rattle.heater_link.specs.declared.Link.{Link}
use Rattle.heater_link.specs.Numbered.{Exchange}

-- One call: what arrived, and what it said

abbrev arrivals_of : Ask → Exchange → Arrivals
arrivals_of q r = arrivals_in q.a q.b q.lost r.tasks r.count

abbrev said_by : Exchange → Effect
said_by r = record { toggled = r.toggled; answered = r.answered }

-- the two ends took what arrived
record Turn (s : Link) (q : Ask) (r : Exchange) : Type 0 where
  pub said : said_by r ≡ outcome (ends_of s) (arrivals_of q r)
  pub ends : ends_of r.link ≡ ends_now (ends_of s) (arrivals_of q r)

turn : (s : Link) (q : Ask) → Turn s q (exchange_of s q)
turn s q =
    exchange_cases q.a q.b q.lost q.request q.table s (Turn s q) (λ number. record { said = refl; ends = refl })
    (λ pass pair. record { said = refl; ends = refl })

-- The list

unfoldable arrivals_from : Link → List Ask → List Arrivals
arrivals_from s [] = []
arrivals_from s (q ∷ asks) = arrivals_of q (exchange_of s q) ∷ arrivals_from (exchange_of s q).link asks

arrivals_length : (s : Link) (asks : List Ask) → length (arrivals_from s asks) ≡ length asks
unfolding arrivals_from
arrivals_length s [] = refl
arrivals_length s (q ∷ asks) = ap suc (arrivals_length (exchange_of s q).link asks)

same_outcomes : (s : Link) (asks : List Ask) → map said_by (exchanges_from s asks) ≡ outcomes (ends_of s) (arrivals_from s asks)
unfolding exchanges_from arrivals_from outcomes
same_outcomes s [] = refl
same_outcomes s (q ∷ asks) =
    let w = turn s q in
    let rest = same_outcomes (exchange_of s q).link asks ∙ ap (λ (e : Ends). outcomes e (arrivals_from (exchange_of s q).link asks)) w.ends in
    λ i. w.said i ∷ rest i

counts_same : (says : Effect → Bool) (rs : List Exchange) → count_of (λ (r : Exchange). says (said_by r)) rs ≡ count_of says (map said_by rs)
unfolding count_of
counts_same says [] = refl
counts_same says (r ∷ rs) = rw (counts_same says rs)

-- what holds of every call and its answer, and of no call, holds at each place of a list
each_call : (P : Ask → Exchange → Type 0) → ((s : Link) (q : Ask) → P q (exchange_of s q)) → P no_ask (refused_exchange 0 fresh_link)
    → (s : Link) (asks : List Ask) (m : ℕ) → P (get_or asks m no_ask) (get_or (exchanges_from s asks) m (refused_exchange 0 fresh_link))
unfolding exchanges_from
each_call P call none s [] m = none
each_call P call none s (q ∷ asks) zero = call s q
each_call P call none s (q ∷ asks) (suc m) = each_call P call none (exchange_of s q).link asks m

arrivals_at_lem : (s : Link) (asks : List Ask) (m : ℕ)
    → get_or (arrivals_from s asks) m no_arrivals ≡ arrivals_of (get_or asks m no_ask) (get_or (exchanges_from s asks) m (refused_exchange 0 fresh_link))
unfolding arrivals_from exchanges_from
arrivals_at_lem s [] m = refl
arrivals_at_lem s (q ∷ asks) zero = refl
arrivals_at_lem s (q ∷ asks) (suc m) = arrivals_at_lem (exchange_of s q).link asks m

-- The order inside a call

record InOrder (q : Ask) (r : Exchange) : Type 0 where
  pub rise : (i j : ℕ) → i < j → j < r.count → get_or r.tasks i 0 < get_or r.tasks j 0
  pub pair : 0 < r.count → q.a < q.b

in_order : (s : Link) (q : Ask) → InOrder q (exchange_of s q)
in_order s q =
    exchange_cases q.a q.b q.lost q.request q.table s (InOrder q)
    (λ number. record { rise = λ i j l h. absurd (omega arith); pair = λ h. absurd (omega arith) })
    (λ pass pair. record { rise = tasks_rise q.table s.state; pair = λ h. rises pass pair })
  where
    rises : check_number q.request q.table ≡ 0 → is_pair q.a q.b (pairs_in (cycle_of q.request)) ≡ true → q.a < q.b
    rises pass found =
        let p = passed q.request q.table pass in
        pair_rises p.x q.a q.b q.request p.within (is_pair_says p.x q.a q.b (rw p.within at found))

module _ (asks : List Ask) where
  ordered : (m : ℕ) → InOrder (ask_at asks m) (answer_at asks m)
  ordered = each_call InOrder in_order (record { rise = λ i j l h. absurd (omega arith); pair = λ h. absurd (omega arith) }) fresh_link asks

  abbrev xs : List Arrivals
  xs = arrivals_from fresh_link asks

  outcome_is : (m : ℕ) → outcome_at xs m ≡ said_by (answer_at asks m)
  outcome_is m =
      ap (λ (os : List Effect). get_or os m no_outcome) (sym (same_outcomes fresh_link asks)) ∙ get_or-map said_by (answers_given asks) m (refused_exchange 0 fresh_link)

  -- what arrives at one of the ends, in words and in the machine
  served_same : (m i : ℕ) → (serves i (answer_at asks m).tasks (answer_at asks m).count ≡ true) ↔ TaskServed asks m i
  served_same m i = (
    λ q. let w = serves_says i (answer_at asks m).tasks (answer_at asks m).count q in
        record { place = w.place; filled = w.below; is_task = w.is_task },
    λ w. says_serves i (answer_at asks m).tasks (answer_at asks m).count w.place w.filled w.is_task,
  )

  lost_not : (lost : Bool) → lost ≡ false → not lost ≡ true
  lost_not lost e = rw e

  command_same : (m : ℕ) → ((arrivals_at xs m).command ≡ true) ↔ CommandArrives asks m
  command_same m = let at = ap (λ (x : Arrivals). x.command) (arrivals_at_lem fresh_link asks m) in (
    λ q. let w = both_true (serves (ask_at asks m).a (answer_at asks m).tasks (answer_at asks m).count) _ (sym at ∙ q) in
        record { a_served = (served_same m (ask_at asks m).a).0 w.0; not_lost = not-true (ask_at asks m).lost.command w.1 },
    λ w. at ∙ rw ((served_same m (ask_at asks m).a).1 w.a_served) (lost_not (ask_at asks m).lost.command w.not_lost),
  )

  reply_same : (m : ℕ) → ((arrivals_at xs m).reply ≡ true) ↔ ReplyArrives asks m
  reply_same m = let at = ap (λ (x : Arrivals). x.reply) (arrivals_at_lem fresh_link asks m) in (
    λ q. let w = both_true (serves (ask_at asks m).b (answer_at asks m).tasks (answer_at asks m).count) _ (sym at ∙ q) in
        record { b_served = (served_same m (ask_at asks m).b).0 w.0; not_lost = not-true (ask_at asks m).lost.reply w.1 },
    λ w. at ∙ rw ((served_same m (ask_at asks m).b).1 w.b_served) (lost_not (ask_at asks m).lost.reply w.not_lost),
  )

  toggled_same : (m : ℕ) → ((outcome_at xs m).toggled ≡ true) ↔ Toggled asks m
  toggled_same m = let is = ap (λ (o : Effect). o.toggled) (outcome_is m) in (λ q. sym is ∙ q, λ q. is ∙ q)

  answered_same : (m : ℕ) → ((outcome_at xs m).answered ≡ true) ↔ Answered asks m
  answered_same m = let is = ap (λ (o : Effect). o.answered) (outcome_is m) in (λ q. sym is ∙ q, λ q. is ∙ q)

  lawful :
      Lawful (length asks) (CommandArrives asks) (ReplyArrives asks) (Toggled asks) (Answered asks)
      (count_of (λ (r : Exchange). r.toggled) (answers_given asks)) (count_of (λ (r : Exchange). r.answered) (answers_given asks))
  lawful =
      let toggles : count_of (λ (r : Exchange). r.toggled) (answers_given asks) ≡ count_of (λ (o : Effect). o.toggled) (map said_by (answers_given asks))
      = counts_same (λ (o : Effect). o.toggled) (answers_given asks) in
      let answers : count_of (λ (r : Exchange). r.answered) (answers_given asks) ≡ count_of (λ (o : Effect). o.answered) (map said_by (answers_given asks))
      = counts_same (λ (o : Effect). o.answered) (answers_given asks) in
      rw (toggles, answers, same_outcomes fresh_link asks, ← arrivals_length fresh_link asks)
      (same_law (length xs) (λ m. (arrivals_at xs m).command ≡ true) (λ m. (arrivals_at xs m).reply ≡ true) (λ m. (outcome_at xs m).toggled ≡ true)
      (λ m. (outcome_at xs m).answered ≡ true) (CommandArrives asks) (ReplyArrives asks) (Toggled asks) (Answered asks) command_same reply_same toggled_same
      answered_same (count_of (λ (o : Effect). o.toggled) (outcomes (ends_of fresh_link) xs)) (count_of (λ (o : Effect). o.answered) (outcomes (ends_of fresh_link) xs))
      (ends_law xs))

  command_before : (m p q : ℕ) → p < (answer_at asks m).count → q < (answer_at asks m).count
      → get_or (answer_at asks m).tasks p 0 ≡ (ask_at asks m).a → get_or (answer_at asks m).tasks q 0 ≡ (ask_at asks m).b → p < q
  command_before m p q h l e f = ⊎_elim (λ w. w) (λ w. absurd (go w)) (lt_or_ge p q)
    where
      less : (ask_at asks m).a < (ask_at asks m).b
      less = (ordered m).pair (omega arith)

      go : q ≤ p → ⊥
      go w = ⊎_elim (λ v. omega (arith, less, (ordered m).rise q p v h)) (λ v. same (omega arith)) (lt_or_ge q p)
        where
          same : p ≡ q → ⊥
          same z = omega (arith, less, rw z at e)

  once_served : (m p q : ℕ) → p < (answer_at asks m).count → q < (answer_at asks m).count
      → get_or (answer_at asks m).tasks p 0 ≡ get_or (answer_at asks m).tasks q 0 → p ≡ q
  once_served m p q h l e =
      ⊎_elim (λ v. absurd (omega (arith, (ordered m).rise p q v l)))
      (λ v. ⊎_elim (λ u. absurd (omega (arith, (ordered m).rise q p u h))) (λ u. omega arith) (lt_or_ge q p)) (lt_or_ge p q)

-- THE THEOREM: for every list of calls, refused ones among them, and every pattern of losses.
pub link_law : LinkHolds
link_law asks = record { lawful = lawful asks; command_before = command_before asks; once_served = once_served asks }
