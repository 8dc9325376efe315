-- What is looked for among entries and pairs, and each way out of a call, as the definitions have them.
use Rattle.std.specs.Prelude.{ℕ, zero, suc, ◌+◌, ◌≤◌, ◌<◌, ◌≡◌, Bool, cond, ◌||◌, List, ◌∷◌, get_or, take, drop}
use Rattle.std.specs.List.{list_any}
use Rattle.std.proofs.Math.Path.{refl}
use Rattle.std.proofs.Common.{sym, ap, ◌∙◌, add-one, arith, drop_of_length-le, drop-cons, length-take-le}
use Rattle.std.proofs.lemmas.List.{get_or-take, ext_get_or}
use Rattle.std.proofs.Math.Bool.{true, false}
use Rattle.std.proofs.Math.ListN.{length}
use Rattle.std.proofs.Math.Dec.{eqb}
use borrow.Author.Tests.{eqb-true, eq-eqb, ne_eqb}
use Rattle.cursor.specs.Padded.{firsts}
use Rattle.cursor.specs.PaddedLaws.{firsts_length, firsts_padded, get_or_firsts}
use Rattle.request.specs.Request.{no_pair}
use Rattle.request.specs.declared.Pair.{Pair}
use Rattle.cycle.specs.Cycle.{cycle_of}
use Rattle.cycle.specs.Answers.{cycle_answered}
use Rattle.cycle.specs.declared.Cycle.{Cycle}
use Rattle.table.specs.Table.{Table, table, decode}
use Rattle.model.specs.Plan.{Instance}
use Rattle.model.specs.Within.{Within}
use Rattle.model.specs.WithinLaws.{within_limits}
use Rattle.plan_rules.specs.EveryLaws.{some_from}
use Rattle.checker.specs.Checked.{Verdict, accepted, refusal, verdict_number, checked, check_number}
use Rattle.checker.specs.Answers.{read_answer}
use Rattle.checker.specs.ReadLaws.{answer_number, answer_cycle}
use Rattle.checker.specs.Numbered.{Read}
use Rattle.checker.specs.Verdicts.{plan_read_lem, refusal_number}
use Rattle.dispatcher.specs.Dispatch.{next_frame}
use Rattle.dispatcher.specs.FrameLaws.{frame_few}
use Rattle.dispatcher.specs.Numbered.{Frame}
use Rattle.heater_link.specs.Exchange.{serves, refused_exchange, served_in, exchanged_in, is_pair, pairs_in, exchange}
use Rattle.heater_link.specs.declared.Link.{Link}
use Rattle.heater_link.specs.declared.Losses.{Losses}
use Rattle.heater_link.specs.Numbered.{Exchange}

-- The entries and the pairs, as a slice of the first ones shows them

served_among_from : (task : ℕ) (tasks : List ℕ) (n i : ℕ) → i + n ≤ length tasks
    → list_any (λ t. eqb t task) (take n (drop i tasks)) ≡ some_from (λ p. eqb (get_or tasks p 0) task) n i
served_among_from task tasks zero i h = refl
served_among_from task tasks (suc n) i h =
    let test : ℕ → Bool = λ p. eqb (get_or tasks p 0) task in
    let later = ap (λ (j : ℕ). list_any (λ t. eqb t task) (take n (drop j tasks))) (sym (add-one i)) ∙ served_among_from task tasks n (i + 1) (omega arith) in
    rw (drop-cons tasks i 0 (omega arith))
    (elim (test i) as (λ t. (t || list_any (λ t. eqb t task) (take n (drop (suc i) tasks))) ≡ cond t true (some_from test n (i + 1))) [ true ↦ refl | false ↦ later ])

pub served_among : (task : ℕ) (tasks : List ℕ) (n : ℕ) → n ≤ length tasks → list_any (λ t. eqb t task) (take n tasks) ≡ serves task tasks n
served_among task tasks n h = served_among_from task tasks n 0 (omega arith)

-- the pairs: those from place u on are left
abbrev pub pairs_left : ℕ → ℕ → List Pair → ℕ → Bool
pairs_left a b pairs u = is_pair a b (drop u pairs)

module _ (a b : ℕ) (pairs : List Pair) (u : ℕ) where
  next : u < length pairs → drop u pairs ≡ get_or pairs u no_pair ∷ drop (u + 1) pairs
  next h = rw (add-one u, drop-cons pairs u no_pair h)

  pub pair_here : u < length pairs → (get_or pairs u no_pair).a ≡ a → (get_or pairs u no_pair).b ≡ b → true ≡ pairs_left a b pairs u
  unfolding is_pair
  pair_here h e q = rw (next h, eq-eqb _ a e, eq-eqb _ b q)

  pub other_first : u < length pairs → ((get_or pairs u no_pair).a ≡ a → ⊥) → pairs_left a b pairs (u + 1) ≡ pairs_left a b pairs u
  unfolding is_pair
  other_first h ne = rw (next h, ne_eqb _ a ne)

  pub other_second : u < length pairs → (get_or pairs u no_pair).a ≡ a → ((get_or pairs u no_pair).b ≡ b → ⊥) → pairs_left a b pairs (u + 1) ≡ pairs_left a b pairs u
  unfolding is_pair
  other_second h e ne = rw (next h, eq-eqb _ a e, ne_eqb _ b ne)

  pub no_pair_lem : length pairs ≤ u → false ≡ pairs_left a b pairs u
  unfolding is_pair
  no_pair_lem h = rw (drop_of_length-le pairs h)

pub pairs_taken : (pairs : List Pair) (m : ℕ) → m ≤ length pairs → take m pairs ≡ firsts m no_pair pairs
pairs_taken pairs m h =
    let as_many : length (take m pairs) ≡ m = length-take-le m pairs h in
    ext_get_or no_pair (take m pairs) (firsts m no_pair pairs) (as_many ∙ sym (firsts_length no_pair pairs m))
    (λ i l. let below : i < m = omega (arith, as_many) in get_or-take m pairs i no_pair below ∙ sym (get_or_firsts no_pair pairs m i below))

-- The whole call

-- what passes the check was read
pub record Passed (request bytes : List ℕ) : Type 0 where
  pub x : Instance
  pub within : Within request x
  pub t : Table
  pub read : decode bytes ≡ table t

module _ (request bytes : List ℕ) where
  pub passed : check_number request bytes ≡ 0 → Passed request bytes
  passed pass = go (checked (cycle_of request) (decode bytes)) refl pass
    where
      go : (v : Verdict) → checked (cycle_of request) (decode bytes) ≡ v → verdict_number v ≡ 0 → Passed request bytes
      go (accepted f frames) is q = let r = plan_read_lem request bytes f frames is in record { x = r.x; within = r.within; t = r.t; read = r.read }
      go (refusal n) is q = absurd (omega (arith, (refusal_number request bytes n is).0))

  -- the number and the cycle that the check hands on
  module _ (r : Read) (e : r ≡ read_answer (cycle_answered (cycle_of request)) (checked (cycle_of request) (decode bytes))) where
    pub number_is : r.refusal ≡ check_number request bytes
    number_is = ap (λ (y : Read). y.refusal) e ∙ answer_number (cycle_answered (cycle_of request)) (checked (cycle_of request) (decode bytes))

    pub cycle_is : r.cycle ≡ cycle_answered (cycle_of request)
    cycle_is = ap (λ (y : Read). y.cycle) e ∙ answer_cycle (cycle_answered (cycle_of request)) (checked (cycle_of request) (decode bytes))

  module _ (pass : check_number request bytes ≡ 0) (c : Cycle) (is : c ≡ cycle_answered (cycle_of request)) where
    abbrev x : Instance
    x = (passed pass).x

    pairs_counted : c.m ≡ length x.pairs
    pairs_counted = ap (λ (y : Cycle). y.m) (is ∙ ap cycle_answered (passed pass).within)

    pub few_pairs : c.m ≤ 16
    few_pairs = omega (arith, pairs_counted, (within_limits request x (passed pass).within).readable.few_pairs)

    pub same_pairs : firsts c.m no_pair c.pairs ≡ pairs_in (cycle_of request)
    same_pairs = rw (is, (passed pass).within, firsts_padded 16 no_pair x.pairs)

module _ (a b : ℕ) (lost : Losses) (request bytes : List ℕ) (s : Link) where
  -- "after the check's numbers"
  pub check_refuses : (number : ℕ) → number ≡ check_number request bytes → (number ≡ 0 → ⊥) → refused_exchange number s ≡ exchange a b lost request bytes s
  unfolding exchange
  check_refuses number is ne = rw (ne_eqb (check_number request bytes) 0 (λ q. ne (is ∙ q)), is)

  module _ (pass : check_number request bytes ≡ 0) where
    -- 30
    pub pair_refused : is_pair a b (pairs_in (cycle_of request)) ≡ false → refused_exchange 30 s ≡ exchange a b lost request bytes s
    unfolding exchange
    pair_refused e = rw (eq-eqb (check_number request bytes) 0 pass, e)

    pub pair_served : is_pair a b (pairs_in (cycle_of request)) ≡ true
        → exchanged_in a b lost (next_frame (decode bytes) s.state) s ≡ exchange a b lost request bytes s
    unfolding exchange
    pair_served e = rw (eq-eqb (check_number request bytes) 0 pass, e)

-- The frame

module _ (a b : ℕ) (lost : Losses) (frame : Frame) (s : Link) where
  -- 15
  pub frame_refused : (frame.refusal ≡ 0 → ⊥) → refused_exchange frame.refusal s ≡ exchanged_in a b lost frame s
  frame_refused ne = rw (ne_eqb frame.refusal 0 ne)

  pub frame_exchanged : frame.refusal ≡ 0 → served_in a b lost frame s ≡ exchanged_in a b lost frame s
  frame_exchanged z = rw (eq-eqb frame.refusal 0 z)

-- A call is refused, or what passes the check and is a pair gets its frame served: what holds of both holds of its answer.
module _ (a b : ℕ) (lost : Losses) (request bytes : List ℕ) (s : Link) where
  abbrev frame : Frame
  frame = next_frame (decode bytes) s.state

  pub exchange_cases : (P : Exchange → Type 0) → ((number : ℕ) → P (refused_exchange number s))
      → (check_number request bytes ≡ 0 → is_pair a b (pairs_in (cycle_of request)) ≡ true → P (served_in a b lost frame s))
      → P (exchange a b lost request bytes s)
  unfolding exchange
  exchange_cases P number done = go (eqb (check_number request bytes) 0) refl (is_pair a b (pairs_in (cycle_of request))) refl (eqb frame.refusal 0)
    where
      go : (pass : Bool) → eqb (check_number request bytes) 0 ≡ pass → (pair : Bool) → is_pair a b (pairs_in (cycle_of request)) ≡ pair → (shown : Bool)
          → P (cond pass (cond pair (cond shown (served_in a b lost frame s) (refused_exchange frame.refusal s)) (refused_exchange 30 s)) (refused_exchange (check_number request bytes) s))
      go true e true q true = done (eqb-true (check_number request bytes) 0 e) q
      go true e true q false = number frame.refusal
      go true e false q shown = number 30
      go false e pair q shown = number (check_number request bytes)

  -- no call answers more than 16 entries
  pub few_entries : (exchange a b lost request bytes s).count ≤ 16
  few_entries = exchange_cases (λ r. r.count ≤ 16) (λ number. omega arith) (λ pass pair. frame_few bytes s.state)
