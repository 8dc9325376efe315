-- What planning comes to: a table of the right form with at most 256 rows and 128 entries, so of at most 519 bytes, or a number from 1 to 23. And how it
-- stands in a buffer of 519 bytes or more, for a caller that reads it there.
use Rattle.std.specs.Prelude.{ℕ, ◌≤◌, ◌<◌, ◌≡◌, refl, Bool, true, false, cond, List, length, take, ltb}
use Rattle.std.proofs.Common.{sym, ◌∙◌, arith}
use Rattle.std.proofs.Math.Path.{ap}
use Rattle.std.proofs.Math.Seq.{take-append_seam}
use Rattle.cursor.specs.ParsedLaws.{never}
use Rattle.cycle.specs.Cycle.{Cycle, cycle, no_cycle, cycle_of}
use Rattle.cycle.specs.LimitLaws.{cycle_within, no_cycle_number, request_number_pos, request_number_few}
use Rattle.table.specs.Table.{Table, encode}
use Rattle.table.specs.WellFormed.{WellFormed}
use Rattle.table.specs.LengthLaws.{entry_count}
use Rattle.cursor.specs.Written.{Written}
use Rattle.model.specs.Plan.{Instance}
use Rattle.model.specs.Good.{Good}
use Rattle.model.specs.Answers.{instance}
use Rattle.model.specs.AnswerLaws.{instance_good}
use Rattle.model.specs.Chosen.{Choice, chosen, no_plan, no_plausible, choose, RightBy, RightChoice}
use Rattle.model.specs.ChosenLaws.{choose_right}
use Rattle.model.specs.PlanTable.{plan_entries, plan_table_describes, plan_table_length}
use Rattle.model.specs.Within.{Within}
use Rattle.plan_writer.specs.Outcome.{Outcome, handed, refusal, outcome_answer, outcome_buffer}
use Rattle.plan_writer.specs.OutcomeLaws.{refused_answer, handed_answer, handed_buffer, answer_within}
use Rattle.planner.specs.Outcome.{by_choice, in_cycle, outcome, request_tries, outcome_within, searched_answer}
use Rattle.planner.specs.Numbered.{Searched}

pub record GoodTable (t : Table) : Type 0 where
  pub form : WellFormed t
  pub few_entries : entry_count t.rows ≤ 128
  pub short : length (encode t) ≤ 519

abbrev pub GoodOutcome : Outcome → Type 0
GoodOutcome (handed t) = GoodTable t
GoodOutcome (refusal number) = (0 < number) × (number ≤ 23)

pub outcome_good : (request : List ℕ) → GoodOutcome (outcome request)
unfolding outcome RightBy
outcome_good request = by_cycle (cycle_of request) refl
  where
    by_choice_lem : (x : Instance) → Good x → x.h ≤ 10000 → (o : Choice) → RightChoice x o → GoodOutcome (by_choice x o)
    by_choice_lem x good few (chosen f frames) r =
        let plan = r.is_plan in
        record {
          form = (plan_table_describes x good f frames plan few).form;
          few_entries = omega (arith, plan_entries x good f frames plan, good.few_jobs);
          short = omega (arith, plan_table_length x good f frames plan, plan.few_rows, good.few_jobs);
        }
    by_choice_lem x good few no_plan r = (omega arith, omega arith)
    by_choice_lem x good few no_plausible r = (omega arith, omega arith)

    by_cycle : (c : Cycle) → cycle_of request ≡ c → GoodOutcome (in_cycle c)
    by_cycle (cycle tasks pairs g h jobs) e =
        let within = cycle_within request tasks pairs g h jobs e in
        let x = instance tasks pairs g h jobs in
        let good = instance_good tasks pairs g h jobs within in
        by_choice_lem x good within.h_few (choose x) (choose_right x good)
    by_cycle (no_cycle number) e = let own = no_cycle_number request number e in (request_number_pos own, omega (arith, request_number_few own))

-- within an allowance it comes to the same, or to 23
pub outcome_within_good : (allowance : ℕ) (request : List ℕ) → GoodOutcome (outcome_within allowance request)
unfolding outcome_within
outcome_within_good allowance request = go (ltb allowance (request_tries request))
  where
    go : (b : Bool) → GoodOutcome (cond b (refusal 23) (outcome request))
    go true = (omega arith, omega arith)
    go false = outcome_good request

-- so a table that is handed out is the full search's
pub handed_within : (allowance : ℕ) (request : List ℕ) (t : Table) → outcome_within allowance request ≡ handed t → outcome request ≡ handed t
unfolding outcome_within
handed_within allowance request t e = go (ltb allowance (request_tries request)) e
  where
    go : (b : Bool) → cond b (refusal 23) (outcome request) ≡ handed t → outcome request ≡ handed t
    go true q = absurd (never (cc))
    go false q = q

-- the table that was handed out stands in the first bytes of the buffer
pub record ReadBack (o : Outcome) (size : ℕ) (bytes : List ℕ) : Type 0 where
  pub t : Table
  pub is : o ≡ handed t
  pub good : GoodTable t
  pub few : size ≤ 519
  pub front : take size bytes ≡ encode t

module _ (out : List ℕ) (room : 519 ≤ length out) (w : Written) where
  pub read_back : (o : Outcome) → GoodOutcome o → w ≡ outcome_answer o out → w.refusal ≡ 0 → ReadBack o w.length (outcome_buffer o out)
  read_back (handed t) good e z =
      let fits : length (encode t) ≤ length out = omega (arith, good.short) in
      let size : w.length ≡ length (encode t) = ap (λ (x : Written). x.length) (e ∙ handed_answer t out fits) in
      record {
        t = t;
        is = refl;
        good = good;
        few = omega (arith, good.short);
        front = rw (size, handed_buffer t out fits) (take-append_seam (encode t) _);
      }
  read_back (refusal number) good e z = absurd (omega (arith, ap (λ (x : Written). x.refusal) (e ∙ refused_answer number out), good.0))

  pub not_handed : (o : Outcome) → GoodOutcome o → w ≡ outcome_answer o out → (w.refusal ≡ 0 → ⊥) → o ≡ refusal w.refusal
  not_handed (handed t) good e ne = absurd (ne (ap (λ (x : Written). x.refusal) (e ∙ handed_answer t out (omega (arith, good.short)))))
  not_handed (refusal number) good e ne = ap refusal (sym (ap (λ (x : Written). x.refusal) (e ∙ refused_answer number out)))

-- what is handed out belongs to a request within the limits
pub handed_cycle : (request : List ℕ) (t : Table) → outcome request ≡ handed t → (x : Instance) × Within request x
unfolding outcome
handed_cycle request t e = go (cycle_of request) refl e
  where
    go : (c : Cycle) → cycle_of request ≡ c → in_cycle c ≡ handed t → (x : Instance) × Within request x
    go (cycle tasks pairs g h jobs) is q = (instance tasks pairs g h jobs, is)
    go (no_cycle number) is q = absurd (never (cc))

pub handed_within_cycle : (allowance : ℕ) (request : List ℕ) (t : Table) → outcome_within allowance request ≡ handed t → (x : Instance) × Within request x
handed_within_cycle allowance request t e = handed_cycle request t (handed_within allowance request t e)

-- an answer without its count is the outcome's
abbrev pub written_of : Searched → Written
written_of r = record { refusal = r.refusal; length = r.length }

module _ (allowance : ℕ) (request out : List ℕ) {r : Searched} (e : r ≡ searched_answer allowance request out) where
  pub searched_written : written_of r ≡ outcome_answer (outcome_within allowance request) out
  unfolding searched_answer
  searched_written = ap written_of e

  pub searched_length : r.length ≤ length out
  searched_length = rw (ap (λ (w : Written). w.length) searched_written) (answer_within (outcome_within allowance request) out)
