-- The ways out of bus_plan.
use Rattle.std.specs.Prelude.{ℕ, ◌≤◌, ◌<◌, ◌≡◌, List, ◌++◌, ℤ, length}
use Rattle.std.proofs.Math.Path.{ap}
use Rattle.std.proofs.Common.{◌∙◌, arith}
use Rattle.std.proofs.Math.ListN.{drop}
use borrow.Author.Tests.{lt-ltb, le-ltb}
use Rattle.cursor.specs.WrittenLaws.{written_most}
use Rattle.table.specs.Table.{encode}
use Rattle.plan_writer.specs.Outcome.{Outcome, handed, refusal, outcome_answer, outcome_buffer}
use Rattle.plan_writer.specs.OutcomeLaws.{refused_answer, table_answer}
use Rattle.planner.specs.Outcome.{outcome_within, searched_answer}
use Rattle.planner.specs.TableLaws.{GoodOutcome, outcome_within_good}
use Rattle.planner.specs.Numbered.{Searched}
use Rattle.lent.specs.Numbers.{low_first}
use Rattle.bus.specs.Reply.{refused_reply, reply}
use Rattle.bus.specs.Plan.{plan_reply, plan_buffer, plan_tries}

-- what is handed out is no longer than two bytes count
pub outcome_few : (out : List ℕ) (o : Outcome) → GoodOutcome o → (outcome_answer o out).length < 65536
outcome_few out (handed t) good = rw (table_answer t out) (omega (arith, written_most (encode t) out, good.short))
outcome_few out (refusal number) good = rw (refused_answer number out) (omega arith)

module _ (allowance : ℕ) (request out tries : List ℕ) where
  abbrev pub PlanAnswered : ℤ → List ℕ → List ℕ → Type 0
  PlanAnswered z out' tries' =
      (z ≡ plan_reply allowance request out tries) × (out' ≡ plan_buffer allowance request out tries) × (tries' ≡ plan_tries allowance request out tries)

  pub no_count : length tries < 8 → PlanAnswered (refused_reply 99) out tries
  unfolding plan_reply plan_buffer plan_tries
  no_count h = let e = lt-ltb (length tries) 8 h in (rw e, rw e, rw e)

  module _ (room : 8 ≤ length tries) (s : Searched) (is : s ≡ searched_answer allowance request out) where
    pub plan_few : s.length < 65536
    unfolding searched_answer
    plan_few = rw is (outcome_few out (outcome_within allowance request) (outcome_within_good allowance request))

    module _ (out' tries' : List ℕ) (left : out' ≡ outcome_buffer (outcome_within allowance request) out) (counted : tries' ≡ low_first 8 s.tries ++ drop 8 tries) where
      pub plan_answered : (z : ℤ) → z ≡ reply s.refusal s.length → PlanAnswered z out' tries'
      unfolding plan_reply plan_buffer plan_tries
      plan_answered z q =
          let e = le-ltb (length tries) 8 room in
          (rw e (q ∙ ap (λ (x : Searched). reply x.refusal x.length) is), rw e left, rw e (counted ∙ ap (λ (x : Searched). low_first 8 x.tries ++ drop 8 tries) is))
