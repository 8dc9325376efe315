-- The length that bus_rewrite answers is small.
use Rattle.std.specs.Prelude.{ℕ, ◌<◌, ◌≡◌, refl, List}
use Rattle.std.proofs.Common.{arith}
use Rattle.cycle.specs.Cycle.{cycle_of}
use Rattle.table.specs.Table.{decode, encode}
use Rattle.cursor.specs.WrittenLaws.{written_most}
use Rattle.model.specs.Plan.{Instance, IsPlan}
use Rattle.model.specs.Good.{Good}
use Rattle.model.specs.WithinLaws.{within_good}
use Rattle.model.specs.Described.{plan_table}
use Rattle.model.specs.PlanTable.{plan_table_length}
use Rattle.plan_writer.specs.Outcome.{Outcome, handed, outcome_answer}
use Rattle.plan_writer.specs.OutcomeLaws.{refused_answer, table_answer}
use Rattle.checker.specs.Checked as checker
use Rattle.checker.specs.Verdicts.{plan_read_lem}
use Rattle.rewriter.specs.Rewritten.{rewritten}
use Rattle.rewriter.specs.RewriteLaws.{rewritten_plan, rewritten_refused}

pub rewrite_few : (request bytes out : List ℕ) → (outcome_answer (rewritten request bytes) out).length < 65536
rewrite_few request bytes out = go (checker.checked (cycle_of request) (decode bytes)) refl
  where
    plan_few : (f : ℕ) (frames : List ℕ) (o : Outcome) (x : Instance) → Good x → IsPlan x f frames → o ≡ handed (plan_table x f frames) → (outcome_answer o out).length < 65536
    plan_few f frames o x good plan e =
        let table = plan_table x f frames in
        rw (e, table_answer table out) (omega (arith, written_most (encode table) out, plan_table_length x good f frames plan, plan.few_rows, good.few_jobs))

    go : (v : checker.Verdict) → checker.checked (cycle_of request) (decode bytes) ≡ v → (outcome_answer (rewritten request bytes) out).length < 65536
    go (checker.accepted f frames) is =
        let p = plan_read_lem request bytes f frames is in
        plan_few f frames (rewritten request bytes) p.x (within_good request p.x p.within) p.is_plan (rewritten_plan request bytes f frames is)
    go (checker.refusal n) is = rw (rewritten_refused request bytes n is, refused_answer n out) (omega arith)
