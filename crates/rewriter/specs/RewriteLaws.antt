-- The two ways out of rewriting: the check's refusal, and the plan that was read, which is written as its table.
use Rattle.std.specs.Prelude.{ℕ, ◌≡◌, refl, List}
use Rattle.std.proofs.Math.Path.{ap, ap₂}
use Rattle.cycle.specs.Cycle.{cycle_of}
use Rattle.cycle.specs.Answers.{cycle_answered}
use Rattle.table.specs.Table.{decode}
use Rattle.cursor.specs.Written.{Written}
use Rattle.model.specs.Plan.{Instance}
use Rattle.model.specs.Answers.{instance_of}
use Rattle.model.specs.Within.{InLimits}
use Rattle.model.specs.Described.{plan_table}
use Rattle.plan_writer.specs.Written.{plan_written, plan_buffer}
use Rattle.plan_writer.specs.WriteLaws.{plan_written_lem}
use Rattle.plan_writer.specs.Outcome.{handed, refusal, outcome_answer, outcome_buffer}
use Rattle.plan_writer.specs.OutcomeLaws.{refused_answer, refused_buffer, table_answer, table_buffer}
use Rattle.checker.specs.Checked as checker
use Rattle.checker.specs.Answers.{read_answer}
use Rattle.checker.specs.Verdicts.{plan_read_lem, HandedOn, handed_on}
use Rattle.checker.specs.Numbered.{Read}
use Rattle.rewriter.specs.Rewritten.{plan_read, rewritten}

module _ (request bytes : List ℕ) where
  -- the table of the plan that was read
  pub rewritten_plan : (f : ℕ) (frames : List ℕ) (is : checker.checked (cycle_of request) (decode bytes) ≡ checker.accepted f frames)
      → rewritten request bytes ≡ handed (plan_table (plan_read_lem request bytes f frames is).x f frames)
  unfolding rewritten
  rewritten_plan f frames is = ap₂ plan_read (plan_read_lem request bytes f frames is).within is

  pub rewritten_refused : (n : ℕ) → checker.checked (cycle_of request) (decode bytes) ≡ checker.refusal n → rewritten request bytes ≡ refusal n
  unfolding rewritten
  rewritten_refused n is = ap (plan_read (cycle_of request)) is

  -- what is answered, and left in the buffer, is the outcome's
  abbrev pub Hands : List ℕ → Written → List ℕ → Type 0
  Hands out w out' = (w ≡ outcome_answer (rewritten request bytes) out) × (out' ≡ outcome_buffer (rewritten request bytes) out)

  module _ (r : Read) (e : r ≡ read_answer (cycle_answered (cycle_of request)) (checker.checked (cycle_of request) (decode bytes))) where
    -- the check refuses
    pub not_read : (out : List ℕ) → (r.refusal ≡ 0 → ⊥) → Hands out (record { refusal = r.refusal; length = 0 }) out
    not_read out ne = go (checker.checked (cycle_of request) (decode bytes)) refl e
      where
        go : (v : checker.Verdict) → checker.checked (cycle_of request) (decode bytes) ≡ v → r ≡ read_answer (cycle_answered (cycle_of request)) v
            → Hands out (record { refusal = r.refusal; length = 0 }) out
        go (checker.accepted f frames) is q = absurd (ne (ap (λ (y : Read). y.refusal) q))
        go (checker.refusal n) is q =
            let number : r.refusal ≡ n = ap (λ (y : Read). y.refusal) q in
            rw (rewritten_refused n is, refused_answer n out, refused_buffer n out) (λ i. record { refusal = number i; length = 0 }, refl)

    module _ (z : r.refusal ≡ 0) where
      abbrev x : Instance
      x = instance_of r.cycle

      abbrev plan : HandedOn request bytes r
      plan = handed_on request bytes r e z

      pub cycle_read : InLimits r.cycle
      cycle_read = plan.taken.limits

      -- its table
      table_is : rewritten request bytes ≡ handed (plan_table x r.f plan.frames)
      unfolding rewritten
      table_is = ap₂ plan_read plan.taken.within plan.verdict

      -- the plan is written
      pub was_read : (out : List ℕ) → Hands out (plan_written x r.f r.frames out) (plan_buffer x r.f r.frames out)
      was_read out =
          let table = plan_table x r.f plan.frames in
          rw (plan.frames_are, table_is, table_answer table out, table_buffer table out)
          (plan_written_lem x plan.taken.limits.good r.f plan.frames out plan.is_plan.all)
