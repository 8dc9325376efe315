-- What an answer from 0 on tells of the call below it.
use Rattle.std.specs.Prelude.{ℕ, zero, suc, ◌≤◌, ◌≡◌, refl, List, pos, length}
use Rattle.std.proofs.Common.{sym, ◌∙◌, ⊎_elim, arith, le-ltb}
use Rattle.cursor.specs.ParsedLaws.{never}
use Rattle.cursor.specs.ChoiceLaws.{lt_or_ge}
use Rattle.plan_writer.specs.Outcome.{outcome_buffer}
use Rattle.planner.specs.Outcome.{outcome_within, searched_answer}
use Rattle.checker.specs.Checked.{check_number}
use Rattle.rewriter.specs.ReadBackLaws.{planned_reads_back}
use Rattle.bus.specs.Reply.{refused_reply, reply}
use Rattle.bus.specs.ReplyLaws.{reply_refused, reply_value}
use Rattle.bus.specs.Check.{check_reply}
use Rattle.bus.specs.Dispatch.{fresh_reply}
use Rattle.bus.specs.DispatchLaws.{fresh_refused}
use Rattle.bus.specs.Plan.{plan_reply, plan_buffer}
use Rattle.bus.specs.PlanLaws.{no_count}
use Rattle.bus_laws.specs.Decides.{PlanPasses}

pub not_refused : (k n : ℕ) → refused_reply (suc k) ≡ pos n → ⊥
not_refused k n e = never (cc)

pub reply_told : (number value n : ℕ) → reply number value ≡ pos n → (number ≡ 0) × (value ≡ n)
reply_told zero value n e = (refl, let same : pos value ≡ pos n = reply_value 0 value refl ∙ e in cc)
reply_told (suc k) value n e = absurd (not_refused k n (reply_refused (suc k) value (λ z. omega arith) ∙ e))

-- bus_check answered 0
pub check_told : (request table : List ℕ) → check_reply request table ≡ pos 0 → check_number request table ≡ 0
unfolding check_reply
check_told request table e = (reply_told (check_number request table) 0 0 e).0

-- bus_fresh answered 0
pub fresh_told : (state : List ℕ) → fresh_reply state ≡ pos 0 → 64 ≤ length state
fresh_told state e =
    ⊎_elim (λ h. absurd (not_refused 98 0 ((fresh_refused state h).0 ∙ e))) (λ h. h) (lt_or_ge (length state) 64)

-- bus_plan answered n
pub record PlanTold (allowance : ℕ) (request out tries : List ℕ) (n : ℕ) : Type 0 where
  pub handed_out : (searched_answer allowance request out).refusal ≡ 0
  pub length_is : (searched_answer allowance request out).length ≡ n
  pub buffer_is : plan_buffer allowance request out tries ≡ outcome_buffer (outcome_within allowance request) out

pub plan_told : (allowance : ℕ) (request out tries : List ℕ) (n : ℕ) → plan_reply allowance request out tries ≡ pos n → PlanTold allowance request out tries n
unfolding plan_reply plan_buffer
plan_told allowance request out tries n e =
    ⊎_elim (λ h. absurd (not_refused 98 n ((no_count allowance request out tries h).0 ∙ e))) room (lt_or_ge (length tries) 8)
  where
    room : 8 ≤ length tries → PlanTold allowance request out tries n
    room h =
        let enough = le-ltb (length tries) 8 h in
        let told = reply_told (searched_answer allowance request out).refusal (searched_answer allowance request out).length n (rw enough at e) in
        record { handed_out = told.0; length_is = told.1; buffer_is = rw enough }

-- and these first n bytes pass bus_check
pub plan_passes : PlanPasses
unfolding check_reply
plan_passes allowance request out tries n e =
    let told = plan_told allowance request out tries n e in
    let back = planned_reads_back allowance request out told.handed_out in
    rw (told.buffer_is, ← told.length_is) (sym (reply_value _ 0 back.passes))
