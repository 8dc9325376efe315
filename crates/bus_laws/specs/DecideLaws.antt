-- bus_decide answers as bus_plan does, and what it hands out passes bus_check: from the same of the two calls below.
use Rattle.std.specs.Prelude.{ℕ, ◌≤◌, ◌≡◌, List, length, take}
use Rattle.std.proofs.Common.{sym, ap, ◌∙◌, arith, le-ltb}
use Rattle.plan_writer.specs.Outcome.{outcome_answer, outcome_buffer}
use Rattle.planner.specs.Outcome.{outcome, request_tries, outcome_within, searched_answer}
use Rattle.decider.specs.Decided.{AsPlan}
use Rattle.decider.specs.DecidedLaws.{as_reached, as_plan}
use Rattle.rewriter.specs.ReadBackLaws.{planned_reads_back}
use Rattle.bus.specs.Reply.{refused_reply}
use Rattle.bus.specs.ReplyLaws.{reply_refused, reply_value}
use Rattle.bus.specs.Check.{check_reply}
use Rattle.bus.specs.Plan.{plan_reply, plan_buffer}
use Rattle.bus.specs.Decide.{decide_reply, decide_buffer}
use Rattle.bus_laws.specs.Answered.{reply_told}
use Rattle.bus_laws.specs.Decides.{SameInC, DecidePasses}

-- there are 8 bytes for the count of tries
module _ (allowance : ℕ) (request out tries : List ℕ) (room : 8 ≤ length tries) where
  same : AsPlan allowance request out → SameInC allowance request out tries
  unfolding plan_reply plan_buffer decide_reply decide_buffer
  same s = record {
    answer = rw (le-ltb (length tries) 8 room, s.number, s.size);
    bytes = rw (le-ltb (length tries) 8 room) s.bytes;
  }

  pub same_reached : request_tries request ≤ allowance → SameInC allowance request out tries
  same_reached h = same (as_reached allowance request out h)

  pub same_answered : (plan_reply allowance request out tries ≡ refused_reply 23 → ⊥) → SameInC allowance request out tries
  unfolding plan_reply
  same_answered ne = same (as_plan allowance request out (λ e. ne (open_in_c e)))
    where
      open_in_c : (searched_answer allowance request out).refusal ≡ 23 → plan_reply allowance request out tries ≡ refused_reply 23
      open_in_c e = rw (le-ltb (length tries) 8 room, e) (sym (reply_refused 23 (searched_answer allowance request out).length (λ z. omega arith)))

pub decide_passes : DecidePasses
unfolding check_reply decide_reply decide_buffer
decide_passes request out n e =
    let told = reply_told (outcome_answer (outcome request) out).refusal (outcome_answer (outcome request) out).length n e in
    let tries : ℕ = request_tries request in
    let s = as_reached tries request out (omega arith) in
    let back = planned_reads_back tries request out (s.number ∙ told.0) in
    let front : take n (outcome_buffer (outcome request) out) ≡ take (searched_answer tries request out).length (outcome_buffer (outcome_within tries request) out) =
    ap (λ (k : ℕ). take k (outcome_buffer (outcome request) out)) (sym (s.size ∙ told.1))
    ∙ ap (λ (l : List ℕ). take (searched_answer tries request out).length l) (sym s.bytes) in
    rw front (sym (reply_value _ 0 back.passes))
