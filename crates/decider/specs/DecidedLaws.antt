-- What deciding answers is what `Decided` says. Each is the planner's where the allowance reaches the full search's tries; and so the two answer alike
-- wherever the planner answers anything but 23.
use Rattle.std.specs.Prelude.{ℕ, ◌≤◌, ◌<◌, ◌≡◌, List}
use Rattle.std.proofs.Common.{sym, ◌∙◌, ⊎_elim, arith}
use Rattle.std.proofs.Math.Path.{ap}
use Rattle.cursor.specs.ChoiceLaws.{lt_or_ge}
use Rattle.cursor.specs.Written.{Written}
use Rattle.cycle.specs.Cycle.{no_cycle, cycle_of}
use Rattle.model.specs.Plan.{Instance}
use Rattle.model.specs.Within.{Within}
use Rattle.model.specs.Chosen.{full_tries}
use Rattle.plan_writer.specs.Outcome.{Outcome, outcome_answer, outcome_buffer}
use Rattle.plan_writer.specs.OutcomeLaws.{refused_answer}
use Rattle.planner.specs.Outcome.{outcome, tries_in, request_tries, outcome_within, searched_answer}
use Rattle.planner.specs.PlanLaws.{within_reached, within_exceeded}
use Rattle.planner.specs.HandedLaws.{table_handed}
use Rattle.planner.specs.Handed as planner
use Rattle.decider.specs.DecideLaws.{not_within}
use Rattle.decider.specs.Decided.{NumberIs, BufferIs, Decided, AsPlan}

-- where the allowance reaches the full search's tries
pub as_reached : (allowance : ℕ) (request out : List ℕ) → request_tries request ≤ allowance → AsPlan allowance request out
unfolding searched_answer
as_reached allowance request out h =
    let same : outcome_within allowance request ≡ outcome request = within_reached allowance request h in
    record {
      number = ap (λ (o : Outcome). (outcome_answer o out).refusal) same;
      size = ap (λ (o : Outcome). (outcome_answer o out).length) same;
      bytes = ap (λ (o : Outcome). outcome_buffer o out) same;
    }

-- THE THEOREM: where `plan` answers anything but 23, `decide` answers the same.
pub as_plan : (allowance : ℕ) (request out : List ℕ) → (planner.NumberIs allowance request out 23 → ⊥) → AsPlan allowance request out
unfolding searched_answer
as_plan allowance request out not_open =
    ⊎_elim (λ t. absurd (not_open (exceeded t))) (as_reached allowance request out) (lt_or_ge allowance (request_tries request))
  where
    exceeded : allowance < request_tries request → planner.NumberIs allowance request out 23
    exceeded t =
        ap (λ (o : Outcome). (outcome_answer o out).refusal) (within_exceeded allowance request t)
        ∙ ap (λ (w : Written). w.refusal) (refused_answer 23 out)

-- a request that is not within the limits is refused with its own number
pub not_decided : (request out : List ℕ) (number : ℕ) → cycle_of request ≡ no_cycle number
    → (outcome_answer (outcome request) out ≡ record { refusal = number; length = 0 }) × BufferIs request out out
not_decided request out number e = let d = not_within request number e out in (sym d.0, sym d.1)

module _ (request out : List ℕ) (x : Instance) (within : Within request x) where
  -- the planner's answer with just as many tries as the full search needs
  abbrev tries : ℕ
  tries = request_tries request

  tries_are : request_tries request ≡ full_tries x
  unfolding request_tries
  tries_are = ap tries_in within

  enough : full_tries x ≤ tries
  enough = omega (arith, tries_are)

  same : AsPlan tries request out
  same = as_reached tries request out (omega arith)

  planned : planner.Handed x tries request out
  planned = table_handed tries request out x within

  -- a number that the one gives, the other gives
  to : {number : ℕ} → NumberIs request out number → planner.NumberIs tries request out number
  to z = same.number ∙ z

  from : {number : ℕ} → planner.NumberIs tries request out number → NumberIs request out number
  from z = sym same.number ∙ z

  -- THE THEOREM: what deciding a request within the limits answers.
  pub decided : Decided x request out
  decided = record {
    exactly = λ long. (λ z. (planned.exactly long enough).0 (to z), λ plan. from ((planned.exactly long enough).1 plan));
    chosen_one = λ z. let h = planned.chosen_one (to z) in record {
      f = h.f;
      frames = h.frames;
      is_chosen = h.is_chosen;
      t = h.t;
      describes = h.describes;
      bytes_are = sym same.bytes ∙ h.bytes_are;
      length_is = sym same.size ∙ h.length_is;
      encoded_length = h.encoded_length;
    };
    nine = (λ z. planned.nine.0 (to z), λ none. from (planned.nine.1 none));
    ten = (λ z. let c = planned.ten.0 (to z) in (c.0, c.1), λ c. from (planned.ten.1 (c.0, c.1, enough)));
    eleven = (λ z. (planned.eleven.0 (to z)).0, λ short. from (planned.eleven.1 (short, enough)));
    never_open = λ z. omega (arith, planned.twenty_three.0 (to z), enough);
    untouched = λ ne. let u = planned.untouched (λ z. ne (from z)) in (sym same.size ∙ u.0, sym same.bytes ∙ u.1);
  }
