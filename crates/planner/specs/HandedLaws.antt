-- What planning answers is what `Handed` and `Counted` say.
-- The choice is right (model), a chosen plan's table has 7 + F + 2·(number of jobs) bytes, and a buffer that holds them gets them.
use Prim.Native.Nat.{ℕ, ◌+◌, ◌*◌, ◌≤◌, ◌<◌, min}
use Rattle.std.specs.Prelude.{◌≡◌, ◌↔◌, List, ◌++◌, drop}
use Rattle.std.proofs.Math.Path.{refl, ap}
use Rattle.std.proofs.Common.{sym, ◌∙◌, arith}
use Rattle.std.proofs.Math.Logic.{⊎_elim}
use Rattle.std.proofs.Math.ListN.{length}
use Rattle.cursor.specs.ChoiceLaws.{lt_or_ge}
use Rattle.cycle.specs.Cycle.{no_cycle, cycle_of}
use Rattle.table.specs.Table.{encode}
use Rattle.model.specs.Plan.{Instance, rows_at}
use Rattle.model.specs.PlausibleLaws.{plausible_needed}
use Rattle.model.specs.Good.{Good}
use Rattle.model.specs.Within.{Within}
use Rattle.model.specs.WithinLaws.{within_limits, within_good}
use Rattle.model.specs.Chosen.{Choice, chosen, no_plan, no_plausible, choose, IsChosen, NoPlan, RightBy, RightChoice, full_tries}
use Rattle.model.specs.ChosenLaws.{choose_right, chosen_exactly}
use Rattle.model.specs.ChosenTries.{none_tried}
use Rattle.model.specs.Described.{plan_table}
use Rattle.model.specs.PlanTable.{plan_table_describes, plan_table_length}
use Rattle.plan_writer.specs.Outcome.{Outcome, refusal, outcome_answer, outcome_buffer}
use Rattle.planner.specs.Outcome.{outcome, in_cycle, by_choice, tries_in, request_tries, outcome_within, searched_answer}
use Rattle.planner.specs.PlanLaws.{within_reached, within_exceeded}
use Rattle.plan_writer.specs.OutcomeLaws.{refused_answer, refused_buffer, handed_answer, handed_buffer, short_answer, short_buffer}
use Rattle.planner.specs.Handed.{NonePlausible, SomePlausible, NumberIs, LengthIs, BufferIs, HandedOut, Handed, Counted}

-- an answer, from what the request comes to
answer_is : (allowance : ℕ) (request out : List ℕ) (o : Outcome) → outcome_within allowance request ≡ o
    → ((searched_answer allowance request out).refusal ≡ (outcome_answer o out).refusal)
    × ((searched_answer allowance request out).length ≡ (outcome_answer o out).length)
    × (outcome_buffer (outcome_within allowance request) out ≡ outcome_buffer o out)
unfolding searched_answer
answer_is allowance request out o e = rw e (refl, refl, refl)

-- from the number of its refusal
refused_is : (allowance : ℕ) (request out : List ℕ) (number : ℕ) → outcome_within allowance request ≡ refusal number
    → NumberIs allowance request out number × LengthIs allowance request out 0 × BufferIs allowance request out out
refused_is allowance request out number e =
    let is = answer_is allowance request out (refusal number) e in
    let answer = refused_answer number out in
    (is.0 ∙ ap (λ w. w.refusal) answer, is.1 ∙ ap (λ w. w.length) answer, is.2 ∙ refused_buffer number out)

-- a request that is not within the limits is refused with its own number, whatever is allowed, and nothing is tried
pub not_planned : (allowance : ℕ) (request out : List ℕ) (number : ℕ) → cycle_of request ≡ no_cycle number
    → (searched_answer allowance request out ≡ record { refusal = number; length = 0; tries = 0 }) × BufferIs allowance request out out
unfolding outcome request_tries searched_answer
not_planned allowance request out number e =
    let none : request_tries request ≡ 0 = ap tries_in e in
    let is : outcome_within allowance request ≡ refusal number = within_reached allowance request (omega arith) ∙ ap in_cycle e in
    let count : min allowance (request_tries request) ≡ 0 = omega arith in
    rw (is, refused_answer number out, refused_buffer number out) (λ i. record { refusal = number; length = 0; tries = count i }, refl)

-- "A larger allowance never turns a table, 9 or 10 into another answer": nor any other answer but 23
pub larger_allowance : (a b : ℕ) → a ≤ b → (request out : List ℕ) → (NumberIs a request out 23 → ⊥)
    → (searched_answer b request out ≡ searched_answer a request out) × BufferIs b request out (outcome_buffer (outcome_within a request) out)
unfolding searched_answer
larger_allowance a b h request out not_out = ⊎_elim (λ t. absurd (not_out (exceeded t))) reached (lt_or_ge a (request_tries request))
  where
    exceeded : a < request_tries request → NumberIs a request out 23
    exceeded t = (refused_is a request out 23 (within_exceeded a request t)).0

    reached : request_tries request ≤ a
        → (searched_answer b request out ≡ searched_answer a request out) × BufferIs b request out (outcome_buffer (outcome_within a request) out)
    reached t =
        let same : outcome_within b request ≡ outcome_within a request = within_reached b request (omega arith) ∙ sym (within_reached a request t) in
        let count : min b (request_tries request) ≡ min a (request_tries request) = omega arith in
        rw same (
          λ i. record {
            refusal = (outcome_answer (outcome_within a request) out).refusal;
            length = (outcome_answer (outcome_within a request) out).length;
            tries = count i;
          },
          refl,
        )

module _ (allowance : ℕ) (request out : List ℕ) (x : Instance) (within : Within request x) where
  good : Good x
  good = within_good request x within

  tries_are : request_tries request ≡ full_tries x
  unfolding request_tries
  tries_are = ap tries_in within

  -- the search was not ended before its end
  module _ (reached : full_tries x ≤ allowance) where
    outcome_is : (o : Choice) → choose x ≡ o → outcome_within allowance request ≡ by_choice x o
    unfolding outcome
    outcome_is o q = within_reached allowance request (omega (arith, tries_are)) ∙ ap in_cycle within ∙ ap (by_choice x) q

    not_out : (number : ℕ) → number < 23 → NumberIs allowance request out number → NumberIs allowance request out 23 ↔ (allowance < full_tries x)
    not_out number few is = (λ z. absurd (omega (arith, is, z)), λ h. absurd (omega arith))

    module _ (f : ℕ) (frames : List ℕ) (q : choose x ≡ chosen f frames) (r : IsChosen x f frames) where
      abbrev bytes : List ℕ
      bytes = encode (plan_table x f frames)

      abbrev size : ℕ
      size = 7 + rows_at x f + 2 * length x.jobs

      size_is : length bytes ≡ size
      size_is = plan_table_length x good f frames r.is_plan

      -- where a plan exists, neither 9 nor 10 is due
      not_nine : NonePlausible x → ⊥
      not_nine none = none f (plausible_needed x good f frames r.is_plan)

      not_ten : NoPlan x → ⊥
      not_ten none = none f frames r.is_plan

      -- there is one chosen plan
      same_size : (f' : ℕ) (frames' : List ℕ) → IsChosen x f' frames' → f' ≡ f
      same_size f' frames' r' =
          let same : chosen f' frames' ≡ chosen f frames = sym ((chosen_exactly x good f' frames').1 r') ∙ q in
          cc

      -- the table fits
      module _ (fits : size ≤ length out) where
        room : length bytes ≤ length out
        room = omega (arith, size_is)

        number_is : NumberIs allowance request out 0
        number_is = (answer_is allowance request out _ (outcome_is (chosen f frames) q)).0 ∙ ap (λ w. w.refusal) (handed_answer (plan_table x f frames) out room)

        handed_out : HandedOut x (searched_answer allowance request out).length (outcome_buffer (outcome_within allowance request) out) out
        handed_out =
            let is = answer_is allowance request out _ (outcome_is (chosen f frames) q) in
            record {
              f = f;
              frames = frames;
              is_chosen = r;
              t = plan_table x f frames;
              describes = plan_table_describes x good f frames r.is_plan (within_limits request x within).h_few;
              bytes_are = is.2 ∙ handed_buffer (plan_table x f frames) out room ∙ ap (λ (k : ℕ). bytes ++ drop k out) size_is;
              length_is = is.1 ∙ ap (λ w. w.length) (handed_answer (plan_table x f frames) out room) ∙ size_is;
              encoded_length = size_is;
            }

        with_table : Handed x allowance request out
        with_table = record {
          exactly = λ enough _. (λ z. (f, frames, r.is_plan), λ plan. number_is);
          chosen_one = λ z. handed_out;
          nine = (λ z. absurd (omega (arith, number_is, z)), λ none. absurd (not_nine none));
          ten = (λ z. absurd (omega (arith, number_is, z)), λ c. absurd (not_ten c.1));
          eleven = (λ z. absurd (omega (arith, number_is, z)), λ s. absurd (omega (arith, s.0.3, ap (rows_at x) (same_size s.0.0 s.0.1 s.0.2))));
          twenty_three = not_out 0 (omega arith) number_is;
          untouched = λ ne. absurd (ne number_is);
        }

      -- the table does not fit
      module _ (short : length out < size) where
        no_room : length out < length bytes
        no_room = omega (arith, size_is)

        short_is : NumberIs allowance request out 11 × LengthIs allowance request out 0 × BufferIs allowance request out out
        short_is =
            let is = answer_is allowance request out _ (outcome_is (chosen f frames) q) in
            let answer = short_answer (plan_table x f frames) out no_room in
            (is.0 ∙ ap (λ w. w.refusal) answer, is.1 ∙ ap (λ w. w.length) answer, is.2 ∙ short_buffer (plan_table x f frames) out no_room)

        without_room : Handed x allowance request out
        without_room =
            let number_is = short_is.0 in
            record {
              exactly = λ enough _. absurd (omega (arith, enough f frames r));
              chosen_one = λ z. absurd (omega (arith, number_is, z));
              nine = (λ z. absurd (omega (arith, number_is, z)), λ none. absurd (not_nine none));
              ten = (λ z. absurd (omega (arith, number_is, z)), λ c. absurd (not_ten c.1));
              eleven = (λ z. ((f, frames, r, short), omega (arith, reached)), λ s. number_is);
              twenty_three = not_out 11 (omega arith) number_is;
              untouched = λ ne. (short_is.1, short_is.2);
            }

    -- 9 and 10
    module _ (number : ℕ) (is : outcome_within allowance request ≡ refusal number) (none : NoPlan x) where
      without_plan : (number ≡ 9) ↔ NonePlausible x → (number ≡ 10) ↔ SomePlausible x → 0 < number → number < 11 → Handed x allowance request out
      without_plan is_nine is_ten pos few =
          let refused = refused_is allowance request out number is in
          let given = refused.0 in
          record {
            exactly = λ enough _. (λ z. absurd (omega (arith, given, z)), λ plan. absurd (none plan.0 plan.1 plan.2));
            chosen_one = λ z. absurd (omega (arith, given, z));
            nine = (λ z. is_nine.0 (sym given ∙ z), λ c. given ∙ is_nine.1 c);
            ten = (λ z. (is_ten.0 (sym given ∙ z), none, reached), λ c. given ∙ is_ten.1 c.0);
            eleven = (λ z. absurd (omega (arith, given, z)), λ s. absurd (none s.0.0 s.0.1 s.0.2.is_plan));
            twenty_three = not_out number (omega arith) given;
            untouched = λ ne. (refused.1, refused.2);
          }

    to_the_end : Handed x allowance request out
    unfolding RightBy
    to_the_end = go (choose x) refl (choose_right x good)
      where
        go : (o : Choice) → choose x ≡ o → RightChoice x o → Handed x allowance request out
        go (chosen f frames) q r =
            ⊎_elim (without_room f frames q r) (with_table f frames q r) (lt_or_ge (length out) (7 + rows_at x f + 2 * length x.jobs))
        go no_plan q r =
            without_plan 10 (outcome_is no_plan q) r.0
            (λ z. absurd (omega arith), λ c. absurd (c r.1.0 r.1.1))
            (λ z. r.1, λ c. refl)
            (omega arith) (omega arith)
        go no_plausible q r =
            without_plan 9 (outcome_is no_plausible q) r.0
            (λ z. r.1, λ c. refl)
            (λ z. absurd (omega arith), λ c. absurd (r.1 c.0 c.1))
            (omega arith) (omega arith)

  -- where no length is plausible, nothing is tried
  none_tried_then : NonePlausible x → full_tries x ≡ 0
  unfolding RightBy
  none_tried_then none = go (choose x) refl (choose_right x good)
    where
      go : (o : Choice) → choose x ≡ o → RightChoice x o → full_tries x ≡ 0
      go (chosen f frames) q r = absurd (none f (plausible_needed x good f frames r.is_plan))
      go no_plan q r = absurd (none r.1.0 r.1.1)
      go no_plausible q r = none_tried x q

  -- the search was ended before its end
  module _ (exceeded : allowance < full_tries x) where
    out_is : NumberIs allowance request out 23 × LengthIs allowance request out 0 × BufferIs allowance request out out
    out_is = refused_is allowance request out 23 (within_exceeded allowance request (omega (arith, tries_are)))

    ended_early : Handed x allowance request out
    ended_early =
        let given = out_is.0 in
        record {
          exactly = λ enough reached. absurd (omega arith);
          chosen_one = λ z. absurd (omega (arith, given, z));
          nine = (λ z. absurd (omega (arith, given, z)), λ c. absurd (omega (arith, none_tried_then c)));
          ten = (λ z. absurd (omega (arith, given, z)), λ c. absurd (omega (arith, c.2)));
          eleven = (λ z. absurd (omega (arith, given, z)), λ s. absurd (omega (arith, s.1)));
          twenty_three = (λ z. exceeded, λ h. given);
          untouched = λ ne. (out_is.1, out_is.2);
        }

  -- THE THEOREM: what planning a request within the limits answers.
  pub table_handed : Handed x allowance request out
  table_handed = ⊎_elim ended_early to_the_end (lt_or_ge allowance (full_tries x))

  -- And how many tries it counts.
  pub tries_counted : Counted x allowance request out
  unfolding searched_answer
  tries_counted = record {
    zero = λ z. omega (arith, tries_are, none_tried_then (table_handed.nine.0 z));
    spent = λ z. omega (arith, tries_are, table_handed.twenty_three.0 z);
    full = λ ne. not_exceeded (λ h. ne (table_handed.twenty_three.1 h));
    never_more = omega arith;
  }
    where
      not_exceeded : (allowance < full_tries x → ⊥) → min allowance (request_tries request) ≡ full_tries x
      not_exceeded h = omega (arith, tries_are)
