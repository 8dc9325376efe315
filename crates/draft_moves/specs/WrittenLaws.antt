-- A sound draft with no job lifted holds a plan (PlanTheorem), and what is written is that plan's table, which the check accepts (WriteTheorem).
use Rattle.std.specs.Prelude.{ℕ, ◌≤◌, ◌<◌, ◌≡◌, ◌↔◌, ◌⊎◌, List, ◌++◌, length, get_or, take, drop}
use Rattle.std.proofs.Common.{sym, ap, ◌∙◌, inl, inr, ⊎_elim, arith}
use Rattle.std.proofs.Math.Seq.{take-append_seam}
use Rattle.cursor.specs.ChoiceLaws.{lt_or_ge}
use Rattle.cursor.specs.PaddedLaws.{get_or_firsts}
use Rattle.cursor.specs.Written.{Written}
use Rattle.cycle.specs.Cycle.{no_cycle, cycle_of}
use Rattle.cycle.specs.LimitLaws.{RequestNumber, request_number_own}
use Rattle.table.specs.Table.{Table, encode, decode}
use Rattle.table.specs.Inverse.{decode_encode}
use Rattle.search.specs.Placing.{row_sum}
use Rattle.model.specs.Plan.{Instance, costs, IsPlan}
use Rattle.model.specs.PlanLaws.{length_pos}
use Rattle.model.specs.PlausibleLaws.{plausible_needed}
use Rattle.model.specs.Good.{Good}
use Rattle.model.specs.Within.{Within}
use Rattle.model.specs.WithinLaws.{within_good, within_limits, within_or_not}
use Rattle.model.specs.Described.{Describes, plan_table}
use Rattle.model.specs.PlanTable.{plan_table_describes, plan_table_length}
use Rattle.checker.specs.Checked.{accepted, checked, verdict_number}
use Rattle.checker.specs.Accepts.{accepts_described}
use Rattle.plan_writer.specs.Outcome.{Outcome, handed, refusal, outcome_answer, outcome_buffer}
use Rattle.plan_writer.specs.OutcomeLaws.{refused_answer, refused_buffer, handed_answer, handed_buffer, short_answer, short_buffer}
use Rattle.draft.specs.Draft.{lifted, frame_of, frames_held, row_count, sum_of, write}
use Rattle.draft.specs.Kept.{Sized, IsLifted, Sound}
use Rattle.draft.specs.MoveLaws.{write_none}
use Rattle.draft.specs.SoundLaws.{sound_exactly}
use Rattle.draft.specs.WriteLaws.{draft_is_plan}
use Rattle.draft.specs.declared.Draft.{Draft}
use Rattle.draft_moves.specs.Exactly.{AllPlaced, PlanHeld, PlanTheorem, size_of, write_answer, buffer_after, WrittenOut, WriteTheorem}
use Rattle.draft_moves.specs.SumsAre.{sum_means}
use Rattle.draft_moves.specs.Ways.{WriteWay, unsound_write, lifted_write, hands, none_up, write_way, frame_real}
use Rattle.draft_moves.specs.ExactLaws.{for_request, of_request, above_numbers, not_zero, clash}

module _ (request : List ℕ) (x : Instance) (within : Within request x) (d : Draft) (sized : Sized d) where
  g : Good x
  g = within_good request x within

  here : (y : ℕ) → y < length x.jobs → get_or (frames_held x d) y 0 ≡ frame_of x d y
  here y h = get_or_firsts 0 d.frames (length x.jobs) y h

  abbrev sums : AllPlaced x d → (r : ℕ) → sum_of x d r ≡ row_sum (row_count x d) (costs x) (frames_held x d) r
  sums all r = (sum_means x g d sized).all all r

  pub plan_held : Sound x d → AllPlaced x d → PlanHeld x d
  plan_held s all = (
    draft_is_plan x d (none_up request x within d all) ((sound_exactly x g d).1 s),
    λ r low. s.loads_are r low ∙ sums all r,
  )

  pub held_plan : PlanHeld x d → Sound x d × AllPlaced x d
  held_plan (v, loads) =
      let real : (y : ℕ) → y < length x.jobs → frame_of x d y ≡ lifted → ⊥
      = λ y h. frame_real request x within d.f y (frame_of x d y) (length_pos x g d.f (frames_held x d) v) h (rw (here y h) at (v.window y h).not_late) in
      let all : AllPlaced x d = λ y h. record { known = h; down = real y h } in (
        record {
          plausible_f = plausible_needed x g d.f (frames_held x d) v;
          loads_are = λ r low. loads r low ∙ sym (sums all r);
          not_early = λ y p. rw (here y p.known) at (v.window y p.known).not_early;
          not_late = λ y p. rw (here y p.known) at (v.window y p.known).not_late;
          capacity = λ r low. rw (sums all r) (v.capacity r low);
          order = λ u y z l py pz. rw (here y py.known, here z pz.known)
              at (v.order u l.pair_known y z py.known pz.known l.first l.second l.same_number);
        },
        all,
      )

pub plan_theorem : PlanTheorem
plan_theorem request x within d sized = (λ p. plan_held request x within d sized p.0 p.1, held_plan request x within d sized)

-- what is answered: the number of a refusal, or the table's length
refused_number : (o : Outcome) (n : ℕ) (out : List ℕ) → o ≡ refusal n → (outcome_answer o out ≡ record { refusal = n; length = 0 }) × (outcome_buffer o out ≡ out)
refused_number o n out e = rw e (refused_answer n out, refused_buffer n out)

short_number : (t : Table) (out : List ℕ) → length out < length (encode t)
    → (outcome_answer (handed t) out ≡ record { refusal = 11; length = 0 }) × (outcome_buffer (handed t) out ≡ out)
short_number t out h = (short_answer t out h, short_buffer t out h)

number_of : {a b : Written} → a ≡ b → a.refusal ≡ b.refusal
number_of e = ap (λ (w : Written). w.refusal) e

length_of : {a b : Written} → a ≡ b → a.length ≡ b.length
length_of e = ap (λ (w : Written). w.length) e

module _ (request : List ℕ) (x : Instance) (within : Within request x) (d : Draft) (sized : Sized d) (out : List ℕ) where
  abbrev answer : Written
  answer = write_answer request d out

  abbrev table_of : Table
  table_of = plan_table x d.f (frames_held x d)

  goes : WriteWay x d (write request d)
  goes = write_way request x within d

  module _ (s : Sound x d) (all : AllPlaced x d) (e : write request d ≡ handed (plan_table x d.f (frames_held x d))) where
    v : IsPlan x d.f (frames_held x d)
    v = (plan_held request x within d sized s all).0

    size : length (encode table_of) ≡ size_of x d
    size = plan_table_length x (within_good request x within) d.f (frames_held x d) v

    short : length out < size_of x d → (answer ≡ record { refusal = 11; length = 0 }) × (buffer_after request d out ≡ out)
    short h = rw e (short_number table_of out (omega (arith, size, h)))

    module _ (fits : size_of x d ≤ length out) where
      room : length (encode table_of) ≤ length out
      room = omega (arith, size, fits)

      answer_is : answer ≡ record { refusal = 0; length = length (encode table_of) }
      answer_is = ap (λ (o : Outcome). outcome_answer o out) e ∙ handed_answer table_of out room

      buffer_is : buffer_after request d out ≡ encode table_of ++ drop (length (encode table_of)) out
      buffer_is = ap (λ (o : Outcome). outcome_buffer o out) e ∙ handed_buffer table_of out room

      describes : Describes x d.f (frames_held x d) table_of
      describes = plan_table_describes x (within_good request x within) d.f (frames_held x d) v (within_limits request x within).h_few

      front : take answer.length (buffer_after request d out) ≡ encode table_of
      front = rw (length_of answer_is, buffer_is) (take-append_seam (encode table_of) (drop (length (encode table_of)) out))

      reads : checked (cycle_of request) (decode (take answer.length (buffer_after request d out))) ≡ accepted d.f (frames_held x d)
      reads = rw front
          ((accepts_described request (encode table_of) x table_of within (decode_encode table_of describes.form) d.f (frames_held x d)).1 (v, describes))

      written_out : WrittenOut request d out x
      written_out = record {
        is_plan = v;
        t = table_of;
        describes = describes;
        bytes_are = buffer_is ∙ ap (λ (n : ℕ). encode table_of ++ drop n out) size;
        length_is = length_of answer_is ∙ size;
        encoded_length = size;
        accepts = reads;
        check_answers = ap verdict_number reads;
      }

  -- a table is handed out: 11 or 0
  hand_number : Sound x d → AllPlaced x d → write request d ≡ handed (plan_table x d.f (frames_held x d)) → (answer.refusal ≡ 11) ⊎ (answer.refusal ≡ 0)
  hand_number s all e =
      ⊎_elim (λ h. inl (number_of (short s all e h).0)) (λ h. inr (number_of (answer_is s all e h))) (lt_or_ge (length out) (size_of x d))

  pub write_twenty_six : (answer.refusal ≡ 26) ↔ ((Sound x d → ⊥) ⊎ ((y : ℕ) × IsLifted x d y))
  write_twenty_six = go goes
    where
      go : WriteWay x d (write request d) → (answer.refusal ≡ 26) ↔ ((Sound x d → ⊥) ⊎ ((y : ℕ) × IsLifted x d y))
      go (unsound_write n e) = (λ q. inl n, λ c. number_of (refused_number (write request d) 26 out e).0)
      go (lifted_write y u e) = (λ q. inr (y, u), λ c. number_of (refused_number (write request d) 26 out e).0)
      go (hands s all e) = (
        λ q. absurd (⊎_elim (λ p. clash p q (λ z. omega (arith, z))) (λ p. clash p q (λ z. omega (arith, z))) (hand_number s all e)),
        λ c. absurd (⊎_elim (λ n. n s) (λ w. (all w.0 w.1.known).down w.1.up) c),
      )

  pub write_eleven : (answer.refusal ≡ 11) ↔ (Sound x d × AllPlaced x d × (length out < size_of x d))
  write_eleven = go goes
    where
      go : WriteWay x d (write request d) → (answer.refusal ≡ 11) ↔ (Sound x d × AllPlaced x d × (length out < size_of x d))
      go (unsound_write n e) =
          (λ q. absurd (clash (number_of (refused_number (write request d) 26 out e).0) q (λ z. omega (arith, z))), λ c. absurd (n c.0))
      go (lifted_write y u e) = (
        λ q. absurd (clash (number_of (refused_number (write request d) 26 out e).0) q (λ z. omega (arith, z))),
        λ c. absurd ((c.1 y u.known).down u.up),
      )
      go (hands s all e) = (
        λ q. (s, all, ⊎_elim (λ h. h) (λ h. absurd (clash (number_of (answer_is s all e h)) q (λ z. omega (arith, z)))) (lt_or_ge (length out) (size_of x d))),
        λ c. number_of (short s all e c.2).0,
      )

  pub write_zero : (answer.refusal ≡ 0) ↔ (Sound x d × AllPlaced x d × (size_of x d ≤ length out))
  write_zero = go goes
    where
      go : WriteWay x d (write request d) → (answer.refusal ≡ 0) ↔ (Sound x d × AllPlaced x d × (size_of x d ≤ length out))
      go (unsound_write n e) =
          (λ q. absurd (clash (number_of (refused_number (write request d) 26 out e).0) q (λ z. omega (arith, z))), λ c. absurd (n c.0))
      go (lifted_write y u e) = (
        λ q. absurd (clash (number_of (refused_number (write request d) 26 out e).0) q (λ z. omega (arith, z))),
        λ c. absurd ((c.1 y u.known).down u.up),
      )
      go (hands s all e) = (
        λ q. (s, all, ⊎_elim (λ h. absurd (clash (number_of (short s all e h).0) q (λ z. omega (arith, z)))) (λ h. h) (lt_or_ge (length out) (size_of x d))),
        λ c. number_of (answer_is s all e c.2),
      )

  pub write_out : answer.refusal ≡ 0 → WrittenOut request d out x
  write_out z = go goes (write_zero.0 z)
    where
      go : WriteWay x d (write request d) → Sound x d × AllPlaced x d × (size_of x d ≤ length out) → WrittenOut request d out x
      go (unsound_write n e) c = absurd (n c.0)
      go (lifted_write y u e) c = absurd ((c.1 y u.known).down u.up)
      go (hands s all e) c = written_out s all e c.2

  write_kept : (answer.refusal ≡ 0 → ⊥) → (answer.length ≡ 0) × (buffer_after request d out ≡ out)
  write_kept ne = go goes
    where
      refused : write request d ≡ refusal 26 → (answer.length ≡ 0) × (buffer_after request d out ≡ out)
      refused e = let r = refused_number (write request d) 26 out e in (length_of r.0, r.1)

      go : WriteWay x d (write request d) → (answer.length ≡ 0) × (buffer_after request d out ≡ out)
      go (unsound_write n e) = refused e
      go (lifted_write y u e) = refused e
      go (hands s all e) =
          ⊎_elim (λ h. let r = short s all e h in (length_of r.0, r.1)) (λ h. absurd (ne (number_of (answer_is s all e h))))
          (lt_or_ge (length out) (size_of x d))

not_eleven : RequestNumber 11 → ⊥
not_eleven n = request_number_own n (omega arith) (omega arith)

pub write_theorem : WriteTheorem
write_theorem request d sized out =
    let a = write_answer request d out in
    let none : (number : ℕ) → cycle_of request ≡ no_cycle number → (a ≡ record { refusal = number; length = 0 }) × (buffer_after request d out ≡ out)
    = λ number e. refused_number (write request d) number out (write_none request d number e) in
    let own : (number : ℕ) → cycle_of request ≡ no_cycle number → a.refusal ≡ number = λ number e. number_of (none number e).0 in
    record {
      own_number = own;
      twenty_six = of_request request a.refusal 26 (λ x. (Sound x d → ⊥) ⊎ ((y : ℕ) × IsLifted x d y)) (above_numbers 26 (omega arith)) own
          (λ x w. write_twenty_six request x w d sized out);
      eleven = of_request request a.refusal 11 (λ x. Sound x d × AllPlaced x d × (length out < size_of x d)) not_eleven own
          (λ x w. write_eleven request x w d sized out);
      writes = of_request request a.refusal 0 (λ x. Sound x d × AllPlaced x d × (size_of x d ≤ length out)) not_zero own
          (λ x w. write_zero request x w d sized out);
      written_out = for_request request a.refusal 0 (WrittenOut request d out) not_zero own (λ x w. write_out request x w d sized out);
      untouched = λ ne. ⊎_elim (λ w. write_kept request w.0 w.1 d sized out ne)
          (λ w. let r = none w.0 w.1 in (length_of r.0, r.1)) (within_or_not request);
    }
