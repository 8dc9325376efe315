-- Which number a call gives, exactly. The check decides first; of an accepted table the pair, and then the row.
use Rattle.std.specs.Prelude.{ℕ, ◌≤◌, ◌<◌, ◌≡◌, refl, Bool, true, false, ◌⊎◌, List, length}
use Rattle.std.proofs.Common.{sym, ap, ◌∙◌, inl, inr, ⊎_elim, arith}
use Rattle.std.proofs.lemmas.Bool.{false≢true}
use Rattle.cursor.specs.ChoiceLaws.{lt_or_ge}
use Rattle.cursor.specs.Fields.{Bytes}
use Rattle.cursor.specs.ParsedLaws.{never}
use Rattle.cycle.specs.Cycle.{no_cycle, cycle_of}
use Rattle.cycle.specs.LimitLaws.{no_cycle_number, request_number_own}
use Rattle.table.specs.Table.{Table, Decoded, table, malformed, decode, row_of}
use Rattle.table.specs.TableBytes.{SaysTable}
use Rattle.table.specs.TableBytesLaws.{says_decodes, decodes_says}
use Rattle.table.specs.AnswerLaws.{given_refusal}
use Rattle.model.specs.Plan.{Instance}
use Rattle.model.specs.Within.{Within}
use Rattle.model.specs.WithinLaws.{within_or_not}
use Rattle.model.specs.Described.{Accepted}
use Rattle.checker.specs.Checked.{Verdict, accepted, refusal, checked, check_number}
use Rattle.checker.specs.Exactly.{SizesFit}
use Rattle.checker.specs.ExactlyLaws.{check_exact}
use Rattle.checker.specs.Verdicts.{refusal_number}
use Rattle.dispatcher.specs.Dispatch.{served, next_frame}
use Rattle.dispatcher.specs.Numbered.{Frame}
use Rattle.dispatcher.specs.FrameLaws.{frame_served_lem, frame_behind}
use Rattle.heater_link.specs.Exchange.{refused_exchange, served_in, exchanged_in, is_pair, pairs_in}
use Rattle.heater_link.specs.StepLaws.{check_refuses, pair_refused, pair_served, frame_exchanged}
use Rattle.heater_link.specs.PairLaws.{is_pair_says, says_is_pair}
use Rattle.heater_link.specs.Exactly.{IsPair, row_answered, given, ExchangeExact, LinkExact}
use Rattle.heater_link.specs.declared.Link.{Link}
use Rattle.heater_link.specs.declared.Losses.{Losses}
use Rattle.heater_link.specs.Numbered.{Exchange}

module _ (request bytes : List ℕ) (are : Bytes bytes) where
  -- 15 is none of the check's numbers
  not_fifteen : check_number request bytes ≡ 15 → ⊥
  not_fifteen q = ⊎_elim (λ w. read w.0 w.1 (decode bytes) refl) (λ w. own w.0 w.1) (within_or_not request)
    where
      own : (number : ℕ) → cycle_of request ≡ no_cycle number → ⊥
      own number e =
          let same = (check_exact request bytes are).request_refused number e in
          request_number_own (no_cycle_number request number e) (omega arith) (omega arith)

      judged : (x : Instance) → Within request x → (t : Table) → SaysTable bytes t → ⊥
      judged x within t says =
          let exactly = check_exact request bytes are in
          let planless : Accepted x t → ⊥ = λ w. omega (arith, exactly.accepts.1 (x, within, t, says, w)) in
          let other : SizesFit x t → ⊥ = λ fit. omega (arith, exactly.fourteen.1 (x, within, t, says, (fit, planless))) in
          omega (arith, exactly.thirteen.1 (x, within, t, says, other))

      read : (x : Instance) → Within request x → (d : Decoded) → decode bytes ≡ d → ⊥
      read x within (table t) e = judged x within t (decodes_says bytes t are e)
      read x within malformed e =
          let none : (t : Table) → SaysTable bytes t → ⊥ = λ t says. never (let z : table t ≡ malformed = sym (says_decodes bytes t says) ∙ e in cc) in
          omega (arith, (check_exact request bytes are).twelve.1 (x, within, none))

module _ (request bytes : List ℕ) (are : Bytes bytes) (a b : ℕ) (lost : Losses) (s : Link) where
  abbrev got : Exchange
  got = given request bytes a b lost s

  abbrev frame : Frame
  frame = next_frame (decode bytes) s.state

  -- of a pair: 15; or a frame
  abbrev InRow : Table → Type 0
  InRow t =
      ((length t.rows ≤ s.state.row) × (got ≡ refused_exchange 15 s))
      ⊎ ((s.state.row < length t.rows) × (got ≡ exchanged_in a b lost frame s) × (frame.refusal ≡ 0))

  -- what an accepted table is answered: 30; or that
  abbrev Answer : Instance → Table → Type 0
  Answer x t = ((IsPair x a b → ⊥) × (got ≡ refused_exchange 30 s)) ⊎ (IsPair x a b × InRow t)

  module _ (x : Instance) (within : Within request x) (t : Table) (says : SaysTable bytes t) (acc : Accepted x t) where
    pass : check_number request bytes ≡ 0
    pass = (check_exact request bytes are).accepts.1 (x, within, t, says, acc)

    same_pairs : is_pair a b (pairs_in (cycle_of request)) ≡ is_pair a b x.pairs
    same_pairs = rw within

    answered : Answer x t
    answered = go (is_pair a b x.pairs) refl
      where
        is : decode bytes ≡ table t
        is = says_decodes bytes t says

        in_row : is_pair a b (pairs_in (cycle_of request)) ≡ true → (s.state.row < length t.rows) ⊎ (length t.rows ≤ s.state.row) → InRow t
        in_row pair (inl h) = inr (
          h,
          sym (pair_served a b lost request bytes s pass pair),
          rw (frame_served_lem bytes s.state t is h) (given_refusal (served s.state.first (row_of t s.state.row))),
        )
        in_row pair (inr h) =
            inl (h, sym (pair_served a b lost request bytes s pass pair) ∙ rw (frame_behind bytes s.state t is h))

        go : (p : Bool) → is_pair a b x.pairs ≡ p → Answer x t
        go true e = inr (is_pair_says x a b e, in_row (same_pairs ∙ e) (lt_or_ge s.state.row (length t.rows)))
        go false e =
            inl (λ w. false≢true (sym e ∙ says_is_pair x a b w), sym (pair_refused a b lost request bytes s pass (same_pairs ∙ e)))

  -- the check's number, or an accepted table's answer
  cases : (Goal : Type 0)
      → ((n : ℕ) → 0 < n → n ≤ 17 → check_number request bytes ≡ n → got ≡ refused_exchange n s → Goal)
      → ((x : Instance) → Within request x → (t : Table) → SaysTable bytes t → Accepted x t → Answer x t → Goal)
      → Goal
  cases Goal refuses takes = go (checked (cycle_of request) (decode bytes)) refl
    where
      go : (v : Verdict) → checked (cycle_of request) (decode bytes) ≡ v → Goal
      go (refusal n) is =
          let number : check_number request bytes ≡ n = rw is in
          let known = refusal_number request bytes n is in
          refuses n known.0 known.1 number (sym (check_refuses a b lost request bytes s n (sym number) (λ z. omega (arith, known.0))))
      go (accepted f frames) is =
          let c = (check_exact request bytes are).accepts.0 (rw is) in
          takes c.0 c.1 c.2 c.3 c.4 (answered c.0 c.1 c.2 c.3 c.4)

  number_of : {r : Exchange} → got ≡ r → got.refusal ≡ r.refusal
  number_of e = ap (λ (r : Exchange). r.refusal) e

  -- a frame that was served
  served_number : got ≡ exchanged_in a b lost frame s → frame.refusal ≡ 0 → got.refusal ≡ 0
  served_number e z = number_of (e ∙ sym (frame_exchanged a b lost frame s z))

  -- what is answered without a number is next-frame's
  served_is : got.refusal ≡ 0 → (got ≡ served_in a b lost frame s) × (frame.refusal ≡ 0)
  served_is z =
      cases _ (λ n l h e r. absurd (omega (arith, number_of r)))
      (λ x within t says acc w. ⊎_elim (λ v. absurd (omega (arith, number_of v.1)))
      (λ v. ⊎_elim (λ u. absurd (omega (arith, number_of u.1))) (λ u. (u.1 ∙ sym (frame_exchanged a b lost frame s u.2), u.2)) v.1) w)

  -- THE THEOREM: which number, exactly.
  exact : ExchangeExact request bytes a b lost s
  exact = record {
    check_first = λ ne. number_of (sym (check_refuses a b lost request bytes s (check_number request bytes) refl ne));
    thirty = (
      λ q. cases _ (λ n l h e r. absurd (omega (arith, number_of r)))
          (λ x within t says acc w. ⊎_elim (λ v. (x, within, t, says, (acc, v.0)))
          (λ v. ⊎_elim (λ u. absurd (omega (arith, number_of u.1))) (λ u. absurd (omega (arith, served_number u.1 u.2))) v.1) w),
      λ c. ⊎_elim (λ v. number_of v.1) (λ v. absurd (c.4.1 v.0)) (answered c.0 c.1 c.2 c.3 c.4.0),
    );
    fifteen = (
      λ q. cases _ (λ n l h e r. absurd (not_fifteen request bytes are (e ∙ sym (number_of r) ∙ q)))
          (λ x within t says acc w. ⊎_elim (λ v. absurd (omega (arith, number_of v.1)))
          (λ v. ⊎_elim (λ u. (x, within, t, says, (acc, v.0, u.0))) (λ u. absurd (omega (arith, served_number u.1 u.2))) v.1) w),
      λ c. ⊎_elim (λ v. absurd (v.0 c.4.1))
          (λ v. ⊎_elim (λ u. number_of u.1) (λ u. absurd (omega (arith, u.0, c.4.2))) v.1) (answered c.0 c.1 c.2 c.3 c.4.0),
    );
    served = (
      λ q. cases _ (λ n l h e r. absurd (omega (arith, number_of r)))
          (λ x within t says acc w. ⊎_elim (λ v. absurd (omega (arith, number_of v.1)))
          (λ v. ⊎_elim (λ u. absurd (omega (arith, number_of u.1))) (λ u. (x, within, t, says, (acc, v.0, u.0))) v.1) w),
      λ c. ⊎_elim (λ v. absurd (v.0 c.4.1))
          (λ v. ⊎_elim (λ u. absurd (omega (arith, u.0, c.4.2))) (λ u. served_number u.1 u.2) v.1) (answered c.0 c.1 c.2 c.3 c.4.0),
    );
    refused_still = λ ne. cases (got ≡ refused_exchange got.refusal s) (λ n l h e r. r ∙ ap (λ (k : ℕ). refused_exchange k s) (sym (number_of r)))
        (λ x within t says acc w. ⊎_elim (λ v. v.1 ∙ ap (λ (k : ℕ). refused_exchange k s) (sym (number_of v.1)))
        (λ v. ⊎_elim (λ u. u.1 ∙ ap (λ (k : ℕ). refused_exchange k s) (sym (number_of u.1))) (λ u. absurd (ne (served_number u.1 u.2))) v.1) w);
    next_frames = λ z. let w = served_is z in ap row_answered w.0 ∙ rw w.1;
    frame_after = λ z. ap (λ (r : Exchange). r.link.state) (served_is z).0;
  }

pub link_exact : LinkExact
link_exact request bytes are a b lost s = exact request bytes are a b lost s
