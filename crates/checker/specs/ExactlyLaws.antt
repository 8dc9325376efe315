-- The check answers what `CheckExact` says.
-- Each number has a condition, and some condition holds; a table that describes a plan has the request's H and a plausible f. So the conditions
-- exclude each other, and the number tells which one holds.
use Prim.Native.Nat.{ℕ, ◌<◌}
use Rattle.std.specs.Prelude.{◌≡◌, Bool, cond, ◌&&◌, length}
use Rattle.std.proofs.Math.Path.{refl}
use Rattle.std.proofs.Common.{sym, ap, ◌∙◌, arith, eq-eqb, eqb-true}
use Rattle.std.proofs.Math.Bool.{true, false}
use Rattle.std.proofs.lemmas.Bool.{false≢true}
use Rattle.std.proofs.Math.Logic.{⊎_elim}
use mathlib.Core.List.{List}
use Rattle.std.proofs.Math.Dec.{eqb}
use Rattle.cursor.specs.ParsedLaws.{never, both_true}
use Rattle.cycle.specs.Cycle.{no_cycle, cycle_of}
use Rattle.cycle.specs.LimitLaws.{no_cycle_number, request_number_pos, request_number_own}
use Rattle.table.specs.Table.{Table, Decoded, table, malformed, decode}
use Rattle.cursor.specs.Fields.{Bytes}
use Rattle.table.specs.TableBytesLaws.{says_decodes, decodes_says}
use Rattle.model.specs.Plan.{Instance}
use Rattle.model.specs.Plausible.{plausible}
use Rattle.model.specs.Within.{Within}
use Rattle.model.specs.WithinLaws.{within_or_not}
use Rattle.model.specs.Described.{Accepted}
use Rattle.plan_rules.specs.Rules.{rules_right}
use Rattle.checker.specs.Checked.{entries_right, frames_in, accepted, refusal, verdict_number, plan_of, judged_by, judged, checked_by, check_number}
use Rattle.checker.specs.Accepts.{accepts_described}
use Rattle.checker.specs.Exactly.{SizesFit, OfBoth, NoTable, CheckExact}

-- the tests of the rows
abbrev pub right : Instance → Table → Bool
right x t = let frames = frames_in t.rows x.jobs in entries_right x t.rows frames && rules_right x (length t.rows) t.f frames

module _ (request bytes : List ℕ) where
  -- Each condition gives its number.

  own_number : (number : ℕ) → cycle_of request ≡ no_cycle number → check_number request bytes ≡ number
  unfolding checked_by
  own_number number e = rw e

  -- and is none of the check's
  not_own : (number : ℕ) → cycle_of request ≡ no_cycle number → {k : ℕ} → 8 < k → k < 17 → check_number request bytes ≡ k → ⊥
  not_own number q l h e =
      request_number_own (no_cycle_number request number q) (omega (arith, own_number number q)) (omega (arith, own_number number q))

  module _ (x : Instance) (within : Within request x) where
    malformed_number : decode bytes ≡ malformed → check_number request bytes ≡ 12
    unfolding checked_by
    malformed_number e = rw (within, e)

    module _ (t : Table) (read : decode bytes ≡ table t) where
      judged_is : check_number request bytes ≡ verdict_number (judged x t)
      unfolding checked_by
      judged_is = rw (within, read)

      accepted_number : Accepted x t → check_number request bytes ≡ 0
      accepted_number a =
          ap verdict_number ((accepts_described request bytes x t within read a.f a.frames).1 (a.is_plan, a.describes))

      read_accepted : (f : ℕ) (frames : List ℕ) → judged x t ≡ accepted f frames → Accepted x t
      unfolding checked_by
      read_accepted f frames e =
          let right = (accepts_described request bytes x t within read f frames).0 (rw (within, read) e) in
          record { f = f; frames = frames; is_plan = right.0; describes = right.1 }

      sizes_fit : SizesFit x t → eqb t.h x.h && plausible x t.f ≡ true
      sizes_fit fit = rw (eq-eqb t.h x.h fit.0, fit.1)

      not_fit_number : (SizesFit x t → ⊥) → check_number request bytes ≡ 13
      unfolding judged_by
      not_fit_number other = judged_is ∙ go (eqb t.h x.h && plausible x t.f) refl
        where
          go : (b : Bool) → eqb t.h x.h && plausible x t.f ≡ b → verdict_number (cond b (plan_of x t.f t.rows) (refusal 13)) ≡ 13
          go true e = let b = both_true (eqb t.h x.h) (plausible x t.f) e in absurd (other (eqb-true t.h x.h b.0, b.1))
          go false e = refl

      not_plan_number : SizesFit x t → (Accepted x t → ⊥) → check_number request bytes ≡ 14
      unfolding judged_by plan_of
      not_plan_number fit none = judged_is ∙ rw (sizes_fit fit) (go (right x t) refl)
        where
          frames : List ℕ
          frames = frames_in t.rows x.jobs

          go : (b : Bool) → right x t ≡ b → verdict_number (cond b (accepted t.f frames) (refusal 14)) ≡ 14
          go true e = absurd (none (read_accepted t.f frames (rw (sizes_fit fit, e))))
          go false e = refl

  module _ (are : Bytes bytes) where
    no_table_number : NoTable request bytes → check_number request bytes ≡ 12
    no_table_number c = go (decode bytes) refl
      where
        go : (d : Decoded) → decode bytes ≡ d → check_number request bytes ≡ 12
        go (table t) e = absurd (c.2 t (decodes_says bytes t are e))
        go malformed e = malformed_number c.0 c.1 e

    other_sizes_number : OfBoth request bytes (λ x t. SizesFit x t → ⊥) → check_number request bytes ≡ 13
    other_sizes_number c = not_fit_number c.0 c.1 c.2 (says_decodes bytes c.2 c.3) c.4

    no_plan_number : OfBoth request bytes (λ x t. SizesFit x t × (Accepted x t → ⊥)) → check_number request bytes ≡ 14
    no_plan_number c = not_plan_number c.0 c.1 c.2 (says_decodes bytes c.2 c.3) c.4.0 c.4.1

    plan_number : OfBoth request bytes Accepted → check_number request bytes ≡ 0
    plan_number c = accepted_number c.0 c.1 c.2 (says_decodes bytes c.2 c.3) c.4

    -- Some condition holds.
    cases : (Goal : Type 0)
        → ((number : ℕ) → cycle_of request ≡ no_cycle number → Goal)
        → (NoTable request bytes → Goal)
        → (OfBoth request bytes (λ x t. SizesFit x t → ⊥) → Goal)
        → (OfBoth request bytes (λ x t. SizesFit x t × (Accepted x t → ⊥)) → Goal)
        → (OfBoth request bytes Accepted → Goal)
        → Goal
    unfolding judged_by plan_of
    cases Goal refused none other unplanned planned =
        ⊎_elim (λ w. read w.0 w.1 (decode bytes) refl) (λ w. refused w.0 w.1) (within_or_not request)
      where
        rules : (x : Instance) → Within request x → (t : Table) → decode bytes ≡ table t → SizesFit x t → (b : Bool)
            → right x t ≡ b → Goal
        rules x within t e fit true q =
            let read = read_accepted x within t e t.f (frames_in t.rows x.jobs) (rw (sizes_fit x within t e fit, q)) in
            planned (x, within, t, decodes_says bytes t are e, read)
        rules x within t e fit false q =
            let number : check_number request bytes ≡ 14 = judged_is x within t e ∙ rw (sizes_fit x within t e fit, q) in
            unplanned (x, within, t, decodes_says bytes t are e, (fit, λ a. omega (arith, accepted_number x within t e a)))

        sizes : (x : Instance) → Within request x → (t : Table) → decode bytes ≡ table t → (b : Bool)
            → eqb t.h x.h && plausible x t.f ≡ b → Goal
        sizes x within t e true q =
            let fit = both_true (eqb t.h x.h) (plausible x t.f) q in
            rules x within t e (eqb-true t.h x.h fit.0, fit.1) (right x t) refl
        sizes x within t e false q =
            other (x, within, t, decodes_says bytes t are e, λ fit. false≢true (sym q ∙ sizes_fit x within t e fit))

        read : (x : Instance) → Within request x → (d : Decoded) → decode bytes ≡ d → Goal
        read x within (table t) e = sizes x within t e (eqb t.h x.h && plausible x t.f) refl
        read x within malformed e =
            none (x, within, λ t says. never (let z : table t ≡ malformed = sym (says_decodes bytes t says) ∙ e in cc))

    -- THE THEOREM: which number the check answers, exactly.
    pub check_exact : CheckExact request bytes
    check_exact = record {
      request_refused = own_number;
      twelve = (
        λ e. cases (NoTable request bytes) (λ k q. absurd (not_own k q (omega arith) (omega arith) e))
            (λ c. c) (λ c. absurd (omega (arith, other_sizes_number c))) (λ c. absurd (omega (arith, no_plan_number c))) (λ c. absurd (omega (arith, plan_number c))),
        no_table_number,
      );
      thirteen = (
        λ e. cases (OfBoth request bytes (λ x t. SizesFit x t → ⊥)) (λ k q. absurd (not_own k q (omega arith) (omega arith) e))
            (λ c. absurd (omega (arith, no_table_number c))) (λ c. c) (λ c. absurd (omega (arith, no_plan_number c))) (λ c. absurd (omega (arith, plan_number c))),
        other_sizes_number,
      );
      fourteen = (
        λ e. cases (OfBoth request bytes (λ x t. SizesFit x t × (Accepted x t → ⊥))) (λ k q. absurd (not_own k q (omega arith) (omega arith) e))
            (λ c. absurd (omega (arith, no_table_number c))) (λ c. absurd (omega (arith, other_sizes_number c))) (λ c. c) (λ c. absurd (omega (arith, plan_number c))),
        no_plan_number,
      );
      accepts = (
        λ e. cases (OfBoth request bytes Accepted) (λ k q. absurd (omega (arith, own_number k q, request_number_pos (no_cycle_number request k q))))
            (λ c. absurd (omega (arith, no_table_number c))) (λ c. absurd (omega (arith, other_sizes_number c))) (λ c. absurd (omega (arith, no_plan_number c))) (λ c. c),
        plan_number,
      );
    }
