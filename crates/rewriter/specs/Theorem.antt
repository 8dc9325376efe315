-- Which answer rewriting gets, exactly: the theorem. The check refuses, or it accepts and the buffer is too short or not. So the number tells which of these holds.
use Rattle.std.specs.Prelude.{ℕ, ◌≤◌, ◌<◌, ◌≡◌, refl, Bool, true, false, ◌≢◌, List, ◌++◌, length, drop, eqb}
use Rattle.std.proofs.Common.{sym, ap, ◌∙◌, ⊎_elim, arith, eqb-true}
use Rattle.std.proofs.lemmas.Bool.{eqb-false}
use Rattle.cursor.specs.ChoiceLaws.{lt_or_ge}
use Rattle.cursor.specs.ParsedLaws.{never}
use Rattle.cursor.specs.Fields.{Bytes}
use Rattle.cursor.specs.Written.{Written}
use Rattle.cycle.specs.Cycle.{no_cycle, cycle_of}
use Rattle.cycle.specs.LimitLaws.{no_cycle_number, request_number_own}
use Rattle.table.specs.Table.{Table, Decoded, table, malformed, decode, encode}
use Rattle.table.specs.TableBytesLaws.{says_decodes, decodes_says}
use Rattle.model.specs.Plan.{Instance}
use Rattle.model.specs.Within.{Within}
use Rattle.model.specs.WithinLaws.{within_or_not}
use Rattle.model.specs.Described.{Accepted}
use Rattle.plan_writer.specs.Outcome.{Outcome, handed, outcome_answer, outcome_buffer}
use Rattle.plan_writer.specs.OutcomeLaws.{refused_answer, refused_buffer, handed_answer, handed_buffer, short_answer, short_buffer}
use Rattle.checker.specs.Checked as checker
use Rattle.checker.specs.Exactly.{SizesFit, OfBoth, CheckExact}
use Rattle.checker.specs.ExactlyLaws.{check_exact}
use Rattle.rewriter.specs.Rewritten.{rewritten}
use Rattle.rewriter.specs.RewriteLaws.{rewritten_refused}
use Rattle.rewriter.specs.SameBytes.{rewritten_is}
use Rattle.rewriter.specs.Exactly.{RewriteExact}

module _ (request bytes : List ℕ) (are : Bytes bytes) where
  abbrev number : ℕ
  number = checker.check_number request bytes

  exact : CheckExact request bytes
  exact = check_exact request bytes are

  -- the check never answers 11
  not_eleven : number ≢ 11
  not_eleven e = ⊎_elim (λ w. within w.0 w.1 (decode bytes) refl) (λ w. outside w.0 w.1) (within_or_not request)
    where
      outside : (k : ℕ) → cycle_of request ≡ no_cycle k → ⊥
      outside k is =
          let same : k ≡ 11 = sym (exact.request_refused k is) ∙ e in
          request_number_own (no_cycle_number request k is) (omega arith) (omega arith)

      within : (x : Instance) → Within request x → (d : Decoded) → decode bytes ≡ d → ⊥
      within x w malformed is =
          let twelve = exact.twelve.1 (x, w, λ t says. never (let f : table t ≡ malformed = sym (says_decodes bytes t says) ∙ is in cc)) in
          omega (arith, twelve)
      within x w (table t) is =
          let says = decodes_says bytes t are is in
          let not_accepted : Accepted x t → ⊥ = λ a. omega (arith, exact.accepts.1 (x, w, t, says, a)) in
          let not_fit : SizesFit x t → ⊥ = λ fit. omega (arith, exact.fourteen.1 (x, w, t, says, (fit, not_accepted))) in
          omega (arith, exact.thirteen.1 (x, w, t, says, not_fit))

  module _ (out : List ℕ) where
    -- what the call answers, and the buffer after it
    abbrev answer : Written
    answer = outcome_answer (rewritten request bytes) out

    abbrev after : List ℕ
    after = outcome_buffer (rewritten request bytes) out

    -- the check refuses
    refuses : number ≢ 0 → (answer ≡ record { refusal = number; length = 0 }) × (after ≡ out)
    refuses ne = go (checker.checked (cycle_of request) (decode bytes)) refl
      where
        go : (v : checker.Verdict) → checker.checked (cycle_of request) (decode bytes) ≡ v → (answer ≡ record { refusal = number; length = 0 }) × (after ≡ out)
        go (checker.accepted f frames) is = absurd (ne (ap checker.verdict_number is))
        go (checker.refusal n) is =
            let o = rewritten_refused request bytes n is in
            let same : n ≡ number = sym (ap checker.verdict_number is) in (
              ap (λ (r : Outcome). outcome_answer r out) o ∙ refused_answer n out ∙ ap (λ (k : ℕ). record { refusal = k; length = 0 }) same,
              ap (λ (r : Outcome). outcome_buffer r out) o ∙ refused_buffer n out,
            )

    -- it accepts, and the table is that of the bytes
    module _ (z : number ≡ 0) where
      abbrev Handed : Type 0
      Handed = (t : Table) × (rewritten request bytes ≡ handed t) × (encode t ≡ bytes)

      handed_table : OfBoth request bytes Accepted → Handed
      handed_table (x, w, t, says, a) = (t, rewritten_is request x w bytes t (says_decodes bytes t says) a, says.bytes_are)

      short : length out < length bytes → (answer ≡ record { refusal = 11; length = 0 }) × (after ≡ out)
      short h = go (handed_table (exact.accepts.0 z))
        where
          go : Handed → (answer ≡ record { refusal = 11; length = 0 }) × (after ≡ out)
          go (t, o, own) = let l : length out < length (encode t) = rw own h in rw (o, short_answer t out l, short_buffer t out l) (refl, refl)

      writes : length bytes ≤ length out → (answer ≡ record { refusal = 0; length = length bytes }) × (after ≡ bytes ++ drop (length bytes) out)
      writes h = go (handed_table (exact.accepts.0 z))
        where
          go : Handed → (answer ≡ record { refusal = 0; length = length bytes }) × (after ≡ bytes ++ drop (length bytes) out)
          go (t, o, own) = let l : length (encode t) ≤ length out = rw own h in rw (o, handed_answer t out l, handed_buffer t out l, own) (refl, refl)

  -- One of three holds

  data Which (out : List ℕ) : Type 0 where
    check_case : number ≢ 0 → Which out
    short_case : (number ≡ 0) × (length out < length bytes) → Which out
    fits_case : (number ≡ 0) × (length bytes ≤ length out) → Which out

  which : (out : List ℕ) → Which out
  which out = go (eqb number 0) refl
    where
      go : (b : Bool) → eqb number 0 ≡ b → Which out
      go false q = check_case (eqb-false number 0 q)
      go true q =
          let z = eqb-true number 0 q in
          ⊎_elim (λ (h : length out < length bytes). short_case (z, h)) (λ (h : length bytes ≤ length out). fits_case (z, h)) (lt_or_ge (length out) (length bytes))

  module _ (out : List ℕ) where
    -- the number tells which one, and what is left
    abbrev Tells : Written → List ℕ → Type 0
    Tells w b = (w.refusal ≡ 11 → (number ≡ 0) × (length out < length bytes)) × (w.refusal ≡ 0 → (number ≡ 0) × (length bytes ≤ length out))
        × (w.refusal ≡ 0 → (w.length ≡ length bytes) × (b ≡ bytes ++ drop (length bytes) out)) × ((w.refusal ≡ 0 → ⊥) → (w.length ≡ 0) × (b ≡ out))

    tells : Which out → Tells (answer out) (after out)
    tells (check_case ne) =
        let r = refuses out ne in
        rw (r.0, r.1) (λ e. absurd (not_eleven e), λ e. absurd (ne e), λ e. absurd (ne e), λ n. (refl, refl))
    tells (short_case c) =
        let r = short out c.0 c.1 in
        rw (r.0, r.1) (λ e. c, λ e. absurd (omega arith), λ e. absurd (omega arith), λ n. (refl, refl))
    tells (fits_case c) =
        let r = writes out c.0 c.1 in
        rw (r.0, r.1) (λ e. absurd (omega arith), λ e. c, λ e. (refl, refl), λ n. absurd (n refl))

    -- THE THEOREM: for all byte strings and buffers.
    pub rewrite_exact : RewriteExact request bytes out (answer out) (after out)
    rewrite_exact =
        let told = tells (which out) in
        record {
          check_first = λ ne. ap (λ (w : Written). w.refusal) (refuses out ne).0;
          eleven = (told.0, λ c. ap (λ (w : Written). w.refusal) (short out c.0 c.1).0);
          written = (told.1, λ c. ap (λ (w : Written). w.refusal) (writes out c.0 c.1).0);
          same_bytes = told.2;
          untouched = told.3;
        }

    -- THE LAW: an answer and a buffer that meet the statement are the only ones.
    module _ (w w' : Written) (b b' : List ℕ) (one : RewriteExact request bytes out w b) (two : RewriteExact request bytes out w' b') where
      abbrev Same : Type 0
      Same = (w ≡ w') × (b ≡ b')

      same : w.refusal ≡ w'.refusal → w.length ≡ w'.length → b ≡ b' → Same
      same r l e = (λ i. record { refusal = r i; length = l i }, e)

      both_refused : (k : ℕ) → k ≢ 0 → w.refusal ≡ k → w'.refusal ≡ k → Same
      both_refused k ne e f =
          let c = one.untouched (λ z. ne (sym e ∙ z)) in
          let d = two.untouched (λ z. ne (sym f ∙ z)) in
          same (e ∙ sym f) (c.0 ∙ sym d.0) (c.1 ∙ sym d.1)

      pub rewrite_alone : Same
      rewrite_alone = go (which out)
        where
          go : Which out → Same
          go (check_case ne) = both_refused number ne (one.check_first ne) (two.check_first ne)
          go (short_case c) = both_refused 11 (λ z. omega arith) (one.eleven.1 c) (two.eleven.1 c)
          go (fits_case c) =
              let e = one.written.1 c in
              let f = two.written.1 c in
              let p = one.same_bytes e in
              let q = two.same_bytes f in
              same (e ∙ sym f) (p.0 ∙ sym q.0) (p.1 ∙ sym q.1)
