-- A reading goes by its own bytes, those that it took: whatever stands behind them it reads the same value, and fewer of them it refuses
-- with the number of bytes that have ended, `short`. So do readings one after another, and a row of records.
use Rattle.std.specs.Prelude.{ℕ, zero, suc, ◌+◌, ◌-◌, ◌*◌, ◌≤◌, ◌<◌, ◌≡◌, refl, Bool, true, false, cond, ◌⊎◌, List, [], ◌∷◌, ◌++◌, length, take}
use Rattle.std.proofs.Common.{ap, ◌∙◌, inl, inr, append_assoc, arith, length-append}
use Rattle.std.proofs.lemmas.List.{take-append-le}
use Rattle.std.proofs.Math.Seq.{take-append-add}
use Rattle.cursor.specs.ChoiceLaws.{lt_or_ge}
use Rattle.cursor.specs.Parsed.{Parsed, got, refused, then, records}
use Rattle.cursor.specs.ParsedLaws.{never, then_got, got_same}
use Rattle.cursor.specs.Fields.{byte_of, word_of}

pub record OwnBytes {A : Type 0} (short : ℕ) (one : List ℕ → Parsed A) (bytes : List ℕ) (x : A) (rest : List ℕ) : Type 0 where
  pub own : List ℕ
  pub whole : own ++ rest ≡ bytes
  pub any_behind : (behind : List ℕ) → one (own ++ behind) ≡ got x behind
  pub cut : (k : ℕ) → k < length own → one (take k own) ≡ refused short

module _ {A : Type 0} (short : ℕ) where
  abbrev pub ByOwnBytes : (List ℕ → Parsed A) → Type 0
  ByOwnBytes one = (bytes : List ℕ) (x : A) (rest : List ℕ) → one bytes ≡ got x rest → OwnBytes short one bytes x rest

  -- a value that takes no bytes
  pub value_own : (x : A) → ByOwnBytes (got x)
  value_own x bytes y rest e =
      got_same (λ y rest. OwnBytes short (got x) bytes y rest) e
      (record { own = []; whole = refl; any_behind = λ behind. refl; cut = λ k h. absurd (omega arith) })

  -- a rule that is judged
  pub rule_own : (test : Bool) (number : ℕ) (one : List ℕ → Parsed A) → ByOwnBytes one → ByOwnBytes (λ bytes. cond test (one bytes) (refused number))
  rule_own true number one own bytes x rest e = own bytes x rest e
  rule_own false number one own bytes x rest e = absurd (never (cc))

pub byte_own : (short : ℕ) → ByOwnBytes short (byte_of short)
unfolding byte_of
byte_own short [] x rest e = absurd (never (cc))
byte_own short (b ∷ tail) x rest e =
    got_same (OwnBytes short (byte_of short) (b ∷ tail)) e
    (record { own = b ∷ []; whole = refl; any_behind = λ behind. refl; cut = cut })
  where
    cut : (k : ℕ) → k < 1 → byte_of short (take k (b ∷ [])) ≡ refused short
    cut zero h = refl
    cut (suc k) h = absurd (omega arith)

pub then_own : {A B : Type 0} (short : ℕ) (one : List ℕ → Parsed A) (next : A → List ℕ → Parsed B)
    → ByOwnBytes short one → ((x : A) → ByOwnBytes short (next x)) → ByOwnBytes short (λ bytes. then (one bytes) next)
then_own {A} short one next here after bytes y rest e =
    let s = then_got (one bytes) next y rest e in
    let a = here bytes s.value s.tail s.first in
    let b = after s.value s.tail y rest s.second in
    record {
      own = a.own ++ b.own;
      whole = append_assoc a.own b.own rest ∙ ap (λ (l : List ℕ). a.own ++ l) b.whole ∙ a.whole;
      any_behind = λ behind. rw (append_assoc a.own b.own behind, a.any_behind (b.own ++ behind)) (b.any_behind behind);
      cut = λ k h. go s.value a.own b.own a.any_behind a.cut b.cut k h (lt_or_ge k (length a.own));
    }
  where
    go : (x : A) (front back : List ℕ) → ((behind : List ℕ) → one (front ++ behind) ≡ got x behind)
        → ((k : ℕ) → k < length front → one (take k front) ≡ refused short) → ((k : ℕ) → k < length back → next x (take k back) ≡ refused short)
        → (k : ℕ) → k < length (front ++ back) → (k < length front) ⊎ (length front ≤ k) → then (one (take k (front ++ back))) next ≡ refused short
    go x front back any cut cut' k h (inl within) = rw (take-append-le k front back (omega arith), cut k within)
    go x front back any cut cut' k h (inr past) =
        let over : k ≡ length front + (k - length front) = omega arith in
        rw (over, take-append-add front back (k - length front), any (take (k - length front) back))
        (cut' (k - length front) (omega (arith, length-append front back)))

pub word_own : (short : ℕ) → ByOwnBytes short (word_of short)
unfolding word_of
word_own short =
    then_own short (byte_of short) _ (byte_own short) (λ low.
    then_own short (byte_of short) _ (byte_own short) (λ high. value_own short (low + high * 256)))

pub records_own : {A : Type 0} (short : ℕ) (one : List ℕ → Parsed A) → ByOwnBytes short one → (k : ℕ) (done : List A) → ByOwnBytes short (records one k done)
unfolding records
records_own short one own zero done = value_own short done
records_own short one own (suc k) done = then_own short one _ own (λ x. records_own short one own k (done ++ (x ∷ [])))
