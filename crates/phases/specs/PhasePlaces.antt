-- Which bytes of a request its phase's two bytes leave alone: all others. And of two phases set one after the other the last one stands.
use Rattle.std.specs.Prelude.{ℕ, ◌+◌, ◌-◌, ◌*◌, ◌≤◌, ◌<◌, ◌≡◌, ◌⊎◌, drop}
use Rattle.std.proofs.Math.Path.{ap, ap₂}
use Rattle.std.proofs.Common.{◌∙◌, inl, inr, length-take-le, drop_at}
use mathlib.Core.List.{List, ◌++◌, append_assoc}
use native.Mathlib.Omega.{arith}
use Rattle.std.proofs.Math.ListN.{length, get_or, take, length-append, length-drop, get_or-append}
use Rattle.std.proofs.Math.Seq.{get_or-take, get_or-drop, get_or-append-add, take_at}
use Rattle.cursor.specs.Fields.{word_bytes}
use Rattle.cursor.specs.WordBytesLaws.{word_long}
use Rattle.phases.specs.Phases.{with_phase}

module _ (request : List ℕ) (i p : ℕ) (inside : 9 + 8 * i ≤ length request) where
  abbrev before : List ℕ
  before = take (7 + 8 * i) request

  abbrev after : List ℕ
  after = drop (9 + 8 * i) request

  before_long : length before ≡ 7 + 8 * i
  before_long = length-take-le (7 + 8 * i) request (omega arith)

  with_long : length (before ++ word_bytes p) ≡ 9 + 8 * i
  with_long = omega (arith, length-append before (word_bytes p), word_long p, before_long)

  pub same_length : length (with_phase request i p) ≡ length request
  unfolding with_phase
  same_length = omega (arith, length-append (before ++ word_bytes p) after, with_long, length-drop (9 + 8 * i) request)

  pub other_bytes : (k : ℕ) → (k < 7 + 8 * i) ⊎ (9 + 8 * i ≤ k) → get_or (with_phase request i p) k 0 ≡ get_or request k 0
  unfolding with_phase
  other_bytes k (inl h) =
      ap (λ (l : List ℕ). get_or l k 0) (append_assoc before (word_bytes p) after)
      ∙ get_or-append before (word_bytes p ++ after) 0 k (omega (arith, before_long))
      ∙ get_or-take (7 + 8 * i) request k 0 h
  other_bytes k (inr h) =
      let place : k ≡ length (before ++ word_bytes p) + (k - (9 + 8 * i)) = omega (arith, with_long) in
      let there : 9 + 8 * i + (k - (9 + 8 * i)) ≡ k = omega arith in
      ap (λ (m : ℕ). get_or (before ++ word_bytes p ++ after) m 0) place
      ∙ get_or-append-add (before ++ word_bytes p) after (k - (9 + 8 * i)) 0
      ∙ get_or-drop (9 + 8 * i) request (k - (9 + 8 * i)) 0
      ∙ ap (λ (m : ℕ). get_or request m 0) there

  pub set_again : (q : ℕ) → with_phase (with_phase request i p) i q ≡ with_phase request i q
  unfolding with_phase
  set_again q =
      let kept : take (7 + 8 * i) (before ++ word_bytes p ++ after) ≡ before
      = ap (take (7 + 8 * i)) (append_assoc before (word_bytes p) after) ∙ take_at before (word_bytes p ++ after) (7 + 8 * i) before_long in
      ap₂ (λ (a b : List ℕ). a ++ word_bytes q ++ b) kept (drop_at (before ++ word_bytes p) after (9 + 8 * i) with_long)
