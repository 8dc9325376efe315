-- The laws of the choice and its tries: one length after the other, and no try where no length is plausible.
use Rattle.std.specs.Prelude.{◌≡◌, Bool, true, false, cond, List, [], ℕ, zero, suc, ◌+◌, ◌/◌, ◌≤◌}
use Rattle.std.proofs.Math.Path.{refl}
use Rattle.std.proofs.Common.{sym, ap, ◌∙◌, arith}
use Rattle.cursor.specs.ParsedLaws.{never}
use Rattle.search.specs.Search.{Found, none, at, Walk}
use Rattle.search.specs.Placing.{plan_walk}
use Rattle.request.specs.declared.Task.{Task}
use Rattle.model.specs.Plan.{Instance}
use Rattle.model.specs.Plausible.{phase_rule}
use Rattle.model.specs.Chosen.{chosen, no_plan, no_plausible, is_tried_by, ChoiceWalk, go_on_lengths, walk_lengths_by, choose_walk_by, choose, full_tries, problem_at}

-- the length has a plan
pub lengths_found : {o : Found} {frames : List ℕ} (f t : ℕ) (rest : ChoiceWalk) → o ≡ at frames
    → go_on_lengths f o t rest ≡ record { choice = chosen f frames; tries = t }
unfolding go_on_lengths
lengths_found f t rest e = rw e

-- it has none
pub lengths_none : {o : Found} (f t : ℕ) (rest : ChoiceWalk) → o ≡ none → go_on_lengths f o t rest ≡ record { choice = rest.choice; tries = t + rest.tries }
unfolding go_on_lengths
lengths_none f t rest e = rw e

-- at least the tries of the length are taken
pub lengths_more : (f : ℕ) (o : Found) (t : ℕ) (rest : ChoiceWalk) → t ≤ (go_on_lengths f o t rest).tries
unfolding go_on_lengths
lengths_more f (at frames) t rest = omega arith
lengths_more f none t rest = omega arith

-- the search with H/rows
abbrev pub walk_with : Instance → ℕ → Walk
walk_with x rows = plan_walk (problem_at x (x.h / rows)) []

-- a length at a time
module _ (rule : ℕ → Task → Bool) (x : Instance) where
  abbrev walk_lengths : ℕ → ℕ → Bool → ChoiceWalk
  walk_lengths = walk_lengths_by rule x

  pub lengths_end : (rows : ℕ) (some : Bool) → walk_lengths 0 rows some ≡ record { choice = cond some no_plan no_plausible; tries = 0 }
  unfolding walk_lengths_by
  lengths_end rows some = refl

  pub lengths_skipped : (n rows : ℕ) (some : Bool) → is_tried_by rule x rows ≡ false → walk_lengths (suc n) rows some ≡ walk_lengths n (rows + 1) some
  unfolding walk_lengths_by
  lengths_skipped n rows some e = rw e

  pub lengths_tried : (n rows : ℕ) (some : Bool) → is_tried_by rule x rows ≡ true
      → walk_lengths (suc n) rows some ≡ go_on_lengths (x.h / rows) (walk_with x rows).found (walk_with x rows).tries (walk_lengths n (rows + 1) true)
  unfolding walk_lengths_by
  lengths_tried n rows some e = rw e

  -- a length that is tried ends in a plan or in the lengths behind it
  tried_or_behind : (f : ℕ) (o : Found) (t : ℕ) (rest : ChoiceWalk) → (go_on_lengths f o t rest).choice ≡ no_plausible → rest.choice ≡ no_plausible
  unfolding go_on_lengths
  tried_or_behind f (at frames) t rest e = absurd (never (cc))
  tried_or_behind f none t rest e = e

  -- once one was tried, some length is plausible
  some_plausible : (n rows : ℕ) → (walk_lengths n rows true).choice ≡ no_plausible → ⊥
  some_plausible zero rows e = never (let q = sym (ap (λ (w : ChoiceWalk). w.choice) (lengths_end rows true)) ∙ e in cc)
  some_plausible (suc n) rows e = go (some_plausible n (rows + 1)) (is_tried_by rule x rows) refl
    where
      go : ((walk_lengths n (rows + 1) true).choice ≡ no_plausible → ⊥) → (b : Bool) → is_tried_by rule x rows ≡ b → ⊥
      go ih true t =
          ih (tried_or_behind (x.h / rows) (walk_with x rows).found (walk_with x rows).tries (walk_lengths n (rows + 1) true)
          (sym (ap (λ (w : ChoiceWalk). w.choice) (lengths_tried n rows true t)) ∙ e))
      go ih false t = ih (sym (ap (λ (w : ChoiceWalk). w.choice) (lengths_skipped n rows true t)) ∙ e)

  no_length_tried : (n rows : ℕ) → (walk_lengths n rows false).choice ≡ no_plausible → (walk_lengths n rows false).tries ≡ 0
  no_length_tried zero rows e = ap (λ (w : ChoiceWalk). w.tries) (lengths_end rows false)
  no_length_tried (suc n) rows e = go (no_length_tried n (rows + 1)) (is_tried_by rule x rows) refl
    where
      go : ((walk_lengths n (rows + 1) false).choice ≡ no_plausible → (walk_lengths n (rows + 1) false).tries ≡ 0) → (b : Bool) → is_tried_by rule x rows ≡ b
          → (walk_lengths (suc n) rows false).tries ≡ 0
      go ih true t =
          absurd (some_plausible n (rows + 1)
          (tried_or_behind (x.h / rows) (walk_with x rows).found (walk_with x rows).tries (walk_lengths n (rows + 1) true)
          (sym (ap (λ (w : ChoiceWalk). w.choice) (lengths_tried n rows false t)) ∙ e)))
      go ih false t =
          let d = lengths_skipped n rows false t in
          ap (λ (w : ChoiceWalk). w.tries) d ∙ ih (sym (ap (λ (w : ChoiceWalk). w.choice) d) ∙ e)

-- "The count is 0 with .. 9": where no length is plausible, none is tried
pub none_tried : (x : Instance) → choose x ≡ no_plausible → full_tries x ≡ 0
unfolding choose_walk_by
none_tried x e = no_length_tried phase_rule x 256 1 e
