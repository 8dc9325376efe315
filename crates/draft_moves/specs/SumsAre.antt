-- What a row's sum is (SumTheorem): job by job it is the C + g of those placed in the row, and 0 for a lifted one.
use Prim.Native.Nat.{ℕ, zero, suc, ◌+◌, ◌%◌, ◌<◌}
use Rattle.std.specs.Prelude.{◌≡◌, Bool, length, get_or, set, eqb}
use Rattle.std.proofs.Math.Path.{refl}
use Rattle.std.proofs.Common.{sym, ap, ap₂, ◌∙◌, arith, length-set, ext_get_or, get_or-set_same, get_or-set_other}
use Rattle.std.proofs.Math.Bool.{true, false, cond}
use mathlib.Core.List.{List, [], ◌∷◌}
use borrow.Author.Tests.{eq-eqb, ne_eqb, eqb-true, eqb-false}
use Rattle.cursor.specs.Padded.{firsts}
use Rattle.cursor.specs.PaddedLaws.{firsts_length, get_or_firsts}
use Rattle.search.specs.Placing.{row_sum}
use Rattle.model.specs.Plan.{Instance, costs}
use Rattle.model.specs.PlanLaws.{costs_length}
use Rattle.model.specs.Good.{Good}
use Rattle.model.specs.WithinLaws.{within_good}
use Rattle.draft.specs.Draft.{lifted, is_lifted, frame_of, frames_held, row_count}
use Rattle.draft.specs.SumLaws.{placed_sum, sum_by_job}
use Rattle.draft.specs.Kept.{Sized}
use Rattle.draft.specs.declared.Draft.{Draft}
use Rattle.draft_moves.specs.Exactly.{SumMeans, SumTheorem}

module _ (rows r : ℕ) where
  none : (cs ks : List ℕ) → ((y : ℕ) → y < length cs → get_or ks y 0 ≡ lifted) → placed_sum rows cs ks r ≡ 0
  unfolding placed_sum
  none [] ks h = refl
  none (c ∷ cs) [] h = refl
  none (c ∷ cs) (k ∷ ks) h =
      let up : is_lifted k ≡ true = eq-eqb k lifted (h 0 (omega arith)) in
      rw (up, none cs ks (λ y l. h (suc y) (omega arith)))

  all : (cs ks : List ℕ) → length cs ≡ length ks → ((y : ℕ) → y < length cs → get_or ks y 0 ≡ lifted → ⊥) → placed_sum rows cs ks r ≡ row_sum rows cs ks r
  unfolding placed_sum row_sum
  all [] [] e h = refl
  all [] (k ∷ ks) e h = absurd (omega arith)
  all (c ∷ cs) [] e h = absurd (omega arith)
  all (c ∷ cs) (k ∷ ks) e h =
      let down : is_lifted k ≡ false = ne_eqb k lifted (h 0 (omega arith)) in
      rw (down, all cs ks (omega arith) (λ y l. h (suc y) (omega arith))) (go (eqb (k % rows) r))
    where
      go : (b : Bool) → cond b c 0 + row_sum rows cs ks r ≡ cond b c 0 + row_sum rows cs ks r
      go true = refl
      go false = refl

  one : (cs ks : List ℕ) (y k : ℕ) → y < length cs → length cs ≡ length ks → get_or ks y 0 ≡ lifted → (k ≡ lifted → ⊥)
      → placed_sum rows cs (set ks y k) r ≡ placed_sum rows cs ks r + cond (eqb (k % rows) r) (get_or cs y 0) 0
  unfolding placed_sum
  one [] ks y k h l up down = absurd (omega arith)
  one (c ∷ cs) [] y k h l up down = absurd (omega arith)
  one (c ∷ cs) (j ∷ ks) zero k h l up down =
      let a : is_lifted j ≡ true = eq-eqb j lifted up in
      let b : is_lifted k ≡ false = ne_eqb k lifted down in
      rw (a, b) (omega arith)
  one (c ∷ cs) (j ∷ ks) (suc y) k h l up down =
      let rest = one cs ks y k (omega arith) (omega arith) up down in
      rw rest (omega arith)

-- a store, seen in the first n places
firsts_set : (n : ℕ) (ks : List ℕ) (y k : ℕ) → y < n → y < length ks → firsts n 0 (set ks y k) ≡ set (firsts n 0 ks) y k
firsts_set n ks y k low there =
    let size = firsts_length 0 (set ks y k) n in
    let few = firsts_length 0 ks n in
    ext_get_or 0 (firsts n 0 (set ks y k)) (set (firsts n 0 ks) y k) (size ∙ sym (length-set (firsts n 0 ks) y k ∙ few))
    (λ i h. get_or_firsts 0 (set ks y k) n i (omega (arith, size)) ∙ go i (omega (arith, size)) (eqb i y) refl)
  where
    go : (i : ℕ) → i < n → (b : Bool) → eqb i y ≡ b → get_or (set ks y k) i 0 ≡ get_or (set (firsts n 0 ks) y k) i 0
    go i h true q =
        let is : i ≡ y = eqb-true i y q in
        rw is (get_or-set_same ks y k 0 there ∙ sym (get_or-set_same (firsts n 0 ks) y k 0 (omega (arith, firsts_length 0 ks n))))
    go i h false q =
        let ne = eqb-false i y q in
        get_or-set_other ks y i k 0 ne ∙ sym (get_or-set_other (firsts n 0 ks) y i k 0 ne ∙ get_or_firsts 0 ks n i h)

module _ (x : Instance) (d : Draft) where
  here : (y : ℕ) → y < length x.jobs → get_or (frames_held x d) y 0 ≡ frame_of x d y
  here y h = get_or_firsts 0 d.frames (length x.jobs) y h

  counts : length (costs x) ≡ length x.jobs
  counts = costs_length x

  same : length (costs x) ≡ length (frames_held x d)
  same = counts ∙ sym (firsts_length 0 d.frames (length x.jobs))

pub sum_means : (x : Instance) → Good x → (d : Draft) → Sized d → SumMeans x d
sum_means x g d sized = record {
  none = λ h r. sum_by_job x d r
      ∙ none (row_count x d) r (costs x) (frames_held x d) (λ y l. let low : y < length x.jobs = omega (arith, counts x d) in here x d y low ∙ (h y low).up);
  all = λ h r. sum_by_job x d r
      ∙ all (row_count x d) r (costs x) (frames_held x d) (same x d)
      (λ y l q. let low : y < length x.jobs = omega (arith, counts x d) in (h y low).down (sym (here x d y low) ∙ q));
  one_more = λ e y k r up down same_f frames.
      let there : y < length d.frames = omega (arith, up.known, g.few_jobs, sized.frames_are) in
      let held : frames_held x e ≡ set (frames_held x d) y k
      = ap (firsts (length x.jobs) 0) frames ∙ firsts_set (length x.jobs) d.frames y k up.known there in
      let rows : row_count x e ≡ row_count x d = rw same_f in
      sum_by_job x e r
      ∙ ap₂ (λ (m : ℕ) (ks : List ℕ). placed_sum m (costs x) ks r) rows held
      ∙ one (row_count x d) r (costs x) (frames_held x d) y k (omega (arith, up.known, counts x d)) (same x d) (here x d y up.known ∙ up.up) down
      ∙ ap (λ (s : ℕ). s + cond (eqb (k % row_count x d) r) (get_or (costs x) y 0) 0) (sym (sum_by_job x d r));
}

pub sum_theorem : SumTheorem
sum_theorem request x w d sized = sum_means x (within_good request x w) d sized
