-- What a call gives: the draft as it was, or with one job and one row touched. So a draft keeps the sizes of its arrays.
use Rattle.std.specs.Prelude.{ℕ, ◌≡◌, refl, Bool, cond, List, ◌⊎◌}
use Rattle.std.proofs.Common.{ap, subst, sym, ◌∙◌, arith, length-set}
use Rattle.std.proofs.Math.Bool.{true, false}
use Rattle.std.proofs.Math.Logic.{inl, inr}
use Rattle.std.proofs.lemmas.List.{length-replicate}
use Rattle.cursor.specs.PaddedLaws.{padded_length}
use Rattle.cycle.specs.Cycle.{Cycle, cycle, no_cycle, cycle_of}
use Rattle.table.specs.Table.{decode}
use Rattle.model.specs.Plan.{Instance, job_at, rows_at, costs}
use Rattle.model.specs.Answers.{instance}
use Rattle.model.specs.WithinLaws.{within_good}
use Rattle.plan_rules.specs.Rules.{in_window}
use Rattle.checker.specs.Checked as checker
use Rattle.checker.specs.Verdicts.{plan_read_lem}
use Rattle.draft.specs.Draft.{is_lifted, frame_of, no_draft, draft_of, start_of, start, kept, touched, after_lift, after_put, can_move, can_stand, lift_in, put_there, put_in, lift_of, put_of, lift, put}
use Rattle.draft.specs.Kept.{Sized}
use Rattle.draft.specs.MoveLaws.{loads_length}
use Rattle.draft.specs.declared.Draft.{Draft}
use Rattle.draft.specs.Numbered.{Drafted}

abbrev pub CameTo : Draft → Drafted → Type 0
CameTo d made =
    ((number : ℕ) × (made ≡ kept number d))
    ⊎ ((y : ℕ) × (k : ℕ) × (row : ℕ) × (load : ℕ) × (made ≡ kept 0 (touched d y k row load)))

module _ (d : Draft) where
  pub lift_came : (request : List ℕ) (y : ℕ) → CameTo d (lift request d y)
  unfolding lift lift_in
  lift_came request y = go (cycle_of request)
    where
      tested : (x : Instance) (a b : Bool) → CameTo d (cond a (cond b (kept 26 d) (kept 0 (after_lift x d y))) (kept 26 d))
      tested x true true = inl (26, refl)
      tested x true false = inr (y, _, _, _, refl)
      tested x false b = inl (26, refl)

      go : (c : Cycle) → CameTo d (lift_of c d y)
      go (cycle tasks pairs g h jobs) = let x = instance tasks pairs g h jobs in tested x (can_move x d y) (is_lifted (frame_of x d y))
      go (no_cycle number) = inl (number, refl)

  pub put_came : (request : List ℕ) (y k : ℕ) → CameTo d (put request d y k)
  unfolding put put_in put_there
  put_came request y k = go (cycle_of request)
    where
      tested : (x : Instance) (a b inside place : Bool)
          → CameTo d (cond a (cond b (cond inside (cond place (kept 0 (after_put x d y k)) (kept 28 d)) (kept 27 d)) (kept 26 d)) (kept 26 d))
      tested x true true true true = inr (y, k, _, _, refl)
      tested x true true true false = inl (28, refl)
      tested x true true false place = inl (27, refl)
      tested x true false inside place = inl (26, refl)
      tested x false b inside place = inl (26, refl)

      go : (c : Cycle) → CameTo d (put_of c d y k)
      go (cycle tasks pairs g h jobs) =
          let x = instance tasks pairs g h jobs in
          tested x (can_move x d y) (is_lifted (frame_of x d y)) (in_window d.f (job_at x y) k) (can_stand x d y k)
      go (no_cycle number) = inl (number, refl)

  pub came_sized : (made : Drafted) → Sized d → CameTo d made → Sized made.draft
  came_sized made s (inl (number, e)) = subst Sized (sym (ap (λ (m : Drafted). m.draft) e)) s
  came_sized made s (inr (y, k, row, load, e)) =
      subst Sized (sym (ap (λ (m : Drafted). m.draft) e)) (record {
        frames_are = length-set d.frames y k ∙ s.frames_are;
        loads_are = length-set d.loads row load ∙ s.loads_are;
      })

-- a draft that was started, or that of a refused start
pub start_sized : (request bytes : List ℕ) → Sized (start request bytes).draft
unfolding start draft_of
start_sized request bytes = go (checker.checked (cycle_of request) (decode bytes)) refl
  where
    none : Sized no_draft
    none = record { frames_are = length-replicate {A = ℕ} 128 0; loads_are = length-replicate {A = ℕ} 256 0 }

    go : (v : checker.Verdict) → checker.checked (cycle_of request) (decode bytes) ≡ v → Sized (start_of (cycle_of request) (checker.checked (cycle_of request) (decode bytes))).draft
    go (checker.accepted f frames) is =
        let p = plan_read_lem request bytes f frames is in
        let good = within_good request p.x p.within in
        rw (is, p.within) (record {
          frames_are = padded_length 128 0 frames (omega (arith, p.is_plan.all, good.few_jobs));
          loads_are = loads_length (rows_at p.x f) (costs p.x) frames p.is_plan.few_rows;
        })
    go (checker.refusal n) is = rw is (refused (cycle_of request))
      where
        refused : (c : Cycle) → Sized (start_of c (checker.refusal n)).draft
        refused (cycle tasks pairs g h jobs) = none
        refused (no_cycle number) = none
