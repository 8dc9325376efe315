-- What R-5 moved in the check is what `Moves` says.
-- A table whose f passes 01's rule and not that of the phase has no plan, for that rule is necessary; so its rows were judged, and gave 14.
use Rattle.std.specs.Prelude.{ℕ, ◌≡◌, Bool, List}
use Rattle.std.proofs.Math.Path.{refl}
use Rattle.std.proofs.Common.{sym, ◌∙◌}
use Rattle.std.proofs.Math.Bool.{true, false}
use Rattle.std.proofs.lemmas.Bool.{false≢true}
use Rattle.std.proofs.Math.Logic.{inl, inr}
use Rattle.std.proofs.Math.Dec.{eqb}
use Rattle.cycle.specs.Cycle.{Cycle, cycle, no_cycle, cycle_of}
use Rattle.table.specs.Table.{Table, Decoded, table, malformed, decode}
use Rattle.table.specs.Inverse.{decode_wellformed}
use Rattle.model.specs.Plan.{Instance}
use Rattle.model.specs.Plausible.{common_rule, plausible_by, plausible}
use Rattle.model.specs.PlausibleLaws.{plausible_needed, plausible_before}
use Rattle.model.specs.Answers.{instance}
use Rattle.model.specs.Within.{Within}
use Rattle.model.specs.WithinLaws.{within_good}
use Rattle.checker.specs.Checked.{frames_in, plan_of, judged_by, judged, checked_by, checked}
use Rattle.checker.specs.Accepts.{judged_plan}
use Rattle.checker.specs.ExactlyLaws.{right}
use Rattle.checker.specs.Moved.{Moves}

module _ (request bytes : List ℕ) where
  judged_moved : (x : Instance) → Within request x → (t : Table) → decode bytes ≡ table t → Moves (judged_by (plausible_by common_rule) x t) (judged x t)
  unfolding judged_by plan_of
  judged_moved x within t read = go (eqb t.h x.h) refl (plausible x t.f) refl (plausible_by common_rule x t.f) refl (right x t) refl
    where
      go : (same : Bool) → eqb t.h x.h ≡ same → (now : Bool) → plausible x t.f ≡ now → (before : Bool) → plausible_by common_rule x t.f ≡ before
          → (rows : Bool) → right x t ≡ rows → Moves (judged_by (plausible_by common_rule) x t) (judged x t)
      go false s now n before b rows r = inl (rw s)
      go true s true n true b rows r = inl (rw (n, b))
      go true s true n false b rows r = absurd (false≢true (sym b ∙ plausible_before x t.f n))
      go true s false n false b rows r = inl (rw (n, b))
      go true s false n true b false r = inr (rw (s, b, r), rw (s, n))
      go true s false n true b true r =
          let plan = judged_plan common_rule x t (decode_wellformed bytes t read) t.f (frames_in t.rows x.jobs) (rw (s, b, r)) in
          absurd (false≢true (sym n ∙ plausible_needed x (within_good request x within) t.f (frames_in t.rows x.jobs) plan.0))

  -- THE LAW: by 01's rule the check answered the same, and read the same plan; or 14 where it now answers 13.
  pub verdict_moved : Moves (checked_by (plausible_by common_rule) (cycle_of request) (decode bytes)) (checked (cycle_of request) (decode bytes))
  unfolding checked_by
  verdict_moved = go (cycle_of request) refl (decode bytes) refl
    where
      go : (c : Cycle) → cycle_of request ≡ c → (d : Decoded) → decode bytes ≡ d → Moves (checked_by (plausible_by common_rule) c d) (checked c d)
      go (no_cycle number) within d read = inl refl
      go (cycle tasks pairs g h jobs) within malformed read = inl refl
      go (cycle tasks pairs g h jobs) within (table t) read = judged_moved (instance tasks pairs g h jobs) within t read
