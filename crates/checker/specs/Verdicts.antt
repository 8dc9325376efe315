-- What a verdict says: a plan was read from a table that describes it, and a refusal has a number.
use Rattle.std.specs.Prelude.{ℕ, ◌≤◌, ◌<◌, ◌≡◌, Bool, ◌&&◌, length, eqb}
use Rattle.std.proofs.Math.Path.{refl}
use Rattle.std.proofs.Common.{sym, ap, ◌∙◌}
use Rattle.std.proofs.Math.Bool.{true, false, cond}
use mathlib.Core.List.{List}
use native.Mathlib.Omega.{arith}
use Rattle.cursor.specs.Padded.{padded}
use Rattle.cursor.specs.ParsedLaws.{never}
use Rattle.cycle.specs.Cycle.{Cycle, cycle, no_cycle, cycle_of}
use Rattle.cycle.specs.Answers.{cycle_answered}
use Rattle.cycle.specs.Numbered.{cycle_number}
use Rattle.cycle.specs.LimitLaws.{no_cycle_number, request_number_pos, request_number_few}
use Rattle.table.specs.Table.{Table, Decoded, table, malformed, decode}
use Rattle.model.specs.Plan.{Instance, IsPlan}
use Rattle.model.specs.Plausible.{plausible}
use Rattle.model.specs.Answers.{instance, instance_of}
use Rattle.model.specs.Within.{Within}
use Rattle.model.specs.WithinLaws.{Taken, read_within}
use Rattle.model.specs.Described.{Describes}
use Rattle.plan_rules.specs.Rules.{rules_right}
use Rattle.checker.specs.Checked.{frames_in, entries_right, Verdict, accepted, refusal, plan_of, judged_by, checked_by, checked}
use Rattle.checker.specs.Accepts.{accepts_described}
use Rattle.checker.specs.Answers.{read_answer}
use Rattle.checker.specs.Numbered.{Read}

pub record PlanRead (request bytes : List ℕ) (f : ℕ) (frames : List ℕ) : Type 0 where
  pub x : Instance
  pub within : Within request x
  pub t : Table
  pub read : decode bytes ≡ table t
  pub is_plan : IsPlan x f frames
  pub describes : Describes x f frames t

module _ (request bytes : List ℕ) where
  pub plan_read_lem : (f : ℕ) (frames : List ℕ) → checked (cycle_of request) (decode bytes) ≡ accepted f frames → PlanRead request bytes f frames
  unfolding checked_by
  plan_read_lem f frames e = go (cycle_of request) refl (decode bytes) refl e
    where
      go : (c : Cycle) → cycle_of request ≡ c → (d : Decoded) → decode bytes ≡ d → checked c d ≡ accepted f frames → PlanRead request bytes f frames
      go (cycle tasks pairs g h jobs) within (table t) read q =
          let x = instance tasks pairs g h jobs in
          let right = (accepts_described request bytes x t within read f frames).0 e in
          record { x = x; within = within; t = t; read = read; is_plan = right.0; describes = right.1 }
      go (cycle tasks pairs g h jobs) within malformed read q = absurd (never (cc))
      go (no_cycle k) within (table t) read q = absurd (never (cc))
      go (no_cycle k) within malformed read q = absurd (never (cc))

  pub refusal_number : (n : ℕ) → checked (cycle_of request) (decode bytes) ≡ refusal n → (0 < n) × (n ≤ 17)
  unfolding checked_by judged_by plan_of
  refusal_number n e = go (cycle_of request) refl (decode bytes) e
    where
      rules : (f : ℕ) (frames : List ℕ) (a b : Bool) → cond a (cond b (accepted f frames) (refusal 14)) (refusal 13) ≡ refusal n → (0 < n) × (n ≤ 17)
      rules f frames true true q = absurd (never (cc))
      rules f frames true false q = let same : 14 ≡ n = cc in (omega arith, omega arith)
      rules f frames false b q = let same : 13 ≡ n = cc in (omega arith, omega arith)

      own : (k : ℕ) → cycle_of request ≡ no_cycle k → k ≡ n → (0 < n) × (n ≤ 17)
      own k is same =
          let number = no_cycle_number request k is in
          (omega (arith, request_number_pos number), omega (arith, request_number_few number))

      go : (c : Cycle) → cycle_of request ≡ c → (d : Decoded) → checked c d ≡ refusal n → (0 < n) × (n ≤ 17)
      go (no_cycle k) is (table t) q = own k is (cc)
      go (no_cycle k) is malformed q = own k is (cc)
      go (cycle tasks pairs g h jobs) is malformed q = let same : 12 ≡ n = cc in (omega arith, omega arith)
      go (cycle tasks pairs g h jobs) is (table t) q =
          let x = instance tasks pairs g h jobs in
          let frames = frames_in t.rows jobs in
          rules t.f frames (eqb t.h h && plausible x t.f)
          (entries_right x t.rows frames && rules_right x (length t.rows) t.f frames) q

-- What an answer without a refusal hands on: the cycle that was read, and a plan of it, which the table describes. Crates above go by this.
pub record HandedOn (request bytes : List ℕ) (r : Read) : Type 0 where
  pub taken : Taken request r.cycle
  pub frames : List ℕ
  pub frames_are : r.frames ≡ padded 128 0 frames
  pub verdict : checked (cycle_of request) (decode bytes) ≡ accepted r.f frames
  pub t : Table
  pub read : decode bytes ≡ table t
  pub is_plan : IsPlan (instance_of r.cycle) r.f frames
  pub describes : Describes (instance_of r.cycle) r.f frames t

module _ (request bytes : List ℕ) (r : Read) (e : r ≡ read_answer (cycle_answered (cycle_of request)) (checked (cycle_of request) (decode bytes))) where
  pub handed_on : r.refusal ≡ 0 → HandedOn request bytes r
  handed_on z = go (checked (cycle_of request) (decode bytes)) refl e
    where
      go : (v : Verdict) → checked (cycle_of request) (decode bytes) ≡ v → r ≡ read_answer (cycle_answered (cycle_of request)) v → HandedOn request bytes r
      go (accepted f frames) is q =
          let p = plan_read_lem request bytes f frames is in
          let same : r.cycle ≡ cycle_answered (cycle_of request) = ap (λ (y : Read). y.cycle) q in
          let taken = read_within request r.cycle same (ap cycle_number p.within) in
          let verdict : checked (cycle_of request) (decode bytes) ≡ accepted r.f frames = is ∙ ap (λ (n : ℕ). accepted n frames) (sym (ap (λ (y : Read). y.f) q)) in
          let right = (accepts_described request bytes (instance_of r.cycle) p.t taken.within p.read r.f frames).0 verdict in
          record {
            taken = taken;
            frames = frames;
            frames_are = ap (λ (y : Read). y.frames) q;
            verdict = verdict;
            t = p.t;
            read = p.read;
            is_plan = right.0;
            describes = right.1;
          }
      go (refusal n) is q = absurd (omega (arith, (refusal_number request bytes n is).0, ap (λ (y : Read). y.refusal) q))
