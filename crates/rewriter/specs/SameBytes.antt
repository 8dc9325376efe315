-- Demand 2: a table that was read is written with the same bytes, and a table that was written reads back as the same plan.
-- An accepted table describes the plan that is read, a described table is the table of its plan, and the bytes of a table are its encoding.
use Rattle.std.specs.Prelude.{ℕ, ◌≤◌, ◌≡◌, refl, List, ◌++◌, length, drop}
use Rattle.std.proofs.Common.{sym, ◌∙◌}
use Rattle.std.proofs.Math.Path.{ap, ap₂}
use Rattle.cycle.specs.Cycle.{cycle_of}
use Rattle.table.specs.Table.{Table, table, decode, encode}
use Rattle.cursor.specs.Fields.{Bytes}
use Rattle.table.specs.Inverse.{decode_encode, encode_decode}
use Rattle.model.specs.Plan.{Instance, IsPlan}
use Rattle.model.specs.Within.{Within}
use Rattle.model.specs.WithinLaws.{within_good}
use Rattle.model.specs.Described.{Describes, Accepted}
use Rattle.model.specs.PlanTable.{describes_is}
use Rattle.plan_writer.specs.Outcome.{handed, outcome_answer, outcome_buffer}
use Rattle.plan_writer.specs.OutcomeLaws.{handed_answer, handed_buffer}
use Rattle.checker.specs.Checked as checker
use Rattle.checker.specs.Accepts.{accepts_described}
use Rattle.rewriter.specs.Rewritten.{plan_read, rewritten}

module _ (request : List ℕ) (x : Instance) (within : Within request x) where
  -- what is written for an accepted table is that table
  module _ (bytes : List ℕ) (t : Table) (read : decode bytes ≡ table t) (accepted : Accepted x t) where
    pub rewritten_is : rewritten request bytes ≡ handed t
    unfolding rewritten
    rewritten_is =
        let f = accepted.f in
        let frames = accepted.frames in
        let verdict : checker.checked (cycle_of request) (decode bytes) ≡ checker.accepted f frames =
        (accepts_described request bytes x t within read f frames).1 (accepted.is_plan, accepted.describes) in
        ap₂ plan_read within verdict ∙ ap handed (sym (describes_is x (within_good request x within) f frames accepted.is_plan t accepted.describes))

    pub own_bytes : encode t ≡ bytes → (out : List ℕ) → length bytes ≤ length out
        → (outcome_answer (rewritten request bytes) out ≡ record { refusal = 0; length = length bytes })
        × (outcome_buffer (rewritten request bytes) out ≡ bytes ++ drop (length bytes) out)
    own_bytes own out room =
        let fits : length (encode t) ≤ length out = rw own room in
        rw (rewritten_is, handed_answer t out fits, handed_buffer t out fits, own) (refl, refl)

    -- An accepted table is written again with the same bytes, and the bytes behind it keep their content.
    pub same_bytes : Bytes bytes → (out : List ℕ) → length bytes ≤ length out
        → (outcome_answer (rewritten request bytes) out ≡ record { refusal = 0; length = length bytes })
        × (outcome_buffer (rewritten request bytes) out ≡ bytes ++ drop (length bytes) out)
    same_bytes are out room = own_bytes (encode_decode bytes t are read) out room

  -- The bytes of a table that describes a plan, of any f and not only the chosen one, read back as that plan.
  pub reads_back : (f : ℕ) (frames : List ℕ) → IsPlan x f frames → (t : Table) → Describes x f frames t
      → checker.checked (cycle_of request) (decode (encode t)) ≡ checker.accepted f frames
  reads_back f frames v t d = (accepts_described request (encode t) x t within (decode_encode t d.form) f frames).1 (v, d)
