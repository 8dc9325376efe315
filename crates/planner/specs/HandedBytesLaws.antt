-- The bytes that planning hands out are those of the chosen plan's table.
use Rattle.std.specs.Prelude.{ℕ, ◌≡◌, List, length, drop}
use Rattle.std.proofs.Common.{sym, ap, ⊎_elim, arith}
use Rattle.std.proofs.Math.Seq.{take-append_seam}
use Rattle.cycle.specs.Cycle.{no_cycle, cycle_of}
use Rattle.cycle.specs.LimitLaws.{no_cycle_number, request_number_pos}
use Rattle.table.specs.Table.{encode}
use Rattle.model.specs.Plan.{Instance}
use Rattle.model.specs.Within.{Within}
use Rattle.model.specs.WithinLaws.{within_or_not}
use Rattle.plan_writer.specs.Outcome.{outcome_buffer}
use Rattle.planner.specs.Outcome.{outcome_within, searched_answer}
use Rattle.planner.specs.Handed.{HandedOut}
use Rattle.planner.specs.HandedLaws.{table_handed, not_planned}
use Rattle.planner.specs.Numbered.{Searched}
use Rattle.planner.specs.HandedBytes.{handed_bytes, ChosenBytes}

module _ (allowance : ℕ) (request out : List ℕ) where
  abbrev Out : Instance → Type 0
  Out x = HandedOut x (searched_answer allowance request out).length (outcome_buffer (outcome_within allowance request) out) out

  bytes_are : (x : Instance) (h : Out x) → encode h.t ≡ handed_bytes allowance request out
  bytes_are x h =
      rw (h.bytes_are, h.length_is, ← h.encoded_length)
      (sym (take-append_seam (encode h.t) (drop (length (encode h.t)) out)))

  -- where planning answers no number
  pub handed_chosen : (searched_answer allowance request out).refusal ≡ 0 → ChosenBytes allowance request out
  handed_chosen e =
      ⊎_elim (λ w. there w.0 w.1 ((table_handed allowance request out w.0 w.1).chosen_one e)) (λ w. refused w.0 w.1) (within_or_not request)
    where
      there : (x : Instance) → Within request x → Out x → ChosenBytes allowance request out
      there x within h = record { x = x; within = within; handed = h; says = record { form = h.describes.form; bytes_are = bytes_are x h } }

      refused : (number : ℕ) → cycle_of request ≡ no_cycle number → ChosenBytes allowance request out
      refused number q =
          let given = ap (λ (r : Searched). r.refusal) (not_planned allowance request out number q).0 in
          absurd (omega (arith, request_number_pos (no_cycle_number request number q)))
