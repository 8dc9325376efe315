-- The two ways out of bus_check.
use Rattle.std.specs.Prelude.{ℕ, ◌≡◌, List, pos}
use Rattle.std.proofs.Math.Path.{ap}
use Rattle.std.proofs.Common.{◌∙◌}
use Rattle.checker.specs.Checked.{check_number}
use Rattle.bus.specs.Reply.{refused_reply, reply}
use Rattle.bus.specs.ReplyLaws.{reply_refused, reply_value}
use Rattle.bus.specs.Check.{check_reply}

module _ (request bytes : List ℕ) (number : ℕ) (e : number ≡ check_number request bytes) where
  pub check_refused : (number ≡ 0 → ⊥) → refused_reply number ≡ check_reply request bytes
  unfolding check_reply
  check_refused h = reply_refused number 0 h ∙ ap (λ (n : ℕ). reply n 0) e

  pub check_passed : number ≡ 0 → pos 0 ≡ check_reply request bytes
  unfolding check_reply
  check_passed h = reply_value number 0 h ∙ ap (λ (n : ℕ). reply n 0) e
