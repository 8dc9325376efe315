-- bus_check: what it answers.
use Rattle.std.specs.Prelude.{ℕ, List, ℤ}
use Rattle.checker.specs.Checked.{check_number}
use Rattle.bus.specs.Reply.{reply}

unfoldable pub check_reply : List ℕ → List ℕ → ℤ
check_reply request table = reply (check_number request table) 0
