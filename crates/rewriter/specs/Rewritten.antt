-- Rewriting, in the words of 01: "Rewriting takes a request and a table, checks them, and writes the plan it read."
use Rattle.std.specs.Prelude.{ℕ, List}
use Rattle.cycle.specs.Cycle.{Cycle, cycle, no_cycle, cycle_of}
use Rattle.table.specs.Table.{decode}
use Rattle.model.specs.Answers.{instance}
use Rattle.model.specs.Described.{plan_table}
use Rattle.plan_writer.specs.Outcome.{Outcome, handed, refusal}
use Rattle.checker.specs.Checked as checker

-- the table of the plan that was read, or the number of the check's refusal
abbrev pub plan_read : Cycle → checker.Verdict → Outcome
plan_read c (checker.refusal number) = refusal number
plan_read (cycle tasks pairs g h jobs) (checker.accepted f frames) = handed (plan_table (instance tasks pairs g h jobs) f frames)
plan_read (no_cycle n) (checker.accepted f frames) = refusal n

unfoldable pub rewritten : List ℕ → List ℕ → Outcome
rewritten request table = plan_read (cycle_of request) (checker.checked (cycle_of request) (decode table))
