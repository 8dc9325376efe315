-- Which answer rewriting gets, exactly, for all byte strings and buffers. 01: "Rewriting takes a request and a table, checks them, and writes the plan it read."
-- Nothing here names a definition of Rewritten: to be believed is this record, over what the check answers.
use Rattle.std.specs.Prelude.{ℕ, ◌≤◌, ◌<◌, ◌≡◌, ◌↔◌, List, ◌++◌, length, drop}
use Rattle.cursor.specs.Written.{Written}
use Rattle.checker.specs.Checked.{check_number}

-- of what a call answers, and of the buffer before and after it
pub record RewriteExact (request bytes out : List ℕ) (answer : Written) (after : List ℕ) : Type 0 where
  -- "rewriting the check's and then 11"
  pub check_first : (check_number request bytes ≡ 0 → ⊥) → answer.refusal ≡ check_number request bytes
  -- 11: "buffer shorter than the table"
  pub eleven : (answer.refusal ≡ 11) ↔ ((check_number request bytes ≡ 0) × (length out < length bytes))
  pub written : (answer.refusal ≡ 0) ↔ ((check_number request bytes ≡ 0) × (length bytes ≤ length out))
  -- the same bytes; "bytes behind the table keep their old content. The answer holds the length."
  pub same_bytes : answer.refusal ≡ 0 → (answer.length ≡ length bytes) × (after ≡ bytes ++ drop (length bytes) out)
  -- "A refusal returns its number, length 0 .. and the buffer untouched."
  pub untouched : (answer.refusal ≡ 0 → ⊥) → (answer.length ≡ 0) × (after ≡ out)
