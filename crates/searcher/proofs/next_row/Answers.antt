-- `next_row`: the last row is followed by the first, and any other by the next.
use Rattle.std.proofs.Common.{sym, mod-eq_of_lt, arith}
use native.Mathlib.Nat.{mod_self}
use Rattle.searcher.proofs.next_row.Goals as goal

pub returns-then-row-rows : goal.returns-then-row-rows
returns-then-row-rows c = rw c.if-row-rows.true (sym (mod_self c.args.rows))

pub returns : goal.returns
returns c = sym (mod-eq_of_lt (omega (arith, c.requires, c.if-row-rows.false)))
