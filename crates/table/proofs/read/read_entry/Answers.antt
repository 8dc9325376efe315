-- Each way out is one case of the definition, at the bytes that the cursor's answers tell of.
use Rattle.std.proofs.Common.{rules, ◌≡◌, sym, ◌∙◌, Bool, true, false, ◌&&◌, arith}
use borrow.Author.Tests.{ltb-true}
use Rattle.cursor.specs.FieldLaws.{ByteTaken, byte_taken, byte_missing}
use Rattle.table.specs.Table.{entry_from}
use Rattle.table.proofs.Ranges.{half_open}
use Rattle.table.proofs.read.read_entry.Goals as goal
use Rattle.table.proofs.read.read_entry.Goals.{In_ok-task}

last_of : (a b : Bool) → (a && b) ≡ true → b ≡ true
last_of true b h = h
last_of false b h = cc

-- the task byte is read
task_read_lem : (c : In_ok-task) → let byte = c.in_ok-task in let a = c.args in
    ByteTaken 12 a.s.now a.first.at byte.task byte.second
task_read_lem c = byte_taken 12 _ _ _ _ (sym c.byte.ensures ∙ c.in_ok-task.was)

pub returns-in_err-task : goal.returns-in_err-task
unfolding entry_from
returns-in_err-task c = rw c.from_residual.ensures (rw (byte_missing 12 _ _ (sym c.byte.ensures ∙ c.in_err-task.was)).0)

pub returns-then-not-contains : goal.returns-then-not-contains
unfolding entry_from
returns-then-not-contains c =
    let other = half_open c.args.low 16 c.in_ok-task.task _ _ c.if-not-contains.true c.contains.ensures.value in
    rw ((task_read_lem (goal.at.returns-then-not-contains c).In_ok-task).field, other)

pub returns-in_err-job : goal.returns-in_err-job
unfolding entry_from
returns-in_err-job c =
    let none = byte_missing 12 _ _ (sym c.byte-2.ensures ∙ c.in_err-job.was) in
    let within = half_open c.args.low 16 c.in_ok-task.task _ _ c.if-not-contains.false c.contains.ensures.value in
    rw c.from_residual-in_err-job.ensures (rw ((task_read_lem (goal.at.returns-in_err-job c).In_ok-task).field, within, none.0))

pub returns : goal.returns
unfolding entry_from
returns c =
    let two = byte_taken 12 _ _ _ _ (sym c.byte-2.ensures ∙ c.in_ok-job.was) in
    let one = task_read_lem (goal.at.returns c).In_ok-task in
    let within = half_open c.args.low 16 c.in_ok-task.task _ _ c.if-not-contains.false c.contains.ensures.value in (
      rw (one.field, within, two.field),
      ltb-true _ _ (last_of _ _ within),
      search rules,
      omega (arith, one.moved, two.moved),
    )
