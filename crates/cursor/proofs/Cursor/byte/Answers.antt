-- Each way out is one case of the definition's test, which is that of `get`.
use Rattle.std.proofs.Common.{sym}
use Rattle.cursor.specs.Fields.{byte_at}
use Rattle.cursor.specs.FieldLaws.{byte_at_lem}
use Rattle.cursor.proofs.Cursor.byte.Goals as goal

pub returns-in_err-b : goal.returns-in_err-b
unfolding byte_at
returns-in_err-b c =
    let told = c.in_err-b.ensures.lookup in
    rw (c.from_residual.ensures, byte_at_lem _ _ 1, sym told.0)

pub returns : goal.returns
unfolding byte_at
returns c =
    let told = c.in_ok-b.ensures.lookup in
    rw (byte_at_lem _ _ 1, sym told.0, told.3.1 0)
