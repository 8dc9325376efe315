-- The lent draft is read and written as a table; a refusal is negated and a length is small.
use Rattle.std.proofs.Common.{◌∙◌}
use Rattle.cursor.specs.Written.{written_said}
use Rattle.bus.specs.ReplyLaws.{kept}
use Rattle.bus.specs.DraftLaws.{write_short, write_answered, write_buffer_lem, write_few}
use Rattle.bus.proofs.drafts.bus_draft_write.Goals as goal

pub returns-then-lent-lt770 : goal.returns-then-lent-lt770
returns-then-lent-lt770 c =
    let a = c.args in
    write_short a.request.now a.lent.now a.out.now c.if-lent-lt770.true

pub length-requires : goal.length-requires
length-requires c = rw c.write.ensures.0 (write_few _ _ _)

pub returns : goal.returns
returns c =
    let w = rw c.read_draft-old.ensures at c.write.ensures in (
      kept _ c.length.type_inv ∙ c.length.ensures ∙ write_answered _ _ _ c.if-lent-lt770.false (written_said c.write.result) w.0,
      w.1 ∙ write_buffer_lem _ _ _ c.if-lent-lt770.false,
    )
