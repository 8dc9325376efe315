-- A length is small, and a refusal's number is negated.
use Rattle.std.proofs.Common.{sym, ap, ◌∙◌, refl, Ok, Err}
use Rattle.request.specs.SectionLaws.{no_zero}
use Rattle.cursor.specs.Written.{written_said}
use Rattle.bus.specs.ReplyLaws.{kept, written_refused, written_length}
use Rattle.bus.proofs.reply.length.Goals as goal

pub value-requires : goal.value-requires
value-requires c = rw c.in-Ok.is at c.requires

pub returns-in-Ok : goal.returns-in-Ok
returns-in-Ok c =
    kept _ c.value.type_inv ∙ c.value.ensures ∙ written_length (written_said (Ok c.in-Ok.length)) _ (ap written_said (sym c.in-Ok.is)) refl

pub returns-in-Err : goal.returns-in-Err
returns-in-Err c =
    let answer = written_said (Err c.in-Err.refusal) in
    kept _ c.refused.type_inv ∙ c.refused.ensures ∙ written_refused answer _ (ap written_said (sym c.in-Err.is)) (no_zero c.in-Err.refusal)
