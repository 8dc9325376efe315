-- Two bytes are read, one behind the other: where one is missing the definition is refused with 1, and the two make a pair, which is judged.
use Rattle.std.proofs.Common.{sym, ◌∙◌}
use Rattle.cursor.specs.FieldLaws.{byte_taken, byte_missing}
use Rattle.request.specs.Request.{pair_of, judged_pair}
use Rattle.request.specs.ReadingLaws.{pair_bytes_lem, pair_end}
use Rattle.request.proofs.read_pair.Goals as goal

pub returns-in_default : goal.returns-in_default
unfolding pair_of
returns-in_default c = simp (byte_missing 1 _ _ (sym c.byte.ensures ∙ c.in_default.is)).0

pub returns-in_default-byte : goal.returns-in_default-byte
unfolding pair_of
returns-in_default-byte c =
    simp (
      (byte_taken 1 _ _ _ _ (sym c.byte.ensures ∙ c.in-Some.is)).field,
      (byte_missing 1 _ _ (sym c.byte-2.ensures ∙ c.in_default-byte.is)).0,
    )

pub returns-then-keeps_pair_rule : goal.returns-then-keeps_pair_rule
unfolding judged_pair
returns-then-keeps_pair_rule c =
    let e1 = sym c.byte.ensures ∙ c.in-Some.is in
    let e2 = sym c.byte-2.ensures ∙ c.in-Some-byte.is in
    rw (pair_bytes_lem _ _ e1 e2, pair_end _ _ e1 e2) (simp (sym c.keeps_pair_rule.ensures ∙ c.if-keeps_pair_rule.true))

pub returns-else-keeps_pair_rule : goal.returns-else-keeps_pair_rule
unfolding judged_pair
returns-else-keeps_pair_rule c =
    let e1 = sym c.byte.ensures ∙ c.in-Some.is in
    let e2 = sym c.byte-2.ensures ∙ c.in-Some-byte.is in
    rw (pair_bytes_lem _ _ e1 e2) (simp (sym c.keeps_pair_rule.ensures ∙ c.if-keeps_pair_rule.false))
