-- The count is read and judged, and the byte behind it where the count is 1; each way out is one law of the section.
use Rattle.std.proofs.Common.{sym, ◌∙◌}
use Rattle.cursor.specs.FieldLaws.{byte_taken, byte_missing}
use Rattle.request.specs.SilentLaws.{silent_none, silent_many, silent_no_byte, silent_missing, silent_above, silent_given}
use Rattle.request.proofs.read_silent.Goals as goal

pub returns-in_default : goal.returns-in_default
returns-in_default c =
    let none = sym c.byte.ensures ∙ c.in_default.is in
    silent_none _ (byte_missing 1 _ _ none).1

pub returns-then-count-gt1 : goal.returns-then-count-gt1
returns-then-count-gt1 c =
    let count = byte_taken 1 _ _ _ _ (sym c.byte.ensures ∙ c.in-Some.is) in
    silent_many _ _ _ count c.if-count-gt1.true

pub returns-then-count-eq0 : goal.returns-then-count-eq0
returns-then-count-eq0 c =
    let count = byte_taken 1 _ _ _ _ (sym c.byte.ensures ∙ c.in-Some.is) in
    silent_no_byte _ _ _ count c.if-count-eq0.true

pub returns-in_default-byte : goal.returns-in_default-byte
returns-in_default-byte c =
    let count = byte_taken 1 _ _ _ _ (sym c.byte.ensures ∙ c.in-Some.is) in
    let none = sym c.byte-2.ensures ∙ c.in_default-byte.is in
    silent_missing _ _ _ count c.if-count-gt1.false c.if-count-eq0.false (byte_missing 1 _ _ none).0

pub returns-then-g-gt15 : goal.returns-then-g-gt15
returns-then-g-gt15 c =
    let count = byte_taken 1 _ _ _ _ (sym c.byte.ensures ∙ c.in-Some.is) in
    let byte = byte_taken 1 _ _ _ _ (sym c.byte-2.ensures ∙ c.in-Some-byte.is) in
    silent_above _ _ _ count c.if-count-gt1.false c.if-count-eq0.false _ _ byte c.if-g-gt15.true

pub returns : goal.returns
returns c =
    let count = byte_taken 1 _ _ _ _ (sym c.byte.ensures ∙ c.in-Some.is) in
    let byte = byte_taken 1 _ _ _ _ (sym c.byte-2.ensures ∙ c.in-Some-byte.is) in
    silent_given _ _ _ count c.if-count-gt1.false c.if-count-eq0.false _ _ byte c.if-g-gt15.false
