-- The u16 is put together from two answers of `byte`; each way out is one law of the definition.
use Rattle.std.proofs.Common.{sym, ◌∙◌}
use Rattle.cursor.specs.FieldLaws.{word_no_low, word_no_high, word_of_two}
use Rattle.cursor.proofs.Cursor.word.Goals as goal

pub returns-in_err-low : goal.returns-in_err-low
returns-in_err-low c = c.from_residual.ensures ∙ sym (word_no_low _ _ (sym c.byte.ensures ∙ c.in_err-low.was))

pub returns-in_err-high : goal.returns-in_err-high
returns-in_err-high c =
    let low = sym c.byte.ensures ∙ c.in_ok-low.was in
    let no_high = sym c.byte-2.ensures ∙ c.in_err-high.was in
    c.from_residual-in_err-high.ensures ∙ sym (word_no_high _ _ _ _ low no_high)

pub returns : goal.returns
returns c =
    let low = sym c.byte.ensures ∙ c.in_ok-low.was in
    let high = sym c.byte-2.ensures ∙ c.in_ok-high.was in
    rw c.from_le_bytes.ensures (word_of_two _ _ _ _ _ _ low high)
