-- The two ways are the definition's two laws, decimal_short and decimal_long; the measure is the number, which falls to its tenth.
use Rattle.std.proofs.Common.{◌∙◌}
use Rattle.text.specs.TextLaws.{put_short, put_long}
use Rattle.text.proofs.+put_number.Goals as goal

pub returns-then-n-lt10 : goal.returns-then-n-lt10
returns-then-n-lt10 t c = c.put.ensures ∙ rw c.digit.ensures (put_short _ _ c.if-n-lt10.true)

pub returns : goal.returns
returns t c = c.put-2.ensures ∙ rw (c.put_number-last.ensures, c.digit-2.ensures) (put_long _ _ c.if-n-lt10.false)
