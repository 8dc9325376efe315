-- Each way out is one case of the definition's test.
use Rattle.std.proofs.Common.{lt-ltb, le-ltb}
use Rattle.text.specs.Text.{put_of}
use Rattle.text.proofs.put.Goals as goal

pub returns-then-at-out : goal.returns-then-at-out
unfolding put_of
returns-then-at-out c = simp (lt-ltb _ _ c.if-at-out.true)

pub returns : goal.returns
unfolding put_of
returns c = simp (le-ltb _ _ c.if-at-out.false)
