-- The loop keeps that putting the bytes left, behind those put, gives the answer.
use Rattle.std.proofs.Common.{sym, ◌∙◌}
use Rattle.text.specs.TextLaws.{put_turn, put_ended}
use Rattle.text.proofs.put_all.Goals as goal

pub loop-b-preserved : goal.loop-b-preserved
loop-b-preserved c =
    let l = c.loop-b in
    (c.put-end.auto.out ∙ l.invariant.0, rw c.put-end.ensures (put_turn _ _ l.b-index c.loop-b-test.true) ∙ l.invariant.1)

pub returns : goal.returns
returns c = sym (put_ended _ c.args.text.now c.loop-b.b-index c.loop-b-test.false) ∙ c.loop-b.invariant.1
