-- Each way out is one of the definition's cases.
use Rattle.join.specs.JoinLaws.{many_tasks, many_pairs, other_silence, all_fit}
use Rattle.join.proofs.judge.Goals as goal

pub returns-then-n-gt16 : goal.returns-then-n-gt16
returns-then-n-gt16 c = many_tasks _ _ _ _ c.if-n-gt16.true

pub returns-then-m-gt16 : goal.returns-then-m-gt16
returns-then-m-gt16 c = many_pairs _ _ _ _ c.if-n-gt16.false c.if-m-gt16.true

pub returns-then-g-h : goal.returns-then-g-h
returns-then-g-h c = other_silence _ _ _ _ c.if-n-gt16.false c.if-m-gt16.false c.if-g-h.true

pub returns : goal.returns
returns c = all_fit _ _ _ _ c.if-n-gt16.false c.if-m-gt16.false c.if-g-h.false
