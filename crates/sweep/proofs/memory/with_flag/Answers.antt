-- The flag is one of another word, or its bit is added.
use Rattle.std.proofs.Common.{arith, sym, ◌∙◌, true, inl, inr, ◌-◌, set}
use Rattle.exact.specs.Words.{word_other, word_more, word_size}
use Rattle.sweep.proofs.BitLaws.{one_shl}
use Rattle.sweep.proofs.memory.with_flag.Goals as goal
use Rattle.sweep.proofs.memory.with_flag.Goals.{then-i-a-via-then-i-a, then-i-a-via-else-i-a+then-i-a-ge64}

pub returns-then-i-a : goal.returns-then-i-a
returns-then-i-a c =
    let a = c.args in
    elim c.then-i-a.branch [
      | then-i-a-via-then-i-a w ↦ c.requires.3 ∙ sym (word_other a.flags.now a.i a.a (inl w.if-i-a.true))
      | then-i-a-via-else-i-a+then-i-a-ge64 w ↦ c.requires.3 ∙ sym (word_other a.flags.now a.i a.a (inr (omega (arith, w.if-i-a.false, w.if-i-a-ge64.true))))
    ]

pub overflow_add-result : goal.overflow_add-result
overflow_add-result c =
    let a = c.args in
    let more = word_more a.flags.now a.i a.a c.if-i-a.false (omega (arith, c.if-i-a-ge64.false)) (omega (arith, c.requires.0, c.requires.1)) c.requires.2 in
    rw (one_shl (a.i - a.a) c.if-i-a-ge64.false) (omega (arith, more, c.requires.3, word_size a.flags.now a.i a.a (set a.flags.now a.i true)))

pub returns : goal.returns
returns c =
    let a = c.args in
    let more = word_more a.flags.now a.i a.a c.if-i-a.false (omega (arith, c.if-i-a-ge64.false)) (omega (arith, c.requires.0, c.requires.1)) c.requires.2 in
    rw (one_shl (a.i - a.a) c.if-i-a-ge64.false) (omega (arith, more, c.requires.3))
