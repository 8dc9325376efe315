-- A word, a store behind it, and the counts behind these are the state's bytes.
use Rattle.std.proofs.Common.{◌≡◌, ◌∙◌, arith, length, length-set}
use Rattle.lent.specs.StateLaws.{state_stored}
use Rattle.lent.proofs.state.write_state.Goals as goal

pub store_words-requires : goal.store_words-requires
store_words-requires c =
    simp length-set (omega (arith, c.store_word.auto.bytes, c.requires))

pub returns : goal.returns
returns c =
    let counts : length c.args.new.counts ≡ 16 = omega arith in
    rw counts at c.store_words.ensures ∙ rw c.store_word.ensures (state_stored c.args.new c.args.state.now c.requires)
