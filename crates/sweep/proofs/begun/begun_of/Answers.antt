-- A word gets the bits of the one before; in the end each has its own.
use Rattle.std.proofs.Common.{arith, refl}
use Rattle.sweep.proofs.RunLaws.{n_is}
use Rattle.sweep.proofs.BitLaws.{beginning_word, beginning_done}
use Rattle.sweep.proofs.begun.begun_of.Goals as goal

pub loop-k-preserved : goal.loop-k-preserved
loop-k-preserved c = beginning_word c.loop-k.invariant c.loop-k.auto.k (omega (arith, c.loop-k-test.true, c.requires.few_rows)) refl

pub returns : goal.returns
returns c = beginning_done c.loop-k.invariant c.loop-k-test.false (n_is c.args.problem.now c.args.swept.now) c.requires.few
