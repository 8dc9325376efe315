-- The frames not yet tested decide: those before do not fit.
use Rattle.model.specs.Answers.{instance_of}
use Rattle.one_off.specs.StepLaws.{LeftFrom}
use Rattle.one_off.proofs.earliest.Given as goal

abbrev pub invariant-loop-k : goal.invariant-loop-k
invariant-loop-k l = LeftFrom l.length l.from l.until (instance_of l.cycle) l.table l.k
