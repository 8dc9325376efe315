-- The loop keeps that the choice among the lengths left, with whether one was tried, is the choice among all.
use Rattle.model.specs.Answers.{instance_of}
use Rattle.decider.specs.ChoiceLaws.{Deciding}
use Rattle.decider.proofs.choose_exactly.Given as goal

abbrev pub invariant-loop-rows : goal.invariant-loop-rows
invariant-loop-rows l = Deciding (instance_of l.cycle) l.rows l.none
