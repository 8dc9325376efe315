-- The loop keeps that the choice among the lengths left, with whether one was tried, is the choice among all, and what is left of the tries.
use Rattle.model.specs.Answers.{instance_of}
use Rattle.planner.specs.ChoiceLaws.{Searching}
use Rattle.planner.proofs.choose.choose.Given as goal

abbrev pub invariant-loop-rows : goal.invariant-loop-rows
invariant-loop-rows l = Searching (instance_of l.cycle) l.allowed l.left l.rows l.none
