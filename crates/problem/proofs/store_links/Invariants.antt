-- The loop keeps that the links by the pairs passed are stored and counted.
use Rattle.std.proofs.Common.{◌≤◌, take}
use Rattle.problem.specs.Answers.{Stored}
use Rattle.model.specs.Links.{links_by}
use Rattle.problem.proofs.store_links.Given as goal

abbrev pub invariant-loop-pair : goal.invariant-loop-pair
invariant-loop-pair l = (l.count ≤ l.pair-index) × Stored l.y (links_by l.jobs l.y (take l.pair-index l.pairs)) l.initial.places l.places l.count
