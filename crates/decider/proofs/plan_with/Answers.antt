-- What is given is the problem of the length, so what the search finds is what the definition's walk finds.
use Rattle.std.proofs.Common.{ap, ◌∙◌, []}
use Rattle.search.specs.Placing.{Problem, plan_walk}
use Rattle.exact_searcher.specs.Arrays.{found_answer}
use Rattle.decider.proofs.plan_with.Goals as goal

pub returns : goal.returns
returns c = c.place_all.ensures ∙ ap (λ (x : Problem). found_answer (plan_walk x []).found) c.given_at-given.ensures.1

pub place_all-requires : goal.place_all-requires
place_all-requires c = c.given_at-given.ensures.0
