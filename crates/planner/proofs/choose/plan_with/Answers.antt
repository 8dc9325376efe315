-- What is given is the problem of the length, so what the search answers is the definition's walk within the tries allowed.
use Rattle.std.proofs.Common.{ap, ◌∙◌, []}
use Rattle.search.specs.Placing.{Problem, plan_walk}
use Rattle.searcher.specs.Arrays.{placed_within}
use Rattle.planner.proofs.choose.plan_with.Goals as goal

pub returns : goal.returns
returns c =
    c.place_all.ensures ∙ ap (λ (x : Problem). placed_within c.args.allowed (plan_walk x [])) c.given_at-given.ensures.1

pub place_all-requires : goal.place_all-requires
place_all-requires c = c.given_at-given.ensures.0
