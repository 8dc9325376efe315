-- The links of job i are taken in one after the other, each by the frames of all jobs.
use Rattle.std.proofs.Common.{◌≡◌, ◌∙◌, rules, fold}
use Rattle.search.specs.Placing.{raise}
use Rattle.searcher.proofs.Laws.{earliest_left}
use Rattle.searcher.proofs.lower_bound.Goals as goal

pub returns : goal.returns
returns c =
    let all : c.fold.result ≡ fold (raise c.args.place.now) 0 c.links_of.result.now = search rules in
    all ∙ rw c.links_of.ensures (earliest_left c.requires c.args.place.now)
