-- The links of job i are taken in one after the other, each by the frames of all jobs.
use Rattle.std.proofs.Common.{◌≡◌, ◌∙◌, rules, fold}
use Rattle.search.specs.Placing.{lower}
use Rattle.searcher.proofs.Laws.{latest_left}
use Rattle.searcher.proofs.upper_bound.Goals as goal

pub returns : goal.returns
returns c =
    let all : c.fold.result ≡ fold (lower c.args.place.now) 65535 c.links_of.result.now = search rules in
    all ∙ rw c.links_of.ensures (latest_left c.requires c.args.place.now)
