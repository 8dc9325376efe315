-- What is over by this step is none.
use Rattle.std.proofs.Common.{arith, ◌∙◌, take, get_or-take, length-take-le}
use Rattle.searcher.specs.Arrays.{jobs_in}
use Rattle.prune.proofs.ArcLaws.{none_of_over}
use Rattle.prune.proofs.arcs.is_full.Goals as goal

pub returns : goal.returns
returns c =
    let w = c.weights_of-weights.ensures.0 in
    let n = jobs_in c.args.problem.now in
    λ e. none_of_over c.requires.packed (take n c.weights_of-weights.result) c.args.k (omega arith)
    (length-take-le n c.weights_of-weights.result (omega (arith, w.size, c.requires.packed.few)))
    (λ i h. get_or-take n c.weights_of-weights.result i 0 h ∙ w.each i h) c.room_of.ensures (c.some_over.ensures e)
