-- The domains hold every placing that begins so; where they hold none, none is found.
use Rattle.std.proofs.Common.{arith}
use borrow.Author.Tests.{not-true}
use Rattle.exact_searcher.proofs.HopelessLaws.{hopeless}
use Rattle.exact_searcher.proofs.Sweeps.is_hopeless.Goals as goal

pub returns : goal.returns
returns c =
    λ e. hopeless c.args.jobs.now.packed c.args.place.now c.requires.at_bound c.requires.placed_so_far
    (λ i h. c.domains.ensures.0.each i (omega (arith, c.args.jobs.now.packed.few))) (λ i h. c.domains.ensures.1.each i (omega (arith, c.args.jobs.now.packed.few)))
    (c.may-may.ensures (not-true c.may-may.result e))
