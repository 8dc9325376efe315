-- The loop keeps that the links by the pairs passed are stored and counted.
use Rattle.std.proofs.Common.{arith}
use Rattle.std.proofs.Math.Seq.{take_all}
use Rattle.problem.specs.LinkLaws.{no_links, no_link_more, one_link_more}
use Rattle.problem.proofs.store_links.Goals as goal
use Rattle.problem.proofs.store_links.Goals.{in-Some, in_default}

pub loop-pair-init : goal.loop-pair-init
loop-pair-init c = (omega arith, no_links _ _ c.args.pairs.now _)

pub loop-pair-preserved : goal.loop-pair-preserved
loop-pair-preserved c =
    let a = c.args in
    let l = c.loop-pair in
    let gave = c.link_by.ensures in
    let more = c.loop-pair-test.true in
    let stored = l.invariant.1 in
    elim c.match-link_by.branch [
      | in-Some w ↦ (
        omega arith,
        rw (w.places-is, w.count-is)
            (one_link_more a.jobs.now a.y a.pairs.now l.pair-index more _ l.places l.count stored _ (rw w.in-Some.is at gave) (omega arith)),
      )
      | in_default w ↦ (
        omega arith,
        rw (w.places-is, w.count-is)
            (no_link_more a.jobs.now a.y a.pairs.now l.pair-index more _ l.places l.count stored (rw w.in_default.is at gave)),
      )
    ]

pub returns : goal.returns
returns c = rw (take_all c.loop-pair.pair-index c.args.pairs.now c.loop-pair-test.false) at c.loop-pair.invariant.1
