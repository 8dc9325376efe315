-- Each no is one law: an empty domain, the sweep, or both choices for one job. The measure is how many jobs may still be made sided.
use Rattle.prune.proofs.Laws.{none_of_empty, none_of_sweep, none_of_both, sweepable}
use Rattle.prune.proofs.+may.Goals as goal

pub returns-then-is_empty : goal.returns-then-is_empty
returns-then-is_empty t c = λ _. c.tighten.ensures.keeps (none_of_empty c.requires.packed (c.is_empty.ensures c.if-is_empty.true))

pub sweep-requires : goal.sweep-requires
sweep-requires t c = sweepable c.requires.packed

pub returns-then-not-sweep : goal.returns-then-not-sweep
returns-then-not-sweep t c =
    λ _. c.tighten.ensures.keeps (none_of_sweep c.requires.packed c.rows_of.ensures.0 c.rows_of.ensures.1 c.rows_of.ensures.2 c.requires.marked
    (c.sweep.ensures c.if-not-sweep.true))

pub returns : goal.returns
returns t c =
    λ e. c.tighten.ensures.keeps (none_of_both c.requires.packed _ (c.may.ensures c.if-may.false) (c.may-2.ensures e))
