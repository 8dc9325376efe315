-- The measure is how many jobs may still be made sided.
use Rattle.prune.proofs.+may.Given as goal

abbrev pub decreases-may : goal.decreases-may
decreases-may l = l.depth
