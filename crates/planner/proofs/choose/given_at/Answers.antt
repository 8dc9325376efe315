-- The numbers handed over are the problem of the length, which is one for the search.
use Rattle.std.proofs.Common.{arith}
use Rattle.planner.specs.LengthLaws.{some, problem_is, placeable}
use Rattle.planner.proofs.choose.given_at.Goals as goal

pub returns : goal.returns
returns c = (
  placeable c.requires c.first_frames-first.ensures c.end_frames-end.ensures (omega (arith, c.ranges.f)),
  problem_is c.requires c.first_frames-first.ensures c.end_frames-end.ensures,
)

pub nonzero_div-result : goal.nonzero_div-result
nonzero_div-result c = some c.requires
