-- The loop keeps that the count and the pairs before pair i are in their places and those from i on are to come.
use Rattle.std.proofs.Common.{◌+◌, ◌*◌, ◌≡◌}
use Rattle.request.specs.Request.{no_pair}
use Rattle.request.specs.Encode.{pair_bytes}
use Rattle.request.specs.WriteLaws.{pair_wide, SectionPart}
use Rattle.request.proofs.write.write_pairs.Given as goal

abbrev pub invariant-loop-pair : goal.invariant-loop-pair
invariant-loop-pair l = record {
  place : l.at ≡ 1 + 2 * l.pair-index;
  part : SectionPart pair_bytes 2 pair_wide no_pair l.pairs l.initial.out l.out l.at l.pair-index;
}
