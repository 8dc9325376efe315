-- One job after the other.
use Rattle.prune.specs.Arrays.{Filled, side_by}
use Rattle.prune.proofs.Laws.{sided_row}
use Rattle.prune.proofs.sides.rows_of.Given as goal

abbrev pub invariant-loop-i : goal.invariant-loop-i
invariant-loop-i l = record {
  sides : Filled (side_by l.rows l.d.low l.d.high) l.i l.sides;
  firsts : Filled (sided_row l.rows l.d.low l.d.high l.d.low 1024) l.i l.firsts;
  ends : Filled (sided_row l.rows l.d.low l.d.high l.d.high 1025) l.i l.ends;
}
