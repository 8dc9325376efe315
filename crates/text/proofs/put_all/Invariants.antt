-- The loop keeps that putting the bytes left, behind those put, gives the answer.
use Rattle.std.proofs.Common.{◌≡◌, length, drop}
use Rattle.text.specs.Text.{filled_to, put_all_of}
use Rattle.text.proofs.put_all.Given as goal

abbrev pub invariant-loop-b : goal.invariant-loop-b
invariant-loop-b l =
    (length l.out ≡ length l.initial.out) × (put_all_of (filled_to l.end l.out) (drop l.b-index l.text) ≡ put_all_of (filled_to l.at l.initial.out) l.text)
