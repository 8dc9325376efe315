-- The loop keeps that the records before place y are in their places and those from y on are to come.
use Rattle.std.proofs.Common.{◌≤◌, ◌≡◌, ◌+◌, ◌*◌, arith, length, length-drop}
use Rattle.cursor.specs.Parts.{rest_part, rest_put}
use Rattle.lent.specs.RecordLaws.{records_start, record_room, record_placed, records_end}
use Rattle.lent.proofs.records.write_records.Goals as goal
use Rattle.lent.proofs.records.write_records.Goals.{In-loop-y}

-- a record has eight places
room : (c : In-loop-y) → let l = c.loop-y in 8 * l.y + 8 ≤ length l.out
room c =
    let l = c.loop-y in
    record_room _ _ _ _ _ l.invariant c.loop-y-test.true

pub loop-y-init : goal.loop-y-init
loop-y-init c = records_start c.args.known c.args.out.now c.requires.1

pub slice_bounds-write_record-count : goal.slice_bounds-write_record-count
slice_bounds-write_record-count c = omega (arith, room (goal.at.slice_bounds-write_record-count c).In-loop-y)

pub slice_bounds-write_record-start : goal.slice_bounds-write_record-start
slice_bounds-write_record-start c = omega (arith, room (goal.at.slice_bounds-write_record-start c).In-loop-y)

pub write_record-requires : goal.write_record-requires
write_record-requires c = rw (rest_part, length-drop) (omega (arith, room (goal.at.write_record-requires c).In-loop-y))

pub loop-y-preserved : goal.loop-y-preserved
loop-y-preserved c =
    let l = c.loop-y in
    let next : 8 * (l.y + 1) ≡ 8 * l.y + 8 = omega arith in
    let placed = rw (rest_part, c.record_at.ensures) at c.write_record.ensures in
    rw (next, rest_put) (record_placed _ _ _ _ _ l.invariant c.loop-y-test.true _ placed)

pub returns : goal.returns
returns c = records_end _ _ _ _ _ c.loop-y.invariant c.loop-y-test.false
