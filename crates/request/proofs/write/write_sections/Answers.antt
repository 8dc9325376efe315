-- Each section goes into the part of the buffer behind the one before.
-- the buffer has room for the three sections
use Rattle.std.proofs.Common.{◌+◌, ◌-◌, ◌≤◌, ◌++◌, arith, length, take, length-append}
use borrow.Rule.Slice.PartMut.{put_mid}
use Rattle.cursor.specs.Pieces.{Placed}
use Rattle.cursor.specs.Parts.{rest_part, rest_put}
use Rattle.request.specs.Encode.{task_bytes, pair_bytes, section_bytes, silent_bytes, request_bytes}
use Rattle.request.specs.WriteLaws.{first_within, second_fits, second_within, third_fits, all_placed}
use Rattle.request.proofs.write.write_sections.Goals as goal
use Rattle.request.proofs.write.write_sections.Goals.{After-write_pairs-second, After-write_silent-third, After-write_tasks-first, Start}

fits : (c : Start) → let a = c.args in
    length (section_bytes task_bytes a.tasks.now ++ section_bytes pair_bytes a.pairs.now ++ silent_bytes a.g)
    ≤ length a.out.now
unfolding request_bytes
fits c = c.requires.2

-- the first section is written
within : (c : After-write_tasks-first) → c.write_tasks-first.result ≤ length c.write_tasks-first.new.out
within c = first_within _ _ _ _ (fits (goal.at.After-write_tasks-first c).Start) _ _ c.write_tasks-first.ensures

-- and the second behind it
behind : (c : After-write_pairs-second) → let out = c.write_tasks-first.new.out in
    let at = c.write_tasks-first.result in let end = at + c.write_pairs-second.result in
    (end ≤ length (put_mid at (length out - at) out c.write_pairs-second.new.out)) × (end ≤ length c.args.out.now)
behind c =
    rw rest_put (second_within _ _ _ _ (fits (goal.at.After-write_pairs-second c).Start) _ _ c.write_tasks-first.ensures _ _
    (rw rest_part at c.write_pairs-second.ensures))

-- and the third
placed : (c : After-write_silent-third) → let a = c.args in let at = c.write_tasks-first.result in let end = at + c.write_pairs-second.result in
    Placed (request_bytes a.tasks.now a.pairs.now a.g) a.out.now
    (take end (take at c.write_tasks-first.new.out ++ c.write_pairs-second.new.out) ++ c.write_silent-third.new.out) (end + c.write_silent-third.result)
unfolding request_bytes
placed c =
    let wrote = rw rest_part at c.write_pairs-second.ensures in
    all_placed _ _ _ _ (fits (goal.at.After-write_silent-third c).Start) _ _ c.write_tasks-first.ensures _ _ wrote _ _
    (rw (rest_part, rest_put) at c.write_silent-third.ensures)

pub write_tasks-first-requires : goal.write_tasks-first-requires
write_tasks-first-requires c = (c.requires.0, omega (arith, simp length-append at (fits (goal.at.write_tasks-first-requires c).Start)))

pub slice_bounds-write_pairs-count : goal.slice_bounds-write_pairs-count
slice_bounds-write_pairs-count c = within (goal.at.slice_bounds-write_pairs-count c).After-write_tasks-first

pub slice_bounds-write_pairs-start : goal.slice_bounds-write_pairs-start
slice_bounds-write_pairs-start c = within (goal.at.slice_bounds-write_pairs-start c).After-write_tasks-first

pub write_pairs-second-requires : goal.write_pairs-second-requires
write_pairs-second-requires c =
    (c.requires.1, rw rest_part (second_fits _ _ _ _ (fits (goal.at.write_pairs-second-requires c).Start) _ _ c.write_tasks-first.ensures))

pub overflow_add-behind : goal.overflow_add-behind
overflow_add-behind c =
    omega (arith, (behind (goal.at.overflow_add-behind c).After-write_pairs-second).1, c.well_formed.0.0)

pub slice_bounds-write_silent-count : goal.slice_bounds-write_silent-count
slice_bounds-write_silent-count c = (behind (goal.at.slice_bounds-write_silent-count c).After-write_pairs-second).0

pub slice_bounds-write_silent-start : goal.slice_bounds-write_silent-start
slice_bounds-write_silent-start c = (behind (goal.at.slice_bounds-write_silent-start c).After-write_pairs-second).0

pub write_silent-third-requires : goal.write_silent-third-requires
write_silent-third-requires c =
    let wrote = rw rest_part at c.write_pairs-second.ensures in
    rw (rest_part, rest_put) (third_fits _ _ _ _ (fits (goal.at.write_silent-third-requires c).Start) _ _ c.write_tasks-first.ensures _ _ wrote)

pub overflow_add-result : goal.overflow_add-result
overflow_add-result c =
    omega (arith, (placed (goal.at.overflow_add-result c).After-write_silent-third).ends, c.requires.2, c.well_formed.0.0)

pub returns : goal.returns
returns c = rw (rest_put, rest_put) (placed (goal.at.returns c).After-write_silent-third)
