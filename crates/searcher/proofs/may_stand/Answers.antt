-- `may_stand`: with the loads kept, the test by the row's load and by the bounds of the links is the search's test.
use Rattle.std.proofs.Common.{◌≡◌, rules, refl, ◌∙◌, ◌&&◌, ◌<◌, mod-lt, arith, take, get_or, get_or-take, leb}
use Rattle.search.specs.Placing.{has_room, fits}
use Rattle.searcher.specs.Arrays.{jobs_in, problem_in}
use Rattle.searcher.proofs.Laws.{tested}
use Rattle.searcher.proofs.may_stand.Goals as goal
use Rattle.searcher.proofs.may_stand.Goals.{After-has_room, Start}

row_small : (c : Start) → c.args.row < 256
row_small c = omega (arith, c.requires.at_row, mod-lt c.args.k c.requires.ready.proper.some_row, c.requires.ready.few_rows)

job_small : (c : Start) → c.args.i < 128
job_small c = omega (arith, c.requires.more, c.requires.ready.few)

-- what is tested, as the code has it
test_is : (c : Start) → let a = c.args in
    fits (problem_in a.problem.now) (take a.i a.place.now) a.k
    ≡ (has_room (get_or a.load.now a.row 0) a.problem.now.f (get_or a.problem.now.cost a.i 0) && (leb a.low a.k && leb a.k a.high))
test_is c =
    let a = c.args in
    tested c.requires (omega (arith, c.ranges.k)) ∙ rw (get_or-take (jobs_in a.problem.now) a.problem.now.cost a.i 0 c.requires.more)

-- the row's room, as it was answered: by the load of this row and the cost of this job
room_is : (c : After-has_room) → let a = c.args in
    c.has_room.result ≡ has_room (get_or a.load.now a.row 0) a.problem.now.f (get_or a.problem.now.cost a.i 0)
room_is c = c.has_room.ensures

pub returns-then-has_room : goal.returns-then-has_room
returns-then-has_room c =
    let between : c.contains.result ≡ (leb c.args.low c.args.k && leb c.args.k c.args.high) = search rules in
    rw (test_is (goal.at.returns-then-has_room c).Start, ← room_is (goal.at.returns-then-has_room c).After-has_room, c.if-has_room.true) between

pub returns-else-has_room : goal.returns-else-has_room
returns-else-has_room c =
    rw (test_is (goal.at.returns-else-has_room c).Start, ← room_is (goal.at.returns-else-has_room c).After-has_room, c.if-has_room.false) refl
