-- The jobs passed are added up; no sum exceeds 16 bits, since no row's does.
use Rattle.std.proofs.Common.{◌≡◌, ◌<◌, ℕ, arith, length, length-append, get_or}
use Rattle.std.proofs.lemmas.Slice.Zip.{zip_turn, zip_end}
use Rattle.draft.specs.LoadLaws.{none_added, sum_fits, one_added, all_added}
use Rattle.draft.proofs.row_loads.Goals as goal
use Rattle.draft.proofs.row_loads.Goals.{In-Some}

-- this turn's cost and frame
turn : (c : In-Some)
    → let y = length c.loop-c.yielded in
    (y < length c.args.cost.now) × (y < length c.args.frames.now) × ((d : ℕ) → c.in-Some.c.now ≡ get_or c.args.cost.now y d)
    × ((d : ℕ) → c.in-Some.k.now ≡ get_or c.args.frames.now y d)
turn c =
    let a = c.args in
    let l = c.loop-c in
    zip_turn a.cost.now a.frames.now l.yielded c.into_iter-c-iterator.result l.c-iterator c.next.new.self c.next.result (cc) (cc) l.yielded_by _
    c.in-Some.is c.next.ensures.steps

pub loop-c-init : goal.loop-c-init
loop-c-init c = λ long. none_added c.args.rows c.args.cost.now c.args.frames.now long

pub overflow_cast-loads : goal.overflow_cast-loads
overflow_cast-loads c =
    let a = c.args in
    let l = c.loop-c in
    let t = turn (goal.at.overflow_cast-loads c).In-Some in
    let fits =
    sum_fits a.rows a.cost.now a.frames.now c.requires.0 c.requires.1 (length l.yielded) l.loads (l.invariant c.requires.0) t.0 c.in-Some.c.now
    c.in-Some.k.now c.from-row.result (t.2 0) (t.3 0) c.from-row.ensures in
    omega (arith, fits)

pub overflow_add-loads : goal.overflow_add-loads
overflow_add-loads c =
    let a = c.args in
    let l = c.loop-c in
    let t = turn (goal.at.overflow_add-loads c).In-Some in
    let fits =
    sum_fits a.rows a.cost.now a.frames.now c.requires.0 c.requires.1 (length l.yielded) l.loads (l.invariant c.requires.0) t.0 c.in-Some.c.now
    c.in-Some.k.now c.from-row.result (t.2 0) (t.3 0) c.from-row.ensures in
    omega (arith, fits)

pub loop-c-preserved : goal.loop-c-preserved
loop-c-preserved c =
    let a = c.args in
    let l = c.loop-c in
    let t = turn (goal.at.loop-c-preserved c).In-Some in
    λ long. one_added a.rows a.cost.now a.frames.now long c.requires.1 (length l.yielded) l.loads (l.invariant long) t.0 c.in-Some.c.now c.in-Some.k.now
    c.from-row.result (t.2 0) (t.3 0) c.from-row.ensures _ (simp length-append)

pub returns : goal.returns
returns c =
    let a = c.args in
    let l = c.loop-c in
    let end =
    zip_end a.cost.now a.frames.now l.yielded c.into_iter-c-iterator.result l.c-iterator c.next.new.self c.next.result (cc) (cc) l.yielded_by
    c.in-None.is c.next.ensures.steps in
    all_added a.rows a.cost.now a.frames.now c.requires.0 (length l.yielded) l.loads (l.invariant c.requires.0) (omega arith)
