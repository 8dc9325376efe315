-- The loop keeps the load of each row by the jobs passed, none beyond f; a job without room in its row breaks the rule.
use Rattle.std.proofs.Common.{◌≡◌, ◌<◌, ℕ, arith, length, length-append, get_or}
use Rattle.std.proofs.lemmas.Slice.Zip.{zip_turn, zip_end}
use Rattle.plan_rules.specs.LoopLaws.{kept_none, put_more, too_full, all_put}
use Rattle.plan_rules.proofs.capacity_kept.Goals as goal
use Rattle.plan_rules.proofs.capacity_kept.Goals.{In-Some}

-- this turn's cost and frame
turn : (c : In-Some)
    → let y = length c.loop-c.yielded in
    (y < length c.args.cost.now) × (y < length c.args.frames.now) × ((d : ℕ) → c.in-Some.c.now ≡ get_or c.args.cost.now y d)
    × ((d : ℕ) → c.in-Some.k.now ≡ get_or c.args.frames.now y d)
turn c =
    let a = c.args in
    let l = c.loop-c in
    zip_turn a.cost.now a.frames.now l.yielded c.into_iter-c-iterator.result l.c-iterator c.next.new.self c.next.result (cc) (cc) l.yielded_by _
    c.in-Some.is c.next.ensures.steps

pub loop-c-init : goal.loop-c-init
loop-c-init c =
    let a = c.args in
    kept_none a.rows a.cost.now a.frames.now (length a.cost.now) a.f

pub returns-then-c-length : goal.returns-then-c-length
returns-then-c-length c =
    let a = c.args in
    let l = c.loop-c in
    let t = turn (goal.at.returns-then-c-length c).In-Some in
    too_full a.rows a.cost.now a.frames.now a.f c.requires.0 c.requires.1 c.requires.2 (length l.yielded) l.load l.invariant t.0 c.in-Some.c.now
    c.in-Some.k.now c.from-row.result (t.2 0) (t.3 0) c.from-row.ensures (rw (← c.from-length.ensures) c.if-c-length.true)

pub loop-c-preserved : goal.loop-c-preserved
loop-c-preserved c =
    let a = c.args in
    let l = c.loop-c in
    let t = turn (goal.at.loop-c-preserved c).In-Some in
    put_more a.rows a.cost.now a.frames.now a.f c.requires.0 c.requires.1 c.requires.2 (length l.yielded) l.load l.invariant t.0 c.in-Some.c.now
    c.in-Some.k.now c.from-row.result (t.2 0) (t.3 0) c.from-row.ensures (rw (← c.from-length.ensures) c.if-c-length.false) _ (simp length-append)

pub returns : goal.returns
returns c =
    let a = c.args in
    let l = c.loop-c in
    let end =
    zip_end a.cost.now a.frames.now l.yielded c.into_iter-c-iterator.result l.c-iterator c.next.new.self c.next.result (cc) (cc) l.yielded_by
    c.in-None.is c.next.ensures.steps in
    all_put a.rows a.cost.now a.frames.now a.f c.requires.0 c.requires.1 c.requires.2 (length l.yielded) l.load l.invariant (omega arith)
