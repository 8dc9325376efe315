-- `place_job` and `try_frame`, by one falling number: the jobs left, and below that the frames left of the job's window. Each way through
-- the code has its law in `Laws`; what is left here is where each fact stands.
use Rattle.std.proofs.Common.{◌≡◌, sym, ap, ◌∙◌, List, ℕ, ◌<◌, ◌+◌, arith, take, get_or, get_or-take}
use Rattle.searcher.specs.Arrays.{counts_in, jobs_in, problem_in, LinksBack, Placing}
use Rattle.searcher.specs.declared.Problem.{Problem as InArrays}
use Rattle.searcher.proofs.Laws.{links_back, same_bounds, is_left, all_placed, none_tried, test}
use Rattle.searcher.proofs.Laws.{none_left, pass_on, pass_answer, none_allowed, refused, fits_in, put, went, back}
use Rattle.searcher.proofs.+place_job_try_frame.Goals as goal

-- the links of a job that is left
linked : (g : InArrays) (place load : List ℕ) (i : ℕ) → Placing (problem_in g) (jobs_in g) place load i → i < jobs_in g
    → LinksBack (counts_in g) g.links i
linked g place load i v more =
    let r = v.ready in
    links_back (counts_in g) g.links (jobs_in g) i more r.proper.linked r.few (omega (arith, r.proper.counted, r.jobs))

-- entry i of a list, also as the problem has it
entry_is : (n : ℕ) (xs : List ℕ) (i : ℕ) → i < n → get_or xs i 0 ≡ get_or (take n xs) i 0
entry_is n xs i more = sym (get_or-take n xs i 0 more)

-- the load with job i
sum_is : (g : InArrays) (load : List ℕ) (i row : ℕ) → i < jobs_in g
    → get_or load row 0 + get_or g.cost i 0 ≡ get_or load row 0 + get_or (take (jobs_in g) g.cost) i 0
sum_is g load i row more = ap (λ (k : ℕ). get_or load row 0 + k) (entry_is (jobs_in g) g.cost i more)

pub place_job-returns-then-i-n : goal.place_job-returns-then-i-n
place_job-returns-then-i-n t c = all_placed c.requires c.if-i-n.true

pub place_job-lower_bound-low-requires : goal.place_job-lower_bound-low-requires
place_job-lower_bound-low-requires t c =
    let a = c.args in linked a.problem.now a.place.now a.load.now a.i c.requires (is_left c.requires c.if-i-n.false)

pub place_job-upper_bound-high-requires : goal.place_job-upper_bound-high-requires
place_job-upper_bound-high-requires t c =
    let a = c.args in linked a.problem.now a.place.now a.load.now a.i c.requires (is_left c.requires c.if-i-n.false)

pub place_job-loop-k-init : goal.place_job-loop-k-init
place_job-loop-k-init t c =
    let more = is_left c.requires c.if-i-n.false in
    none_tried more c.requires (entry_is (jobs_in c.args.problem.now) c.args.problem.now.first c.args.i more)

pub place_job-try_frame-requires : goal.place_job-try_frame-requires
place_job-try_frame-requires t c =
    let g = c.args.problem.now in
    let more = is_left c.requires c.if-i-n.false in
    let r = c.requires.ready in
    let v = c.loop-k.invariant in
    let bounds = same_bounds (counts_in g) g.links (jobs_in g) c.args.i more r.proper.linked c.args.place.now c.loop-k.place v.kept
    c.lower_bound-low.ensures c.upper_bound-high.ensures in
    (omega (arith, c.decreases, more, c.loop-k-test.true), test more c.requires v bounds)

pub place_job-returns-in_default : goal.place_job-returns-in_default
place_job-returns-in_default t c =
    let more = is_left c.requires c.if-i-n.false in
    let end = entry_is (jobs_in c.args.problem.now) c.args.problem.now.end c.args.i more in
    pass_answer more c.requires c.loop-k.invariant end c.loop-k-test.true c.try_frame.ensures c.in_default.not-Failed

pub place_job-loop-k-preserved : goal.place_job-loop-k-preserved
place_job-loop-k-preserved t c =
    let more = is_left c.requires c.if-i-n.false in
    let end = entry_is (jobs_in c.args.problem.now) c.args.problem.now.end c.args.i more in
    pass_on more c.requires c.loop-k.invariant end c.loop-k-test.true c.try_frame.ensures c.in-Failed.is c.next_row-row.ensures

pub place_job-returns : goal.place_job-returns
place_job-returns t c =
    let more = is_left c.requires c.if-i-n.false in
    let end = entry_is (jobs_in c.args.problem.now) c.args.problem.now.end c.args.i more in
    none_left more c.requires c.loop-k.invariant end c.loop-k-test.false

pub try_frame-returns-then-left-lt1 : goal.try_frame-returns-then-left-lt1
try_frame-returns-then-left-lt1 t c = none_allowed c.requires (omega (arith, c.if-left-lt1.true))

-- it may not stand there
pub try_frame-returns-then-not-stands : goal.try_frame-returns-then-not-stands
try_frame-returns-then-not-stands t c =
    refused c.requires (omega (arith, c.if-left-lt1.false)) (sym c.may_stand-stands.ensures ∙ c.if-not-stands.true)

-- it may
pub try_frame-overflow_add-load : goal.try_frame-overflow_add-load
try_frame-overflow_add-load t c =
    let sum = sum_is c.args.problem.now c.args.load.now c.args.i c.args.row c.requires.more in
    omega (arith, fits_in c.requires (sym c.may_stand-stands.ensures ∙ c.if-not-stands.false), sum, c.requires.ready.short)

-- it is put there
pub try_frame-place_job-requires : goal.try_frame-place_job-requires
try_frame-place_job-requires t c =
    let sum = sum_is c.args.problem.now c.args.load.now c.args.i c.args.row c.requires.more in
    (omega (arith, c.decreases, c.requires.more), put c.requires sum)

pub try_frame-returns-in_default : goal.try_frame-returns-in_default
try_frame-returns-in_default t c =
    let sum = sum_is c.args.problem.now c.args.load.now c.args.i c.args.row c.requires.more in
    let may = sym c.may_stand-stands.ensures ∙ c.if-not-stands.false in
    went c.requires (omega (arith, c.if-left-lt1.false)) may sum c.place_job.ensures c.in_default.not-Failed

pub try_frame-returns : goal.try_frame-returns
try_frame-returns t c =
    let sum = sum_is c.args.problem.now c.args.load.now c.args.i c.args.row c.requires.more in
    let may = sym c.may_stand-stands.ensures ∙ c.if-not-stands.false in
    back c.requires (omega (arith, c.if-left-lt1.false)) may sum c.place_job.ensures c.in-Failed.is
