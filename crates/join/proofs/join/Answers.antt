-- Both requests are read, the sums are judged, and the joined request is written; each way out is one of the definition's cases.
use Rattle.std.specs.Prelude.{◌+◌, ◌≤◌, Ok}
use Rattle.std.proofs.Common.{refl, sym, ap, ◌∙◌, arith, length-take}
use Rattle.std.proofs.lemmas.Result.{err_from_is_err_and}
use Rattle.refusal.specs.Refusal.{refusal_in}
use Rattle.request.specs.Numbered.{request_said}
use Rattle.request.specs.Places.{ReadAs, read_as, counts_few}
use Rattle.request.specs.SectionLaws.{no_zero}
use Rattle.join.specs.JoinLaws.{first_refused, second_refused, not_joined, fit_all, few_taken, was_joined}
use Rattle.join.proofs.join.Goals as goal
use Rattle.join.proofs.join.Goals.{In_ok-x, In_ok-y, In_ok-judge}

first_read : (c : In_ok-x) → ReadAs c.args.first.now (request_said (Ok c.in_ok-x.x))
first_read c = read_as _ _ (ap request_said (sym c.in_ok-x.was) ∙ c.read.ensures) refl

second_read : (c : In_ok-y) → ReadAs c.args.second.now (request_said (Ok c.in_ok-y.y))
second_read c = read_as _ _ (ap request_said (sym c.in_ok-y.was) ∙ c.read-2.ensures) refl

-- the counts of both
record Counts (c : In_ok-y) : Type 0 where
  first : (c.in_ok-x.x.n ≤ 16) × (c.in_ok-x.x.m ≤ 16)
  second : (c.in_ok-y.y.n ≤ 16) × (c.in_ok-y.y.m ≤ 16)

counts : (c : In_ok-y) → Counts c
counts c = record { first = counts_few _ _ (first_read (goal.at.In_ok-y c).In_ok-x); second = counts_few _ _ (second_read c) }

-- and their sums
sums : (c : In_ok-judge) → let x = c.in_ok-x.x in let y = c.in_ok-y.y in (x.n + y.n ≤ 16) × (x.m + y.m ≤ 16)
sums c =
    let fits = fit_all _ _ _ _ (ap refusal_in (sym c.in_ok-judge.was) ∙ c.judge.ensures) in
    (fits.0, fits.1)

pub returns-in_err-x : goal.returns-in_err-x
returns-in_err-x c =
    let p = err_from_is_err_and c.from_residual.result c.from_residual.ensures.1 in
    rw (p.1, p.2) (first_refused _ _ _ _ (ap request_said (sym c.in_err-x.was) ∙ c.read.ensures) (no_zero c.in_err-x.field-0.0))

pub returns-in_err-y : goal.returns-in_err-y
returns-in_err-y c =
    let p = err_from_is_err_and c.from_residual-in_err-y.result c.from_residual-in_err-y.ensures.1 in
    rw (p.1, p.2)
    (second_refused _ _ _ _ (first_read (goal.at.returns-in_err-y c).In_ok-x) _ (ap request_said (sym c.in_err-y.was) ∙ c.read-2.ensures) (no_zero c.in_err-y.field-0.0))

pub overflow_add-n : goal.overflow_add-n
overflow_add-n c = let h = counts (goal.at.overflow_add-n c).In_ok-y in omega (arith, h.first.0, h.second.0)

pub overflow_add-m : goal.overflow_add-m
overflow_add-m c = let h = counts (goal.at.overflow_add-m c).In_ok-y in omega (arith, h.first.1, h.second.1)

pub returns-in_err-judge : goal.returns-in_err-judge
returns-in_err-judge c =
    let p = err_from_is_err_and c.from_residual-in_err-judge.result c.from_residual-in_err-judge.ensures.1 in
    let before = (goal.at.returns-in_err-judge c).In_ok-y in
    rw (p.1, p.2)
    (not_joined _ _ _ _ (first_read (goal.at.returns-in_err-judge c).In_ok-x) _ (second_read before) _ (ap refusal_in (sym c.in_err-judge.was) ∙ c.judge.ensures)
    (no_zero c.in_err-judge.field-0.0))

pub shared_ref_as_front-join_tasks : goal.shared_ref_as_front-join_tasks
shared_ref_as_front-join_tasks c = let h = counts (goal.at.shared_ref_as_front-join_tasks c).In_ok-y in omega (arith, h.first.0, h.second.0)

pub shared_ref_as_front-join_tasks-2 : goal.shared_ref_as_front-join_tasks-2
shared_ref_as_front-join_tasks-2 c = let h = counts (goal.at.shared_ref_as_front-join_tasks-2 c).In_ok-y in omega (arith, h.first.0, h.second.0)

pub join_tasks-tasks-requires : goal.join_tasks-tasks-requires
join_tasks-tasks-requires c = simp length-take (omega (arith, (sums (goal.at.join_tasks-tasks-requires c).In_ok-judge).0))

pub shared_ref_as_front-join_pairs : goal.shared_ref_as_front-join_pairs
shared_ref_as_front-join_pairs c = let h = counts (goal.at.shared_ref_as_front-join_pairs c).In_ok-y in omega (arith, h.first.1, h.second.1)

pub shared_ref_as_front-join_pairs-2 : goal.shared_ref_as_front-join_pairs-2
shared_ref_as_front-join_pairs-2 c = let h = counts (goal.at.shared_ref_as_front-join_pairs-2 c).In_ok-y in omega (arith, h.first.1, h.second.1)

pub join_pairs-pairs-requires : goal.join_pairs-pairs-requires
join_pairs-pairs-requires c =
    let both = (goal.at.join_pairs-pairs-requires c).In_ok-y in
    (simp length-take (omega (arith, (sums (goal.at.join_pairs-pairs-requires c).In_ok-judge).1)), (counts both).first.0, few_taken _ _ (second_read both))

pub returns : goal.returns
returns c =
    let done = was_joined _ _ _ _ (first_read (goal.at.returns c).In_ok-x) _ (second_read (goal.at.returns c).In_ok-y) _
    (ap refusal_in (sym c.in_ok-judge.was) ∙ c.judge.ensures) refl _ _ c.join_tasks-tasks.ensures c.join_pairs-pairs.ensures in
    (c.write.ensures.0 ∙ done.0, c.write.ensures.1 ∙ done.1)
