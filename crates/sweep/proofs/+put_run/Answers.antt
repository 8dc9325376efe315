-- `run` goes through jobs and rows, and `put` puts a job and runs on. The invariant: what is left to run answers for the whole. The measure of
-- both is the number of jobs that may still be put.
use Rattle.std.proofs.Common.{arith, ◌≡◌, sym, subst, ◌∙◌, Bool, true, false, List, get_or, ℕ, ◌≤◌, ◌<◌}
use Rattle.exact.specs.Sweep.{Ordered, skips, puts}
use Rattle.searcher.specs.Arrays.{jobs_in}
use Rattle.searcher.specs.declared.Problem.{Problem as InArrays}
use Rattle.sweep.specs.declared.Swept.{Swept}
use Rattle.sweep.specs.Arrays.{rules_in, tied_in}
use Rattle.sweep.proofs.Laws.{cost_within, not_skipped, free_of}
use Rattle.sweep.proofs.LateLaws.{end_of, cost_of_lem, sided_of}
use Rattle.sweep.proofs.RunLaws.{n_is, f_is, run_start, run_next, run_end, run_full, run_known, run_late, run_row, run_stuck, run_left}
use Rattle.sweep.proofs.RunLaws.{Chosen, failed_at, times_for, time_there, time_room, put_going, put_ordered, put_failed, put_noted}
use Rattle.sweep.proofs.+put_run.Goals as goal

-- job i, which is not passed over, with its cost
chosen : (g : InArrays) (s : Swept) (ps : List Bool) (i p : ℕ) → i < jobs_in g → jobs_in g ≤ 128
    → skips (rules_in g s) p ps i ≡ false
    → Chosen (rules_in g s) ps i (get_or s.end i 0) (get_or g.cost i 0)
chosen g s ps i p more few free =
    let n = n_is g s in
    record {
      job = omega (arith, n);
      few = omega (arith, n);
      unset = (not_skipped g s ps i p free).0;
      sided = sided_of g s i;
      end_is = sym (end_of g s i);
      cost_is = sym (cost_of_lem g s i);
    }

-- the order is kept only where it was and no job with a higher number must be put before
kept_free : (g : InArrays) (s : Swept) (ps : List Bool) (i room : ℕ) (kept still : Bool)
    → puts (rules_in g s) ps room i ≡ true
    → (still ≡ true → (kept ≡ true) × (tied_in s i ≡ false)) → still ≡ true → (kept ≡ true) × ((rules_in g s).free ps i ≡ true)
kept_free g s ps i room kept still may k e = ((k e).0, free_of g s ps i room may (k e).1)

pub put-take_at-far-requires : goal.put-take_at-far-requires
put-take_at-far-requires t c =
    let a = c.args in
    let x = chosen a.problem.now a.swept.now a.flags.now a.i a.p c.requires.p_bound.1 c.requires.sweepable.few c.requires.i_value in
    time_there a.p a.i a.room c.requires.going x

pub put-overflow_sub-room : goal.put-overflow_sub-room
put-overflow_sub-room t c =
    let a = c.args in
    let may = sym c.may_put.ensures ∙ c.if-not-may_put.false in
    cost_within a.problem.now a.swept.now a.flags.now a.i a.room may

pub put-run-requires : goal.put-run-requires
put-run-requires t c =
    let a = c.args in
    let r = c.requires in
    let x = chosen a.problem.now a.swept.now a.flags.now a.i a.p r.p_bound.1 r.sweepable.few r.i_value in
    let may = sym c.may_put.ensures ∙ c.if-not-may_put.false in
    let free = kept_free a.problem.now a.swept.now a.flags.now a.i a.room a.kept c.still_kept-still.result may c.still_kept-still.ensures in (
      omega (arith, c.decreases, c.if-left-eq0.false),
      (
        r.sweepable,
        (
          (r.p_bound.0, omega (arith, r.p_bound.1), r.p_bound.2),
          put_going a.p a.i a.room r.going x c.with_flag-lows.ensures c.with_flag-highs.ensures free c.take_at-far.ensures,
        ),
      ),
    )

pub put-add_at-requires : goal.put-add_at-requires
put-add_at-requires t c =
    let a = c.args in
    let r = c.requires in
    let x = chosen a.problem.now a.swept.now a.flags.now a.i a.p r.p_bound.1 r.sweepable.few r.i_value in
    let failed = failed_at c.in-Some.is c.run.ensures in
    time_room a.p a.i a.room r.going x (failed.same_due ∙ c.take_at-far.ensures) (omega arith)

pub put-is_worth_noting-requires-clause-ordered : goal.put-is_worth_noting-requires-clause-ordered
put-is_worth_noting-requires-clause-ordered t c =
    let a = c.args in
    let r = c.requires in
    let x = chosen a.problem.now a.swept.now a.flags.now a.i a.p r.p_bound.1 r.sweepable.few r.i_value in
    let may = sym c.may_put.ensures ∙ c.if-not-may_put.false in
    let free = kept_free a.problem.now a.swept.now a.flags.now a.i a.room a.kept c.still_kept-still.result may c.still_kept-still.ensures in
    let failed = failed_at c.in-Some.is c.run.ensures in
    λ e. subst (λ (qs : List Bool). Ordered (rules_in a.problem.now a.swept.now) qs) (sym failed.same) (put_ordered a.p a.i a.room r.going x free e)

pub put-returns-then-is_worth_noting : goal.put-returns-then-is_worth_noting
put-returns-then-is_worth_noting t c =
    let a = c.args in
    let r = c.requires in
    let x = chosen a.problem.now a.swept.now a.flags.now a.i a.p r.p_bound.1 r.sweepable.few r.i_value in
    let failed = failed_at c.in-Some.is c.run.ensures in
    let kept = c.is_worth_noting.ensures c.if-is_worth_noting.true in
    λ _. put_noted a.p a.i a.room r.going x c.take_at-far.ensures failed c.add_at.ensures c.with_flag-lows.ensures c.with_flag-highs.ensures kept.0 kept.1
    c.note.ensures.0 c.note.ensures.1 c.note.ensures.2

pub put-returns : goal.put-returns
put-returns t c =
    let a = c.args in
    let r = c.requires in
    let x = chosen a.problem.now a.swept.now a.flags.now a.i a.p r.p_bound.1 r.sweepable.few r.i_value in
    let failed = failed_at c.in-Some.is c.run.ensures in
    λ _. put_failed a.p a.i a.room r.going x c.take_at-far.ensures failed c.add_at.ensures

pub run-loop-row-init : goal.run-loop-row-init
run-loop-row-init t c =
    let a = c.args in
    run_start a.room c.requires.going c.requires.p_bound.0 (omega (arith, n_is a.problem.now a.swept.now, c.requires.p_bound.1))

pub run-returns-then-one_more : goal.run-returns-then-one_more
run-returns-then-one_more t c =
    let n = n_is c.args.problem.now c.args.swept.now in
    run_full (run_end c.loop-row.invariant n c.next_job-job.ensures c.if-job-n.true) n (c.one_more.ensures c.if-one_more.true)

pub run-returns-then-known : goal.run-returns-then-known
run-returns-then-known t c =
    let n = n_is c.args.problem.now c.args.swept.now in
    run_known (run_end c.loop-row.invariant n c.next_job-job.ensures c.if-job-n.true) (c.known.ensures c.if-known.true)

pub run-is_late-requires-clause-due : goal.run-is_late-requires-clause-due
run-is_late-requires-clause-due t c = times_for c.loop-row.invariant.going (n_is c.args.problem.now c.args.swept.now)

pub run-returns-then-is_late : goal.run-returns-then-is_late
run-returns-then-is_late t c =
    let n = n_is c.args.problem.now c.args.swept.now in
    run_late (run_end c.loop-row.invariant n c.next_job-job.ensures c.if-job-n.true) (c.is_late.ensures c.if-is_late.true)

pub run-loop-row-preserved-then-job-n : goal.run-loop-row-preserved-then-job-n
run-loop-row-preserved-then-job-n t c =
    let a = c.args in
    let n = n_is a.problem.now a.swept.now in
    run_row (run_end c.loop-row.invariant n c.next_job-job.ensures c.if-job-n.true) (omega (arith, c.loop-row-test.true, c.if-row-rows.false))
    (sym (f_is a.problem.now a.swept.now)) c.is_kept-ordered.ensures

pub run-returns-then-not-may_leave : goal.run-returns-then-not-may_leave
run-returns-then-not-may_leave t c =
    let n = n_is c.args.problem.now c.args.swept.now in
    let next = c.next_job-job.ensures in
    run_stuck (run_next c.loop-row.invariant n next) (omega (arith, c.if-job-n.false, n)) (next.here c.if-job-n.false) (c.put.ensures c.if-put.false)
    (sym c.may_leave.ensures ∙ c.if-not-may_leave.true)

pub run-loop-row-preserved : goal.run-loop-row-preserved
run-loop-row-preserved t c =
    let n = n_is c.args.problem.now c.args.swept.now in
    let next = c.next_job-job.ensures in
    run_left (run_next c.loop-row.invariant n next) (omega (arith, c.if-job-n.false, n)) (next.here c.if-job-n.false) (c.put.ensures c.if-put.false)
