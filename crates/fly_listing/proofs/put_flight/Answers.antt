-- The planner's answer in a buffer of 519 bytes is a refusal, or the table that was handed out; each is one way of the definition.
use Rattle.std.specs.Prelude.{length}
use Rattle.std.proofs.Common.{◌≤◌, ◌≡◌, refl, sym, arith, length-take-le}
use Rattle.std.proofs.lemmas.Result.{err_from_is_err_and}
use Rattle.request.specs.SectionLaws.{no_zero}
use Rattle.planner.specs.Outcome.{program_tries, searched_answer}
use Rattle.plan_listing.specs.HandedLaws.{blank, refused_is, written_few}
use Rattle.fly_listing.specs.FlownLaws.{flight_refused, flight_put}
use Rattle.fly_listing.proofs.put_flight.Goals as goal
use Rattle.fly_listing.proofs.put_flight.Goals.{In_ok-length}

-- the answer with the paper's number
handed : (c : In_ok-length) → record { refusal = 0; length = c.in_ok-length.length; tries = c.plan.result.tries } ≡ searched_answer program_tries c.args.request.now blank
handed c = rw c.in_ok-length.was at c.plan.ensures.0

-- what is lent is within the buffer
within : (c : In_ok-length) → c.in_ok-length.length ≤ length c.plan.new.out
within c = omega (arith, written_few c.args.request.now _ (handed c) refl, c.plan.auto.out)

pub returns-in_err-length : goal.returns-in_err-length
returns-in_err-length c =
    let p = err_from_is_err_and c.from_residual.result c.from_residual.ensures.1 in
    let said = rw c.in_err-length.was at c.plan.ensures.0 in
    rw (p.1, p.2) (refl, flight_refused _ _ (refused_is c.args.request.now _ said (no_zero c.in_err-length.field-0.0)))

pub slice_bounds-table-end : goal.slice_bounds-table-end
slice_bounds-table-end c = within (goal.at.slice_bounds-table-end c).In_ok-length

pub slice_bounds-put_frames-end : goal.slice_bounds-put_frames-end
slice_bounds-put_frames-end c = sym (length-take-le _ _ (within (goal.at.slice_bounds-put_frames-end c).In_ok-length))

pub returns : goal.returns
returns c = flight_put _ _ (handed (goal.at.returns c).In_ok-length) refl _ c.plan.ensures.1 _ _ _ c.put_frames.ensures
