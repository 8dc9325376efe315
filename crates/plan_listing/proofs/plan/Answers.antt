-- The listing was put, or the line of the refusal is.
use Rattle.text.specs.TextLaws.{put_front}
use Rattle.plan_listing.proofs.plan.Goals as goal

pub returns-in-Ok : goal.returns-in-Ok
returns-in-Ok c = put_front _ c.args.out.now c.put_plan.new.out c.in-Ok.end (rw c.in-Ok.is at c.put_plan.ensures)

pub returns-in-Err : goal.returns-in-Err
returns-in-Err c =
    let none = rw c.in-Err.is at c.put_plan.ensures in
    rw (c.number.ensures, none.0, none.1) at c.refused.ensures
