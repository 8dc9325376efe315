-- The request with the phase is as if it had been read, and its cycle is within the limits: so the choice of that cycle is asked for.
use Rattle.std.specs.Prelude.{Ok, ◌≡◌}
use Rattle.std.proofs.Common.{refl, sym, ap, ◌∙◌}
use Rattle.request.specs.declared.Request.{Request}
use Rattle.cycle.specs.Answers.{cycle_for}
use Rattle.cycle.specs.Numbered.{cycle_said, cycle_numbered}
use Rattle.cycle.specs.PhaseLaws.{request_with}
use Rattle.cycle.specs.ReadLaws.{said_answered}
use Rattle.planner.specs.Numbered.{ChosenPlan}
use Rattle.phases.specs.Counting.{phase_number}
use Rattle.phases.specs.ReadPhase.{phase_read, phase_limits, phase_accepted, number_said}
use Rattle.phases.specs.Ways.{task_few}
use Rattle.phases.proofs.outcome_at.Goals as goal
use Rattle.phases.proofs.outcome_at.Goals.{In_ok-cycle}

-- the cycle that is planned is that of the request with the phase
planned : (c : In_ok-cycle) → let a = c.args in cycle_said (Ok c.in_ok-cycle.cycle) ≡ cycle_numbered (cycle_for (request_with a.request a.i a.p))
planned c = ap cycle_said (sym c.in_ok-cycle.was) ∙ c.of.ensures ∙ ap (λ (r : Request). cycle_numbered (cycle_for r)) c.with_phase-shifted.ensures

pub with_phase-shifted-requires : goal.with_phase-shifted-requires
with_phase-shifted-requires c = task_few c.requires.0

pub of-requires : goal.of-requires
of-requires c = let s = c.requires in phase_read s.0 _ s.1 c.with_phase-shifted.ensures

pub returns-in_err-cycle : goal.returns-in_err-cycle
returns-in_err-cycle c =
    let s = c.requires in
    absurd (phase_accepted s.0 _ s.1 _
    (ap cycle_said (sym c.in_err-cycle.was) ∙ c.of.ensures ∙ ap (λ (r : Request). cycle_numbered (cycle_for r)) c.with_phase-shifted.ensures))

pub choose-requires : goal.choose-requires
choose-requires c = let s = c.requires in phase_limits s.0 _ s.1 (planned (goal.at.choose-requires c).In_ok-cycle)

pub returns : goal.returns
unfolding phase_number
returns c =
    let same = said_answered (cycle_for (request_with c.args.request c.args.i c.args.p)) (planned (goal.at.returns c).In_ok-cycle) in
    number_said c.choose.result.tries c.choose.result.outcome ∙ ap (λ (y : ChosenPlan). y.refusal) c.choose.ensures ∙ rw same refl
