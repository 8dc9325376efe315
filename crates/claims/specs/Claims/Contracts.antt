-- What the contracts of the public calls say, and that they are met. A contract is `requires` and `ensures` above the function in src/. `statement` says that the
-- function, called as its types and its `requires` say, is safe, ends and meets its `ensures`. None of these calls has a `requires`: nothing is asked of a
-- caller's values.
pub record EveryContract (M : Type 1) : Type 2 where
  -- planning and checking
  pub planner_plan : Rattle.planner.proofs.plan.Statement.statement M
  pub decider_decide : Rattle.decider.proofs.decide.Statement.statement M
  pub phases : Rattle.phases.proofs.phases.Statement.statement M
  pub checker_check : Rattle.checker.proofs.check.Statement.statement M
  pub rewriter_rewrite : Rattle.rewriter.proofs.rewrite.Statement.statement M
  pub one_off : Rattle.one_off.proofs.one_off.Statement.statement M
  pub job_records_fill : Rattle.job_records.proofs.fill.Statement.statement M
  -- requests
  pub request_read : Rattle.request.proofs.read.Statement.statement M
  pub cycle_read : Rattle.cycle.proofs.read.Statement.statement M
  pub request_writer_write : Rattle.request.proofs.write.write.Statement.statement M
  pub join : Rattle.join.proofs.join.Statement.statement M
  pub cut : Rattle.cut.proofs.cut.Statement.statement M
  -- drafts
  pub draft_start : Rattle.draft.proofs.start.Statement.statement M
  pub draft_lift : Rattle.draft.proofs.lift.Statement.statement M
  pub draft_put : Rattle.draft.proofs.put.Statement.statement M
  pub draft_write : Rattle.draft.proofs.write.Statement.statement M
  -- the dispatcher, the timer and the heater link
  pub dispatcher_fresh : Rattle.dispatcher.proofs.fresh.Statement.statement M
  pub dispatcher_next_frame : Rattle.dispatcher.proofs.next_frame.Statement.statement M
  pub dispatcher_report : Rattle.dispatcher.proofs.report.Statement.statement M
  pub timer_fresh : Rattle.timer.proofs.fresh.Statement.statement M
  pub timer_read : Rattle.timer.proofs.read.Statement.statement M
  pub timer_write : Rattle.timer.proofs.write.Statement.statement M
  pub timer_event : Rattle.timer.proofs.event.Statement.statement M
  pub timer_serve : Rattle.timer.proofs.serve.Statement.statement M
  pub timer_report : Rattle.timer.proofs.report.Statement.statement M
  pub timer_line : Rattle.timer.proofs.line.Statement.statement M
  pub heater_link_fresh : Rattle.heater_link.proofs.fresh.Statement.statement M
  pub heater_link_serve : Rattle.heater_link.proofs.serve.Statement.statement M
  -- what the programs print
  pub listing_plan : Rattle.plan_listing.proofs.plan.Statement.statement M
  pub listing_refused : Rattle.plan_listing.proofs.refused.Statement.statement M
  pub flight_listing_list : Rattle.fly_listing.proofs.list.Statement.statement M
  pub timeline_listing_list : Rattle.timeline_listing.proofs.list.Statement.statement M
  -- the calls from C
  pub bus_plan : Rattle.bus.proofs.tables.bus_plan.Statement.statement M
  pub bus_decide : Rattle.bus.proofs.tables.bus_decide.Statement.statement M
  pub bus_check : Rattle.bus.proofs.tables.bus_check.Statement.statement M
  pub bus_rewrite : Rattle.bus.proofs.tables.bus_rewrite.Statement.statement M
  pub bus_one_off : Rattle.bus.proofs.tables.bus_one_off.Statement.statement M
  pub bus_join : Rattle.bus.proofs.requests.bus_join.Statement.statement M
  pub bus_cut : Rattle.bus.proofs.requests.bus_cut.Statement.statement M
  pub bus_phases : Rattle.bus.proofs.requests.bus_phases.Statement.statement M
  pub bus_fresh : Rattle.bus.proofs.dispatch.bus_fresh.Statement.statement M
  pub bus_next_frame : Rattle.bus.proofs.dispatch.bus_next_frame.Statement.statement M
  pub bus_report : Rattle.bus.proofs.dispatch.bus_report.Statement.statement M
  pub bus_draft_start : Rattle.bus.proofs.drafts.bus_draft_start.Statement.statement M
  pub bus_draft_lift : Rattle.bus.proofs.drafts.bus_draft_lift.Statement.statement M
  pub bus_draft_put : Rattle.bus.proofs.drafts.bus_draft_put.Statement.statement M
  pub bus_draft_write : Rattle.bus.proofs.drafts.bus_draft_write.Statement.statement M
  pub bus_timer_fresh : Rattle.bus.proofs.registers.bus_timer_fresh.Statement.statement M
  pub bus_timer_read : Rattle.bus.proofs.registers.bus_timer_read.Statement.statement M
  pub bus_timer_write : Rattle.bus.proofs.registers.bus_timer_write.Statement.statement M
  pub bus_timer_event : Rattle.bus.proofs.registers.bus_timer_event.Statement.statement M
  pub bus_timer_serve : Rattle.bus.proofs.registers.bus_timer_serve.Statement.statement M
  pub bus_timer_report : Rattle.bus.proofs.registers.bus_timer_report.Statement.statement M
  pub bus_timer_line : Rattle.bus.proofs.registers.bus_timer_line.Statement.statement M
  pub bus_heater_fresh : Rattle.bus.proofs.heater.bus_heater_fresh.Statement.statement M
  pub bus_heater_serve : Rattle.bus.proofs.heater.bus_heater_serve.Statement.statement M
  pub bus_timeline : Rattle.bus.proofs.timeline.bus_timeline.Statement.statement M

pub contracts_met : {M : Type 1} → EveryContract M
contracts_met = record {
  planner_plan = Rattle.planner.proofs.plan.Met.met;
  decider_decide = Rattle.decider.proofs.decide.Met.met;
  phases = Rattle.phases.proofs.phases.Met.met;
  checker_check = Rattle.checker.proofs.check.Met.met;
  rewriter_rewrite = Rattle.rewriter.proofs.rewrite.Met.met;
  one_off = Rattle.one_off.proofs.one_off.Met.met;
  job_records_fill = Rattle.job_records.proofs.fill.Met.met;
  request_read = Rattle.request.proofs.read.Met.met;
  cycle_read = Rattle.cycle.proofs.read.Met.met;
  request_writer_write = Rattle.request.proofs.write.write.Met.met;
  join = Rattle.join.proofs.join.Met.met;
  cut = Rattle.cut.proofs.cut.Met.met;
  draft_start = Rattle.draft.proofs.start.Met.met;
  draft_lift = Rattle.draft.proofs.lift.Met.met;
  draft_put = Rattle.draft.proofs.put.Met.met;
  draft_write = Rattle.draft.proofs.write.Met.met;
  dispatcher_fresh = Rattle.dispatcher.proofs.fresh.Met.met;
  dispatcher_next_frame = Rattle.dispatcher.proofs.next_frame.Met.met;
  dispatcher_report = Rattle.dispatcher.proofs.report.Met.met;
  timer_fresh = Rattle.timer.proofs.fresh.Met.met;
  timer_read = Rattle.timer.proofs.read.Met.met;
  timer_write = Rattle.timer.proofs.write.Met.met;
  timer_event = Rattle.timer.proofs.event.Met.met;
  timer_serve = Rattle.timer.proofs.serve.Met.met;
  timer_report = Rattle.timer.proofs.report.Met.met;
  timer_line = Rattle.timer.proofs.line.Met.met;
  heater_link_fresh = Rattle.heater_link.proofs.fresh.Met.met;
  heater_link_serve = Rattle.heater_link.proofs.serve.Met.met;
  listing_plan = Rattle.plan_listing.proofs.plan.Met.met;
  listing_refused = Rattle.plan_listing.proofs.refused.Met.met;
  flight_listing_list = Rattle.fly_listing.proofs.list.Met.met;
  timeline_listing_list = Rattle.timeline_listing.proofs.list.Met.met;
  bus_plan = Rattle.bus.proofs.tables.bus_plan.Met.met;
  bus_decide = Rattle.bus.proofs.tables.bus_decide.Met.met;
  bus_check = Rattle.bus.proofs.tables.bus_check.Met.met;
  bus_rewrite = Rattle.bus.proofs.tables.bus_rewrite.Met.met;
  bus_one_off = Rattle.bus.proofs.tables.bus_one_off.Met.met;
  bus_join = Rattle.bus.proofs.requests.bus_join.Met.met;
  bus_cut = Rattle.bus.proofs.requests.bus_cut.Met.met;
  bus_phases = Rattle.bus.proofs.requests.bus_phases.Met.met;
  bus_fresh = Rattle.bus.proofs.dispatch.bus_fresh.Met.met;
  bus_next_frame = Rattle.bus.proofs.dispatch.bus_next_frame.Met.met;
  bus_report = Rattle.bus.proofs.dispatch.bus_report.Met.met;
  bus_draft_start = Rattle.bus.proofs.drafts.bus_draft_start.Met.met;
  bus_draft_lift = Rattle.bus.proofs.drafts.bus_draft_lift.Met.met;
  bus_draft_put = Rattle.bus.proofs.drafts.bus_draft_put.Met.met;
  bus_draft_write = Rattle.bus.proofs.drafts.bus_draft_write.Met.met;
  bus_timer_fresh = Rattle.bus.proofs.registers.bus_timer_fresh.Met.met;
  bus_timer_read = Rattle.bus.proofs.registers.bus_timer_read.Met.met;
  bus_timer_write = Rattle.bus.proofs.registers.bus_timer_write.Met.met;
  bus_timer_event = Rattle.bus.proofs.registers.bus_timer_event.Met.met;
  bus_timer_serve = Rattle.bus.proofs.registers.bus_timer_serve.Met.met;
  bus_timer_report = Rattle.bus.proofs.registers.bus_timer_report.Met.met;
  bus_timer_line = Rattle.bus.proofs.registers.bus_timer_line.Met.met;
  bus_heater_fresh = Rattle.bus.proofs.heater.bus_heater_fresh.Met.met;
  bus_heater_serve = Rattle.bus.proofs.heater.bus_heater_serve.Met.met;
  bus_timeline = Rattle.bus.proofs.timeline.bus_timeline.Met.met;
}

-- R-3's test of a job in a frame, `searcher::may_stand`, is no call of a user. It requires what R-3 says: Testing of searcher/specs/Arrays, which has LoadsKept.
abbrev pub Tested : Type 1 → Type 2
Tested M = Rattle.searcher.proofs.may_stand.Statement.statement M

pub tested_met : {M : Type 1} → Tested M
tested_met = Rattle.searcher.proofs.may_stand.Met.met
