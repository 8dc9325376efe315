-- The names that Claims cites and where they stand: what its statements are made of, and the theorems that close them.
-- The kit
pub use Rattle.std.specs.Prelude.{ℕ, ◌+◌, ◌*◌, ◌%◌, ◌^◌, ◌≤◌, ◌<◌, min, ◌≡◌, Bool, true, ◌↔◌, ◌⊎◌, List, [], ◌∷◌, ◌++◌, map, length, get_or, take, pos}
pub use Rattle.std.specs.Int.{◌∣◌}
-- Request
pub use Rattle.cursor.specs.Fields.{Bytes}
pub use Rattle.cursor.specs.Written.{Written}
pub use Rattle.request.specs.declared.Task.{Task}
pub use Rattle.request.specs.declared.Pair.{Pair}
pub use Rattle.request.specs.Numbered.{Request}
pub use Rattle.request.specs.Request.{period_of, readable, unreadable, reading}
pub use Rattle.request.specs.Encode.{two_sections, request_bytes, SaysRequest}
pub use Rattle.request.specs.Answers.{request_answered}
pub use Rattle.request.specs.Exactly.{ReadExact}
pub use Rattle.request.specs.Theorem.{read_exact, read_alone}
pub use Rattle.request.specs.Readable.{Readable}
pub use Rattle.request.specs.ReadableLaws.{readable_kept}
pub use Rattle.request.specs.EncodeLaws.{read_encode, encode_read, cut_short, cut_before_third, too_long}
pub use Rattle.request.specs.Written.{request_answer, request_buffer}
-- Cycle and jobs
pub use Rattle.arith.specs.Gcd.{gcd_of}
pub use Rattle.arith.specs.GcdLaws.{gcd_dvd, dvd_gcd, gcd_greatest, gcd_zero, gcd_comm}
pub use Rattle.arith.specs.Lcm.{lcm_of}
pub use Rattle.arith.specs.LcmLaws.{dvd_lcm_left, dvd_lcm_right, lcm_dvd, lcm_least}
pub use Rattle.cycle.specs.Cycle.{hyperperiod, planned, cycle, no_cycle, cycle_of}
pub use Rattle.cycle.specs.declared.Job.{Job}
pub use Rattle.cycle.specs.Numbered.{Cycle, cycle_numbered}
pub use Rattle.cycle.specs.Exactly.{CycleExact}
pub use Rattle.cycle.specs.Theorem.{cycle_exact, cycle_alone}
pub use Rattle.cycle.specs.Planned.{IsJob, InPlanningOrder}
pub use Rattle.cycle.specs.Limits.{WithinLimits}
pub use Rattle.cycle.specs.PlannedLaws.{planned_in_order}
pub use Rattle.cycle.specs.LimitLaws.{cycle_within, readable_periodic, hyperperiod_divides, hyperperiod_least}
pub use Rattle.cycle.specs.Silent.{SameCycle}
pub use Rattle.cycle.specs.SilentLaws.{cycle_same}
-- Plans and the choice
pub use Rattle.search.specs.Placing.{has_room, LoadsKept, fits, window_start, frame_count}
pub use Rattle.model.specs.Plan.{Instance, rows_at, task_at, job_at, costs, Capacity, InWindow, IsPlan}
pub use Rattle.model.specs.Plausible.{phase_rule, common_rule, plausible_by, plausible, WindowsHold, Needed}
pub use Rattle.model.specs.Within.{Within, WithinExact}
pub use Rattle.model.specs.WithinLaws.{within_good, within_exactly}
pub use Rattle.model.specs.Silent.{SilentCounts}
pub use Rattle.model.specs.SilentLaws.{silent_counts}
pub use Rattle.model.specs.PhaseExact.{phase_exact}
pub use Rattle.model.specs.PlausibleLaws.{plausible_needed}
pub use Rattle.model.specs.Chosen.{chosen, choose, IsChosen, RightChoice, problem_at}
pub use Rattle.model.specs.ChosenLaws.{choose_right, chosen_exactly, some_chosen_exactly}
pub use Rattle.model.specs.MayStand.{MayStand}
pub use Rattle.model.specs.MayStandLaws.{frames_walked, passed_over}
pub use Rattle.model.specs.Described.{Describes, Accepted}
-- Table, check and rewriting
pub use Rattle.table.specs.Table.{Table, table, encode, decode}
pub use Rattle.table.specs.TableBytes.{SaysTable}
pub use Rattle.table.specs.TableBytesLaws.{decodes_says, says_decodes}
pub use Rattle.checker.specs.Checked.{check_number, checked_by, checked, accepted}
pub use Rattle.checker.specs.Accepts.{accepts_described}
pub use Rattle.checker.specs.Exactly.{CheckExact}
pub use Rattle.checker.specs.ExactlyLaws.{check_exact}
pub use Rattle.checker.specs.Moved.{Moves}
pub use Rattle.checker.specs.MovedLaws.{verdict_moved}
pub use Rattle.rewriter.specs.Rewritten.{rewritten}
pub use Rattle.rewriter.specs.Exactly.{RewriteExact}
pub use Rattle.rewriter.specs.Theorem.{rewrite_exact, rewrite_alone}
pub use Rattle.rewriter.specs.SameBytes.{reads_back}
pub use Rattle.rewriter.specs.ReadBack.{ReadsBack}
pub use Rattle.rewriter.specs.ReadBackLaws.{planned_reads_back}
-- Planning
pub use Rattle.plan_writer.specs.Outcome.{refusal, outcome_answer, outcome_buffer}
pub use Rattle.planner.specs.Outcome.{outcome, request_tries, outcome_within, searched_answer, outcome_by, program_outcome}
pub use Rattle.planner.specs.Handed.{SomePlan, Handed, Counted, NumberIs, BufferIs}
pub use Rattle.planner.specs.HandedLaws.{table_handed, tries_counted, larger_allowance, not_planned}
pub use Rattle.planner.specs.HandedBytes.{handed_bytes}
pub use Rattle.planner.specs.CapacityLaws.{capacity_put, capacity_by_loads}
pub use Rattle.planner.specs.Moved.{outcome_now, outcome_moved}
pub use Rattle.decider.specs.Decided as decider
pub use Rattle.decider.specs.DecidedLaws as deciding
-- Dispatching and the flight
pub use Rattle.dispatcher.specs.declared.State.{State}
pub use Rattle.dispatcher.specs.Dispatch.{fresh_state, next_frame, reported}
pub use Rattle.dispatcher.specs.Exactly.{NextExact, ReportExact}
pub use Rattle.dispatcher.specs.ReportLaws.{report_silent}
pub use Rattle.dispatcher.specs.NextTheorem.{next_exact, next_alone}
pub use Rattle.dispatcher.specs.ReportTheorem.{report_exact, report_alone}
pub use Rattle.flight.specs.Calls.{Call, dispatch, final}
pub use Rattle.flight.specs.Timing.{KeepToC}
pub use Rattle.flight.specs.Overruns.{overruns}
pub use Rattle.flight.specs.Counted.{overruns_counted}
pub use Rattle.flight.specs.Flight.{frames_flown, Flight, Flies}
pub use Rattle.flight.specs.Theorem.{flight}
pub use Rattle.flight.specs.Joined.{checked_flight, planned_flight}
pub use Rattle.flight_in_c.specs.CallsInC.{CheckedInC, PlannedInC}
pub use Rattle.flight_in_c.specs.InC.{flight_in_c_lem, planned_in_c}
pub use Rattle.calls_in_c.specs.TimerInC.{TimerInC}
pub use Rattle.calls_in_c.specs.TimerInCLaws.{timer_in_c}
pub use Rattle.calls_in_c.specs.HeaterInC.{HeaterInC}
pub use Rattle.calls_in_c.specs.HeaterInCLaws.{heater_in_c}
pub use Rattle.calls_in_c.specs.DraftInC.{DraftInC}
pub use Rattle.calls_in_c.specs.DraftInCLaws.{draft_in_c}
-- Bench sheet and what the programs print
pub use Rattle.bench_sheet.specs.Sheet.{SheetHolds, SheetMoved, SheetTries}
pub use Rattle.bench_sheet.specs.SheetLaws.{sheet_holds}
pub use Rattle.bench_sheet.specs.Listed.{Listed}
pub use Rattle.bench_sheet.specs.ListedLaws.{listed}
pub use Rattle.bench_sheet.specs.Silent.{SilentLine, silent_sheet}
pub use Rattle.bench_sheet.specs.SilentLaws.{silent_sheet_holds}
pub use Rattle.text.specs.Text.{NeverCut}
pub use Rattle.plan_listing.specs.Listing.{listing}
pub use Rattle.plan_listing.specs.ShortLaws.{listing_short, listing_whole}
pub use Rattle.fly_listing.specs.Flown.{flight_listing}
pub use Rattle.fly_listing.specs.ShortLaws.{flight_short, flight_whole}
-- R-4, R-6, R-8, R-9
pub use Rattle.join.specs.Joined.{joined}
pub use Rattle.join.specs.Exactly.{JoinExact}
pub use Rattle.join.specs.Theorem.{join_exact, join_alone, join_enough}
pub use Rattle.one_off.specs.Exactly.{OneOffExact}
pub use Rattle.one_off.specs.ExactlyLaws.{one_off_exact}
pub use Rattle.flight_one_off.specs.Sent.{OneOffSent}
pub use Rattle.flight_one_off.specs.SentLaws.{one_off_sent}
pub use Rattle.flight_spacing.specs.Spacing.{Spacing, Spaced, SuccessiveMeans, ApartWhile}
pub use Rattle.flight_spacing.specs.SpacingLaws.{spacing}
pub use Rattle.flight_spacing.specs.Joined.{checked_spacing, planned_spacing}
pub use Rattle.flight_spacing.specs.SuccessiveLaws.{successive_means}
pub use Rattle.flight_spacing.specs.WhileLaws.{spacing_while}
pub use Rattle.flight_spacing.specs.Reached.{Reached}
pub use Rattle.flight_spacing.specs.ReachedLaws.{reached}
pub use Rattle.cut.specs.Cut.{cut}
pub use Rattle.cut.specs.Exactly.{CutExact}
pub use Rattle.cut.specs.Theorem.{cut_exact, cut_enough}
pub use Rattle.cut.specs.Example as cut_example
pub use Rattle.cut.specs.ExampleLaws as cut_example_laws
pub use Rattle.flight_cut.specs.Pieces.{CheckedPieces, PlannedPieces}
pub use Rattle.flight_cut.specs.Theorem.{pieces_run, planned_pieces_run}
-- R-10 to R-14
pub use Rattle.draft.specs.Kept.{SoundTheorem}
pub use Rattle.draft.specs.SoundLaws.{sound_theorem}
pub use Rattle.draft_moves.specs.Exactly.{StartTheorem, LiftTheorem, PutTheorem, WriteTheorem, SumTheorem, PlanTheorem}
pub use Rattle.draft_moves.specs.Moves.{MovesTheorem, SameBytesTheorem}
pub use Rattle.draft_moves.specs.ExactLaws.{lift_theorem, put_theorem}
pub use Rattle.draft_moves.specs.WrittenLaws.{write_theorem, plan_theorem}
pub use Rattle.draft_moves.specs.StartLaws.{start_theorem}
pub use Rattle.draft_moves.specs.StartLaws as draft_start
pub use Rattle.draft_moves.specs.MoveTheorem.{moves_theorem}
pub use Rattle.draft_moves.specs.SumsAre.{sum_theorem}
pub use Rattle.phases.specs.Exactly.{PhasesExact, HowManyMeans, OwnPhaseTheorem, LargerTheorem}
pub use Rattle.phases.specs.Theorem.{phases_exact, how_many_means, own_phase_theorem, larger}
pub use Rattle.flight_timer.specs.Told.{RegistersTold}
pub use Rattle.flight_timer.specs.ToldLaws.{registers_told}
pub use Rattle.flight_timer.specs.InTime.{TimerFlight}
pub use Rattle.flight_timer.specs.InTimeLaws.{timer_flight}
pub use Rattle.heater_link.specs.Calls.{LinkHolds}
pub use Rattle.heater_link.specs.Theorem.{link_law}
pub use Rattle.heater_link.specs.Exactly.{LinkExact}
pub use Rattle.heater_link.specs.ExactlyLaws.{link_exact}
pub use Rattle.flight_heater.specs.Flown.{LinkFlight}
pub use Rattle.flight_heater.specs.FlownLaws.{link_flies}
pub use Rattle.job_records.specs.Exactly.{TimelineExact}
pub use Rattle.job_records.specs.Theorem.{timeline_exact}
pub use Rattle.timeline_listing.specs.Printed.{timeline_text, TimelinePrinted}
pub use Rattle.timeline_listing.specs.Theorem.{timeline_printed}
pub use Rattle.timeline_listing.specs.ShortLaws.{timeline_short, timeline_whole}
-- From C
pub use Rattle.bus_laws.specs.Trips.{StateRoundTrip, DraftRoundTrip, DraftsRead}
pub use Rattle.bus_laws.specs.TimerRoundTrip.{TimerRoundTrip}
pub use Rattle.bus_laws.specs.HeaterBack.{HeaterRoundTrip}
pub use Rattle.bus_laws.specs.Changed.{FrameChanges, ReportChanges}
pub use Rattle.bus_laws.specs.Tries.{TriesBack}
pub use Rattle.bus_laws.specs.PhaseCounts.{PhasesBack}
pub use Rattle.bus_laws.specs.Records.{RecordsBack}
pub use Rattle.bus_laws.specs.Decides.{ReachedSame, AnsweredSame, PlanPasses, DecidePasses}
pub use Rattle.bus_laws.specs.RoundTrip.{state_round_trip}
pub use Rattle.bus_laws.specs.DraftTrip.{draft_round_trip, drafts_read}
pub use Rattle.bus_laws.specs.TimerRoundTripLaws.{timer_round_trip}
pub use Rattle.bus_laws.specs.HeaterBackLaws.{heater_round_trip}
pub use Rattle.bus_laws.specs.ChangedLaws.{frame_changes, report_changes}
pub use Rattle.bus_laws.specs.TriesLaws.{tries_back}
pub use Rattle.bus_laws.specs.PhaseCountLaws.{phases_told}
pub use Rattle.bus_laws.specs.RecordLaws.{records_back}
pub use Rattle.bus_laws.specs.DecideLaws.{same_reached, same_answered, decide_passes}
pub use Rattle.bus_laws.specs.Answered.{plan_passes}
