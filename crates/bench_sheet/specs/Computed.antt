-- The definitions that a line of a sheet computes with. To unfold one of these names is to unfold all that its list names.
use Rattle.std.specs.Prelude.{ℕ}
use mathlib.Core.List.{flat_map}
use Rattle.cursor.specs.Parsed.{records}
use Rattle.cursor.specs.Fields.{byte_of, word_of, word_bytes}
use Rattle.cursor.specs.Padded.{padded}
use Rattle.arith.specs.Gcd.{gcd_of, gcd_steps}
use Rattle.arith.specs.Lcm.{lcm_of}
use Rattle.request.specs.Request.{task_rule, judged_task, task_of, tasks_of, pair_rule, judged_pair, pair_of, pairs_of, silent_of, reading}
use Rattle.request.specs.Encode.{task_bytes, pair_bytes, section_bytes, silent_bytes, request_bytes}
use Rattle.cycle.specs.Cycle.{lcm_with, hyperperiod, jobs_in, job_of, all_jobs, before, insert, in_order, planned, cycle_of}
use Rattle.search.specs.Search.{go_on, one_try, walk_frames, walk}
use Rattle.search.specs.Placing.{row_sum, all_kept, fits, plan_walk}
use Rattle.model.specs.Window.{first_from}
use Rattle.model.specs.Plan.{slot, cost_of, costs}
use Rattle.model.specs.Plausible.{common_rule, phase_rule, frame_rule, frame_rules, plausible_by}
use Rattle.model.specs.Named.{is_job}
use Rattle.model.specs.Links.{place_from, place_before, link_if, link_by, links_by, links_of_job, all_links, in_places, link_counts, link_places}
use Rattle.model.specs.Chosen.{first_frame_of, end_frame_of, problem_at, is_tried_by, go_on_lengths, walk_lengths_by, choose_walk_by}
use Rattle.model.specs.Described.{row_for, entry_for, places_by_task, places_in, plan_table}
use Rattle.planner.specs.Outcome.{outcome, request_tries, outcome_within}

-- a request's bytes, written and read
unfoldable pub request_open : ℕ
unfolding reading tasks_of task_of judged_task task_rule pairs_of pair_of judged_pair pair_rule silent_of records byte_of word_of
    request_bytes section_bytes task_bytes pair_bytes silent_bytes word_bytes flat_map
request_open = 0

-- and planned
unfoldable pub planning_open : ℕ
unfolding request_open outcome request_tries outcome_within cycle_of
    is_tried_by problem_at first_frame_of end_frame_of first_from costs cost_of slot plausible_by frame_rules frame_rule phase_rule common_rule
    link_counts link_places in_places all_links links_of_job links_by link_by link_if place_before place_from is_job padded
    choose_walk_by walk_lengths_by go_on_lengths plan_walk walk walk_frames one_try go_on fits all_kept row_sum
    planned in_order insert before all_jobs job_of jobs_in hyperperiod lcm_with lcm_of gcd_of gcd_steps
    plan_table places_in places_by_task entry_for row_for
planning_open = 0
