-- Every public promise, once, beside the sentence of the papers that it renders (01 is the scope, 02 the change requests). A record states the promises
-- of a demand, or of R-1 to R-14; below it each is closed by name: `promise = theorem`. Where each name stands: Claims/Cited. A guide: docs/READING.md.
mod Cited
use Cited.*
mod Contracts
use Contracts.{EveryContract, Tested, contracts_met, tested_met}

-- of the tasks of every request that can be read
abbrev pub OfReadable : (List Task → Type 0) → Type 0
OfReadable Says = (bytes : List ℕ) (tasks : List Task) (pairs : List Pair) (g : ℕ) → reading bytes ≡ readable tasks pairs g → Says tasks

-- of every request within the limits, and what is planned for it
abbrev pub OfWithin : (List ℕ → Instance → Type 0) → Type 0
OfWithin Says = (request : List ℕ) (x : Instance) → Within request x → Says request x

-- of every table that the check answers 0 to; and of the bytes that planning hands out, whatever it is allowed
abbrev pub OfAccepted : (List ℕ → List ℕ → Type 0) → Type 0
OfAccepted Says = ((request bytes : List ℕ) → Bytes bytes → check_number request bytes ≡ 0 → Says request bytes)
    × ((allowance : ℕ) (request out : List ℕ) → (searched_answer allowance request out).refusal ≡ 0 → Says request (handed_bytes allowance request out))

-- of every list of calls with a table that is accepted for a request within the limits, and all actual times
abbrev pub OfCalls : (Instance → List ℕ → Table → List Call → (ℕ → ℕ → ℕ) → Type 0) → Type 0
OfCalls Says = (request bytes : List ℕ) (x : Instance) (t : Table) → Within request x → decode bytes ≡ table t → Accepted x t
    → (calls : List Call) (actual : ℕ → ℕ → ℕ) → Says x bytes t calls actual

-- 01: "this paper leaves no answer free.": what is said so is true of one answer only, or of one answer and one buffer
abbrev pub OneAnswer : {A : Type 0} → (A → Type 0) → Type 0
OneAnswer {A} Says = (x y : A) → Says x → Says y → x ≡ y

abbrev pub OneWritten : (Written → List ℕ → Type 0) → Type 0
OneWritten Says = (x y : Written) (b c : List ℕ) → Says x b → Says y c → (x ≡ y) × (b ≡ c)

-- DEMAND 1: every entry point ends, stays inside its buffers, refuses by the papers' numbers, and leaves a lent buffer unchanged when it refuses.
-- 01: "every public call states an equation for its answer and for the bytes and state afterwards, refusals included; this paper leaves no answer free."
pub demand_1 : {M : Type 1} → EveryContract M
demand_1 = contracts_met

-- DEMAND 2: reading, cycle, jobs, lengths, table, check and dispatcher are the papers'.
pub record Demand2 : Type 0 where
  -- 01: "Places are visited in this order; reading judges each count and record as it is met, from the front."
  -- Which number, exactly, or what the bytes say; and no other answer.
  pub request_answers : (bytes : List ℕ) → ReadExact bytes (request_answered (reading bytes))
      × ((r : Request) → ReadExact bytes r → r ≡ request_answered (reading bytes))
  -- 01: "Sections stand in a fixed order, each after its count."
  pub request_read_back : (tasks : List Task) (pairs : List Pair) (g : ℕ) → Readable tasks pairs → g ≤ 15
      → reading (request_bytes tasks pairs g) ≡ readable tasks pairs g
  -- 01: 1 "bytes end inside a section or before its count", 6 "bytes follow the last pair"; R-1: "A file that ends after its pairs means g = 0"
  pub request_bytes_are : (bytes : List ℕ) (tasks : List Task) (pairs : List Pair) (g : ℕ) → reading bytes ≡ readable tasks pairs g → Bytes bytes
      → let two = length (two_sections tasks pairs) in SaysRequest bytes tasks pairs g
      × ((j : ℕ) → j < length bytes → (j ≡ two → ⊥) → reading (take j bytes) ≡ unreadable 1) × (reading (take two bytes) ≡ readable tasks pairs 0)
      × (two < length bytes → (b : ℕ) (rest : List ℕ) → reading (bytes ++ (b ∷ rest)) ≡ unreadable 6)
  -- 01: "the greatest common divisor (gcd) falls to the remainder pair until one is 0", "least common multiple"
  pub gcd_is : (a b d : ℕ) → ((gcd_of a b ∣ a) × (gcd_of a b ∣ b)) × (d ∣ a → d ∣ b → d ∣ gcd_of a b) × (0 < a → d ∣ a → d ∣ b → d ≤ gcd_of a b)
      × (gcd_of a 0 ≡ a) × (gcd_of a b ≡ gcd_of b a)
  pub lcm_is : (a b m : ℕ) → (a ∣ lcm_of a b) × (b ∣ lcm_of a b) × (0 < a → a ∣ m → b ∣ m → lcm_of a b ∣ m) × (0 < a → 0 < m → a ∣ m → b ∣ m → lcm_of a b ≤ m)
  -- 01: "H is the least common multiple of all T (000, 002, 003, 004), at most 10,000."; "The due time may pass H. There are at most 128 jobs in all."
  pub hyperperiod_is_least : OfReadable (λ tasks. ((i : ℕ) → i < length tasks → period_of tasks i ∣ hyperperiod tasks)
      × ((m : ℕ) → 0 < m → ((i : ℕ) → i < length tasks → period_of tasks i ∣ m) → hyperperiod tasks ≤ m))
  pub cycle_keeps : (bytes : List ℕ) (tasks : List Task) (pairs : List Pair) (g h : ℕ) (jobs : List Job)
      → cycle_of bytes ≡ cycle tasks pairs g h jobs → WithinLimits tasks pairs h jobs
  -- 01: 7 "H above 10,000", 8 "more than 128 jobs": which number, exactly, or the cycle; and no other answer
  pub cycle_answers : (bytes : List ℕ) → CycleExact bytes (cycle_numbered (cycle_of bytes)) × ((c : Cycle) → CycleExact bytes c → c ≡ cycle_numbered (cycle_of bytes))
  -- 01: "A request is within the limits if its bytes have the form under Request file with no bytes behind it, H is at most 10,000 and .. 128 jobs."
  pub within_is : (request : List ℕ) → WithinExact request
  -- 01: "Task i has jobs j = 0 to H/T − 1, released at r = P + j·T, due at r + D."; "Jobs are ordered by release, then task number."
  pub jobs_in_order : OfReadable (λ tasks. (h : ℕ) → InPlanningOrder tasks h (planned tasks h))
  -- 01: "Sizes: the byte 02, then f and H as u16. Rows: F as u16, then for each row a byte count 0 to 16 and that many entries."
  pub table_read_back : (bytes : List ℕ) (t : Table) → Bytes bytes → (decode bytes ≡ table t) ↔ SaysTable bytes t
  -- 01: "the check accepts exactly the tables that describe a plan, of any f and not only the chosen one."
  pub check_accepts : (request bytes : List ℕ) (x : Instance) (t : Table) → Within request x → decode bytes ≡ table t → (f : ℕ) (frames : List ℕ)
      → (checked (cycle_of request) (decode bytes) ≡ accepted f frames) ↔ (IsPlan x f frames × Describes x f frames t)
  -- 01: 12 "not the form above", 13 "H not the request's, or f not plausible", 14 "not a plan": which number, exactly
  pub check_answers : (request bytes : List ℕ) → Bytes bytes → CheckExact request bytes
  -- 01: "Next-frame answers the row's entries, leaving out carried ones while the mark is set, ..": 12, 15, each place and the whole state, exactly
  pub next_frame_answers : (bytes : List ℕ) → Bytes bytes → (s : State) → NextExact bytes s (next_frame (decode bytes) s) × OneAnswer (NextExact bytes s)
  -- 01: "Rewriting takes a request and a table, checks them, and writes the plan it read.": the check's numbers, then 11, and every byte, exactly
  pub rewriting_answers : (request bytes out : List ℕ) → Bytes bytes → let r = rewritten request bytes in
      RewriteExact request bytes out (outcome_answer r out) (outcome_buffer r out) × OneWritten (RewriteExact request bytes out)
  pub plan_read_back : OfWithin (λ request x. (f : ℕ) (frames : List ℕ) → IsPlan x f frames → (t : Table) → Describes x f frames t
      → checked (cycle_of request) (decode (encode t)) ≡ accepted f frames)
  pub planning_read_back : (allowance : ℕ) (request out : List ℕ) → (searched_answer allowance request out).refusal ≡ 0
      → ReadsBack request (handed_bytes allowance request out)
  -- 01: "P1 to P12 are proved as one table, with a single theorem over the definitions."; for P1 "it prints", and for P7 and P2
  pub bench_sheet : SheetHolds × Listed
  -- 01: "prints `refused N`, or a line `frame f cycle H rows F` and a line for each row": no listing of `plan` or `fly` is cut
  pub listings_whole : (request : List ℕ) → NeverCut 4096 (listing request) × NeverCut 65536 (flight_listing request)

pub demand_2 : Demand2
demand_2 = record {
  request_answers = λ bytes. (read_exact bytes, read_alone bytes);
  request_read_back = read_encode;
  request_bytes_are = λ b ts ps g e are. (encode_read b ts ps g e are, cut_short b ts ps g e are, cut_before_third b ts ps g e are, too_long b ts ps g e are);
  gcd_is = λ a b d. (gcd_dvd a b, dvd_gcd d a b, gcd_greatest d a b, gcd_zero a, gcd_comm a b);
  lcm_is = λ a b m. (dvd_lcm_left a b, dvd_lcm_right a b, lcm_dvd a b m, lcm_least a b m);
  hyperperiod_is_least = λ b ts ps g e. (hyperperiod_divides ts, λ m some. hyperperiod_least ts m some (readable_periodic ts ps (readable_kept b ts ps g e)));
  cycle_keeps = cycle_within;
  cycle_answers = λ bytes. (cycle_exact bytes, cycle_alone bytes);
  within_is = within_exactly;
  jobs_in_order = λ b ts ps g e h. planned_in_order ts h (readable_periodic ts ps (readable_kept b ts ps g e));
  table_read_back = λ bytes t are. (decodes_says bytes t are, says_decodes bytes t);
  check_accepts = accepts_described;
  check_answers = check_exact;
  next_frame_answers = λ bytes are s. (next_exact bytes are s, next_alone bytes are s);
  rewriting_answers = λ request bytes out are. (rewrite_exact request bytes are out, rewrite_alone request bytes are out);
  plan_read_back = reads_back;
  planning_read_back = planned_reads_back;
  bench_sheet = (sheet_holds.0, listed);
  listings_whole = λ request. ((listing_short request, listing_whole request), (flight_short request, flight_whole request));
}

-- DEMAND 3: a table exactly when there is a plan, and the whole flight.
pub record Demand3 : Type 0 where
  -- 01: "This is necessary for a plan and not enough for one, even by windows alone, once phases count."
  pub plausible_is_necessary : OfWithin (λ request x. Needed phase_rule x)
  -- 01: "The table is that of the first length with a plan, and of its plans the one whose job is in the earlier frame at the first .."
  pub choice_is_right : OfWithin (λ request x. RightChoice x (choose x) × ((f : ℕ) (frames : List ℕ) → (choose x ≡ chosen f frames) ↔ IsChosen x f frames)
      × (((f : ℕ) × (frames : List ℕ) × (choose x ≡ chosen f frames)) ↔ SomePlan x))
  -- R-7: "Handing out a table exactly when a plan exists holds if the allowance reaches the full search's tries."; which number otherwise, 23 among them
  pub planning_answers : (allowance : ℕ) (request out : List ℕ) (x : Instance) → Within request x → Handed x allowance request out
  -- 01: "A refusal returns its number, length 0 or no entries, the state unchanged and the buffer untouched.": of a request outside the limits
  pub planning_refuses : (allowance : ℕ) (request out : List ℕ) (number : ℕ) → cycle_of request ≡ no_cycle number
      → (searched_answer allowance request out ≡ record { refusal = number; length = 0; tries = 0 }) × BufferIs allowance request out out
  -- 01: "The claim is about the list as a whole: one theorem, not a law for each call."
  pub whole_flight : OfCalls (λ x bytes t calls actual. KeepToC x (frames_flown bytes calls) actual → Flight x bytes t calls actual)
  -- 01: "Every next-frame call gets the one accepted table.": of what the public calls accept and hand out
  pub accepted_flies : OfAccepted Flies

pub demand_3 : Demand3
demand_3 = record {
  plausible_is_necessary = λ request x w. plausible_needed x (within_good request x w);
  choice_is_right = λ request x w. let good = within_good request x w in (choose_right x good, chosen_exactly x good, some_chosen_exactly x good);
  planning_answers = table_handed;
  planning_refuses = not_planned;
  whole_flight = flight;
  accepted_flies = (checked_flight, planned_flight);
}

-- 02. R-3: "whenever a job is tested in a frame, each kept load equals the sum of C + g over the jobs then placed in its row": what the test asks.
pub tested_with_kept_loads : {M : Type 1} → Tested M
tested_with_kept_loads = tested_met

pub record Requests : Type 0 where
  -- R-1: "In capacity, and in f ≥ C, each C counts as C + g.": a request is planned as the one with every C as C + g and with no silent ticks
  pub silent_ticks_count : OfWithin (λ request x. SilentCounts x)
  -- and in nothing else: where two requests differ in g alone, the cycle and its jobs are the same, and a report is answered alike
  pub silent_ticks_else : SameCycle × ((tasks : List Task) (pairs : List Pair) (g k task ticks : ℕ) (s : State)
      → reported (readable tasks pairs g) task ticks s ≡ reported (readable tasks pairs k) task ticks s)
  -- R-1: "It refuses with 17, after 5 and before 6": computed; the rest stands in ReadExact and Flight
  pub silent_ticks : map (λ (l : SilentLine). program_outcome l.bytes) silent_sheet ≡ map (λ (l : SilentLine). l.comes_to) silent_sheet
  -- R-2: "a task's count is the number of its accepted reports above C, or 65,535 if there were more."
  pub overruns_are_counted : (i : ℕ) (bytes : List ℕ) → i < 16 → (calls : List Call)
      → get_or (final (dispatch bytes) fresh_state calls).counts i 0 ≡ min 65535 (overruns i calls)
  -- R-2: "keeps a count for each of 16 tasks"; "A report raises only its own task's count.": each number and the whole state, exactly
  pub report_answers : (request : List ℕ) (task ticks : ℕ) (s : State) → length s.counts ≡ 16
      → ReportExact request task ticks s (reported (reading request) task ticks s) × OneAnswer (ReportExact request task ticks s)
  -- R-3: "the capacity test uses that load, f and the job's own C + g alone": its answers come to a plan's capacity rule
  pub tested_by_load : (x : Instance) (f : ℕ) (frames load : List ℕ) (k : ℕ) → 0 < rows_at x f → LoadsKept (problem_at x f) frames load → Capacity x f frames
      → has_room (get_or load (k % rows_at x f) 0) f (get_or (costs x) (length frames) 0) ≡ true → Capacity x f (frames ++ (k ∷ []))
  pub capacity_is_by_loads : (x : Instance) (f : ℕ) (frames load : List ℕ) → LoadsKept (problem_at x f) frames load
      → Capacity x f frames ↔ ((r : ℕ) → r < rows_at x f → get_or load r 0 ≤ f)
  -- R-4: "It refuses with 18 more than 16 tasks, then 19 more than 16 pairs, then 20 differing g.": each number, every task, pair and byte of the file
  pub joining_answers : (first second out : List ℕ) → let r = joined (reading first) (reading second) in
      JoinExact first second out (request_answer r out) (request_buffer r out) × OneWritten (JoinExact first second out)
  pub joining_has_room : (first second out : List ℕ) → 164 ≤ length out → (request_answer (joined (reading first) (reading second)) out).refusal ≡ 11 → ⊥
  -- R-5: "For an f that divides H, a task passes exactly if each of its windows holds a whole frame."
  pub frame_test_is_exact : OfWithin (λ request x. (f : ℕ) → f ∣ x.h → (i : ℕ) → i < length x.tasks
      → (phase_rule f (task_at x i) ≡ true) ↔ WindowsHold x f i)
  -- R-5: "(3,10,5,2) moves from 10 to 9." "No table handed out changes."; in the check 14 moves to 13
  pub planning_moved : (request : List ℕ) → (outcome_by phase_rule request ≡ outcome request)
      × ((outcome_by common_rule request ≡ outcome request) ⊎ ((outcome_by common_rule request ≡ refusal 10) × (outcome request ≡ refusal 9)))
  pub check_moved : (request bytes : List ℕ)
      → Moves (checked_by (plausible_by common_rule) (cycle_of request) (decode bytes)) (checked (cycle_of request) (decode bytes))
  pub bench_sheet_moved : SheetMoved
  -- R-6: "answer the earliest frame k with k·f ≥ s, (k+1)·f ≤ e and enough unused time in its row for L + g."
  pub one_off_answers : (request bytes : List ℕ) (L s e : ℕ) → Bytes bytes → OneOffExact request bytes L s e
  -- R-6: "Ground wants to send a single extra frame of payload data.": in flight it is sent in time, and no entry moves
  pub one_off_is_sent : OneOffSent
  -- R-7: "one try is one job tested in one frame of its window, passed over or not"
  pub frames_of_window : OfWithin (λ request x. (f : ℕ) → plausible x f ≡ true → (y k : ℕ) → y < length x.jobs
      → ((window_start (problem_at x f) y ≤ k) × (k < window_start (problem_at x f) y + frame_count (problem_at x f) y)) ↔ InWindow f (job_at x y).release (job_at x y).due k)
  -- R-7: "It passes over a frame whose row would exceed f or that breaks a pair with a job already placed"
  pub frame_passed_over : OfWithin (λ request x. (f : ℕ) (p : List ℕ) (k : ℕ) → length p < length x.jobs
      → (fits (problem_at x f) p k ≡ true) ↔ MayStand x f p k)
  -- R-7: "The count is 0 with 1 to 9 and 17, the allowance with 23, and otherwise the full search's tries."
  pub tries_are_counted : (allowance : ℕ) (request out : List ℕ) (x : Instance) → Within request x → Counted x allowance request out
  pub bench_sheet_tries : SheetTries
  -- R-7: "A larger allowance never turns a table, 9 or 10 into another answer."
  pub larger_allowance_keeps : (a b : ℕ) → a ≤ b → (request out : List ℕ) → (NumberIs a request out 23 → ⊥)
      → (searched_answer b request out ≡ searched_answer a request out) × BufferIs b request out (outcome_buffer (outcome_within a request) out)
  -- R-8: "the starts of two successive jobs of one task are at least T − (D − C) and at most T + (D − C) ticks apart, for every list of calls"
  pub readings_spaced : OfCalls (λ x bytes t calls actual. KeepToC x (frames_flown bytes calls) actual → Spacing x bytes t calls actual) × OfAccepted Spaced
  -- R-8: "two successive jobs of one task"; "while transfers keep to their C": of what was served before the later start; neither bound can be better
  pub successive_is : OfWithin (λ request x. (i j q : ℕ) → IsJob x.tasks x.h i j → SuccessiveMeans x i j q)
  pub spaced_while : OfCalls ApartWhile × Reached
  -- R-9: "writes the request with task i replaced by tasks i and i + 1 of lengths u and C − u and the same T, D and P": each number, place by place
  pub cutting_answers : (request : List ℕ) (i u : ℕ) (out : List ℕ) → CutExact request i u out
  pub cutting_has_room : (request : List ℕ) (i u : ℕ) (out : List ℕ) → 164 ≤ length out → (request_answer (cut i u (reading request)) out).refusal ≡ 11 → ⊥
  -- R-9: "A table for the cut request runs both pieces, in order, inside the old window."; "P2 cut at 4 gives P3."
  pub pieces_run_both : CheckedPieces × PlannedPieces × cut_example.Examples
  -- R-10: "It refuses with 26 a draft whose frame length is not plausible, .., then with 27 .., then with 28 ..": each answer of each call, exactly
  pub drafts_answer : StartTheorem × LiftTheorem × PutTheorem × WriteTheorem
  -- R-10: "After every list of them on a started draft, all under the request it started with, each stored load equals its row's sum. A draft with no job
  -- lifted writes the table of exactly its frame length and frames, which the check accepts"; what a sound draft, a row's sum and a plan held are
  pub drafts_keep : MovesTheorem × SameBytesTheorem × SoundTheorem × SumTheorem × PlanTheorem
  -- R-11: "The four counts add up to T, and each is the number of phases with that answer. An unknown task gives 16, after 8."
  pub phases_answer : ((allowance : ℕ) (request : List ℕ) (i : ℕ) → PhasesExact allowance request i) × ((test : ℕ → Bool) (n : ℕ) → HowManyMeans test n)
      × OwnPhaseTheorem × LargerTheorem
  -- R-12: "1: status, bit 0 frame due, bit 1 overrun, bit 2 frame missed": each register after every list of register calls
  -- "The timing guarantee holds for every list of calls in which run is set before the first timer event and stays set, .."
  pub timer_tells : RegistersTold × TimerFlight
  -- R-13: "For every list of served frames and every pattern of losses, toggles done equal commands answered, or exceed them by one .."
  -- "It refuses with 30, after the check's numbers and before 15, when a, b is no pair of the request."; over one accepted table the frames are the flight's
  pub link_holds : LinkHolds × LinkExact × LinkFlight
  -- R-14: "the first ones are filled in planning order, one for each job; the answer holds their number, and records behind them keep their content."
  -- "prints `refused N` or the records one a line, .. then `busy B`, where B is the sum of C over the printed jobs"
  pub timeline_tells : TimelineExact × TimelinePrinted × ((request : List ℕ) → NeverCut 4096 (timeline_text request))

pub requests : Requests
requests = record {
  silent_ticks_count = λ request x w. silent_counts x (within_good request x w);
  silent_ticks_else = (cycle_same, report_silent);
  silent_ticks = silent_sheet_holds;
  overruns_are_counted = overruns_counted;
  report_answers = λ request task ticks s sixteen. (report_exact request task ticks s sixteen, report_alone request task ticks s);
  tested_by_load = capacity_put;
  capacity_is_by_loads = capacity_by_loads;
  joining_answers = λ first second out. (join_exact first second out, join_alone first second out);
  joining_has_room = join_enough;
  frame_test_is_exact = λ request x w. phase_exact x (within_good request x w);
  planning_moved = λ request. (outcome_now request, outcome_moved request);
  check_moved = verdict_moved;
  bench_sheet_moved = sheet_holds.1;
  one_off_answers = one_off_exact;
  one_off_is_sent = one_off_sent;
  frames_of_window = frames_walked;
  frame_passed_over = passed_over;
  tries_are_counted = tries_counted;
  bench_sheet_tries = sheet_holds.2;
  larger_allowance_keeps = larger_allowance;
  readings_spaced = (spacing, (checked_spacing, planned_spacing));
  successive_is = successive_means;
  spaced_while = (spacing_while, reached);
  cutting_answers = cut_exact;
  cutting_has_room = cut_enough;
  pieces_run_both = (pieces_run, planned_pieces_run, cut_example_laws.examples);
  drafts_answer = (start_theorem, lift_theorem, put_theorem, write_theorem);
  drafts_keep = (moves_theorem, draft_start.same_bytes, sound_theorem, sum_theorem, plan_theorem);
  phases_answer = (phases_exact, how_many_means, own_phase_theorem, larger);
  timer_tells = (registers_told, timer_flight);
  link_holds = (link_law, link_exact, link_flies);
  timeline_tells = (timeline_exact, timeline_printed, λ request. (timeline_short request, timeline_whole request));
}

-- What came after.
pub record After : Type 0 where
  -- Deciding, with no allowance: a table exactly when a plan exists, the chosen one, and never 23; a request outside the limits is refused with its own number.
  pub deciding_answers : (request out : List ℕ) (x : Instance) → Within request x → decider.Decided x request out
  pub deciding_refuses : (request out : List ℕ) (number : ℕ) → cycle_of request ≡ no_cycle number
      → (outcome_answer (outcome request) out ≡ record { refusal = number; length = 0 }) × decider.BufferIs request out out
  -- Deciding answers as planning does wherever planning answers anything but 23, so with every allowance that reaches the full search's tries; and so
  -- from C.
  pub deciding_is_planning : (allowance : ℕ) (request out : List ℕ) → (NumberIs allowance request out 23 → ⊥) → decider.AsPlan allowance request out
  pub deciding_is_full_planning : (allowance : ℕ) (request out : List ℕ) → request_tries request ≤ allowance → decider.AsPlan allowance request out
  pub deciding_in_c : AnsweredSame × ReachedSame
  -- From C: what is handed out passes bus_check; and the whole flight of every table to which bus_check answers 0, and of the bytes that bus_plan hands out.
  pub handed_out_passes_in_c : PlanPasses × DecidePasses
  pub accepted_flies_in_c : CheckedInC × PlannedInC
  -- From C, over every list of calls, those that lend too few bytes among them: what the caller gets is what the calls below give on what the bytes say.
  pub timer_told_in_c : TimerInC
  pub link_holds_in_c : HeaterInC
  pub drafts_keep_in_c : DraftInC
  -- From C: bytes are read as they were written, both ways; and a call changes none but those named.
  pub bytes_read_back : StateRoundTrip × DraftRoundTrip × TimerRoundTrip × HeaterRoundTrip × TriesBack × PhasesBack × RecordsBack
  pub bytes_changed : FrameChanges × ReportChanges × DraftsRead

pub after : After
after = record {
  deciding_answers = deciding.decided;
  deciding_refuses = deciding.not_decided;
  deciding_is_planning = deciding.as_plan;
  deciding_is_full_planning = deciding.as_reached;
  deciding_in_c = (same_answered, same_reached);
  handed_out_passes_in_c = (plan_passes, decide_passes);
  accepted_flies_in_c = (flight_in_c_lem, planned_in_c);
  timer_told_in_c = timer_in_c;
  link_holds_in_c = heater_in_c;
  drafts_keep_in_c = draft_in_c;
  bytes_read_back = (state_round_trip, draft_round_trip, timer_round_trip, heater_round_trip, tries_back, phases_told, records_back);
  bytes_changed = (frame_changes, report_changes, drafts_read);
}
