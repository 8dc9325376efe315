-- The pieces of a cut transfer run as the old request asks: the theorem.
-- The flight of the cut request's table keeps the windows and pairs of the cut request. A piece has its old task's T, D and P, and H is the same: so its windows are the old
-- ones. The pieces' own pair stands in front of the cut request's pairs, and the old pairs behind it.
use Rattle.std.specs.Prelude.{ℕ, suc, ◌+◌, ◌*◌, ◌≤◌, ◌<◌, ◌≡◌, List, length, get_or}
use Rattle.std.proofs.Common.{sym, ap, subst, ◌∙◌, arith}
use Rattle.request.specs.Request.{readable, reading, no_task, no_pair}
use Rattle.request.specs.ReadableLaws.{readable_kept}
use Rattle.request.specs.declared.Task.{Task}
use Rattle.request.specs.declared.Pair.{Pair}
use Rattle.request.specs.Written.{request_answer}
use Rattle.cycle.specs.Cycle.{hyperperiod, jobs_in, job_of, all_jobs, planned}
use Rattle.cycle.specs.Planned.{IsJob}
use Rattle.cycle.specs.PlannedLaws.{planned_length}
use Rattle.cycle.specs.LimitLaws.{WithinLimits, readable_periodic, cycle_reading}
use Rattle.table.specs.Table.{Table}
use Rattle.model.specs.Plan.{Instance, pair_at}
use Rattle.model.specs.Within.{Within}
use Rattle.model.specs.WithinLaws.{within_limits}
use Rattle.planner.specs.HandedBytes.{handed_bytes}
use Rattle.flight.specs.Calls.{Call, height}
use Rattle.flight.specs.Timing.{Served, KeepToC, released_in, due_in, EndedBy}
use Rattle.flight.specs.Flight.{frames_flown, plain_after, Started, starts, ends, runs, Flight, Flies}
use Rattle.flight.specs.Runs.{started_job}
use Rattle.flight.specs.Joined.{checked_flight, planned_flight}
use Rattle.cut.specs.Cut.{cut}
use Rattle.cut.specs.Exactly.{FirstOf, SecondOf, CutTasks, CutPairs, CutFile, CutInto}
use Rattle.cut.specs.Theorem.{not_bad, cut_written}
use Rattle.cut.specs.Valid.{rest_piece}
use Rattle.cut.specs.Alone.{first_same, second_same}
use Rattle.flight_cut.specs.Pieces.{InOldWindow, RunsForOld, PiecesRun, RunsBoth, cut_file, CheckedPieces, PlannedPieces}
use Rattle.flight_cut.specs.SameCycle.{OldOf, first_old, second_old, old_of, same_hyperperiod, more_jobs, is_within}

-- `was`, `links` and g are the old request's; task i was cut behind u ticks, and `file` is what was written
module _ (request : List ℕ) (i u : ℕ) (was : List Task) (links : List Pair) (g : ℕ) (is : reading request ≡ readable was links g) (known : i < length was)
    (short : u < (get_or was i no_task).c) (file : List ℕ) (c : CutFile i u was links g file) (table_bytes : List ℕ) (f : Flies file table_bytes) where
  abbrev x : Instance
  x = f.x

  abbrev t : Table
  t = f.t

  less : u ≤ (get_or was i no_task).c
  less = omega arith

  parts : (x.tasks ≡ c.tasks) × (x.pairs ≡ c.pairs) × (x.g ≡ g)
  parts =
      let same : readable x.tasks x.pairs x.g ≡ readable c.tasks c.pairs g
      = sym (cycle_reading file x.tasks x.pairs x.g x.h x.jobs f.within) ∙ c.reads in
      (cc, cc, cc)

  tasks_are : CutTasks i u was x.tasks
  tasks_are = subst (CutTasks i u was) (sym parts.0) c.tasks_are

  pairs_are : CutPairs i links x.pairs
  pairs_are = subst (CutPairs i links) (sym parts.1) c.pairs_are

  limits : WithinLimits x.tasks x.pairs x.h x.jobs
  limits = within_limits file x f.within

  -- The old request is within the limits

  h_same : hyperperiod was ≡ x.h
  h_same =
      same_hyperperiod i u was x.tasks tasks_are known less (readable_periodic x.tasks x.pairs limits.readable)
      (readable_periodic was links (readable_kept request was links g is)) ∙ sym limits.h_is

  abbrev old : Instance
  old = record { tasks = was; pairs = links; g = g; h = hyperperiod was; jobs = planned was (hyperperiod was) }

  old_within : Within request old
  old_within =
      let all : length (all_jobs x.tasks x.h) ≡ length x.jobs = sym (planned_length x.tasks x.h) ∙ ap length (sym limits.jobs_are) in
      let few : length (all_jobs was (hyperperiod was)) ≤ length (all_jobs x.tasks (hyperperiod was)) = more_jobs i u was x.tasks tasks_are known less (hyperperiod was) in
      let same : length (all_jobs x.tasks (hyperperiod was)) ≡ length (all_jobs x.tasks x.h) = ap (λ (h : ℕ). length (all_jobs x.tasks h)) h_same in
      is_within request was links g is (omega (arith, h_same, limits.h_few)) (omega (arith, limits.jobs_few))

  -- A task of the cut request stands for one of the old

  abbrev Old : ℕ → ℕ → Type 0
  Old k l = OldOf i u was x.tasks tasks_are known less k l

  module _ (k l : ℕ) (o : Old k l) (j : ℕ) where
    old_job : IsJob x.tasks x.h k j → IsJob was (hyperperiod was) l j
    unfolding jobs_in
    old_job job = record { known = o.old_known; early = rw (h_same, ← o.same_t) job.early }

    new_job : k < length x.tasks → IsJob was (hyperperiod was) l j → IsJob x.tasks x.h k j
    unfolding jobs_in
    new_job h job = record { known = h; early = rw (o.same_t, ← h_same) job.early }

    same_release : (q : ℕ) → released_in x q k j ≡ released_in old q l j
    unfolding job_of
    same_release q = rw (h_same, o.same_t, o.same_p)

    same_due : (q : ℕ) → due_in x q k j ≡ due_in old q l j
    same_due q = let r = same_release q in let d = o.same_d in omega arith

  module _ (calls : List Call) (actual : ℕ → ℕ → ℕ) (keep : KeepToC x (frames_flown table_bytes calls) actual) where
    flies : Flight x table_bytes t calls actual
    flies = f.flies calls actual keep

    inside : (k l j q m p : ℕ) → Old k l → Started x table_bytes t calls actual k j q m p → InOldWindow old x i table_bytes t calls actual l j q m p
    inside k l j q m p o s = record {
      is_job = old_job k l o j (started_job x table_bytes t calls actual flies k j q m p s);
      not_before_release = omega (arith, same_release k l o j q, flies.not_before_release k j q m p s);
      by_deadline = omega (arith, same_due k l o j q, flies.by_deadline k j q m p s);
    }

    first : Old i i
    first = first_old i u was x.tasks tasks_are known less

    second : Old (i + 1) i
    second = second_old i u was x.tasks tasks_are known less

    more : length x.tasks ≡ length was + 1
    more = tasks_are.one_more

    ran : (k : ℕ) → Old k i → k < length x.tasks → (j : ℕ) → IsJob was (hyperperiod was) i j → (q : ℕ) → due_in old q i j ≤ (plain_after t calls).m * t.f
        → runs x table_bytes t calls actual k j q ≡ 1
    ran k o h j job q due = flies.due_ran_once k j (new_job k i o j h job) q (rw (same_due k i o j q) due)

    for_old : (m p : ℕ) → Served (frames_flown table_bytes calls) m p → RunsForOld old x i table_bytes t calls actual m p
    for_old m p served =
        let some = flies.each_stands m p served in
        let w = old_of i u was x.tasks tasks_are known less some.i some.is_job.known in
        record {
          k = w.0;
          j = some.j;
          q = some.q;
          window = inside some.i w.0 some.j some.q m p w.1 some.starts;
          piece = some.i;
          stands = some.starts;
          uncut_below = w.1.uncut_below;
          cut_itself = w.1.cut_itself;
          uncut_above = w.1.uncut_above;
        }

    pieces : PiecesRun old x i table_bytes t calls actual
    pieces = record {
      both_ran = λ j job q due. (ran i first (omega (arith, more)) j job q due, ran (i + 1) second (omega (arith, more)) j job q due);
      none_twice = λ j job q.
          (flies.none_twice i j (new_job i i first j (omega (arith, more)) job) q, flies.none_twice (i + 1) j (new_job (i + 1) i second j (omega (arith, more)) job) q);
      whole = omega (arith, tasks_are.first_piece.c_is, (rest_piece i u was x.tasks tasks_are less).c_is);
      first_inside = λ j q m p s. inside i i j q m p first s;
      second_inside = λ j q m p s. inside (i + 1) i j q m p second s;
      in_order = own_pair;
      nothing_else = for_old;
      old_pairs = other_pair;
      flies = flies;
    }
      where
        own_pair : (j q m p : ℕ) → Started x table_bytes t calls actual (i + 1) j q m p
            → EndedBy (height t) (frames_flown table_bytes calls) (ends x table_bytes t calls actual) i j q (starts x table_bytes t calls actual m p)
        own_pair j q m p s =
            let front = pairs_are.front in
            let a : (pair_at x 0).a ≡ i = ap (λ (z : Pair). z.a) front in
            let b : (pair_at x 0).b ≡ i + 1 = ap (λ (z : Pair). z.b) front in
            rw a at (flies.pairs_keep_order 0 (omega (arith, pairs_are.one_more)) j q m p (rw b s))

        other_pair : (v : ℕ) → v < length links → (a : ℕ) → FirstOf i (get_or links v no_pair).a a → (b : ℕ) → SecondOf i (get_or links v no_pair).b b
            → (j q m p : ℕ) → Started x table_bytes t calls actual b j q m p
            → EndedBy (height t) (frames_flown table_bytes calls) (ends x table_bytes t calls actual) a j q (starts x table_bytes t calls actual m p)
        other_pair v h a first_of b second_of j q m p s =
            let a_is : (pair_at x (suc v)).a ≡ a = first_same i _ _ _ (pairs_are.first_of v h) first_of in
            let b_is : (pair_at x (suc v)).b ≡ b = second_same i _ _ _ (pairs_are.second_of v h) second_of in
            rw a_is at (flies.pairs_keep_order (suc v) (omega (arith, pairs_are.one_more)) j q m p (rw b_is s))

  runs_both : RunsBoth request file table_bytes i
  runs_both = record {
    old = old;
    old_within = old_within;
    known = known;
    x = x;
    within = f.within;
    same_cycle = sym h_same;
    same_silence = parts.2;
    t = t;
    says = f.says;
    runs_both = pieces;
  }

-- of what the cut wrote
fly : (request : List ℕ) (i u : ℕ) (out : List ℕ) → (request_answer (cut i u (reading request)) out).refusal ≡ 0
    → (table_bytes : List ℕ) → Flies (cut_file request i u out) table_bytes → RunsBoth request (cut_file request i u out) table_bytes i
fly request i u out z table_bytes f = go (cut_written request i u out z)
  where
    written : List ℕ
    written = cut_file request i u out

    go : CutInto request i u (λ file. written ≡ file) → RunsBoth request written table_bytes i
    go (tasks, pairs, g, is, (good, few_tasks, few_pairs, (file, c, same))) =
        let can = not_bad tasks i u good in
        runs_both request i u tasks pairs g is can.0 can.2 written (subst (CutFile i u tasks pairs g) (sym same) c) table_bytes f

-- THE THEOREMS
pub pieces_run : CheckedPieces
pieces_run request i u out z table_bytes are e = fly request i u out z table_bytes (checked_flight (cut_file request i u out) table_bytes are e)

pub planned_pieces_run : PlannedPieces
planned_pieces_run request i u out z allowance room e =
    let file = cut_file request i u out in
    fly request i u out z (handed_bytes allowance file room) (planned_flight allowance file room e)
