-- The claim about a flight as a whole: 01, "What demand 3 compares".
use Rattle.std.specs.Prelude.{◌≡◌, List, ℕ, suc, ◌+◌, ◌*◌, ◌%◌, ◌≤◌, ◌<◌, min, length, get_or, ltb}
use Rattle.cycle.specs.Planned.{IsJob}
use Rattle.table.specs.Table.{Entry, Table}
use Rattle.table.specs.TableBytes.{SaysTable}
use Rattle.model.specs.Plan.{Instance, task_at, pair_at}
use Rattle.model.specs.Within.{Within}
use Rattle.dispatcher.specs.Dispatch.{fresh_state}
use Rattle.dispatcher.specs.declared.State.{State}
use Rattle.flight.specs.Calls.{Call, Answer, dispatch, Plain, begin, height, plainly, answers, final, frames_shown}
use Rattle.flight.specs.Overruns.{overruns}
use Rattle.flight.specs.Timing.{Served, start_time, finish, released_in, due_in, Starts, StandsForSome, EndedBy, times_run, KeepToC}

-- "The list starts from the fresh state.": the dispatcher's answers, its state after the list, and the frames that it served
module _ (table_bytes : List ℕ) (calls : List Call) where
  abbrev pub answers_given : List Answer
  answers_given = answers (dispatch table_bytes) fresh_state calls

  abbrev pub state_after : State
  state_after = final (dispatch table_bytes) fresh_state calls

  -- the count of task i after the list
  abbrev pub count_after : ℕ → ℕ
  count_after i = get_or state_after.counts i 0

  abbrev pub frames_flown : List (List Entry)
  frames_flown = frames_shown answers_given

-- the plain dispatcher's answers, and its numbers after the list
module _ (t : Table) (calls : List Call) where
  abbrev pub plain_answered : List Answer
  plain_answered = answers (plainly t) begin calls

  abbrev pub plain_after : Plain
  plain_after = final (plainly t) begin calls

-- the request with its cycle, the bytes of the table and what they say, the list of calls, the actual times
module _ (x : Instance) (table_bytes : List ℕ) (t : Table) (calls : List Call) (actual : ℕ → ℕ → ℕ) where
  -- job j of task i, of cycle q, starts with the entry at place p of frame m
  abbrev pub Started : ℕ → ℕ → ℕ → ℕ → ℕ → Type 0
  Started i j q m p = Starts (height t) (frames_flown table_bytes calls) i j q m p

  -- when that entry starts and ends
  abbrev pub starts : ℕ → ℕ → ℕ
  starts m p = start_time x.g t.f actual m p

  abbrev pub ends : ℕ → ℕ → ℕ
  ends m p = finish x.g t.f actual m p

  -- how often the job has run
  abbrev pub runs : ℕ → ℕ → ℕ → ℕ
  runs i j q = times_run (height t) (frames_flown table_bytes calls) i j q

  -- "The claim is about the list as a whole: one theorem, not a law for each call."
  pub record Flight : Type 0 where
    -- "Every answer of the dispatcher is the plain one's."
    pub same_answers : answers_given table_bytes calls ≡ plain_answered t calls
    -- "After the list the dispatcher's row is m mod F, its mark is set exactly when m < F, and its count is v.": its 16 counts, since R-2
    pub row_is : (state_after table_bytes calls).row ≡ (plain_after t calls).m % height t
    pub mark_is : (state_after table_bytes calls).first ≡ ltb (plain_after t calls).m (height t)
    pub counts_are : (state_after table_bytes calls).counts ≡ (plain_after t calls).v
    -- 02, R-2: "for every list of calls, a task's count is the number of its accepted reports above C, or 65,535 if there were more"
    pub count_is : (i : ℕ) → i < 16 → count_after table_bytes calls i ≡ min 65535 (overruns i calls)
    -- m frames were answered; the first is frame 0
    pub frames_are : length (frames_flown table_bytes calls) ≡ (plain_after t calls).m
    -- every entry served stands for a job of the request, of some cycle: nothing else runs
    pub each_stands : (m p : ℕ) → Served (frames_flown table_bytes calls) m p → StandsForSome x (height t) (frames_flown table_bytes calls) m p
    -- "each later entry of a frame start[s] g ticks after the one before ended"
    pub silent_between : (m p : ℕ) → Served (frames_flown table_bytes calls) m (suc p) → starts m (suc p) ≡ ends m p + x.g
    -- each transfer ends in its frame, with the silent ticks after it
    pub ends_in_frame : (m p : ℕ) → Served (frames_flown table_bytes calls) m p → ends m p + x.g ≤ (m + 1) * t.f
    -- a started job starts no earlier than its release and ends by its deadline
    pub not_before_release : (i j q m p : ℕ) → Started i j q m p → released_in x q i j ≤ starts m p
    pub by_deadline : (i j q m p : ℕ) → Started i j q m p → ends m p ≤ due_in x q i j
    -- and it leaves time for its C before its deadline, however little it takes
    pub leaves_time : (i j q m p : ℕ) → Started i j q m p → starts m p + (task_at x i).c ≤ due_in x q i j
    -- "for a pair a, b, whenever job j of b in some cycle has started, job j of a in the same cycle had ended by that start"
    pub pairs_keep_order : (u : ℕ) → u < length x.pairs → (j q m p : ℕ) → Started (pair_at x u).b j q m p
        → EndedBy (height t) (frames_flown table_bytes calls) ends (pair_at x u).a j q (starts m p)
    -- every job of every cycle that is due by "the end of the last frame served", m·f, has run exactly once
    pub due_ran_once : (i j : ℕ) → IsJob x.tasks x.h i j → (q : ℕ) → due_in x q i j ≤ (plain_after t calls).m * t.f → runs i j q ≡ 1
    -- no job of any cycle has run twice
    pub none_twice : (i j : ℕ) → IsJob x.tasks x.h i j → (q : ℕ) → runs i j q ≤ 1

-- the request is within the limits, the bytes have the form of a table, and for every list of calls and all actual times from 0 to C the claim
-- about the flight holds
pub record Flies (request_bytes table_bytes : List ℕ) : Type 0 where
  pub x : Instance
  pub within : Within request_bytes x
  pub t : Table
  pub says : SaysTable table_bytes t
  pub flies : (calls : List Call) (actual : ℕ → ℕ → ℕ) → KeepToC x (frames_flown table_bytes calls) actual → Flight x table_bytes t calls actual
