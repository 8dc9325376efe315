-- Lists of calls from C: what they answer and leave in the lent buffers, the frames that the caller reads off them, and the plain dispatcher's answers as C
-- would see them.
use Rattle.std.specs.Prelude.{◌≡◌, Bool, true, false, List, [], ◌∷◌, ◌++◌, map, ℕ, ◌+◌, ◌*◌, ◌<◌, min, ℤ, pos, negsuc, length, get_or, take, drop, leb}
use Rattle.cursor.specs.Choice.{keep}
use Rattle.cursor.specs.Fields.{Bytes}
use Rattle.cursor.specs.Range.{range}
use Rattle.table.specs.Table.{Entry, Table, entry_of}
use Rattle.table.specs.TableBytes.{SaysTable}
use Rattle.model.specs.Plan.{Instance}
use Rattle.model.specs.Within.{Within}
use Rattle.dispatcher.specs.Dispatch.{state_at}
use Rattle.dispatcher.specs.declared.State.{State}
use Rattle.flight.specs.Calls as plain
use Rattle.flight.specs.Timing.{KeepToC}
use Rattle.flight.specs.Overruns.{overruns}
use Rattle.flight.specs.Flight.{frames_flown, plain_answered, plain_after, Flight}
use Rattle.lent.specs.Words.{zeros}
use Rattle.lent.specs.State.{count_in, state_bytes}
use Rattle.lent.specs.Entries.{entry_bytes}
use Rattle.bus.specs.Reply.{refused_reply, reply, after}
use Rattle.bus.specs.Plan.{plan_reply, plan_buffer}
use Rattle.bus.specs.Check.{check_reply}
use Rattle.bus.specs.Dispatch.{fresh_reply, fresh_bytes, frame_reply, frame_state, frame_entries, report_reply, report_state}

-- a call of bus_next_frame, with the entries' buffer as it was lent, or of bus_report, with any bytes as its request, any task number and any ticks
pub data CallInC : Type 0 where
  next_frame_call : List ℕ → CallInC
  report : List ℕ → ℕ → ℕ → CallInC

-- what the caller sees of a call besides the state: of bus_next_frame the int32_t and the bytes of the entries' buffer, of bus_report the int32_t
pub data Seen : Type 0 where
  frame : ℤ → List ℕ → Seen
  number : ℤ → Seen

-- one call on a table and the bytes of a state
module _ (table state : List ℕ) where
  abbrev pub seen : CallInC → Seen
  seen (next_frame_call entries) = frame (frame_reply table state entries) (frame_entries table state entries)
  seen (report request task ticks) = number (report_reply request task ticks state)

  abbrev pub leaves : CallInC → List ℕ
  leaves (next_frame_call entries) = frame_state table state entries
  leaves (report request task ticks) = report_state request task ticks state

-- each call takes the bytes that the last one left
unfoldable pub all_seen : List ℕ → List ℕ → List CallInC → List Seen
all_seen table state [] = []
all_seen table state (c ∷ cs) = seen table state c ∷ all_seen table (leaves table state c) cs

unfoldable pub state_left : List ℕ → List ℕ → List CallInC → List ℕ
state_left table state [] = state
state_left table state (c ∷ cs) = state_left table (leaves table state c) cs

-- The frames that the caller reads off: an answer from 0 on is the number of entries, and each is a pair of a task byte and a job byte, with the job in bits
-- 0 to 6 and carry in bit 7

-- n entries
unfoldable pub entries_read : List ℕ → ℕ → List Entry
entries_read bytes n = map (λ p. entry_of (get_or bytes (2 * p) 0) (get_or bytes (2 * p + 1) 0)) (range 0 n)

-- a refusal and a report show no frame
abbrev pub with_seen : Seen → List (List Entry) → List (List Entry)
with_seen (frame (pos n) entries) rest = entries_read entries n ∷ rest
with_seen (frame (negsuc n) entries) rest = rest
with_seen (number answer) rest = rest

unfoldable pub frames_read : List Seen → List (List Entry)
frames_read [] = []
frames_read (s ∷ rest) = with_seen s (frames_read rest)

-- What the plain dispatcher is fed: the same calls, but for those that lend fewer than 32 bytes for the entries

abbrev pub lends : CallInC → Bool
lends (next_frame_call entries) = leb 32 (length entries)
lends (report request task ticks) = true

abbrev pub asked : CallInC → plain.Call
asked (next_frame_call entries) = plain.next_frame_call
asked (report request task ticks) = plain.report request task ticks

unfoldable pub fed : List CallInC → List plain.Call
fed [] = []
fed (c ∷ cs) = keep (lends c) (asked c) (fed cs)

-- Its answers as C sees them

-- a frame's entries are 16 pairs of a task byte and a job byte, and the bytes behind them stay
abbrev pub shown_in_c : CallInC → plain.Answer → Seen
shown_in_c (next_frame_call entries) (plain.frame r) =
    frame (reply r.refusal r.count) (after r.refusal (entry_bytes r.tasks r.jobs 16 0 ++ drop 32 entries) entries)
shown_in_c (next_frame_call entries) (plain.number n) = frame (reply n 0) entries
shown_in_c (report request task ticks) (plain.frame r) = number (reply r.refusal 0)
shown_in_c (report request task ticks) (plain.number n) = number (reply n 0)

-- a call that lends too few bytes: 99 negated, and its bytes stay
abbrev pub sent_back : CallInC → Seen
sent_back (next_frame_call entries) = frame (refused_reply 99) entries
sent_back (report request task ticks) = number (refused_reply 99)

-- the answers go to the calls that lend enough, in order
abbrev pub shown_next : Bool → CallInC → (List plain.Answer → List Seen) → List plain.Answer → List Seen
shown_next true c rest [] = []
shown_next true c rest (a ∷ answers) = shown_in_c c a ∷ rest answers
shown_next false c rest answers = sent_back c ∷ rest answers

unfoldable pub all_shown : List CallInC → List plain.Answer → List Seen
all_shown [] answers = []
all_shown (c ∷ cs) answers = shown_next (lends c) c (all_shown cs) answers

-- A list of calls on a state that bus_fresh made
module _ (table state : List ℕ) (calls : List CallInC) where
  abbrev pub seen_in_c : List Seen
  seen_in_c = all_seen table (fresh_bytes state) calls

  abbrev pub left_in_c : List ℕ
  left_in_c = state_left table (fresh_bytes state) calls

  abbrev pub frames_in_c : List (List Entry)
  frames_in_c = frames_read seen_in_c

-- m and v of the plain dispatcher after the list, as the bytes of a state that bus_fresh made
module _ (t : Table) (state : List ℕ) (calls : List CallInC) where
  abbrev pub plain_state : State
  plain_state =
      let p = plain_after t (fed calls) in
      state_at (plain.height t) p.m p.v

  abbrev pub plain_bytes : List ℕ
  plain_bytes = state_bytes plain_state (zeros 64 ++ drop 64 state)

-- the claim about a list of calls from C
pub record FlightInC (x : Instance) (table : List ℕ) (t : Table) (state : List ℕ) (calls : List CallInC) : Type 0 where
  -- every answer and every byte of the entries is the plain dispatcher's
  pub same_seen : seen_in_c table state calls ≡ all_shown calls (plain_answered t (fed calls))
  -- the state's bytes are those of row, mark and counts
  pub same_state : left_in_c table state calls ≡ plain_bytes t state calls
  -- the two bytes of task i say the number of its accepted reports above C, or 65,535 if there were more
  pub count_is : (i : ℕ) → i < 16 → count_in (left_in_c table state calls) i ≡ min 65535 (overruns i (fed calls))
  -- the frames that the caller reads off are those of the flight
  pub same_frames : frames_in_c table state calls ≡ frames_flown table (fed calls)
  -- and for all actual times of their entries, from 0 to C, all that is claimed about the flight holds
  pub flies : (actual : ℕ → ℕ → ℕ) → KeepToC x (frames_in_c table state calls) actual → Flight x table t (fed calls) actual

-- the request is within the limits, the bytes have the form of a table, and the claim holds for every state to which bus_fresh answers 0 and every list of calls
pub record FliesInC (request table : List ℕ) : Type 0 where
  pub x : Instance
  pub within : Within request x
  pub t : Table
  pub says : SaysTable table t
  pub in_c : (state : List ℕ) → fresh_reply state ≡ pos 0 → (calls : List CallInC) → FlightInC x table t state calls

-- of every table to which bus_check answers 0
abbrev pub CheckedInC : Type 0
CheckedInC = (request table : List ℕ) → Bytes table → check_reply request table ≡ pos 0 → FliesInC request table

-- and of the bytes that bus_plan handed out: as many as it answered, from the front of the buffer
abbrev pub PlannedInC : Type 0
PlannedInC = (allowance : ℕ) (request out tries : List ℕ) (n : ℕ) → plan_reply allowance request out tries ≡ pos n
    → FliesInC request (take n (plan_buffer allowance request out tries))
