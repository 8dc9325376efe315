-- Lists of calls: what the dispatcher answers to one, and the plain dispatcher beside it. 01, "What demand 3 compares".
use Rattle.std.specs.Prelude.{Bool, cond, List, [], ◌∷◌, ℕ, ◌+◌, ◌%◌, length, ltb, eqb}
use Rattle.request.specs.Request.{Reading, readable, unreadable, reading}
use Rattle.table.specs.Table.{Entry, Table, decode, row_of}
use Rattle.table.specs.Answers.{row_given, entries_said}
use Rattle.table.specs.Answers.{Row}
use Rattle.dispatcher.specs.Dispatch.{no_overruns, served, next_frame, exceeds, raised_at, reported, row_shown}
use Rattle.dispatcher.specs.declared.State.{State}
use Rattle.dispatcher.specs.Numbered.{Frame}
use Rattle.dispatcher.specs.Numbered.{Reported}

-- "A report may get any bytes as its request, any task number and any ticks."
pub data Call : Type 0 where
  next_frame_call : Call
  report : List ℕ → ℕ → ℕ → Call

-- what a call answers besides the state: the number and the entries of a frame, or the number of a report. 0 is no number.
pub data Answer : Type 0 where
  frame : Row → Answer
  number : ℕ → Answer

-- a call's answer, and the state for the next call
pub record Turn (S : Type 0) : Type 0 where
  pub answer : Answer
  pub after : S

-- The dispatcher: what next_frame and report ensure. "Every next-frame call gets the one accepted table."

abbrev pub frame_turn : Frame → Turn State
frame_turn a = record { answer = frame (row_shown a); after = a.state }

abbrev pub report_turn : Reported → Turn State
report_turn a = record { answer = number a.refusal; after = a.state }

unfoldable pub dispatch : List ℕ → State → Call → Turn State
dispatch table_bytes s next_frame_call = frame_turn (next_frame (decode table_bytes) s)
dispatch table_bytes s (report bytes task ticks) = report_turn (reported (reading bytes) task ticks s)

-- The plain dispatcher. "It keeps two numbers, both 0 at first: m, the frames served, and v, the overruns."
-- 02, R-2: "The plain dispatcher's v becomes 16 such counts too."

pub record Plain : Type 0 where
  pub m : ℕ
  pub v : List ℕ

abbrev pub begin : Plain
begin = record { m = 0; v = no_overruns }

-- F
abbrev pub height : Table → ℕ
height t = length t.rows

-- frame m: "the entries of row m mod F .., leaving out carried ones while m < F"
abbrev pub plain_frame : Table → ℕ → List Entry
plain_frame t m = served (ltb m (height t)) (row_of t (m % height t))

-- "then m rises by one"
abbrev pub one_served : Plain → Plain
one_served s = record { m = s.m + 1; v = s.v }

-- "v rises by one if the ticks exceed that task's C in them, stopping at 65,535": of the 16 in v, that task's count
abbrev pub one_heard : Bool → ℕ → Plain → Plain
one_heard over task s = record { m = s.m; v = raised_at over task s.v }

-- a report's number, and the plain dispatcher's numbers after it
abbrev pub plain_turn : ℕ → Plain → Turn Plain
plain_turn n s = record { answer = number n; after = s }

-- "On a report whose bytes have the form of a request with none behind it, and whose task number is below the n in them, it answers no number, and v
-- rises by one if the ticks exceed that task's C in them, stopping at 65,535. Any other report gives its number by the table below and changes nothing."
unfoldable pub heard : Reading → ℕ → ℕ → Plain → Turn Plain
heard (readable tasks pairs g) task ticks s = cond (ltb task (length tasks)) (plain_turn 0 (one_heard (exceeds tasks task ticks) task s)) (plain_turn 16 s)
heard (unreadable n) task ticks s = plain_turn n s

-- "It never refuses a next-frame call of the list."
unfoldable pub plainly : Table → Plain → Call → Turn Plain
plainly t s next_frame_call = record { answer = frame (row_given (plain_frame t s.m)); after = one_served s }
plainly t s (report bytes task ticks) = heard (reading bytes) task ticks s

-- "Each call takes the state that the last one returned": the answers, and the state after the list

unfoldable pub answers : {S : Type 0} → (S → Call → Turn S) → S → List Call → List Answer
answers step s [] = []
answers step s (c ∷ cs) = (step s c).answer ∷ answers step (step s c).after cs

unfoldable pub final : {S : Type 0} → (S → Call → Turn S) → S → List Call → S
final step s [] = s
final step s (c ∷ cs) = final step (step s c).after cs

-- the entries of each frame that was answered with no number, from frame 0 on

abbrev pub with_frame : Answer → List (List Entry) → List (List Entry)
with_frame (frame r) rest = cond (eqb r.refusal 0) (entries_said r ∷ rest) rest
with_frame (number n) rest = rest

unfoldable pub frames_shown : List Answer → List (List Entry)
frames_shown [] = []
frames_shown (a ∷ rest) = with_frame a (frames_shown rest)
