-- The bench sheet of 01, P1 to P12, with what R-5 says of P8 and of its like, as one table with one statement over the definitions, from the bytes of each
-- request.
use Rattle.std.specs.Prelude.{ℕ, ◌≡◌, true, false, List, [], ◌∷◌, map, replicate}
use Rattle.request.specs.Encode.{request_bytes}
use Rattle.request.specs.declared.Task.{Task}
use Rattle.request.specs.declared.Pair.{Pair}
use Rattle.cut.specs.Example.{p2_tasks, p3_tasks, p3_pairs}
use Rattle.cycle.specs.Cycle.{cycle, cycle_of}
use Rattle.table.specs.Table.{Entry, Table, decode, encode}
use Rattle.model.specs.Plan.{Instance, IsPlan}
use Rattle.model.specs.Plausible.{common_rule, plausible_by, plausible}
use Rattle.plan_writer.specs.Outcome.{Outcome, handed, refusal}
use Rattle.planner.specs.Outcome.{request_tries, outcome_within, program_outcome, outcome_by}
use Rattle.checker.specs.Checked as checker
use Rattle.dispatcher.specs.declared.State.{State}
use Rattle.dispatcher.specs.Numbered.{Frame}
use Rattle.dispatcher.specs.Dispatch.{fresh_state, next_frame, entries_of}

-- Requests and tables, as 01 writes them.

-- "Tasks as (C,T,D,P)."
abbrev pub task : ℕ → ℕ → ℕ → ℕ → Task
task c t d p = record { c = c; t = t; d = d; p = p }

-- an entry as task.job, and one with carry
abbrev pub ◌·◌ : ℕ → ℕ → Entry
◌·◌ i j = record { task = i; number = j; carried = false }

abbrev pub carried : ℕ → ℕ → Entry
carried i j = record { task = i; number = j; carried = true }

-- a line of the sheet: a request, and what planning it comes to
pub record Line : Type 0 where
  pub tasks : List Task
  pub pairs : List Pair
  pub comes_to : Outcome

-- the request file
abbrev pub bytes_of : Line → List ℕ
bytes_of p = request_bytes p.tasks p.pairs 0

abbrev pub line : List Task → List Pair → Outcome → Line
line tasks pairs o = record { tasks = tasks; pairs = pairs; comes_to = o }

-- a table with f, H and these rows
abbrev pub with_rows : ℕ → ℕ → List (List Entry) → Outcome
with_rows f h rows = handed (record { f = f; h = h; rows = rows })

abbrev pub p1_table : Table
p1_table = record { f = 20; h = 40; rows = (◌·◌ 0 0 ∷ ◌·◌ 1 0 ∷ ◌·◌ 2 0 ∷ []) ∷ (◌·◌ 0 1 ∷ ◌·◌ 1 1 ∷ []) ∷ [] }

abbrev pub P1 : Line
P1 = line (task 5 20 20 0 ∷ task 5 20 20 0 ∷ task 10 40 40 0 ∷ []) [] (handed p1_table)

abbrev pub P2 : Line
P2 = line p2_tasks [] (refusal 9)

abbrev pub P3 : Line
P3 =
    line p3_tasks p3_pairs
    (with_rows 4 24 ((◌·◌ 0 0 ∷ ◌·◌ 1 0 ∷ []) ∷ (◌·◌ 2 0 ∷ []) ∷ (◌·◌ 0 1 ∷ ◌·◌ 1 1 ∷ []) ∷ (◌·◌ 0 2 ∷ []) ∷ (◌·◌ 3 0 ∷ []) ∷ (◌·◌ 0 3 ∷ ◌·◌ 1 2 ∷ []) ∷ []))

abbrev P5 : Line
P5 = line (task 5 20 20 0 ∷ task 10 20 20 0 ∷ task 10 40 40 0 ∷ []) [] (refusal 10)

abbrev P6 : Line
P6 =
    line (task 14 60 40 10 ∷ task 15 60 45 15 ∷ task 5 20 20 0 ∷ []) []
    (with_rows 20 60 ((◌·◌ 2 0 ∷ []) ∷ (◌·◌ 0 0 ∷ ◌·◌ 2 1 ∷ []) ∷ (◌·◌ 1 0 ∷ ◌·◌ 2 2 ∷ []) ∷ []))

abbrev pub p7_table : Table
p7_table = record { f = 5; h = 10; rows = (carried 0 0 ∷ []) ∷ [] ∷ [] }

abbrev pub P7 : Line
P7 = line (task 2 10 9 6 ∷ []) [] (handed p7_table)

abbrev P8 : Line
P8 = line (task 1 10 5 2 ∷ []) [] (with_rows 2 10 ([] ∷ (◌·◌ 0 0 ∷ []) ∷ [] ∷ [] ∷ [] ∷ []))

-- R-5: "(3,10,5,2) moves from 10 to 9"
abbrev p8_longer : Line
p8_longer = line (task 3 10 5 2 ∷ []) [] (refusal 9)

abbrev P9 : Line
P9 = line (task 1 256 1 0 ∷ []) [] (with_rows 1 256 ((◌·◌ 0 0 ∷ []) ∷ replicate 255 []))

abbrev P10 : Line
P10 = line (task 1 257 1 0 ∷ []) [] (refusal 9)

abbrev P11 : Line
P11 = line (task 1 1 1 0 ∷ task 1 128 128 0 ∷ []) [] (refusal 8)

abbrev P12 : Line
P12 = line (task 1 10000 10000 0 ∷ []) [] (with_rows 10000 10000 ((◌·◌ 0 0 ∷ []) ∷ []))

-- "with T 10001"
abbrev p12_longer : Line
p12_longer = line (task 1 10001 10000 0 ∷ []) [] (refusal 7)

-- P4 is a table for P3's request, and stands below.
abbrev pub sheet : List Line
sheet = P1 ∷ P2 ∷ P3 ∷ P5 ∷ P6 ∷ P7 ∷ P8 ∷ p8_longer ∷ P9 ∷ P10 ∷ P11 ∷ P12 ∷ p12_longer ∷ []

-- P1's request and table, as 01 prints them
abbrev pub p1_printed : List ℕ
p1_printed =
    0x03 ∷
    0x05 ∷ 0x00 ∷ 0x14 ∷ 0x00 ∷ 0x14 ∷ 0x00 ∷ 0x00 ∷ 0x00 ∷
    0x05 ∷ 0x00 ∷ 0x14 ∷ 0x00 ∷ 0x14 ∷ 0x00 ∷ 0x00 ∷ 0x00 ∷
    0x0A ∷ 0x00 ∷ 0x28 ∷ 0x00 ∷ 0x28 ∷ 0x00 ∷ 0x00 ∷ 0x00 ∷
    0x00 ∷ []

abbrev p1_table_printed : List ℕ
p1_table_printed =
    0x02 ∷ 0x14 ∷ 0x00 ∷ 0x28 ∷ 0x00 ∷ 0x02 ∷ 0x00 ∷ 0x03 ∷ 0x00 ∷ 0x00 ∷ 0x01 ∷ 0x00 ∷ 0x02 ∷ 0x00 ∷ 0x02 ∷ 0x00 ∷ 0x01 ∷ 0x01 ∷ 0x01 ∷ []

-- P4: "the table printed in 000 for P3", with job 3 of task 0 in row 4
abbrev p4_table : Table
p4_table = record {
  f = 4;
  h = 24;
  rows = (◌·◌ 0 0 ∷ ◌·◌ 1 0 ∷ []) ∷ (◌·◌ 2 0 ∷ []) ∷ (◌·◌ 0 1 ∷ ◌·◌ 1 1 ∷ []) ∷ (◌·◌ 0 2 ∷ []) ∷ (◌·◌ 0 3 ∷ ◌·◌ 1 2 ∷ []) ∷ (◌·◌ 3 0 ∷ []) ∷ [];
}

-- P7: the entries of the next frames from a state on
abbrev frame : State → Frame
frame s = next_frame (decode (encode p7_table)) s

-- P8: what is planned; the one job is released at 2 and due at 7
abbrev p8_instance : Instance
p8_instance = record { tasks = P8.tasks; pairs = P8.pairs; g = 0; h = 10; jobs = record { task = 0; number = 0; release = 2; due = 7 } ∷ [] }

-- P8's job in a frame of 5 ticks
abbrev p8_five : Table
p8_five = record { f = 5; h = 10; rows = (◌·◌ 0 0 ∷ []) ∷ [] ∷ [] }

pub record SheetHolds : Type 0 where
  -- what planning each request comes to within the tries that the programs allow: f, H and the rows, or the number
  pub planned_as : map (λ p. program_outcome (bytes_of p)) sheet ≡ map (λ p. p.comes_to) sheet
  -- P1's request and table are the bytes that 01 prints
  pub p1_request_bytes : bytes_of P1 ≡ p1_printed
  pub p1_table_bytes : encode p1_table ≡ p1_table_printed
  -- "check gives 14"
  pub p4_refused : checker.check_number (bytes_of P3) (encode p4_table) ≡ 14
  -- "Frame 0 serves no entry, frame 2 the first."
  pub p7_frame_0 : entries_of (frame fresh_state) ≡ []
  pub p7_frame_1 : entries_of (frame (frame fresh_state).state) ≡ []
  pub p7_frame_2 : entries_of (frame (frame (frame fresh_state).state).state) ≡ carried 0 0 ∷ []
  -- "5 is plausible and has no plan": by 01's rule; R-5: "In P8, 5 is no longer plausible."
  pub p8_cycle : cycle_of (bytes_of P8) ≡ cycle p8_instance.tasks p8_instance.pairs p8_instance.g p8_instance.h p8_instance.jobs
  pub p8_by_01 : plausible_by common_rule p8_instance 5 ≡ true
  pub p8_plausible : plausible p8_instance 5 ≡ false
  pub p8_no_plan : (frames : List ℕ) → IsPlan p8_instance 5 frames → ⊥

-- R-5: what its rule moves on the sheet
pub record SheetMoved : Type 0 where
  -- a table with frames of 5 ticks for P8 gets 13, by 01's rule 14
  pub p8_five_refused : checker.check_number (bytes_of P8) (encode p8_five) ≡ 13
  pub p8_five_by_01 : checker.checked_by (plausible_by common_rule) (cycle_of (bytes_of P8)) (decode (encode p8_five)) ≡ checker.refusal 14
  -- "(3,10,5,2) moves from 10 to 9"
  pub p8_longer_by_01 : outcome_by common_rule (bytes_of p8_longer) ≡ refusal 10

-- R-7: the tries of the sheet's requests
pub record SheetTries : Type 0 where
  -- "the full search's tries"
  pub tries_are : map (λ p. request_tries (bytes_of p)) sheet ≡ 5 ∷ 0 ∷ 20 ∷ 36 ∷ 6 ∷ 1 ∷ 1 ∷ 0 ∷ 1 ∷ 0 ∷ 0 ∷ 1 ∷ 0 ∷ []
  -- a try less is too few for P1's table and for P5's 10
  pub p1_allowed : map (λ n. outcome_within n (bytes_of P1)) (0 ∷ 4 ∷ 5 ∷ []) ≡ refusal 23 ∷ refusal 23 ∷ P1.comes_to ∷ []
  pub p5_allowed : map (λ n. outcome_within n (bytes_of P5)) (35 ∷ 36 ∷ []) ≡ refusal 23 ∷ refusal 10 ∷ []
