-- The answers of the reading functions, and what the definitions make of them: a number where they refuse, and lists in arrays of 16.
use Rattle.std.specs.Prelude.{ℕ, ◌+◌, ◌-◌, ◌*◌, List, length, replicate, Result, Ok, Err}
use Rattle.refusal.specs.Refusal.{number_of}
use Rattle.refusal.specs.declared.Refusal.{Refusal}
use Rattle.cursor.specs.Parsed.{Parsed, got, refused}
use Rattle.cursor.specs.Widths.{located, Told, a_record, a_number}
use Rattle.cursor.specs.Padded.{padded}
use Rattle.cursor.specs.declared.Cursor.{Cursor}
use Rattle.request.specs.Request.{Reading, readable, unreadable, no_task, no_pair}
use Rattle.request.specs.Numbered.{Request, unread}
use Rattle.request.specs.declared.Task.{Task}
use Rattle.request.specs.declared.Pair.{Pair}
use Rattle.request.specs.declared.Section.{Section}

-- what the answer for a record tells
abbrev pub record_said : {A : Type 0} → Result (A × Cursor) Refusal → Told A
record_said (Ok x) = a_record x.0 x.1
record_said (Err e) = a_number (number_of e)

-- a task of 8 bytes was read at a place, or refused
abbrev pub task_read : ℕ → Parsed Task → Told Task
task_read at r = located a_record a_number 8 at r

-- a pair of 2 bytes
abbrev pub pair_read : ℕ → Parsed Pair → Told Pair
pair_read at r = located a_record a_number 2 at r

-- What the answer for a section tells: its count, its records in 16 places and where it ends; or the number of its refusal, and none.
pub record SectionTold (A : Type 0) : Type 0 where
  pub refusal : ℕ
  pub n : ℕ
  pub records : List A
  pub end : ℕ

abbrev pub section_none : {A : Type 0} → A → ℕ → SectionTold A
section_none blank number = record { refusal = number; n = 0; records = replicate 16 blank; end = 0 }

abbrev pub section_said : {A : Type 0} → A → Result (Section A) Refusal → SectionTold A
section_said blank (Ok x) = record { refusal = 0; n = x.n; records = x.records; end = x.end }
section_said blank (Err e) = section_none blank (number_of e)

abbrev pub section_answer : {A : Type 0} → A → ℕ → Parsed (List A) → SectionTold A
section_answer blank width (got xs rest) = record { refusal = 0; n = length xs; records = padded 16 blank xs; end = 1 + width * length xs }
section_answer blank width (refused number) = section_none blank number

abbrev pub tasks_said : Result (Section Task) Refusal → SectionTold Task
tasks_said r = section_said no_task r

abbrev pub task_section : Parsed (List Task) → SectionTold Task
task_section r = section_answer no_task 8 r

abbrev pub pairs_said : Result (Section Pair) Refusal → SectionTold Pair
pairs_said r = section_said no_pair r

abbrev pub pair_section : Parsed (List Pair) → SectionTold Pair
pair_section r = section_answer no_pair 2 r

-- the silent ticks and where their section ends; or the number of its refusal
pub record SilentTold : Type 0 where
  pub refusal : ℕ
  pub g : ℕ
  pub end : ℕ

abbrev pub no_silent : ℕ → SilentTold
no_silent number = record { refusal = number; g = 0; end = 0 }

abbrev pub silent_said : Result (ℕ × ℕ) Refusal → SilentTold
silent_said (Ok x) = record { refusal = 0; g = x.0; end = x.1 }
silent_said (Err e) = no_silent (number_of e)

-- the third section of some bytes, which ends where the bytes behind it begin
abbrev pub silent_section : List ℕ → Parsed ℕ → SilentTold
silent_section bytes (got g rest) = record { refusal = 0; g = g; end = length bytes - length rest }
silent_section bytes (refused number) = no_silent number

-- the reading of a request as the function's answer
abbrev pub request_answered : Reading → Request
request_answered (readable tasks pairs g) =
    record { refusal = 0; n = length tasks; tasks = padded 16 no_task tasks; m = length pairs; pairs = padded 16 no_pair pairs; g = g }
request_answered (unreadable number) = unread number
