-- Both bounds are reached, so that neither can be better in general: two flights of one accepted table, over the change from the first cycle to the second.
-- And P7, whose job is carried, over the same change.
use Rattle.std.specs.Prelude.{ℕ, zero, suc, ◌+◌, ◌≡◌, true, false, List, [], ◌∷◌}
use Rattle.table.specs.Table.{Table, table, decode}
use Rattle.model.specs.Plan.{Instance, task_at}
use Rattle.model.specs.Within.{Within}
use Rattle.checker.specs.Checked as checker
use Rattle.flight.specs.Calls.{Call, next_frame_call}
use Rattle.flight.specs.Timing.{KeepToC}
use Rattle.flight.specs.Flight.{frames_flown, Started, starts}
use Rattle.flight_spacing.specs.Spacing.{Successive}

-- A request, an accepted table and a list of calls

pub record Example : Type 0 where
  pub x : Instance
  pub request : List ℕ
  pub bytes : List ℕ
  pub t : Table
  pub calls : List Call

pub record Checked (e : Example) : Type 0 where
  pub within : Within e.request e.x
  pub says : decode e.bytes ≡ table e.t
  pub accepted : checker.check_number e.request e.bytes ≡ 0

-- in this flight two successive jobs start, the first at tick `one` and the second at tick `two`
pub record Readings (e : Example) (actual : ℕ → ℕ → ℕ) (i j q k r one two : ℕ) : Type 0 where
  pub keep : KeepToC e.x (frames_flown e.bytes e.calls) actual
  pub successive : Successive e.x i j q k r
  pub m : ℕ
  pub p : ℕ
  pub first : Started e.x e.bytes e.t e.calls actual i j q m p
  pub first_at : starts e.x e.bytes e.t e.calls actual m p ≡ one
  pub n : ℕ
  pub o : ℕ
  pub second : Started e.x e.bytes e.t e.calls actual i k r n o
  pub second_at : starts e.x e.bytes e.t e.calls actual n o ≡ two

-- (7,10,10,0) (3,10,10,0): one row, so each frame is a cycle. Task 1 starts when task 0 ends.
abbrev pub one_row : Example
one_row = record {
  x = record {
    tasks = record { c = 7; t = 10; d = 10; p = 0 } ∷ record { c = 3; t = 10; d = 10; p = 0 } ∷ [];
    pairs = [];
    g = 0;
    h = 10;
    jobs = record { task = 0; number = 0; release = 0; due = 10 } ∷ record { task = 1; number = 0; release = 0; due = 10 } ∷ [];
  };
  request = 2 ∷ 7 ∷ 0 ∷ 10 ∷ 0 ∷ 10 ∷ 0 ∷ 0 ∷ 0 ∷ 3 ∷ 0 ∷ 10 ∷ 0 ∷ 10 ∷ 0 ∷ 0 ∷ 0 ∷ 0 ∷ [];
  bytes = 2 ∷ 10 ∷ 0 ∷ 10 ∷ 0 ∷ 1 ∷ 0 ∷ 2 ∷ 0 ∷ 0 ∷ 1 ∷ 0 ∷ [];
  t = record { f = 10; h = 10; rows = (record { task = 0; number = 0; carried = false } ∷ record { task = 1; number = 0; carried = false } ∷ []) ∷ [] };
  calls = next_frame_call ∷ next_frame_call ∷ [];
}

-- task 0 takes no time in the first cycle and its C in the second
unfoldable pub slower : ℕ → ℕ → ℕ
slower (suc zero) zero = 7
slower (suc zero) (suc p) = 0
slower zero p = 0
slower (suc (suc m)) p = 0

-- and the other way round
unfoldable pub faster : ℕ → ℕ → ℕ
faster zero zero = 7
faster zero (suc p) = 0
faster (suc m) p = 0

-- P7 (2,10,9,6): f 5; rows 0.0+ / empty
abbrev pub P7 : Example
P7 = record {
  x = record {
    tasks = record { c = 2; t = 10; d = 9; p = 6 } ∷ [];
    pairs = [];
    g = 0;
    h = 10;
    jobs = record { task = 0; number = 0; release = 6; due = 15 } ∷ [];
  };
  request = 1 ∷ 2 ∷ 0 ∷ 10 ∷ 0 ∷ 9 ∷ 0 ∷ 6 ∷ 0 ∷ 0 ∷ [];
  bytes = 2 ∷ 5 ∷ 0 ∷ 10 ∷ 0 ∷ 2 ∷ 0 ∷ 1 ∷ 0 ∷ 128 ∷ 0 ∷ [];
  t = record { f = 5; h = 10; rows = (record { task = 0; number = 0; carried = true } ∷ []) ∷ [] ∷ [] };
  calls = next_frame_call ∷ next_frame_call ∷ next_frame_call ∷ next_frame_call ∷ next_frame_call ∷ [];
}

pub record Reached : Type 0 where
  pub row_checked : Checked one_row
  -- job 0 of task 1 of cycles 0 and 1: 17 ticks apart, and T + (D − C) is 10 + 7
  pub most : Readings one_row slower 1 0 0 0 1 0 17
  pub most_is : 17 + (task_at one_row.x 1).c ≡ 0 + (task_at one_row.x 1).t + (task_at one_row.x 1).d
  -- 3 ticks apart, and T − (D − C) is 10 − 7
  pub least : Readings one_row faster 1 0 0 0 1 7 10
  pub least_is : 7 + (task_at one_row.x 1).t + (task_at one_row.x 1).c ≡ 10 + (task_at one_row.x 1).d
  -- P7's job of cycle 0 is served first in frame 2, so at 10, and that of cycle 1 in frame 4
  pub p7_checked : Checked P7
  pub carried : Readings P7 (λ m p. 0) 0 0 0 0 1 10 20
