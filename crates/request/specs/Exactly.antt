-- Which answer the bytes of a request get, exactly, for all byte strings: the table of 01's 'Where a number is given', place by place.
-- Nothing here names the reader's definition: to be believed are these records.
use Rattle.std.specs.Prelude.{ℕ, ◌+◌, ◌*◌, ◌≤◌, ◌<◌, ◌≡◌, List, ◌↔◌, ◌⊎◌, length, get_or}
use Rattle.request.specs.Request.{readable, unreadable, no_task, no_pair}
use Rattle.request.specs.Readable.{TaskKept}
use Rattle.request.specs.Answers.{request_answered}
use Rattle.request.specs.declared.Task.{Task}
use Rattle.request.specs.declared.Pair.{Pair}
use Rattle.request.specs.Numbered.{Request}

-- the counts and records of a request, and its end
pub data Place : Type 0 where
  task_count_lem pair_count_lem silent_count silent_ticks the_end : Place
  task pair : ℕ → Place

-- a place that is there under a condition, begins at a byte, has so many bytes, and gives its number if they break the rule
pub record Field : Type 1 where
  pub There : Type 0
  pub at : ℕ
  pub size : ℕ
  pub Rule : Type 0
  pub number : ℕ

module _ (s : List ℕ) where
  abbrev pub byte : ℕ → ℕ
  byte i = get_or s i 0

  -- "A u16 is two bytes, low byte first."
  abbrev pub word : ℕ → ℕ
  word i = byte i + byte (i + 1) * 256

  -- "First: task count n (one byte, 1 to 16), then n records of four u16: C (worst transfer time), T (period), D (deadline after release), P (phase)."
  abbrev pub n : ℕ
  n = byte 0

  abbrev pub task_at : ℕ → Task
  task_at i = record { c = word (1 + 8 * i); t = word (3 + 8 * i); d = word (5 + 8 * i); p = word (7 + 8 * i) }

  -- "Second: pair count (one byte, 0 to 16), then pairs of bytes a, b"
  abbrev pub second : ℕ
  second = 1 + 8 * n

  abbrev pub m : ℕ
  m = byte second

  abbrev pub pair_at : ℕ → Pair
  pair_at j = record { a = byte (second + 1 + 2 * j); b = byte (second + 2 + 2 * j) }

  -- R-1: "a third section: a count 0 or 1, then that many bytes: g from 0 to 15"
  abbrev pub third : ℕ
  third = second + 1 + 2 * m

  abbrev pub field : Place → Field
  -- 2: "n is 0 or above 16"
  field task_count_lem = record { There = Unit; at = 0; size = 1; Rule = (1 ≤ n) × (n ≤ 16); number = 2 }
  -- 3: "a task breaks its inequalities"
  field (task i) = record { There = i < n; at = 1 + 8 * i; size = 8; Rule = TaskKept (task_at i); number = 3 }
  -- 4: "pair count above 16"
  field pair_count_lem = record { There = Unit; at = second; size = 1; Rule = m ≤ 16; number = 4 }
  -- 5: "a pair breaks its rule": "A pair has a < b < n and equal T"
  field (pair j) = let q = pair_at j in record {
    There = j < m;
    at = second + 1 + 2 * j;
    size = 2;
    Rule = (q.a < q.b) × (q.b < n) × ((task_at q.a).t ≡ (task_at q.b).t);
    number = 5;
  }
  -- R-1: "A file that ends after its pairs means g = 0"; 17: "a count above 1 or a g above 15"
  field silent_count = record { There = third < length s; at = third; size = 1; Rule = byte third ≤ 1; number = 17 }
  field silent_ticks = record { There = (third < length s) × (byte third ≡ 1); at = third + 1; size = 1; Rule = byte (third + 1) ≤ 15; number = 17 }
  -- 6: "bytes follow the last pair"; R-1: "Number 6 now applies behind this section."
  field the_end = record { There = third < length s; at = third + 1 + byte third; size = 0; Rule = length s ≤ third + 1 + byte third; number = 6 }

  -- 1: "bytes end inside a section or before its count"
  abbrev pub Cut : Place → Type 0
  Cut p = length s < (field p).at + (field p).size

  pub record Kept (p : Place) : Type 0 where
    pub whole : Cut p → ⊥
    pub rule : (field p).Rule

  abbrev pub Gives : Place → ℕ → Type 0
  Gives p number = (Cut p × (number ≡ 1)) ⊎ ((Cut p → ⊥) × ((field p).Rule → ⊥) × (number ≡ (field p).number))

  -- "Places are visited in this order; reading judges each count and record as it is met, from the front."
  pub record Stops (number : ℕ) : Type 0 where
    pub place : Place
    pub there : (field place).There
    pub before : (q : Place) → (field q).There → (field q).at < (field place).at → Kept q
    pub gives : Gives place number

  -- what the bytes say
  pub record Says (tasks : List Task) (pairs : List Pair) (g : ℕ) : Type 0 where
    pub all_kept : (p : Place) → (field p).There → Kept p
    pub n_is : length tasks ≡ n
    pub tasks_are : (i : ℕ) → i < n → get_or tasks i no_task ≡ task_at i
    pub m_is : length pairs ≡ m
    pub pairs_are : (j : ℕ) → j < m → get_or pairs j no_pair ≡ pair_at j
    -- "and 0 with a count of 0"
    pub no_g : byte third ≡ 0 → g ≡ 0
    pub one_g : byte third ≡ 1 → g ≡ byte (third + 1)
    pub g_few : g ≤ 15

  -- r, the answer of `request::read`, is a refusal with the number with which a place stops, or what the bytes say
  pub record ReadExact (r : Request) : Type 0 where
    pub refused : (number : ℕ) → (r ≡ request_answered (unreadable number)) ↔ Stops number
    pub read : (tasks : List Task) (pairs : List Pair) (g : ℕ) → (r ≡ request_answered (readable tasks pairs g)) ↔ Says tasks pairs g
