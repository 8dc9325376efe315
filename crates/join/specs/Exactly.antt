-- Which answer joining gets, exactly, for all byte strings and buffers; and what the joined file is, place by place. 02, R-4.
-- Nothing here names a definition of Joined: to be believed are these records.
use Rattle.std.specs.Prelude.{ℕ, ◌+◌, ◌≤◌, ◌<◌, ◌≡◌, ◌↔◌, ◌≢◌, List, ◌++◌, length, get_or, drop}
use Rattle.request.specs.Request.{readable, unreadable, reading, no_task, no_pair}
use Rattle.request.specs.Encode.{two_sections, request_bytes}
use Rattle.request.specs.declared.Task.{Task}
use Rattle.request.specs.declared.Pair.{Pair}
use Rattle.cursor.specs.Written.{Written}

-- the list of a board: a request as it was read
pub record Board : Type 0 where
  pub tasks : List Task
  pub pairs : List Pair
  pub g : ℕ

abbrev pub ReadsAs : List ℕ → Board → Type 0
ReadsAs bytes x = reading bytes ≡ readable x.tasks x.pairs x.g

-- how many tasks and pairs two boards have together
abbrev pub both_tasks : Board → Board → ℕ
both_tasks x y = length x.tasks + length y.tasks

abbrev pub both_pairs : Board → Board → ℕ
both_pairs x y = length x.pairs + length y.pairs

-- "the first's tasks, then the second's": by their places; no other is there, since their number is known
pub record JoinTasks (old new tasks : List Task) : Type 0 where
  pub as_many : length tasks ≡ length old + length new
  pub of_first : (k : ℕ) → k < length old → get_or tasks k no_task ≡ get_or old k no_task
  pub of_second : (k : ℕ) → k < length new → get_or tasks (length old + k) no_task ≡ get_or new k no_task

-- r is the pair q "with numbers raised by the first's n"
pub record RaisedPair (n : ℕ) (q r : Pair) : Type 0 where
  pub a_is : r.a ≡ q.a + n
  pub b_is : r.b ≡ q.b + n

-- "pairs likewise": by their places, one that stands twice twice
pub record JoinPairs (n : ℕ) (old new pairs : List Pair) : Type 0 where
  pub as_many : length pairs ≡ length old + length new
  pub of_first : (v : ℕ) → v < length old → get_or pairs v no_pair ≡ get_or old v no_pair
  pub of_second : (v : ℕ) → v < length new → RaisedPair n (get_or new v no_pair) (get_or pairs (length old + v) no_pair)

-- the file of the two boards
pub record JoinFile (x y : Board) (file : List ℕ) : Type 0 where
  pub tasks : List Task
  pub pairs : List Pair
  pub tasks_are : JoinTasks x.tasks y.tasks tasks
  pub pairs_are : JoinPairs (length x.tasks) x.pairs y.pairs pairs
  -- "and the common g"
  pub bytes : file ≡ request_bytes tasks pairs x.g
  -- "A g of 0 is written by leaving the third section out."
  pub silence : x.g ≡ 0 → file ≡ two_sections tasks pairs
  -- "The joined file always reads as valid, and its tasks and pairs are those of the two and no others."
  pub reads : reading file ≡ readable tasks pairs x.g

module _ (first second : List ℕ) where
  -- both requests are read, and `Claim` holds of the two
  abbrev pub OfBoards : (Board → Board → Type 0) → Type 0
  OfBoards Claim = (x : Board) × (y : Board) × ReadsAs first x × ReadsAs second y × Claim x y

  -- they can be joined, and the joined file has `Claim`
  abbrev pub JoinInto : (List ℕ → Type 0) → Type 0
  JoinInto Claim = OfBoards (λ x y. (both_tasks x y ≤ 16) × (both_pairs x y ≤ 16) × (x.g ≡ y.g) × ((file : List ℕ) × JoinFile x y file × Claim file))

  -- of what a call answers, and of the buffer before and after it
  pub record JoinExact (out : List ℕ) (answer : Written) (after : List ℕ) : Type 0 where
    -- "Each input is first read as in 01 and refused by its own number, the first input's before the second's."
    pub first_number : (number : ℕ) → reading first ≡ unreadable number → answer.refusal ≡ number
    pub second_number : (x : Board) → ReadsAs first x → (number : ℕ) → reading second ≡ unreadable number → answer.refusal ≡ number
    -- "It refuses with 18 more than 16 tasks, then 19 more than 16 pairs, then 20 differing g."
    pub eighteen : (answer.refusal ≡ 18) ↔ OfBoards (λ x y. 16 < both_tasks x y)
    pub nineteen : (answer.refusal ≡ 19) ↔ OfBoards (λ x y. (both_tasks x y ≤ 16) × (16 < both_pairs x y))
    pub twenty : (answer.refusal ≡ 20) ↔ OfBoards (λ x y. (both_tasks x y ≤ 16) × (both_pairs x y ≤ 16) × (x.g ≢ y.g))
    -- "A short buffer gives 11 last."
    pub eleven : (answer.refusal ≡ 11) ↔ JoinInto (λ file. length out < length file)
    pub written : (answer.refusal ≡ 0) ↔ JoinInto (λ file. length file ≤ length out)
    -- "A call takes two requests and writes one"; "Bytes behind the written file keep their content."
    pub is_file : answer.refusal ≡ 0 → JoinInto (λ file. (answer.length ≡ length file) × (after ≡ file ++ drop (length file) out))
    -- 01: "A refusal returns its number, length 0 .. and the buffer untouched."
    pub untouched : (answer.refusal ≡ 0 → ⊥) → (answer.length ≡ 0) × (after ≡ out)
