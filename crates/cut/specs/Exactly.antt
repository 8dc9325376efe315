-- Which answer a cut gets, exactly, for all byte strings, task numbers, lengths and buffers; and what the written file is, place by place. 02, R-9.
-- Nothing here names a definition of Cut but the call's own answer: to be believed are these records.
use Rattle.std.specs.Prelude.{ℕ, suc, ◌+◌, ◌≤◌, ◌<◌, ◌≡◌, ◌↔◌, ◌⊎◌, List, ◌++◌, length, get_or, drop}
use Rattle.request.specs.Request.{readable, unreadable, reading, no_task, no_pair}
use Rattle.request.specs.Encode.{two_sections, request_bytes}
use Rattle.request.specs.declared.Task.{Task}
use Rattle.request.specs.declared.Pair.{Pair}
use Rattle.request.specs.Written.{request_answer, request_buffer}
use Rattle.cursor.specs.Written.{Written}
use Rattle.cut.specs.Cut.{cut}

-- "i is not below n or u is not from 1 to C − 1"
abbrev pub BadCut : ℕ → ℕ → List Task → Type 0
BadCut i u tasks = (length tasks ≤ i) ⊎ ((u ≡ 0) ⊎ ((get_or tasks i no_task).c ≤ u))

-- y is the task x with the length c: "the same T, D and P"
pub record PieceOf (x : Task) (c : ℕ) (y : Task) : Type 0 where
  pub c_is : y.c ≡ c
  pub same_t : y.t ≡ x.t
  pub same_d : y.d ≡ x.d
  pub same_p : y.p ≡ x.p

-- task a, first in a pair, is task y of the cut request
pub record FirstOf (i a y : ℕ) : Type 0 where
  pub below : a < i → y ≡ a
  -- "pairs in which it came first take the second piece"
  pub itself : a ≡ i → y ≡ i + 1
  -- "Later tasks move up by one."
  pub above : i < a → y ≡ a + 1

-- task b, second in a pair
pub record SecondOf (i b y : ℕ) : Type 0 where
  pub below : b < i → y ≡ b
  -- "Pairs in which i came second keep the first piece"
  pub itself : b ≡ i → y ≡ i
  pub above : i < b → y ≡ b + 1

-- the tasks by their places; no other is there, since their number is known
pub record CutTasks (i u : ℕ) (old tasks : List Task) : Type 0 where
  pub one_more : length tasks ≡ length old + 1
  pub before : (k : ℕ) → k < i → get_or tasks k no_task ≡ get_or old k no_task
  -- "task i replaced by tasks i and i + 1 of lengths u and C − u and the same T, D and P"
  pub first_piece : PieceOf (get_or old i no_task) u (get_or tasks i no_task)
  pub second_piece : (c : ℕ) → u + c ≡ (get_or old i no_task).c → PieceOf (get_or old i no_task) c (get_or tasks (i + 1) no_task)
  -- "Later tasks move up by one."
  pub later : (k : ℕ) → i < k → get_or tasks (k + 1) no_task ≡ get_or old k no_task

-- the pairs by their places, one that stands twice twice
pub record CutPairs (i : ℕ) (old pairs : List Pair) : Type 0 where
  -- "The pair i, i + 1 is added in front."
  pub front : get_or pairs 0 no_pair ≡ record { a = i; b = i + 1 }
  pub one_more : length pairs ≡ length old + 1
  pub first_of : (v : ℕ) → v < length old → FirstOf i (get_or old v no_pair).a (get_or pairs (suc v) no_pair).a
  pub second_of : (v : ℕ) → v < length old → SecondOf i (get_or old v no_pair).b (get_or pairs (suc v) no_pair).b

-- the file of the cut request; it reads as valid, as just that request
pub record CutFile (i u : ℕ) (old : List Task) (links : List Pair) (g : ℕ) (file : List ℕ) : Type 0 where
  pub tasks : List Task
  pub pairs : List Pair
  pub tasks_are : CutTasks i u old tasks
  pub pairs_are : CutPairs i links pairs
  pub bytes : file ≡ request_bytes tasks pairs g
  -- "A g .. [is] as for joined lists": "A g of 0 is written by leaving the third section out."
  pub silence : g ≡ 0 → file ≡ two_sections tasks pairs
  pub reads : reading file ≡ readable tasks pairs g

module _ (request : List ℕ) (i u : ℕ) where
  -- the request is read, and `Claim` holds of its tasks, its pairs and its g
  abbrev pub OfRequest : (List Task → List Pair → ℕ → Type 0) → Type 0
  OfRequest Claim = (tasks : List Task) × (pairs : List Pair) × (g : ℕ) × (reading request ≡ readable tasks pairs g) × Claim tasks pairs g

  -- it can be cut, and the file of the cut request has `Claim`
  abbrev pub CutInto : (List ℕ → Type 0) → Type 0
  CutInto Claim = OfRequest (λ tasks pairs g. (BadCut i u tasks → ⊥) × (length tasks < 16) × (length pairs < 16)
      × ((file : List ℕ) × CutFile i u tasks pairs g file × Claim file))

  module _ (out : List ℕ) where
    -- what the call answers, and the buffer after it
    abbrev pub answer : Written
    answer = request_answer (cut i u (reading request)) out

    abbrev pub after : List ℕ
    after = request_buffer (cut i u (reading request)) out

    pub record CutExact : Type 0 where
      -- "a request, first read and refused by its own number"
      pub own_number : (number : ℕ) → reading request ≡ unreadable number → answer.refusal ≡ number
      -- "It refuses with 24 if i is not below n or u is not from 1 to C − 1, then with 25 if n is already 16."
      pub twenty_four : (answer.refusal ≡ 24) ↔ OfRequest (λ tasks pairs g. BadCut i u tasks)
      pub twenty_five : (answer.refusal ≡ 25) ↔ OfRequest (λ tasks pairs g. (BadCut i u tasks → ⊥) × (length tasks ≡ 16))
      -- "More than 16 pairs gives 19, judged after the two"
      pub nineteen : (answer.refusal ≡ 19) ↔ OfRequest (λ tasks pairs g. (BadCut i u tasks → ⊥) × (length tasks < 16) × (length pairs ≡ 16))
      -- "and a short buffer 11 last"
      pub eleven : (answer.refusal ≡ 11) ↔ CutInto (λ file. length out < length file)
      pub written : (answer.refusal ≡ 0) ↔ CutInto (λ file. length file ≤ length out)
      -- "writes the request"; "the bytes behind the file, are as for joined lists": "Bytes behind the written file keep their content."
      pub is_file : answer.refusal ≡ 0 → CutInto (λ file. (answer.length ≡ length file) × (after ≡ file ++ drop (length file) out))
      -- 01: "A refusal returns its number, length 0 .. and the buffer untouched."
      pub untouched : (answer.refusal ≡ 0 → ⊥) → (answer.length ≡ 0) × (after ≡ out)
