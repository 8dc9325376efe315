-- The request file: what its bytes say, or the number that they are refused with.
use Rattle.std.specs.Prelude.{ℕ, zero, suc, List, [], ◌∷◌, Bool, cond, ◌&&◌, length, get_or, leb, ltb, eqb}
use Rattle.cursor.specs.Parsed.{Parsed, got, refused, then, records}
use Rattle.cursor.specs.Fields.{byte_of, word_of}
use Rattle.request.specs.declared.Task.{Task}
use Rattle.request.specs.declared.Pair.{Pair}

abbrev pub no_task : Task
no_task = record { c = 0; t = 0; d = 0; p = 0 }

abbrev pub no_pair : Pair
no_pair = record { a = 0; b = 0 }

-- "A task has 1 ≤ C ≤ D ≤ T and P < T."
unfoldable pub task_rule : Task → Bool
task_rule x = leb 1 x.c && (leb x.c x.d && (leb x.d x.t && ltb x.p x.t))

-- "records of four u16: C (worst transfer time), T (period), D (deadline after release), P (phase)"; 3: "a task breaks its inequalities"
unfoldable pub judged_task : Task → List ℕ → Parsed Task
judged_task x rest = cond (task_rule x) (got x rest) (refused 3)

unfoldable pub task_of : List ℕ → Parsed Task
task_of bytes =
    then (word_of 1 bytes) (λ c rest.
    then (word_of 1 rest) (λ t rest.
    then (word_of 1 rest) (λ d rest.
    then (word_of 1 rest) (λ p rest. judged_task (record { c = c; t = t; d = d; p = p }) rest))))

-- "Sections stand in a fixed order, each after its count.": a count that `test` lets through, or `number`, and then as many records;
-- 1: "bytes end inside a section or before its count"
abbrev pub section : {A : Type 0} → (ℕ → Bool) → (List ℕ → Parsed A) → ℕ → List ℕ → Parsed (List A)
section test one number bytes = then (byte_of 1 bytes) (λ n rest. cond (test n) (records one n [] rest) (refused number))

-- "First: task count n (one byte, 1 to 16), then n records"; 2: "n is 0 or above 16"
abbrev pub task_count : ℕ → Bool
task_count n = leb 1 n && leb n 16

unfoldable pub tasks_of : List ℕ → Parsed (List Task)
tasks_of bytes = section task_count task_of 2 bytes

-- the period of task i
abbrev pub period_of : List Task → ℕ → ℕ
period_of tasks i = (get_or tasks i no_task).t

-- "A pair has a < b < n and equal T"
unfoldable pub pair_rule : List Task → ℕ → ℕ → Bool
pair_rule tasks a b = ltb a b && (ltb b (length tasks) && eqb (period_of tasks a) (period_of tasks b))

-- "pairs of bytes a, b"; 5: "a pair breaks its rule"
unfoldable pub judged_pair : List Task → ℕ → ℕ → List ℕ → Parsed Pair
judged_pair tasks a b rest = cond (pair_rule tasks a b) (got (record { a = a; b = b }) rest) (refused 5)

unfoldable pub pair_of : List Task → List ℕ → Parsed Pair
pair_of tasks bytes = then (byte_of 1 bytes) (λ a rest. then (byte_of 1 rest) (λ b rest. judged_pair tasks a b rest))

-- "Second: pair count (one byte, 0 to 16), then pairs"; 4: "pair count above 16"
abbrev pub pair_count : ℕ → Bool
pair_count m = leb m 16

unfoldable pub pairs_of : List Task → List ℕ → Parsed (List Pair)
pairs_of tasks bytes = section pair_count (pair_of tasks) 4 bytes

-- "a third section: a count 0 or 1, then that many bytes: g from 0 to 15, the silent ticks after every transfer, and 0 with a count of 0.
-- A file that ends after its pairs means g = 0"; 17: "a count above 1 or a g above 15"
unfoldable pub silent_of : List ℕ → Parsed ℕ
silent_of [] = got 0 []
silent_of (zero ∷ rest) = got 0 rest
silent_of (suc zero ∷ rest) = then (byte_of 1 rest) (λ g rest. cond (leb g 15) (got g rest) (refused 17))
silent_of (suc (suc n) ∷ rest) = refused 17

-- what the bytes of a request say: its tasks, its pairs and its silent ticks g, or the number of its refusal, from 1 to 6 or 17
pub data Reading : Type 0 where
  readable : List Task → List Pair → ℕ → Reading
  unreadable : ℕ → Reading

-- "Number 6 now applies behind this section."
abbrev pub ended : List Task → List Pair → Parsed ℕ → Reading
ended tasks pairs (got g []) = readable tasks pairs g
ended tasks pairs (got g (b ∷ rest)) = unreadable 6
ended tasks pairs (refused number) = unreadable number

abbrev pub after_pairs : List Task → Parsed (List Pair) → Reading
after_pairs tasks (got pairs rest) = ended tasks pairs (silent_of rest)
after_pairs tasks (refused number) = unreadable number

abbrev pub after_tasks : Parsed (List Task) → Reading
after_tasks (got tasks rest) = after_pairs tasks (pairs_of tasks rest)
after_tasks (refused number) = unreadable number

-- the first section, and each other one from the bytes behind the one before
unfoldable pub reading : List ℕ → Reading
reading bytes = after_tasks (tasks_of bytes)
