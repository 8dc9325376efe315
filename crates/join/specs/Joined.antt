-- Joining two requests, in the words of 02's R-4.
use Rattle.std.specs.Prelude.{ℕ, zero, suc, ◌+◌, List, ◌++◌, map, cond, length, ltb, eqb}
use Rattle.request.specs.Request.{Reading, readable, unreadable}
use Rattle.request.specs.declared.Task.{Task}
use Rattle.request.specs.declared.Pair.{Pair}

-- "with numbers raised by the first's n"
abbrev pub raised_by : ℕ → Pair → Pair
raised_by n q = record { a = q.a + n; b = q.b + n }

-- "the first's tasks, then the second's with numbers raised by the first's n, pairs likewise"
abbrev pub joined_tasks : List Task → List Task → List Task
joined_tasks tasks tasks' = tasks ++ tasks'

abbrev pub joined_pairs : ℕ → List Pair → List Pair → List Pair
joined_pairs n pairs pairs' = pairs ++ map (raised_by n) pairs'

-- "It refuses with 18 more than 16 tasks, then 19 more than 16 pairs, then 20 differing g."; 0: none of these
unfoldable pub misfit : ℕ → ℕ → ℕ → ℕ → ℕ
misfit n m g h = cond (ltb 16 n) 18 (cond (ltb 16 m) 19 (cond (eqb g h) 0 20))

-- a request, if its number is 0
abbrev pub unless : ℕ → Reading → Reading
unless zero r = r
unless (suc number) r = unreadable (suc number)

-- "Each input is first read as in 01 and refused by its own number, the first input's before the second's."
-- The joined request, or the number of a refusal
unfoldable pub joined : Reading → Reading → Reading
joined (unreadable number) second = unreadable number
joined (readable tasks pairs g) (unreadable number) = unreadable number
joined (readable tasks pairs g) (readable tasks' pairs' h) =
    unless (misfit (length tasks + length tasks') (length pairs + length pairs') g h)
    (readable (joined_tasks tasks tasks') (joined_pairs (length tasks) pairs pairs') g)
