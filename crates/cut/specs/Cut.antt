-- Cutting a long transfer, in the words of 02's R-9.
use Rattle.std.specs.Prelude.{ℕ, ◌+◌, ◌-◌, Bool, cond, ◌&&◌, List, ◌∷◌, ◌++◌, map, length, get_or, take, drop, leb, ltb, eqb}
use Rattle.request.specs.Request.{Reading, readable, unreadable, no_task}
use Rattle.request.specs.declared.Task.{Task}
use Rattle.request.specs.declared.Pair.{Pair}

-- a piece of c ticks of the task: "of lengths u and C − u and the same T, D and P"
abbrev pub piece : ℕ → Task → Task
piece c x = record { c = c; t = x.t; d = x.d; p = x.p }

-- "task i replaced by tasks i and i + 1 of lengths u and C − u and the same T, D and P. Later tasks move up by one."
unfoldable pub cut_tasks : List Task → ℕ → ℕ → List Task
cut_tasks tasks i u =
    let x = get_or tasks i no_task in
    take i tasks ++ (piece u x ∷ piece (x.c - u) x ∷ drop (i + 1) tasks)

-- The tasks of a pair. "Pairs in which i came second keep the first piece; pairs in which it came first take the second piece."
abbrev pub as_first : ℕ → ℕ → ℕ
as_first i a = cond (ltb a i) a (a + 1)

abbrev pub as_second : ℕ → ℕ → ℕ
as_second i b = cond (leb b i) b (b + 1)

abbrev pub cut_pair : ℕ → Pair → Pair
cut_pair i q = record { a = as_first i q.a; b = as_second i q.b }

-- "The pair i, i + 1 is added in front."
unfoldable pub cut_pairs : ℕ → List Pair → List Pair
cut_pairs i pairs = record { a = i; b = i + 1 } ∷ map (cut_pair i) pairs

-- i is below n, and u is "from 1 to C − 1"
unfoldable pub cuttable : List Task → ℕ → ℕ → Bool
cuttable tasks i u = ltb i (length tasks) && (leb 1 u && ltb u (get_or tasks i no_task).c)

-- "A call takes a request, first read and refused by its own number"; "It refuses with 24 if i is not below n or u is not from 1 to C − 1, then with 25 if n is
-- already 16."; "More than 16 pairs gives 19, judged after the two". The cut request, or the number of a refusal; 11 is the writer's.
unfoldable pub cut : ℕ → ℕ → Reading → Reading
cut i u (unreadable number) = unreadable number
cut i u (readable tasks pairs g) =
    cond (cuttable tasks i u)
    (cond (eqb (length tasks) 16) (unreadable 25)
    (cond (ltb 16 (length pairs + 1)) (unreadable 19)
    (readable (cut_tasks tasks i u) (cut_pairs i pairs) g)))
    (unreadable 24)
