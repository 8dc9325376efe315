-- What the search is given in arrays: the problem that they stand for, and what its functions require and ensure. A placing has the first n
-- entries of the array of frames, one for each job. Assumes nothing.
use Rattle.std.specs.Prelude.{◌≡◌, ℕ, ◌+◌, ◌-◌, ◌*◌, ◌≤◌, ◌<◌, ◌%◌, cond, length, get_or, take, drop, ltb}
use mathlib.Core.List.{List, Memᴰ}
use Rattle.cursor.specs.Padded.{padded}
use Rattle.search.specs.Search.{Found, none, at, Walk}
use Rattle.search.specs.Counting.{attempt_walk}
use Rattle.search.specs.Placing.{plan_walk, Problem, problem, links_at, partner, Bounds, Proper, LoadsKept}
use Rattle.searcher.specs.declared.Given.{Given}
use Rattle.searcher.specs.declared.Problem.{Problem as InArrays}
use Rattle.searcher.specs.declared.Placed.{Placed}
use Rattle.searcher.specs.declared.Placed.TheVariants.{At, Nowhere, OutOfTries}
use Rattle.searcher.specs.declared.Attempt.{Attempt}
use Rattle.searcher.specs.declared.Attempt.TheVariants.{Done, Failed, Stopped}

-- the problem of the first n entries of these arrays
abbrev pub problem_from : List ℕ → List ℕ → List ℕ → List ℕ → List ℕ → ℕ → ℕ → ℕ → Problem
problem_from cost first end counts links n rows f = problem (take n cost) (take n first) (take n end) (take n counts) (take (16 * n) links) rows f

-- the problem of what is given
abbrev pub problem_of : Given → Problem
problem_of g = problem_from g.cost g.first g.end g.counts g.links g.n g.rows g.f

-- there are n entries, and the problem is one for the search
pub record Placeable (g : Given) : Type 0 where
  pub few : g.n ≤ 128
  pub costs : g.n ≤ length g.cost
  pub few_rows : g.rows ≤ 256
  pub short : g.f ≤ 65535
  pub proper : Proper (problem_of g)

-- at most 128 numbers, which two bytes hold
pub record Small (xs : List ℕ) : Type 0 where
  pub few : length xs ≤ 128
  pub small : (j : ℕ) → j < length xs → get_or xs j 0 ≤ 65535

-- what is found, as it is answered, with what is left of the tries
unfoldable pub placed_answer : Found → ℕ → Placed
placed_answer (at frames) left = At (padded 128 0 frames) left
placed_answer none left = Nowhere left

-- what is answered where a tries are allowed: that they end "exactly when the full search needs more tries than allowed"
unfoldable pub placed_within : ℕ → Walk → Placed
placed_within a w = cond (ltb a w.tries) OutOfTries (placed_answer w.found (a - w.tries))

-- as it is packed: how many links each job has
abbrev pub counts_in : InArrays → List ℕ
counts_in g = g.counts

-- the number of rows, and the number of jobs
abbrev pub rows_in : InArrays → ℕ
rows_in g = g.rows

abbrev pub jobs_in : InArrays → ℕ
jobs_in g = g.n

-- the problem that it gives
abbrev pub problem_in : InArrays → Problem
problem_in g = problem_from g.cost g.first g.end (counts_in g) g.links (jobs_in g) (rows_in g) g.f

-- the links of job i have their places, and each names an earlier job
pub record LinksBack (counts links : List ℕ) (i : ℕ) : Type 0 where
  pub is_job : i < 128
  pub room : 16 * i + 16 ≤ length links
  pub few : get_or counts i 0 ≤ 16
  pub back : (l : ℕ) → Memᴰ l (links_at counts links i) → partner l < i

-- there are n jobs, and the arrays have room for their frames and for the loads of all rows
pub record Ready (x : Problem) (n : ℕ) (place load : List ℕ) : Type 0 where
  pub proper : Proper x
  pub jobs : length x.cost ≡ n
  pub few : n ≤ 128
  pub few_rows : x.rows ≤ 256
  pub short : x.f ≤ 65535
  pub places : n ≤ length place
  pub row_room : x.rows ≤ length load

-- the jobs before i are placed, with their loads: what it takes to place job i and those after it
pub record Placing (x : Problem) (n : ℕ) (place load : List ℕ) (i : ℕ) : Type 0 where
  pub within : i ≤ n
  pub ready : Ready x n place load
  pub loads : LoadsKept x (take i place) load

-- what it takes to test job i in frame k: the jobs before it are placed, "each kept load equals the sum of C + g over the jobs then placed in its row",
-- `row` is the row of frame k, and the job's links leave it the frames from `low` to `high`
pub record Testing (x : Problem) (n : ℕ) (place load : List ℕ) (i k row low high : ℕ) : Type 0 where
  pub more : i < n
  pub ready : Ready x n place load
  pub loads : LoadsKept x (take i place) load
  pub at_row : row ≡ k % x.rows
  pub bounds : Bounds x (take i place) i low high

-- what an attempt comes to that ends with a placing or none
unfoldable pub ended : Found → Attempt
ended none = Failed
ended (at p) = Done

-- how things are left where the search is w, a tries were left before it and a' are after it: if a reaches the tries of w, the answer is the
-- search's, and exactly those are taken off; else it has stopped, and none is left. Done leaves the placing in `place`, with its loads; Failed
-- leaves every load as before; the jobs before i keep their frames, and what stands behind the n jobs is left alone
pub record Tried (x : Problem) (w : Walk) (n : ℕ) (place load : List ℕ) (i a : ℕ) (r : Attempt) (place' load' : List ℕ) (a' : ℕ) : Type 0 where
  pub enough : w.tries ≤ a → (r ≡ ended w.found) × (a' ≡ a - w.tries)
  pub out : a < w.tries → (r ≡ Stopped) × (a' ≡ 0)
  pub found : r ≡ Done → w.found ≡ at (take n place')
  pub kept : take i place' ≡ take i place
  pub beyond : drop n place' ≡ drop n place
  pub size : length place' ≡ length place
  pub undone : r ≡ Failed → load' ≡ load
  pub loads : r ≡ Done → LoadsKept x (take n place') load'

-- job i was tried in the frames of its window
abbrev pub TriedJob : Problem → ℕ → List ℕ → List ℕ → ℕ → ℕ → Attempt → List ℕ → List ℕ → ℕ → Type 0
TriedJob x n place load i a r place' load' a' = Tried x (plan_walk x (take i place)) n place load i a r place' load' a'

-- job i was tried in frame k
abbrev pub TriedFrame : Problem → ℕ → List ℕ → List ℕ → ℕ → ℕ → ℕ → Attempt → List ℕ → List ℕ → ℕ → Type 0
TriedFrame x n place load i k a r place' load' a' = Tried x (attempt_walk x (take i place) k) n place load i a r place' load' a'
