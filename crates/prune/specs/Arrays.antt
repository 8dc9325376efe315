-- Pruning in arrays: what its functions require and ensure. A function that says no ensures that no placing lies in the domains; one that moves
-- domains ensures that what it leaves out is no placing. Assumes nothing.
use Rattle.std.specs.Prelude.{◌≡◌, cond, ℕ, ◌-◌, ◌≤◌, ◌<◌, min, max, length, get_or, set, ltb}
use mathlib.Core.List.{List, Memᴰ}
use Rattle.search.specs.Placing.{Problem, links_at, Proper}
use Rattle.searcher.specs.Arrays.{rows_in, jobs_in, problem_in}
use Rattle.searcher.specs.declared.Problem.{Problem as InArrays}
use Rattle.exact.specs.Domains.{Domains}
use Rattle.exact.specs.Sided.{side_in, from_side}
use Rattle.exact.specs.None.{None}

-- what is given is one problem, of as many jobs and rows as the arrays have room for
pub record Packed (g : InArrays) : Type 0 where
  pub few : jobs_in g ≤ 128
  pub few_rows : rows_in g ≤ 256
  pub jobs : length (problem_in g).cost ≡ jobs_in g
  pub proper : Proper (problem_in g)

-- the domains in two arrays
abbrev pub domains : List ℕ → List ℕ → Domains
domains low high = record { low = low; high = high }

-- an array of frames with one raised to v, if it is less; with one lowered
abbrev pub raised : List ℕ → ℕ → ℕ → List ℕ
raised low i v = set low i (max (get_or low i 0) v)

abbrev pub lowered : List ℕ → ℕ → ℕ → List ℕ
lowered high i v = set high i (min (get_or high i 0) v)

-- job a is not in a later frame than job b
pub record Tied (low high : List ℕ) (a b : ℕ) (low' high' : List ℕ) : Type 0 where
  pub lows : low' ≡ raised low b (get_or low a 0)
  pub highs : high' ≡ lowered high a (get_or high b 0)

-- the same by link l of job i
pub record Linked (low high : List ℕ) (i l : ℕ) (low' high' : List ℕ) : Type 0 where
  pub before : l < 128 → Tied low high l i low' high'
  pub behind : 128 ≤ l → Tied low high i (l - 128) low' high'

-- domains that hold no less
pub record Tightened (x : Problem) (d d' : Domains) : Type 0 where
  pub keeps : None x d' → None x d

-- some domain is empty
pub record Empty (low high : List ℕ) (n : ℕ) : Type 0 where
  pub job : ℕ
  pub is_job : job < n
  pub none : get_or high job 0 ≤ get_or low job 0

-- an array of 128 numbers whose first n are those of f
pub record Filled (f : ℕ → ℕ) (n : ℕ) (out : List ℕ) : Type 0 where
  pub size : length out ≡ 128
  pub each : (i : ℕ) → i < n → get_or out i 0 ≡ f i

-- the side of each job, and its frames counted from there
abbrev pub side_by : ℕ → List ℕ → List ℕ → ℕ → ℕ
side_by rows low high i = side_in rows (get_or low i 0) (get_or high i 0)

abbrev pub row_by : List ℕ → List ℕ → ℕ → ℕ → ℕ
row_by frames sides away i = from_side (get_or sides i 0) (get_or frames i 0) away

-- a job that a link from 128 on names is marked
abbrev pub marked_by : List ℕ → ℕ → List ℕ
marked_by out l = cond (ltb l 128) out (set out (l - 128) 1)

-- each job is marked that a link of the first m jobs says must not be later than it
pub record Marked (counts links : List ℕ) (m : ℕ) (out : List ℕ) : Type 0 where
  pub size : length out ≡ 128
  pub each : (y l : ℕ) → y < m → Memᴰ l (links_at counts links y) → 128 ≤ l → get_or out (l - 128) 0 ≡ 1
