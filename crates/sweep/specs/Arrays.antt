-- What the sweep is given in arrays: the rules that they stand for, and what its functions require and ensure. Assumes nothing.
use Rattle.std.specs.Prelude.{◌≡◌, Bool, true, false, not, cond, ◌&&◌, List, ◌++◌, ℕ, ◌+◌, ◌-◌, ◌*◌, ◌/◌, ◌%◌, ◌^◌, ◌≤◌, ◌<◌, length, get_or, set, leb, eqb}
use Rattle.std.specs.Int.Bits.{bit_or}
use Rattle.search.specs.Placing.{links_at}
use Rattle.searcher.specs.Arrays.{counts_in, rows_in, jobs_in, LinksBack}
use Rattle.searcher.specs.declared.Problem.{Problem as InArrays}
use Rattle.sweep.specs.declared.Swept.{Swept}
use Rattle.exact.specs.Sweep.{Rules, sum, skips, From, Rest, Ordered}
use Rattle.exact.specs.Sided.{Jobs, rules_of, put_by, leave_by}
use Rattle.exact.specs.SweepLaws.{Putting}
use Rattle.exact.specs.Words.{word_at}
use Rattle.sweep.specs.Memo.{Sound}

-- the side of each job
abbrev pub sides_in : Swept → ℕ → ℕ
sides_in s i = get_or s.side i 0

-- whether a job with a higher number must not be later
abbrev pub tied_in : Swept → ℕ → Bool
tied_in s i = not (eqb (get_or s.tied i 0) 0)

-- the jobs: their costs and links, their rows and sides, and which are tied to one with a higher number
abbrev pub jobs_of : InArrays → Swept → Jobs
jobs_of g s = record {
  n = jobs_in g;
  f = g.f;
  cost = λ i. get_or g.cost i 0;
  first = λ i. get_or s.first i 0;
  end = λ i. get_or s.end i 0;
  side = sides_in s;
  links = λ i. links_at (counts_in g) g.links i;
  tied = tied_in s;
}

unfoldable pub rules_in : InArrays → Swept → Rules
rules_in g s = rules_of (jobs_of g s)

-- there are as many jobs and rows as the arrays have room for, and each link has its place and names an earlier job
pub record Sweepable (g : InArrays) : Type 0 where
  pub few : jobs_in g ≤ 128
  pub few_rows : rows_in g ≤ 256
  pub back : (i : ℕ) → i < jobs_in g → LinksBack (counts_in g) g.links i

-- link l of job i lets it be put into the row, or left out of it
abbrev pub lets_by : Bool → (ℕ → ℕ) → List Bool → ℕ → ℕ → Bool
lets_by put side ps i l = cond put (put_by side ps i l) (leave_by side ps i l)

-- bit j of a number
abbrev pub bit : ℕ → ℕ → ℕ
bit w j = w / 2 ^ j % 2

-- bit j of word k is set
abbrev pub with_bit : List ℕ → ℕ → ℕ → List ℕ
with_bit ws k j = set ws k (bit_or (get_or ws k 0) (2 ^ j))

-- the jobs that have begun in a row have a bit in one of its two words
pub record Begun (u : Rules) (rows : ℕ) (ws : List ℕ) : Type 0 where
  pub size : length ws ≡ 512
  pub each : (q x : ℕ) → q < rows → x < u.n → u.first x ≤ q → bit (get_or ws (2 * q + x / 64) 0) (x % 64) ≡ 1

-- the same of the first i jobs; from word k on only where the job's first row is
pub record Beginning (u : Rules) (rows i k : ℕ) (ws : List ℕ) : Type 0 where
  pub size : length ws ≡ 512
  pub each : (q x : ℕ) → q < rows → x < i → u.first x ≤ q → (k ≤ 2 * q + x / 64 → u.first x ≡ q) → bit (get_or ws (2 * q + x / 64) 0) (x % 64) ≡ 1

-- where the first has a bit from place i on before place j, so has the second
abbrev pub Unfree : ℕ → ℕ → ℕ → ℕ → Type 0
Unfree a b i j = (y : ℕ) → i ≤ y → y < j → bit a y ≡ 1 → bit b y ≡ 1

-- what job x, if it has no row, takes of the rows that end before row e
abbrev pub due_share : Rules → List Bool → ℕ → ℕ → ℕ
due_share u ps e x = cond (u.sided x && (not (get_or ps x false) && eqb (u.end x) e)) (u.cost x) 0

-- the sums of these over the first i jobs, at place e
pub record Due (u : Rules) (ps : List Bool) (i : ℕ) (due : List ℕ) : Type 0 where
  pub size : length due ≡ 257
  pub each : (e : ℕ) → e ≤ 256 → get_or due e 0 ≡ sum (due_share u ps e) i 0
  pub small : (e : ℕ) → get_or due e 0 ≤ i * 65535

-- c more at place e, if there is one
abbrev pub added_at : List ℕ → ℕ → ℕ → List ℕ
added_at due e c = cond (leb e 256) (set due e (get_or due e 0 + c)) due

-- c less at place e, if there is one
abbrev pub taken_at : List ℕ → ℕ → ℕ → List ℕ
taken_at due e c = cond (leb e 256) (set due e (get_or due e 0 - c)) due

-- j is the first job from job i on that is not passed over in row p, or `end`, or i if that is behind it
pub record Next (u : Rules) (p : ℕ) (ps : List Bool) (i end j : ℕ) : Type 0 where
  pub begun : i ≤ j
  pub most : (m : ℕ) → i ≤ m → end ≤ m → j ≤ m
  pub passed : (y : ℕ) → i ≤ y → y < j → skips u p ps y ≡ true
  pub here : j < end → skips u p ps j ≡ false

-- the memory of failed states
pub record Memory (u : Rules) (rows : ℕ) (marks words : List ℕ) : Type 0 where
  pub marks_size : length marks ≡ 5120
  pub words_size : length words ≡ 10240
  pub sound : Sound u rows (marks ++ words)

-- the flags, as words too, the times of the jobs without a row, and the memory
pub record Going (u : Rules) (rows : ℕ) (ps : List Bool) (due marks words : List ℕ) (low high : ℕ) (kept : Bool) : Type 0 where
  pub flags : length ps ≡ 128
  pub lows : low ≡ word_at ps 0
  pub highs : high ≡ word_at ps 64
  pub order : kept ≡ true → Ordered u ps
  pub times : Due u ps u.n due
  pub memory : Memory u rows marks words

-- what the answer no of `run` says: the rest of row p fails; if the next row was begun, that fails too; and flags and times are as before
pub record Failed (u : Rules) (rows p i room : ℕ) (ps : List Bool) (due : List ℕ) (e : ℕ) (ps' : List Bool) (due' marks' words' : List ℕ) : Type 0 where
  pub fails : Rest u rows p i ps room
  pub next : p < e → From u rows (p + 1) ps
  pub same : ps' ≡ ps
  pub same_due : due' ≡ due
  pub memory : Memory u rows marks' words'

-- what the answer no of `put` says: putting job i into row p fails
pub record NotPut (u : Rules) (rows p i room : ℕ) (ps : List Bool) (due : List ℕ) (ps' : List Bool) (due' marks' words' : List ℕ) : Type 0 where
  pub fails : Putting u rows p i ps room
  pub same : ps' ≡ ps
  pub same_due : due' ≡ due
  pub memory : Memory u rows marks' words'
