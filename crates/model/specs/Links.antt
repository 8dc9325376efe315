-- The order of pairs as links between jobs, for the search: a job is linked with the jobs that were placed before it and that a pair
-- orders before or after it. Link z says that the job at place z must not stand in a later frame, link z + 128 that it must not stand in
-- an earlier one. A pair's second job may be released first, and so be placed first: hence both kinds.
use Rattle.std.specs.Prelude.{List, [], ◌∷◌, ◌++◌, map, ℕ, zero, suc, ◌+◌, cond, length, get_or, ltb, eqb}
use Rattle.cursor.specs.Range.{range}
use Rattle.cursor.specs.Padded.{padded}
use Rattle.request.specs.declared.Pair.{Pair}
use Rattle.cycle.specs.Planned.{no_job}
use Rattle.cycle.specs.declared.Job.{Job}
use Rattle.model.specs.Named.{is_job}
use Rattle.model.specs.Plan.{Instance}

-- the first of the n places from z on with job j of task i; the place behind them, if none has it
unfoldable pub place_from : List Job → ℕ → ℕ → ℕ → ℕ → ℕ
place_from jobs i j zero z = z
place_from jobs i j (suc n) z =
    let later = place_from jobs i j n (z + 1) in
    cond (is_job i j (get_or jobs z no_job)) z later

-- the place before y of job j of task i; y, if it has none there
unfoldable pub place_before : List Job → ℕ → ℕ → ℕ → ℕ
place_before jobs y i j = place_from jobs i j y 0

-- the link of the job at place y with the job at place z, if that is before y
unfoldable pub link_if : ℕ → ℕ → ℕ → List ℕ
link_if y z link = cond (ltb z y) (link ∷ []) []

-- the link of the job at place y by the pair a, b: job j of b with job j of a, and job j of a with job j of b
unfoldable pub link_by : List Job → ℕ → Pair → List ℕ
link_by jobs y pair =
    let job = get_or jobs y no_job in
    let first = place_before jobs y pair.a job.number in
    let second = place_before jobs y pair.b job.number in
    cond (eqb job.task pair.b) (link_if y first first) (cond (eqb job.task pair.a) (link_if y second (second + 128)) [])

unfoldable pub links_by : List Job → ℕ → List Pair → List ℕ
links_by jobs y [] = []
links_by jobs y (pair ∷ pairs) = link_by jobs y pair ++ links_by jobs y pairs

-- the links of the job at place y
unfoldable pub links_of_job : Instance → ℕ → List ℕ
links_of_job x y = links_by x.jobs y x.pairs

-- those of all jobs
unfoldable pub all_links : Instance → List (List ℕ)
all_links x = map (links_of_job x) (range 0 (length x.jobs))

-- lists side by side, each in 16 places
unfoldable pub in_places : List (List ℕ) → List ℕ
in_places [] = []
in_places (links ∷ rest) = padded 16 0 links ++ in_places rest

-- how many links each job has, and the links, 16 places for those of each job
unfoldable pub link_counts : Instance → List ℕ
link_counts x = map length (all_links x)

unfoldable pub link_places : Instance → List ℕ
link_places x = in_places (all_links x)
