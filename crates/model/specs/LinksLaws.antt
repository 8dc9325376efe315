-- Laws of the links: which they are, how many, and that a job finds its own among its 16 places. The scan for a place comes to the one
-- place of the job that it looks for; so a job is linked exactly with the jobs placed before it that a pair orders with it.
use Rattle.std.specs.Prelude.{◌≡◌, Bool, cond, ◌⊎◌, ◌≢◌, get_or, ltb}
use Rattle.std.proofs.Math.Path.{refl}
use Rattle.std.proofs.Common.{sym, subst, ◌∙◌, inl, inr}
use Rattle.std.proofs.Math.Bool.{true, false}
use mathlib.Core.List.Memᴰ
use mathlib.Core.List.{List, [], ◌∷◌, map, Memᴰ}
use Prim.Native.Nat.{ℕ, zero, suc, ◌+◌, ◌*◌, ◌≤◌, ◌<◌}
use native.Mathlib.Omega.{arith}
use Rattle.std.proofs.Math.ListN.{length, length-append, length-map, get_or-map}
use Rattle.std.proofs.lemmas.List.{take-append-le}
use Rattle.std.proofs.Math.Seq.{drop-append-add}
use Rattle.std.proofs.Math.Dec.{eqb}
use borrow.Author.Tests.{lt-ltb, le-ltb, ltb-true, eq-eqb, ne_eqb, eqb-true}
use Rattle.cursor.specs.Range.{range}
use Rattle.cursor.specs.RangeLaws.{over_length, over_here}
use Rattle.cursor.specs.ParsedLaws.{never}
use Rattle.cursor.specs.Padded.{padded}
use Rattle.cursor.specs.PaddedLaws.{padded_length, take_padded}
use Rattle.request.specs.Request.{no_pair}
use Rattle.request.specs.declared.Pair.{Pair}
use Rattle.cycle.specs.Planned.{no_job}
use Rattle.cycle.specs.declared.Job.{Job}
use Rattle.search.specs.Placing.{links_at, partner, Linked}
use Rattle.model.specs.Plan.{Instance, pair_at}
use Rattle.model.specs.Named.{is_job}
use Rattle.model.specs.NamedLaws.{Named, job_says, says_job}
use Rattle.model.specs.Links.{place_from, place_before, link_if, link_by, links_by, links_of_job, all_links, in_places, link_counts, link_places}

-- the job at place z is job j of task i
abbrev pub HasJob : List Job → ℕ → ℕ → ℕ → Type 0
HasJob jobs z i j = Named i j (get_or jobs z no_job)

module _ (jobs : List Job) (i j : ℕ) where
  -- the scan, a place at a time
  pub place_here : (n z : ℕ) → is_job i j (get_or jobs z no_job) ≡ true → place_from jobs i j (suc n) z ≡ z
  unfolding place_from
  place_here n z e = rw e

  pub place_later : (n z : ℕ) → is_job i j (get_or jobs z no_job) ≡ false → place_from jobs i j (suc n) z ≡ place_from jobs i j n (z + 1)
  unfolding place_from
  place_later n z e = rw e

  -- where it stops before the end, the job is
  place_has : (n z : ℕ) → place_from jobs i j n z < z + n → HasJob jobs (place_from jobs i j n z) i j
  unfolding place_from
  place_has zero z h = absurd (omega arith)
  place_has (suc n) z h = go (is_job i j (get_or jobs z no_job)) refl (place_has n (z + 1))
    where
      go : (b : Bool) → is_job i j (get_or jobs z no_job) ≡ b → (place_from jobs i j n (z + 1) < z + 1 + n → HasJob jobs (place_from jobs i j n (z + 1)) i j)
          → HasJob jobs (place_from jobs i j (suc n) z) i j
      go true e rest = rw (place_here n z e) (job_says i j (get_or jobs z no_job) e)
      go false e rest = rw (place_later n z e) (rest (omega (arith, place_later n z e)))

  -- it goes past no place that has the job
  place_le : (n z w : ℕ) → z ≤ w → w < z + n → HasJob jobs w i j → place_from jobs i j n z ≤ w
  place_le zero z w a b v = absurd (omega arith)
  place_le (suc n) z w a b v = go (is_job i j (get_or jobs z no_job)) refl (place_le n (z + 1) w)
    where
      go : (t : Bool) → is_job i j (get_or jobs z no_job) ≡ t → (z + 1 ≤ w → w < z + 1 + n → HasJob jobs w i j → place_from jobs i j n (z + 1) ≤ w)
          → place_from jobs i j (suc n) z ≤ w
      go true e rest = rw (place_here n z e) a
      go false e rest =
          let other : z ≢ w = λ q. never (let t = says_job i j (get_or jobs w no_job) v in let u : is_job i j (get_or jobs w no_job) ≡ false = rw q at e in cc) in
          rw (place_later n z e) (rest (omega arith) (omega arith) v)

  place_before_has : (y : ℕ) → place_before jobs y i j < y → HasJob jobs (place_before jobs y i j) i j
  unfolding place_before
  place_before_has y h = place_has y 0 (omega arith)

  -- a job with one place is found there
  place_before_is : (y z : ℕ) → z < y → HasJob jobs z i j → ((w : ℕ) → w < y → HasJob jobs w i j → w ≡ z) → place_before jobs y i j ≡ z
  unfolding place_before
  place_before_is y z h v only =
      let low : place_from jobs i j y 0 ≤ z = place_le y 0 z (omega arith) (omega arith) v in
      only (place_from jobs i j y 0) (omega arith) (place_has y 0 (omega arith))

-- link l of the job at place y by the pair: to the place of the pair's first job, if y has its second, or, from 128 on, to that of its
-- second, if y has its first
pub data LinkBy (jobs : List Job) (y : ℕ) (pair : Pair) (l : ℕ) : Type 0 where
  to_first : l < y → (get_or jobs y no_job).task ≡ pair.b → HasJob jobs l pair.a (get_or jobs y no_job).number → LinkBy jobs y pair l
  to_second : (z : ℕ) → l ≡ z + 128 → z < y → (get_or jobs y no_job).task ≡ pair.a → HasJob jobs z pair.b (get_or jobs y no_job).number
      → LinkBy jobs y pair l

in_link_if : (y z link l : ℕ) → Memᴰ l (link_if y z link) → (z < y) × (l ≡ link)
unfolding link_if
in_link_if y z link l m = go (ltb z y) refl m
  where
    go : (b : Bool) → ltb z y ≡ b → Memᴰ l (cond b (link ∷ []) []) → (z < y) × (l ≡ link)
    go true e m = (ltb-true z y e, Memᴰ.eq_of_singleton m)
    go false e m = absurd (Memᴰ.not-nil m)

link_if_lem : (y z link : ℕ) → z < y → Memᴰ link (link_if y z link)
unfolding link_if
link_if_lem y z link h = rw (lt-ltb z y h) (Memᴰ.head refl)

link_if_few : (y z link : ℕ) → length (link_if y z link) ≤ 1
unfolding link_if
link_if_few y z link = go (ltb z y)
  where
    go : (b : Bool) → length (cond b (link ∷ []) []) ≤ 1
    go true = omega arith
    go false = omega arith

module _ (jobs : List Job) (y : ℕ) (pair : Pair) where
  abbrev job : Job
  job = get_or jobs y no_job

  abbrev first : ℕ
  first = place_before jobs y pair.a job.number

  abbrev second : ℕ
  second = place_before jobs y pair.b job.number

  -- what a link says
  pub in_link_by : (l : ℕ) → Memᴰ l (link_by jobs y pair) → LinkBy jobs y pair l
  unfolding link_by
  in_link_by l m = go (eqb job.task pair.b) refl (eqb job.task pair.a) refl m
    where
      go : (s : Bool) → eqb job.task pair.b ≡ s → (t : Bool) → eqb job.task pair.a ≡ t
          → Memᴰ l (cond s (link_if y first first) (cond t (link_if y second (second + 128)) [])) → LinkBy jobs y pair l
      go true e t q m =
          let v = in_link_if y first first l m in
          to_first (omega (arith, v.0, v.1)) (eqb-true _ _ e) (rw (← v.1) at (place_before_has jobs pair.a job.number y v.0))
      go false e true q m =
          let v = in_link_if y second (second + 128) l m in
          to_second second v.1 v.0 (eqb-true _ _ q) (place_before_has jobs pair.b job.number y v.0)
      go false e false q m = absurd (Memᴰ.not-nil m)

  -- the pair's second job has a link to the first, and the first to the second
  pub link_to_first : (z : ℕ) → z < y → job.task ≡ pair.b → HasJob jobs z pair.a job.number
      → ((w : ℕ) → w < y → HasJob jobs w pair.a job.number → w ≡ z) → Memᴰ z (link_by jobs y pair)
  unfolding link_by
  link_to_first z h e v only = rw (eq-eqb job.task pair.b e, place_before_is jobs pair.a job.number y z h v only) (link_if_lem y z z h)

  pub link_to_second : (z : ℕ) → z < y → job.task ≡ pair.a → pair.a ≢ pair.b → HasJob jobs z pair.b job.number
      → ((w : ℕ) → w < y → HasJob jobs w pair.b job.number → w ≡ z) → Memᴰ (z + 128) (link_by jobs y pair)
  unfolding link_by
  link_to_second z h e other v only =
      let ne : eqb job.task pair.b ≡ false = ne_eqb _ _ (λ q. other (sym e ∙ q)) in
      rw (ne, eq-eqb job.task pair.a e, place_before_is jobs pair.b job.number y z h v only) (link_if_lem y z (z + 128) h)

  link_by_few : length (link_by jobs y pair) ≤ 1
  unfolding link_by
  link_by_few = go (eqb job.task pair.b) (eqb job.task pair.a)
    where
      go : (s t : Bool) → length (cond s (link_if y first first) (cond t (link_if y second (second + 128)) [])) ≤ 1
      go true t = link_if_few y first first
      go false true = link_if_few y second (second + 128)
      go false false = omega arith

module _ (jobs : List Job) (y : ℕ) where
  links_by_few : (pairs : List Pair) → length (links_by jobs y pairs) ≤ length pairs
  unfolding links_by
  links_by_few [] = omega arith
  links_by_few (pair ∷ pairs) = omega (arith, length-append (link_by jobs y pair) (links_by jobs y pairs), link_by_few jobs y pair, links_by_few pairs)

  links_by_lem : (pairs : List Pair) (u l : ℕ) → u < length pairs → Memᴰ l (link_by jobs y (get_or pairs u no_pair)) → Memᴰ l (links_by jobs y pairs)
  unfolding links_by
  links_by_lem [] u l h m = absurd (omega arith)
  links_by_lem (pair ∷ pairs) zero l h m = Memᴰ.append_left _ m
  links_by_lem (pair ∷ pairs) (suc u) l h m = Memᴰ.append_right (link_by jobs y pair) (links_by_lem pairs u l (omega arith) m)

  in_links_by : (pairs : List Pair) (l : ℕ) → Memᴰ l (links_by jobs y pairs)
      → (u : ℕ) × (u < length pairs) × Memᴰ l (link_by jobs y (get_or pairs u no_pair))
  unfolding links_by
  in_links_by [] l m = absurd (Memᴰ.not-nil m)
  in_links_by (pair ∷ pairs) l m = go (Memᴰ.append_cases (link_by jobs y pair) m) (in_links_by pairs l)
    where
      go : Memᴰ l (link_by jobs y pair) ⊎ Memᴰ l (links_by jobs y pairs)
          → (Memᴰ l (links_by jobs y pairs) → (u : ℕ) × (u < length pairs) × Memᴰ l (link_by jobs y (get_or pairs u no_pair)))
          → (u : ℕ) × (u < suc (length pairs)) × Memᴰ l (link_by jobs y (get_or (pair ∷ pairs) u no_pair))
      go (inl m) rest = (0, omega arith, m)
      go (inr m) rest = let (u, h, v) = rest m in (suc u, omega arith, v)

-- the links of a job are those by the pairs, at most one by each
module _ (x : Instance) (y : ℕ) where
  pub links_few : length (links_of_job x y) ≤ length x.pairs
  unfolding links_of_job
  links_few = links_by_few x.jobs y x.pairs

  pub in_links : (l : ℕ) → Memᴰ l (links_of_job x y) → (u : ℕ) × (u < length x.pairs) × LinkBy x.jobs y (pair_at x u) l
  unfolding links_of_job
  in_links l m =
      let (u, h, v) = in_links_by x.jobs y x.pairs l m in
      (u, h, in_link_by x.jobs y (pair_at x u) l v)

  pub by_pair : (u l : ℕ) → u < length x.pairs → Memᴰ l (link_by x.jobs y (pair_at x u)) → Memᴰ l (links_of_job x y)
  unfolding links_of_job
  by_pair u l h m = links_by_lem x.jobs y x.pairs u l h m

-- the partner of a link is placed before the job
link_back : (jobs : List Job) (y : ℕ) (pair : Pair) (l : ℕ) → y ≤ 128 → LinkBy jobs y pair l → partner l < y
link_back jobs y pair l few (to_first h e v) = rw (lt-ltb l 128 (omega arith)) h
link_back jobs y pair l few (to_second z e h t v) = rw (le-ltb l 128 (omega arith)) (omega arith)

-- lists in their places: each is found there
abbrev Short : List (List ℕ) → Type 0
Short lists = (k : ℕ) → length (get_or lists k []) ≤ 16

places_length : (lists : List (List ℕ)) → Short lists → length (in_places lists) ≡ 16 * length lists
unfolding in_places
places_length [] short = refl
places_length (list ∷ lists) short =
    omega (arith, length-append (padded 16 0 list) (in_places lists), padded_length 16 0 list (short 0), places_length lists (λ k. short (suc k)))

places_at : (lists : List (List ℕ)) → Short lists → (k : ℕ) → k < length lists → links_at (map length lists) (in_places lists) k ≡ get_or lists k []
unfolding in_places
places_at [] short k h = absurd (omega arith)
places_at (list ∷ lists) short zero h =
    take-append-le (length list) (padded 16 0 list) (in_places lists) (omega (arith, padded_length 16 0 list (short 0), short 0)) ∙ take_padded 16 0 list
places_at (list ∷ lists) short (suc k) h =
    let on : 16 * suc k ≡ length (padded 16 0 list) + 16 * k = omega (arith, padded_length 16 0 list (short 0)) in
    rw (on, drop-append-add (padded 16 0 list) (in_places lists) (16 * k)) (places_at lists (λ k. short (suc k)) k (omega arith))

-- of the n jobs from place y on
abbrev pub links_from : Instance → ℕ → ℕ → List (List ℕ)
links_from x n y = map (links_of_job x) (range y n)

module _ (x : Instance) where
  pub links_from_length : (n y : ℕ) → length (links_from x n y) ≡ n
  links_from_length n y = over_length (links_of_job x) y n

  links_from_short : (n y : ℕ) → length x.pairs ≤ 16 → Short (links_from x n y)
  links_from_short zero y few k = omega arith
  links_from_short (suc n) y few zero = omega (arith, links_few x y)
  links_from_short (suc n) y few (suc k) = links_from_short n (y + 1) few k

  pub counts_length : length (link_counts x) ≡ length x.jobs
  unfolding link_counts all_links
  counts_length = length-map (links_from x (length x.jobs) 0) length ∙ links_from_length (length x.jobs) 0

  module _ (few : length x.pairs ≤ 16) where
    pub places_of_links_length : length (link_places x) ≡ 16 * length x.jobs
    unfolding link_places all_links
    places_of_links_length =
        omega (arith, places_length (links_from x (length x.jobs) 0) (links_from_short (length x.jobs) 0 few), links_from_length (length x.jobs) 0)

    -- each job finds its links in its places
    pub links_at_lem : (y : ℕ) → y < length x.jobs → links_at (link_counts x) (link_places x) y ≡ links_of_job x y
    unfolding link_counts link_places all_links
    links_at_lem y h =
        places_at (links_from x (length x.jobs) 0) (links_from_short (length x.jobs) 0 few) y (omega (arith, links_from_length (length x.jobs) 0))
        ∙ over_here (links_of_job x) [] (length x.jobs) y h

    counts_few : (y : ℕ) → get_or (link_counts x) y 0 ≤ 16
    unfolding link_counts all_links
    counts_few y =
        omega (arith, get_or-map length (links_from x (length x.jobs) 0) y [], links_from_short (length x.jobs) 0 few y)

    -- the links are in order for the search
    pub links_linked : length x.jobs ≤ 128 → Linked (link_counts x) (link_places x)
    links_linked small = record {
      room = omega (arith, counts_length, places_of_links_length);
      few = counts_few;
      back = λ y l h m. back y l (omega (arith, counts_length)) m;
    }
      where
        back : (y l : ℕ) → y < length x.jobs → Memᴰ l (links_at (link_counts x) (link_places x) y) → partner l < y
        back y l h m =
            let (u, k, v) = in_links x y l (subst (Memᴰ l) (links_at_lem y h) m) in
            link_back x.jobs y (pair_at x u) l (omega arith) v
