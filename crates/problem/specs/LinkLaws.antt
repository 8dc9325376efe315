-- The loops that look for links: the scan of the places before a job, the pairs one by one, and the jobs one by one.
use Prim.Native.Nat.{ℕ, zero, suc, ◌+◌, ◌*◌, ◌≤◌, ◌<◌}
use Rattle.std.specs.Prelude.{◌≡◌, Bool, true, false, not, cond, ◌&&◌, ◌≢◌, get_or, set, replicate, take, drop, position, Option, Some, None}
use Rattle.std.specs.List.{position_or_len}
use Rattle.std.proofs.Math.Path.{refl, sym, ap}
use Rattle.std.proofs.Common.{◌∙◌, zero-add, add-one, length-take-le, take-suc, drop-cons, eqb, ltb}
use Rattle.std.proofs.lemmas.List.Sums.{prefix_len-le-length}
use mathlib.Core.List.{List, [], ◌∷◌, ◌++◌, map, map-append, append_assoc, append-nil}
use native.Mathlib.Omega.{arith}
use Rattle.std.proofs.Math.ListN.{length, length-append, length-map}
use borrow.Author.Tests.{lt-ltb, le-ltb, eq-eqb, ne_eqb, ltb-true, ltb-false}
use Rattle.cursor.specs.Padded.{padded}
use Rattle.cursor.specs.PaddedLaws.{padded_length}
use Rattle.cursor.specs.RangeLaws.{over_last}
use Rattle.cursor.specs.ArrayLaws.{padded_part}
use Rattle.request.specs.Request.{no_pair}
use Rattle.request.specs.declared.Pair.{Pair}
use Rattle.cycle.specs.Planned.{no_job}
use Rattle.cycle.specs.declared.Job.{Job}
use Rattle.model.specs.Plan.{Instance}
use Rattle.model.specs.Named.{is_job}
use Rattle.model.specs.Links.{place_from, place_before, link_if, link_by, links_by, links_of_job, all_links, in_places, link_counts, link_places}
use Rattle.model.specs.LinksLaws.{links_from, links_few, links_from_length}
use Rattle.problem.specs.Answers.{links_answer, Stored}
use Rattle.problem.specs.JobLaws.{set_next, none_stored}
use Rattle.problem.specs.declared.JobLinks.{JobLinks}

-- the scan of k places from z on comes to the place of the first job that is looked for
module _ (jobs : List Job) (i j : ℕ) where
  abbrev is : Job → Bool
  is x = eqb x.task i && eqb x.number j

  scanned : (k z : ℕ) → z + k ≤ length jobs → place_from jobs i j k z ≡ z + position_or_len is (take k (drop z jobs))
  unfolding place_from is_job
  scanned zero z h = omega arith
  scanned (suc k) z h =
      let rest = position_or_len is (take k (drop (suc z) jobs)) in
      let later : place_from jobs i j k (z + 1) ≡ suc z + rest = scanned k (z + 1) (omega arith) ∙ rw (add-one z) refl in
      let l : z < length jobs = omega arith in
      rw (drop-cons jobs z no_job l) (turn (is (get_or jobs z no_job)) rest later)
    where
      turn : (b : Bool) (rest : ℕ) → place_from jobs i j k (z + 1) ≡ suc z + rest
          → cond b z (place_from jobs i j k (z + 1)) ≡ z + cond (not b) (1 + rest) 0
      turn true rest e = omega arith
      turn false rest e = omega arith

  -- what is found among the first y jobs is the place before y
  module _ (y : ℕ) (few : y ≤ length jobs) where
    abbrev first_or_all : ℕ
    first_or_all = position_or_len is (take y jobs)

    size : length (take y jobs) ≡ y
    size = length-take-le y jobs few

    place_is : place_before jobs y i j ≡ first_or_all
    unfolding place_before
    place_is = scanned y 0 (omega arith) ∙ omega arith

    pub place_found : (w : ℕ) → position is (take y jobs) ≡ Some w → (w < y) × (place_before jobs y i j ≡ w)
    place_found w e = go (ltb first_or_all (length (take y jobs))) refl
      where
        go : (b : Bool) → ltb first_or_all (length (take y jobs)) ≡ b → (w < y) × (place_before jobs y i j ≡ w)
        go true t = let q : first_or_all ≡ w = (let s = rw t at e in cc) in (omega (arith, ltb-true first_or_all (length (take y jobs)) t, size), place_is ∙ q)
        go false t = absurd (let s = rw t at e in cc)

    pub place_missed : position is (take y jobs) ≡ None → place_before jobs y i j ≡ y
    place_missed e = go (ltb first_or_all (length (take y jobs))) refl
      where
        go : (b : Bool) → ltb first_or_all (length (take y jobs)) ≡ b → place_before jobs y i j ≡ y
        go true t = absurd (let s = rw t at e in cc)
        go false t = omega (arith, place_is, ltb-false first_or_all (length (take y jobs)) t, size, prefix_len-le-length (λ x. not (is x)) (take y jobs))

-- the link by one pair
module _ (jobs : List Job) (y : ℕ) (pair : Pair) where
  abbrev here : Job
  here = get_or jobs y no_job

  abbrev first : ℕ
  first = place_before jobs y pair.a here.number

  abbrev second : ℕ
  second = place_before jobs y pair.b here.number

  module _ (few : y ≤ length jobs) where
    abbrev found_for : ℕ → Option ℕ
    found_for i = position (is jobs i here.number) (take y jobs)

    pub first_linked : {z : ℕ} → here.task ≡ pair.b → found_for pair.a ≡ Some z → z ∷ [] ≡ link_by jobs y pair
    unfolding link_by link_if
    first_linked {z} e found =
        let (below, place) = place_found jobs pair.a here.number y few z found in
        rw (eq-eqb here.task pair.b e, place, lt-ltb z y below)

    pub first_not_before : here.task ≡ pair.b → found_for pair.a ≡ None → [] ≡ link_by jobs y pair
    unfolding link_by link_if
    first_not_before e found = rw (eq-eqb here.task pair.b e, place_missed jobs pair.a here.number y few found, le-ltb y y (omega arith))

    pub second_linked : {z : ℕ} → here.task ≢ pair.b → here.task ≡ pair.a → found_for pair.b ≡ Some z → (z + 128) ∷ [] ≡ link_by jobs y pair
    unfolding link_by link_if
    second_linked {z} ne e found =
        let (below, place) = place_found jobs pair.b here.number y few z found in
        rw (ne_eqb here.task pair.b ne, eq-eqb here.task pair.a e, place, lt-ltb z y below)

    pub second_not_before : here.task ≢ pair.b → here.task ≡ pair.a → found_for pair.b ≡ None → [] ≡ link_by jobs y pair
    unfolding link_by link_if
    second_not_before ne e found =
        rw (ne_eqb here.task pair.b ne, eq-eqb here.task pair.a e, place_missed jobs pair.b here.number y few found, le-ltb y y (omega arith))

  pub not_linked : here.task ≢ pair.b → here.task ≢ pair.a → [] ≡ link_by jobs y pair
  unfolding link_by
  not_linked second first = rw (ne_eqb here.task pair.b second, ne_eqb here.task pair.a first)

-- the pairs one by one
module _ (jobs : List Job) (y : ℕ) where
  links_append : (ps qs : List Pair) → links_by jobs y (ps ++ qs) ≡ links_by jobs y ps ++ links_by jobs y qs
  unfolding links_by
  links_append [] qs = refl
  links_append (p ∷ ps) qs = ap (λ l. link_by jobs y p ++ l) (links_append ps qs) ∙ sym (append_assoc (link_by jobs y p) _ _)

  module _ (pairs : List Pair) where
    abbrev pub links_so : ℕ → List ℕ
    links_so u = links_by jobs y (take u pairs)

    links_next : (u : ℕ) → u < length pairs → links_so (u + 1) ≡ links_so u ++ link_by jobs y (get_or pairs u no_pair)
    unfolding links_by
    links_next u more = rw (add-one u, take-suc pairs u no_pair more) (links_append (take u pairs) (get_or pairs u no_pair ∷ []) ∙ rw append-nil)

    pub no_links : (before : List ℕ) → Stored y (links_so 0) before before 0
    unfolding links_by
    no_links before = record { counted = refl; stored = λ done size e. e ∙ rw append-nil }

    module _ (u : ℕ) (more : u < length pairs) (before after : List ℕ) (count : ℕ) (s : Stored y (links_so u) before after count) where
      -- the pair gives no link
      pub no_link_more : [] ≡ link_by jobs y (get_or pairs u no_pair) → Stored y (links_so (u + 1)) before after count
      no_link_more e =
          let same : links_so (u + 1) ≡ links_so u = links_next u more ∙ rw (← e, append-nil) in
          rw same s

      -- the pair gives a link, and that is stored
      pub one_link_more : (link : ℕ) → link ∷ [] ≡ link_by jobs y (get_or pairs u no_pair) → 16 * y + count < 2048
          → Stored y (links_so (u + 1)) before (set after (16 * y + count) link) (count + 1)
      one_link_more link e room =
          let more : links_so (u + 1) ≡ links_so u ++ (link ∷ []) = links_next u more ∙ rw (← e) in
          rw more (record {
            counted = omega (arith, length-append (links_so u) (link ∷ []), s.counted);
            stored = λ done size b.
                let all = done ++ links_so u in
                let at : length all ≡ 16 * y + count = omega (arith, length-append done (links_so u), s.counted) in
                rw (s.stored done size b)
                (set_next 2048 0 all link (16 * y + count) at room ∙ ap (padded 2048 0) (append_assoc done (links_so u) (link ∷ [])));
          })

in_places_append : (xs ys : List (List ℕ)) → in_places (xs ++ ys) ≡ in_places xs ++ in_places ys
unfolding in_places
in_places_append [] ys = refl
in_places_append (x ∷ xs) ys = ap (λ l. padded 16 0 x ++ l) (in_places_append xs ys) ∙ sym (append_assoc (padded 16 0 x) _ _)

-- the links of the first y jobs are counted and stored
pub record LinksSoFar (x : Instance) (y : ℕ) (counts places : List ℕ) : Type 0 where
  pub size : length (in_places (links_from x y 0)) ≡ 16 * y
  pub counted : counts ≡ padded 128 0 (map length (links_from x y 0))
  pub stored : places ≡ padded 2048 0 (in_places (links_from x y 0))

-- the jobs one by one
module _ (x : Instance) where
  links_upto : (y : ℕ) → links_from x (y + 1) 0 ≡ links_from x y 0 ++ (links_of_job x y ∷ [])
  links_upto y = rw (add-one y) (over_last (links_of_job x) 0 y ∙ ap (λ (k : ℕ). links_from x y 0 ++ (links_of_job x k ∷ [])) (zero-add y))

  pub no_job_linked : LinksSoFar x 0 (replicate 128 0) (replicate 2048 0)
  unfolding in_places
  no_job_linked = record { size = refl; counted = none_stored 128 0; stored = none_stored 2048 0 }

  module _ (y : ℕ) (counts places : List ℕ) (s : LinksSoFar x y counts places) where
    one_job_linked : (after : List ℕ) (count : ℕ) (links : List ℕ) → links_of_job x y ≡ links → Stored y links places after count → y < 128
        → length links ≤ 16 → LinksSoFar x (y + 1) (set counts y count) after
    unfolding in_places
    one_job_linked after count links own one room few =
        let before = links_from x y 0 in
        let more : links_from x (y + 1) 0 ≡ before ++ (links ∷ []) = links_upto y ∙ rw own in
        let placed : in_places (links_from x (y + 1) 0) ≡ in_places before ++ padded 16 0 links
        = rw more (in_places_append before (links ∷ []) ∙ rw append-nil) in
        let listed : map length (links_from x (y + 1) 0) ≡ map length before ++ (length links ∷ []) = rw (more, map-append) refl in
        let sized : length (map length before) ≡ y = length-map before length ∙ links_from_length x y 0 in
        record {
          size = rw placed (omega (arith, length-append (in_places before) (padded 16 0 links), padded_length 16 0 links few, s.size));
          counted = rw (s.counted, listed, one.counted) (set_next 128 0 (map length before) (length links) y sized room);
          stored = rw placed
              (one.stored (in_places before) s.size s.stored ∙ padded_part 2048 0 16 (in_places before) links few (omega (arith, s.size)));
        }

-- the links of one job more
pub job_linked : (x : Instance) → length x.pairs ≤ 16 → (y : ℕ) (counts places : List ℕ) → LinksSoFar x y counts places → y < 128 → (after : List ℕ) (count : ℕ)
    → Stored y (links_by x.jobs y x.pairs) places after count → LinksSoFar x (y + 1) (set counts y count) after
unfolding links_of_job
job_linked x few y counts places s h after count one =
    let own : links_of_job x y ≡ links_by x.jobs y x.pairs = refl in
    one_job_linked x y counts places s after count (links_by x.jobs y x.pairs) own one h (rw (← own) (omega (arith, links_few x y)))

-- the links of all jobs
pub all_linked : (x : Instance) (y : ℕ) (counts places : List ℕ) → LinksSoFar x y counts places → y ≡ length x.jobs
    → ◌≡◌ {A = JobLinks} (record { counts = counts; places = places }) (links_answer x)
unfolding links_answer link_counts link_places all_links
all_linked x y counts places s e =
    let counted : counts ≡ padded 128 0 (link_counts x) = s.counted ∙ ap (λ (k : ℕ). padded 128 0 (map length (links_from x k 0))) e in
    let stored : places ≡ padded 2048 0 (link_places x) = s.stored ∙ ap (λ (k : ℕ). padded 2048 0 (in_places (links_from x k 0))) e in
    λ q. record { counts = counted q; places = stored q }
