-- One frame length: the numbers that are handed to the search are the problem of that length, which is one for the search.
use Rattle.std.specs.Prelude.{ℕ, ◌*◌, ◌/◌, ◌≤◌, ◌<◌, ◌≡◌, List, map, length, take}
use Rattle.std.proofs.Common.{sym, ◌∙◌, arith}
use Rattle.std.proofs.Math.Path.{ap, subst⁻¹}
use Rattle.std.proofs.lemmas.List.{length-map}
use Rattle.cursor.specs.Padded.{padded}
use Rattle.cursor.specs.PaddedLaws.{padded_length, take_padded}
use Rattle.cycle.specs.declared.Cycle.{Cycle}
use Rattle.search.specs.Placing.{Proper}
use Rattle.model.specs.Plan.{Instance, costs}
use Rattle.model.specs.Answers.{instance_of}
use Rattle.model.specs.AnswerLaws.{jobs_counted}
use Rattle.model.specs.PlanLaws.{costs_length}
use Rattle.model.specs.PlausibleLaws.{plausible_says}
use Rattle.model.specs.LinksLaws.{counts_length, places_of_links_length}
use Rattle.model.specs.Links.{link_counts, link_places}
use Rattle.model.specs.Chosen.{first_frame_of, end_frame_of, problem_at}
use Rattle.model.specs.ProblemLaws.{problem_proper}
use Rattle.problem.specs.Answers.{links_answer}
use Rattle.problem.specs.declared.JobLinks.{JobLinks}
use Rattle.searcher.specs.Arrays.{problem_of, Placeable}
use Rattle.searcher.specs.declared.Given.{Given}
use Rattle.planner.specs.Choices.{Searchable}

-- a list of n numbers in an array
exact : (size n : ℕ) (xs : List ℕ) → length xs ≡ n → take n (padded size 0 xs) ≡ xs
exact size n xs e = ap (λ (k : ℕ). take k (padded size 0 xs)) (sym e) ∙ take_padded size 0 xs

module _ {c : Cycle} {cost : List ℕ} {links : JobLinks} {f : ℕ} (s : Searchable c cost links f) where
  abbrev x : Instance
  x = instance_of c

  abbrev n : ℕ
  n = c.count

  few : n ≤ 128
  few = s.planned.few_jobs

  jobs_count : length x.jobs ≡ n
  jobs_count = jobs_counted c few

  pub some : 0 < f
  some = (plausible_says x f s.plausible_is).some

  cost_size : length (costs x) ≡ n
  cost_size = costs_length x ∙ jobs_count

  counts_are : links.counts ≡ padded 128 0 (link_counts x)
  unfolding links_answer
  counts_are = ap (λ (l : JobLinks). l.counts) s.links_are

  places_are : links.places ≡ padded 2048 0 (link_places x)
  unfolding links_answer
  places_are = ap (λ (l : JobLinks). l.places) s.links_are

  counts_size : length (link_counts x) ≡ n
  counts_size = counts_length x ∙ jobs_count

  places_size : length (link_places x) ≡ 16 * n
  places_size = places_of_links_length x s.planned.good.readable.few_pairs ∙ ap (λ (k : ℕ). 16 * k) jobs_count

  abbrev firsts : List ℕ
  firsts = map (first_frame_of f) x.jobs

  abbrev ends : List ℕ
  ends = map (end_frame_of f) x.jobs

  firsts_size : length firsts ≡ n
  firsts_size = length-map x.jobs (first_frame_of f) ∙ jobs_count

  ends_size : length ends ≡ n
  ends_size = length-map x.jobs (end_frame_of f) ∙ jobs_count

  module _ {first end : List ℕ} (first_is : first ≡ padded 128 0 firsts) (end_is : end ≡ padded 128 0 ends) where
    abbrev given : Given
    given = record { cost = cost; first = first; end = end; counts = links.counts; links = links.places; n = n; rows = c.h / f; f = f }

    -- what is handed over is the problem of the length
    pub problem_is : problem_of given ≡ problem_at x f
    unfolding problem_at
    problem_is =
        let a = ap (take n) s.cost_is ∙ exact 128 n (costs x) cost_size in
        let b = ap (take n) first_is ∙ exact 128 n firsts firsts_size in
        let d = ap (take n) end_is ∙ exact 128 n ends ends_size in
        let e = ap (take n) counts_are ∙ exact 128 n (link_counts x) counts_size in
        let g = ap (take (16 * n)) places_are ∙ exact 2048 (16 * n) (link_places x) places_size in
        λ i. record { cost = a i; first = b i; end = d i; counts = e i; links = g i; rows = c.h / f; f = f }

    pub placeable : f ≤ 65535 → Placeable given
    placeable short = record {
      few = few;
      costs = omega (arith, ap length s.cost_is, padded_length 128 0 (costs x) (omega (arith, cost_size, few)), few);
      few_rows = (plausible_says x f s.plausible_is).few_rows;
      short = short;
      proper = subst⁻¹ Proper problem_is (problem_proper x s.planned.good f (plausible_says x f s.plausible_is));
    }
