-- What the functions answer: a number of each job in an array, the links of each job in 16 places of one.
use Rattle.std.specs.Prelude.{ℕ, ◌*◌, ◌≡◌, List, [], ◌∷◌, ◌++◌, length, Option, Some, None}
use Rattle.cursor.specs.Padded.{padded}
use Rattle.model.specs.Plan.{Instance}
use Rattle.model.specs.Links.{link_counts, link_places}
use Rattle.problem.specs.declared.JobLinks.{JobLinks}

unfoldable pub links_answer : Instance → JobLinks
links_answer x = record { counts = padded 128 0 (link_counts x); places = padded 2048 0 (link_places x) }

-- at most one link
abbrev pub as_list : Option ℕ → List ℕ
as_list (Some link) = link ∷ []
as_list None = []

-- the links of the job at place y are counted, and stored behind what is in the places of the jobs before it
pub record Stored (y : ℕ) (links before after : List ℕ) (count : ℕ) : Type 0 where
  pub counted : count ≡ length links
  pub stored : (done : List ℕ) → length done ≡ 16 * y → before ≡ padded 2048 0 done → after ≡ padded 2048 0 (done ++ links)
