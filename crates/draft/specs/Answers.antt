-- What the functions inside ask of their arguments, and what they say of their answers.
use Rattle.std.specs.Prelude.{ℕ, ◌≤◌, ◌<◌, ◌≡◌, Bool, true, List, length, get_or, eqb}
use Rattle.cursor.specs.Padded.{padded}
use Rattle.cycle.specs.Planned.{no_job}
use Rattle.cycle.specs.declared.Job.{Job}
use Rattle.cycle.specs.declared.Cycle as answer
use Rattle.search.specs.Placing.{row_sum}
use Rattle.model.specs.Answers.{instance_of}
use Rattle.model.specs.Within.{InLimits}
use Rattle.draft.specs.Draft.{placed_of, sound_draft}
use Rattle.draft.specs.declared.Draft.{Draft}
use Rattle.draft.specs.declared.Placing.{Placing}

-- the placed jobs and their frames in the first places of arrays, and blanks behind
unfoldable pub placing : List ℕ → List Job → Placing
placing ks jobs = record {
  count = length (placed_of ks jobs);
  jobs = padded 128 no_job (placed_of ks jobs);
  frames = padded 128 0 (placed_of ks ks);
}

-- the cycle with the first `count` of these jobs
abbrev pub with_jobs : answer.Cycle → List Job → ℕ → answer.Cycle
with_jobs c jobs count = record {
  n = c.n;
  tasks = c.tasks;
  m = c.m;
  pairs = c.pairs;
  g = c.g;
  h = c.h;
  count = count;
  jobs = jobs;
}

-- two arrays hold the same number at place r
unfoldable pub same_at : List ℕ → List ℕ → ℕ → Bool
same_at loads sums r = eqb (get_or loads r 0) (get_or sums r 0)

-- no row's sum exceeds 16 bits
pub record RowsFit (rows : ℕ) (cost frames : List ℕ) : Type 0 where
  pub some_row : 0 < rows
  pub few_rows : rows ≤ 256
  pub small : (r : ℕ) → r < rows → row_sum rows cost frames r ≤ 65535

-- the sums of the rows in the first places, 0 behind
pub record LoadsAre (rows : ℕ) (cost frames loads : List ℕ) : Type 0 where
  pub size : length loads ≡ 256
  pub sums : (r : ℕ) → r < rows → get_or loads r 0 ≡ row_sum rows cost frames r
  pub unused : (r : ℕ) → rows ≤ r → get_or loads r 0 ≡ 0

-- the job at place y of a request within the limits, and a draft that is sound
pub record Movable (c : answer.Cycle) (d : Draft) (y : ℕ) : Type 0 where
  pub limits : InLimits c
  pub known : y < c.count
  pub sound : sound_draft (instance_of c) d ≡ true
