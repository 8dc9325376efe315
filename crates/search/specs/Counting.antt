-- The laws of the search and of its tries: the frames of a job one after the other. Assumes nothing.
use Rattle.std.specs.Prelude.{◌≡◌, Bool, true, false, List, [], ◌∷◌, ◌++◌}
use Rattle.std.proofs.Math.Path.{refl, ap, fun_ext}
use Prim.Native.Nat.{ℕ, suc, ◌+◌, ◌-◌, ◌≤◌, ◌<◌}
use native.Mathlib.Omega.{arith}
use Rattle.std.proofs.Math.ListN.{length, get_or, length-append}
use Rattle.search.specs.Search.{Found, none, at, Walk, go_on, one_try, walk_frames, walk}
use Rattle.search.specs.Placing.{Problem, fits, window_start, frame_count, plan_walk}

-- what goes on, and what ends
pub on_none : {a : Found} (t : ℕ) (b : Walk) → a ≡ none → go_on a t b ≡ record { found = b.found; tries = t + b.tries }
unfolding go_on
on_none t b e = rw e

pub on_found : {a : Found} {p : List ℕ} (t : ℕ) (b : Walk) → a ≡ at p → go_on a t b ≡ record { found = at p; tries = t }
unfolding go_on
on_found t b e = rw e

-- a test is a try
pub one_more : (b : Bool) (w : Walk) → 1 ≤ (one_try b w).tries
unfolding one_try
one_more true w = omega arith
one_more false w = omega arith

-- one try, of the next job in frame k, and those of the jobs after it where it may stand there
unfoldable pub attempt_walk : Problem → List ℕ → ℕ → Walk
attempt_walk x p k = one_try (fits x p k) (plan_walk x (p ++ (k ∷ [])))

-- those of the next job in frame k and later ones
unfoldable pub from_walk : Problem → List ℕ → ℕ → Walk
from_walk x p k = walk_frames (attempt_walk x p) (get_or x.end (length p) 0 - k) k

module _ (x : Problem) (p : List ℕ) where
  pub walk_end : (k : ℕ) → get_or x.end (length p) 0 ≤ k → from_walk x p k ≡ record { found = none; tries = 0 }
  unfolding from_walk walk_frames
  walk_end k h = let z : get_or x.end (length p) 0 - k ≡ 0 = omega arith in rw z

  pub walk_more : (k : ℕ) → k < get_or x.end (length p) 0 → from_walk x p k ≡ go_on (attempt_walk x p k).found (attempt_walk x p k).tries (from_walk x p (k + 1))
  unfolding from_walk walk_frames
  walk_more k h =
      let z : get_or x.end (length p) 0 - k ≡ suc (get_or x.end (length p) 0 - (k + 1)) = omega arith in
      rw z

  -- every job has a frame
  pub walk_all : length p ≡ length x.cost → plan_walk x p ≡ record { found = at p; tries = 0 }
  unfolding plan_walk walk
  walk_all h = let z : length x.cost - length p ≡ 0 = omega arith in rw z

  -- the next job's frames
  pub walk_next : length p < length x.cost → plan_walk x p ≡ from_walk x p (window_start x (length p))
  unfolding plan_walk walk attempt_walk from_walk
  walk_next h =
      let m : ℕ = length x.cost - (length p + 1) in
      let z : length x.cost - length p ≡ suc m = omega arith in
      let e : (k : ℕ) → m ≡ length x.cost - length (p ++ (k ∷ [])) = λ k. rw length-append refl in
      rw z (ap (λ (g : ℕ → Walk). walk_frames g (frame_count x (length p)) (window_start x (length p)))
      (fun_ext (λ k. ap (λ (j : ℕ). one_try (fits x p k) (walk (fits x) (window_start x) (frame_count x) j (p ++ (k ∷ [])))) (e k))))

  -- a frame where the job may stand, and one where it may not
  pub walk_may : (k : ℕ) → fits x p k ≡ true → attempt_walk x p k ≡ record { found = (plan_walk x (p ++ (k ∷ []))).found; tries = 1 + (plan_walk x (p ++ (k ∷ []))).tries }
  unfolding attempt_walk one_try
  walk_may k e = rw e

  pub walk_not : (k : ℕ) → fits x p k ≡ false → attempt_walk x p k ≡ record { found = none; tries = 1 }
  unfolding attempt_walk one_try
  walk_not k e = rw e
