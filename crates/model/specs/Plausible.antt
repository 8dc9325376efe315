-- Plausible frame lengths, in the words of 01's "Choosing" and of R-5; and what it is that they are necessary and that the rule is exact.
use Rattle.std.specs.Prelude.{◌≡◌, Bool, true, cond, ◌&&◌, List, [], ◌∷◌, ℕ, ◌+◌, ◌*◌, ◌%◌, ◌<◌, length, leb, ltb, eqb}
use Rattle.arith.specs.Gcd.{gcd_of}
use Rattle.request.specs.declared.Task.{Task}
use Rattle.model.specs.Plan.{Instance, job_at, rows_at, slot, InWindow, IsPlan}

-- 01's rule on the windows of a task: "2f − gcd(f, T) ≤ D"
unfoldable pub common_rule : ℕ → Task → Bool
common_rule f task = leb (2 * f) (task.d + gcd_of f task.t)

-- R-5's rule: "let p be P mod gcd(f, T); if p is 0 the rule is as before, else 2f − p ≤ D"
unfoldable pub phase_rule : ℕ → Task → Bool
phase_rule f task = let p = task.p % gcd_of f task.t in cond (eqb p 0) (common_rule f task) (leb (2 * f) (task.d + p))

-- "f ≥ every C", C counting as C + g, and the rule on the windows: for one task
unfoldable pub frame_rule : (ℕ → Task → Bool) → ℕ → ℕ → Task → Bool
frame_rule rule g f task = leb (slot g task) f && rule f task

-- for all of them
unfoldable pub frame_rules : (ℕ → Task → Bool) → ℕ → ℕ → List Task → Bool
frame_rules rule g f [] = true
frame_rules rule g f (task ∷ tasks) = frame_rule rule g f task && frame_rules rule g f tasks

-- "f is plausible if it divides H, H/f ≤ 256, f ≥ every C, and" the rule on the windows holds "for every task"
unfoldable pub plausible_by : (ℕ → Task → Bool) → Instance → ℕ → Bool
plausible_by rule x f = ltb 0 f && (eqb (x.h % f) 0 && (leb (rows_at x f) 256 && frame_rules rule x.g f x.tasks))

-- "The per-task test becomes exact .. Planner and check both use it"
abbrev pub plausible : Instance → ℕ → Bool
plausible = plausible_by phase_rule

-- "This is necessary for a plan"
abbrev pub Needed : (ℕ → Task → Bool) → Instance → Type 0
Needed rule x = (f : ℕ) (frames : List ℕ) → IsPlan x f frames → plausible_by rule x f ≡ true

-- "each of its windows holds a whole frame": every job of task i in the cycle has a frame k with "k·f ≥ r and (k+1)·f ≤ r + D"
abbrev pub WindowsHold : Instance → ℕ → ℕ → Type 0
WindowsHold x f i = (y : ℕ) → y < length x.jobs → (job_at x y).task ≡ i
    → (k : ℕ) × InWindow f (job_at x y).release (job_at x y).due k
