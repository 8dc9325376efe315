-- The entries' bytes: what stores one behind the other come to, and what is found in them.
use Rattle.std.specs.Prelude.{ℕ, zero, suc, ◌+◌, ◌*◌, ◌-◌, ◌≤◌, ◌<◌, ◌≡◌, length, get_or, set, drop}
use Rattle.std.proofs.Math.Path.{refl}
use Rattle.std.proofs.Common.{ap, ◌∙◌, arith}
use mathlib.Core.List.{List, [], ◌∷◌, ◌++◌}
use Rattle.cursor.specs.Pieces.{PartWay, part_start, part_end}
use Rattle.table.specs.Left.{less_one, none_left}
use Rattle.lent.specs.WordLaws.{two_more}
use Rattle.lent.specs.Entries.{entry_bytes}

-- 16 pairs: i are stored

module _ (tasks jobs old : List ℕ) where
  pub pairs_start : 32 ≤ length old → PartWay (entry_bytes tasks jobs 16 0) old old (entry_bytes tasks jobs (16 - 0) 0) 0
  unfolding entry_bytes
  pairs_start h = part_start [] (entry_bytes tasks jobs 16 0) old 0 refl h

  module _ (out : List ℕ) (at i : ℕ) (so : PartWay (entry_bytes tasks jobs 16 0) old out (entry_bytes tasks jobs (16 - i) i) at) where
    left_is : i < 16 → entry_bytes tasks jobs (16 - i) i ≡ get_or tasks i 0 ∷ get_or jobs i 0 ∷ entry_bytes tasks jobs (16 - (i + 1)) (i + 1)
    unfolding entry_bytes
    left_is h = rw (less_one 16 i h)

    pub pairs_room : i < 16 → at + 2 ≤ length out
    pairs_room h = omega (arith, so.room, so.long, ap length (left_is h))

    pub pairs_more : i < 16
        → PartWay (entry_bytes tasks jobs 16 0) old (set (set out at (get_or tasks i 0)) (at + 1) (get_or jobs i 0)) (entry_bytes tasks jobs (16 - (i + 1)) (i + 1)) (at + 2)
    pairs_more h = two_more (entry_bytes tasks jobs 16 0) old out (entry_bytes tasks jobs (16 - i) i) at so (get_or tasks i 0) (get_or jobs i 0) _ (left_is h)

    pub pairs_end : 16 ≤ i → out ≡ entry_bytes tasks jobs 16 0 ++ drop 32 old
    unfolding entry_bytes
    pairs_end h = (part_end (entry_bytes tasks jobs 16 0) old out (entry_bytes tasks jobs (16 - i) i) at so (rw (none_left 16 i h))).whole

-- of n pairs that are written from place i on, the k-th
pub pair_there : (tasks jobs rest : List ℕ) (n i k : ℕ) → k < n
    → (get_or (entry_bytes tasks jobs n i ++ rest) (2 * k) 0 ≡ get_or tasks (i + k) 0) × (get_or (entry_bytes tasks jobs n i ++ rest) (2 * k + 1) 0 ≡ get_or jobs (i + k) 0)
unfolding entry_bytes
pair_there tasks jobs rest zero i k h = absurd (omega arith)
pair_there tasks jobs rest (suc n) i zero h =
    let here : i ≡ i + 0 = omega arith in
    (ap (λ (j : ℕ). get_or tasks j 0) here, ap (λ (j : ℕ). get_or jobs j 0) here)
pair_there tasks jobs rest (suc n) i (suc k) h =
    let low : 2 * suc k ≡ suc (suc (2 * k)) = omega arith in
    let high : 2 * suc k + 1 ≡ suc (suc (2 * k + 1)) = omega arith in
    let place : i + 1 + k ≡ i + suc k = omega arith in
    let there = pair_there tasks jobs rest n (i + 1) k (omega arith) in
    (rw low (there.0 ∙ ap (λ (j : ℕ). get_or tasks j 0) place), rw high (there.1 ∙ ap (λ (j : ℕ). get_or jobs j 0) place))
