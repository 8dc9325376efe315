-- All windows of a task in a cycle: when does each hold a whole frame?
-- A window that opens at r holds one exactly if 2·f ≤ D + since f r. Over the releases, since f r is never below since g P, g = gcd f T,
-- for g divides f and T; and by the residue law one release has exactly that. Hence the rule 2·f ≤ D + since g P.
use Rattle.std.specs.Prelude.{◌≡◌, ◌↔◌, ℕ, ◌+◌, ◌*◌, ◌-◌, ◌/◌, ◌%◌, ◌≤◌, ◌<◌}
use Rattle.std.proofs.Common.{sym, ap, ◌∙◌, mod-lt, arith}
use Rattle.std.specs.Int.{◌∣◌}
use Rattle.std.proofs.Math.Nat.{mod-le, mod-mod, mod-mod_of_dvd, div-mul_cancel, le_of_dvd, pos_of_dvd_of_pos}
use Rattle.arith.specs.Gcd.{gcd_of}
use Rattle.arith.specs.GcdLaws.{gcd_dvd}
use Rattle.arith.specs.Residue.{congruent, residues_reached}
use Rattle.model.specs.Plan.{InWindow}
use Rattle.model.specs.WindowLaws.{since, since_is, window_holds}

-- every job of the task has a whole frame in its window
abbrev pub EveryWindowHolds : ℕ → ℕ → ℕ → ℕ → ℕ → Type 0
EveryWindowHolds H f T D P = (j : ℕ) → j < H / T → (k : ℕ) × InWindow f (P + j * T) (P + j * T + D) k

-- for the residue modulo g it is the same to go back one from a multiple f of g as from g
back_one : (g f m : ℕ) → 0 < f → g ∣ f → (m + (f - 1)) % g ≡ (m + (g - 1)) % g
back_one g f m pos gf = congruent g (m + (f - 1)) (m + (g - 1)) 1 (f / g) (omega (arith, pos_of_dvd_of_pos gf pos, div-mul_cancel g gf))

since_coarser : (g f m : ℕ) → 0 < f → g ∣ f → since g m ≤ since f m
since_coarser g f m pos gf =
    let fine = m + (f - 1) in
    omega (arith, since_is g m (pos_of_dvd_of_pos gf pos), since_is f m pos, back_one g f m pos gf, mod-mod_of_dvd g fine gf, mod-le (fine % f) g)

since_later : (g T P j : ℕ) → g ∣ T → since g (P + j * T) ≡ since g P
unfolding since
since_later g T P j g_t = rw (congruent g (P + j * T) P 0 (j * (T / g)) (omega (arith, ap (λ z. j * z) (div-mul_cancel g g_t))))

module _ (H f T D P : ℕ) (pos : 0 < H) (fh : f ∣ H) (th : T ∣ H) where
  f_pos : 0 < f
  f_pos = pos_of_dvd_of_pos fh pos

  g_pos : 0 < gcd_of f T
  g_pos = pos_of_dvd_of_pos (gcd_dvd f T).0 f_pos

  -- a release that comes as soon after a frame start as any
  tightest : (j : ℕ) × (j < H / T) × (since f (P + j * T) ≡ since (gcd_of f T) P)
  tightest =
      let g = gcd_of f T in
      let gf = (gcd_dvd f T).0 in
      let below : (P + (g - 1)) % g < f = omega (arith, mod-lt (P + (g - 1)) g_pos, le_of_dvd f_pos gf) in
      let (j, early, e) = residues_reached H f T (P + (f - 1)) ((P + (g - 1)) % g) pos fh th below (mod-mod _ g ∙ sym (back_one g f P f_pos gf)) in
      let moved : P + j * T + (f - 1) ≡ P + (f - 1) + j * T = omega arith in
      (j, early, rw (since_is f (P + j * T) f_pos, since_is g P g_pos, moved, e))

  pub windows_hold : EveryWindowHolds H f T D P ↔ (2 * f ≤ D + since (gcd_of f T) P)
  windows_hold =
      let g = gcd_of f T in (
        λ all.
            let (j, early, e) = tightest in
            omega (arith, (window_holds f (P + j * T) D f_pos).0 (all j early), e),
        λ rule j early.
            let r = P + j * T in
            (window_holds f r D f_pos).1 (omega (arith, since_coarser g f r f_pos (gcd_dvd f T).0, since_later g T P j (gcd_dvd f T).1)),
      )
