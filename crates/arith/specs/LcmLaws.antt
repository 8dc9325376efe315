-- The lcm is a multiple of both numbers, a divisor of every common multiple, and so the least.
use Rattle.std.specs.Prelude.{◌≡◌, ℕ, ◌+◌, ◌*◌, ◌/◌, ◌≤◌, ◌<◌, ◌⊎◌}
use Rattle.std.proofs.Common.{ap, mul_comm, mul-le-mul, eq-zero-or-pos, lt_of_mul-lt-mul_right, arith, inl, inr}
use Rattle.std.specs.Int.{◌∣◌}
use Rattle.std.proofs.Math.Nat.{dvd-add, dvd-add_iff_left, dvd-mul_left, dvd-mul_right, dvd-mul_left_of_dvd, mul-dvd-mul_left, dvd_of_mul-dvd-mul_right, div-mul_cancel, le_of_dvd}
use Rattle.arith.specs.Gcd.{gcd_of}
use Rattle.arith.specs.GcdLaws.{gcd_dvd, gcd_comm, gcd_pos, bezout}
use Rattle.arith.specs.Lcm.{lcm_of}

lcm_is : (a b : ℕ) → lcm_of a b ≡ a * (b / gcd_of a b)
unfolding lcm_of
lcm_is a b =
    let g = gcd_of a b in
    omega (arith, ap (λ n. a / g * n) (div-mul_cancel g (gcd_dvd a b).1), ap (λ n. n * (b / g)) (div-mul_cancel g (gcd_dvd a b).0))

-- it is a multiple of both
pub dvd_lcm_left : (a b : ℕ) → a ∣ lcm_of a b
dvd_lcm_left a b = rw (lcm_is a b) (dvd-mul_right a (b / gcd_of a b))

pub dvd_lcm_right : (a b : ℕ) → b ∣ lcm_of a b
unfolding lcm_of
dvd_lcm_right a b = dvd-mul_left b (a / gcd_of a b)

lcm_gcd : (a b : ℕ) → lcm_of a b * gcd_of a b ≡ a * b
unfolding lcm_of
lcm_gcd a b = omega (arith, ap (λ n. n * b) (div-mul_cancel (gcd_of a b) (gcd_dvd a b).0))

-- It divides every common multiple m: a·b divides m·a and m·b, so by Bézout it divides m·gcd a b, and a·b is lcm a b · gcd a b.
pub lcm_dvd : (a b m : ℕ) → 0 < a → a ∣ m → b ∣ m → lcm_of a b ∣ m
lcm_dvd a b m pos p q =
    let g = gcd_of a b in
    let (u, v, u', v', e) = bezout a b in
    let by_a : a * b ∣ a * m = mul-dvd-mul_left b a q in
    let by_b : a * b ∣ b * m = rw (mul_comm a b) (mul-dvd-mul_left a b p) in
    let sums : (x y : ℕ) → a * b ∣ x * (a * m) + y * (b * m) =
    λ x y. dvd-add (a * b) (dvd-mul_left_of_dvd (a * b) by_a x) (dvd-mul_left_of_dvd (a * b) by_b y) in
    let scaled : u * (a * m) + v * (b * m) ≡ m * g + (u' * (a * m) + v' * (b * m)) = omega (arith, ap (λ n. m * n) e) in
    dvd_of_mul-dvd-mul_right (lcm_of a b) (gcd_pos a b pos)
    (rw (lcm_gcd a b) ((dvd-add_iff_left (a * b) (sums u' v')).1 (rw scaled at (sums u v))))

-- so it is the least of them
pub lcm_least : (a b m : ℕ) → 0 < a → 0 < m → a ∣ m → b ∣ m → lcm_of a b ≤ m
lcm_least a b m pos some p q = le_of_dvd some (lcm_dvd a b m pos p q)

pub lcm_pos : (a b : ℕ) → 0 < a → 0 < b → 0 < lcm_of a b
lcm_pos a b a_pos b_pos = lt_of_mul-lt-mul_right (gcd_of a b) (omega (arith, lcm_gcd a b, product))
  where
    product : 0 < a * b
    product = omega (arith, mul-le-mul a_pos b_pos)

-- with a gcd of 0 there is no number to divide by, and the definition gives 0
pub lcm_none : (a b : ℕ) → gcd_of a b ≡ 0 → lcm_of a b ≡ 0
unfolding lcm_of
lcm_none a b e = go (eq-zero-or-pos b)
  where
    go : (b ≡ 0) ⊎ (0 < b) → a / gcd_of a b * b ≡ 0
    go (inl z) = omega (arith, ap (λ n. a / gcd_of a b * n) z)
    go (inr pos) = absurd (omega (arith, gcd_pos b a pos, gcd_comm a b))
