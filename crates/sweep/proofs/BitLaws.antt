-- Laws of bits: of the words of jobs that have begun, of the flags as words, and of the zeros below a bit. Assumes nothing.
use mathlib.Core.Path.{◌≡◌, refl, sym, ap, subst, ◌∙◌}
use mathlib.Core.Bool.{Bool, true, false, cond, ◌||◌, or-true}
use mathlib.Core.List.{List, [], ◌∷◌}
use Prim.Native.Nat.{ℕ, zero, suc, ◌+◌, ◌-◌, ◌*◌, ◌/◌, ◌%◌, ◌^◌, ◌≤◌, ◌<◌, min}
use native.Mathlib.Nat.{one-mul, div-one, div-div-eq-div-mul, pow-succ'}
use native.Mathlib.Numerals.{one-add}
use native.Mathlib.Omega.{arith}
use lib.ListN.{length, get_or, set, take, drop, length-set}
use lib.Seq.{get_or-set_same, get_or-set_other, get_or-take, get_or-drop}
use lib.Bits.{bit_and, bit_or, bit_xor, differ, and_step, or_step, xor_step, and_shr, or_shr, xor_shr}
use lib.Count.{count_trailing_zeros, under}
use lib.Dec.{ltb, eqb, lit<}
use lib.Pow.{shr-shr, shl-shr, shl_exact}
use borrow.Author.Tests.{ltb-true, ltb-false, eqb-true, eqb-false}
use Rattle.exact.specs.Sweep.{Rules, skips}
use Rattle.exact.specs.Words.{word, word_at}
use Rattle.searcher.specs.declared.Problem.{Problem as InArrays}
use Rattle.sweep.specs.declared.Swept.{Swept}
use Rattle.sweep.specs.Arrays.{rules_in, bit, with_bit, Begun, Beginning, Unfree}

-- the first row of a job
pub first_of : (g : InArrays) (s : Swept) (i : ℕ) → (rules_in g s).first i ≡ get_or s.first i 0
unfolding rules_in
first_of g s i = refl

-- the bits of the half
half_bit : (n j : ℕ) → bit n (suc j) ≡ bit (n / 2) j
half_bit n j = ap (λ (x : ℕ). n / x % 2) (pow-succ' 2 j) ∙ ap (λ (x : ℕ). x % 2) (sym (div-div-eq-div-mul n 2 (2 ^ j)))

first_bit : (n : ℕ) → bit n 0 ≡ n % 2
first_bit n = ap (λ (x : ℕ). x % 2) (div-one n)

-- a bit of one of two numbers
or_left : (a b : ℕ) → a % 2 ≡ 1 → bit_or a b % 2 ≡ 1
or_left a b h = omega (arith, or_step a b)

or_right : (a b : ℕ) → b % 2 ≡ 1 → bit_or a b % 2 ≡ 1
or_right a b h = omega (arith, or_step a b)

pub bit_or_left : (a b j : ℕ) → bit a j ≡ 1 → bit (bit_or a b) j ≡ 1
bit_or_left a b j h = ap (λ (x : ℕ). x % 2) (or_shr a b j) ∙ or_left (a / 2 ^ j) (b / 2 ^ j) h

pub bit_or_right : (a b j : ℕ) → bit b j ≡ 1 → bit (bit_or a b) j ≡ 1
bit_or_right a b j h = ap (λ (x : ℕ). x % 2) (or_shr a b j) ∙ or_right (a / 2 ^ j) (b / 2 ^ j) h

pub bit_of_power : (j : ℕ) → bit (2 ^ j) j ≡ 1
bit_of_power j =
    let e : 2 ^ j ≡ 1 * 2 ^ j = omega arith in
    ap (λ (x : ℕ). x % 2) (ap (λ (x : ℕ). x / 2 ^ j) e ∙ shl-shr 1 j)

-- `1 << j`, which the machine has as a product cut to 64 bits, is 2 ^ j
pub one_shl : (j : ℕ) → j < 64 → (1 * 2 ^ j) % 2 ^ 64 ≡ 2 ^ j
one_shl j h = shl_exact {a = 1} 1 j 64 (lit< tt) (subst (λ (x : ℕ). x ≤ 64) (sym (one-add j)) h) ∙ one-mul (2 ^ j)

-- no bit stands below the zeros' end
pub no_bit_below : (k n y : ℕ) → y < count_trailing_zeros k n → bit n y ≡ 0
unfolding count_trailing_zeros
no_bit_below zero n y h = absurd (omega arith)
no_bit_below (suc k) n zero h = first_bit n ∙ go (n % 2) h
  where
    go : (d : ℕ) → 0 < under d (count_trailing_zeros k (n / 2)) → d ≡ 0
    go zero h = refl
    go (suc d) h = absurd (omega arith)
no_bit_below (suc k) n (suc y) h = half_bit n y ∙ no_bit_below k (n / 2) y (go (n % 2) h)
  where
    go : (d : ℕ) → suc y < under d (count_trailing_zeros k (n / 2)) → y < count_trailing_zeros k (n / 2)
    go zero h = omega arith
    go (suc d) h = absurd (omega arith)

-- where there is no free bit
taken : (a b : ℕ) → bit_and a (bit_xor a b) % 2 ≡ 0 → a % 2 ≡ 1 → b % 2 ≡ 1
taken a b e h = go (a % 2) (b % 2) h (omega arith) (omega (arith, and_step a (bit_xor a b), xor_step a b))
  where
    go : (x y : ℕ) → x ≡ 1 → y < 2 → min x (differ x y % 2) ≡ 0 → y ≡ 1
    go x zero h l e = absurd (omega (arith, ap (λ (z : ℕ). min z (differ z 0 % 2)) (sym h) ∙ e))
    go x (suc zero) h l e = refl
    go x (suc (suc y)) h l e = absurd (omega arith)

pub unfree : (a b i : ℕ) → Unfree a b i (i + count_trailing_zeros 64 (bit_and a (bit_xor a b) / 2 ^ i))
unfree a b i y le lt h =
    let z : i + (y - i) ≡ y = omega arith in
    let none : bit (bit_and a (bit_xor a b) / 2 ^ i) (y - i) ≡ 0 = no_bit_below 64 (bit_and a (bit_xor a b) / 2 ^ i) (y - i) (omega arith) in
    let here : bit (bit_and a (bit_xor a b)) y ≡ 0 =
    ap (λ (x : ℕ). bit (bit_and a (bit_xor a b)) x) (sym z) ∙ ap (λ (x : ℕ). x % 2) (sym (shr-shr (bit_and a (bit_xor a b)) i (y - i))) ∙ none in
    let parts : bit_and a (bit_xor a b) / 2 ^ y ≡ bit_and (a / 2 ^ y) (bit_xor (a / 2 ^ y) (b / 2 ^ y)) =
    and_shr a (bit_xor a b) y ∙ ap (λ (x : ℕ). bit_and (a / 2 ^ y) x) (xor_shr a b y) in
    taken (a / 2 ^ y) (b / 2 ^ y) (ap (λ (x : ℕ). x % 2) (sym parts) ∙ here) h

-- a bit of a word of flags
flag_of : (bs : List Bool) (j : ℕ) → bit (word bs) j ≡ 1 → get_or bs j false ≡ true
unfolding word
flag_of [] zero e = absurd (omega arith)
flag_of [] (suc j) e = flag_of [] j (sym (half_bit 0 j) ∙ e)
flag_of (b ∷ bs) zero e = go b (sym (first_bit (cond b 1 0 + 2 * word bs)) ∙ e)
  where
    go : (b : Bool) → (cond b 1 0 + 2 * word bs) % 2 ≡ 1 → b ≡ true
    go true e = refl
    go false e = absurd (omega arith)
flag_of (b ∷ bs) (suc j) e = flag_of bs j (ap (λ (x : ℕ). bit x j) (sym (half b)) ∙ sym (half_bit (cond b 1 0 + 2 * word bs) j) ∙ e)
  where
    half : (b : Bool) → (cond b 1 0 + 2 * word bs) / 2 ≡ word bs
    half true = omega arith
    half false = omega arith

word_flag : (ps : List Bool) (a j : ℕ) → j < 64 → bit (word_at ps a) j ≡ 1 → get_or ps (a + j) false ≡ true
word_flag ps a j h e = sym (get_or-take 64 (drop a ps) j false h ∙ get_or-drop a ps j false) ∙ flag_of (take 64 (drop a ps)) j e

-- each job gets its bit
module _ {u : Rules} {rows i : ℕ} {ws : List ℕ} (v : Beginning u rows i 0 ws) where
  -- one that begins in no row
  pub beginning_none : rows ≤ u.first i → Beginning u rows (i + 1) 0 ws
  beginning_none h = record {
    size = v.size;
    each = λ q x l m a k. go q x l m a (k (omega arith)) (eqb x i) refl;
  }
    where
      go : (q x : ℕ) → q < rows → x < i + 1 → u.first x ≤ q → u.first x ≡ q → (b : Bool) → eqb x i ≡ b → bit (get_or ws (2 * q + x / 64) 0) (x % 64) ≡ 1
      go q x l m a e true w = absurd (let f : u.first x ≡ u.first i = ap u.first (eqb-true x i w) in omega arith)
      go q x l m a e false w = let ne : x ≡ i → ⊥ = eqb-false x i w in v.each q x l (omega arith) a (λ k. e)

  -- one that begins in row r
  pub beginning_more : {r : ℕ} → r ≡ u.first i → r < 256 → i < 128 → {ws' : List ℕ} → ws' ≡ with_bit ws (2 * r + i / 64) (i % 64)
      → Beginning u rows (i + 1) 0 ws'
  beginning_more {r} is few h {ws'} we = record {
    size = ap length we ∙ length-set ws (2 * r + i / 64) (bit_or (get_or ws (2 * r + i / 64) 0) (2 ^ (i % 64))) ∙ v.size;
    each = λ q x l m a k. rw we (go q x l m a (k (omega arith)) (eqb x i) refl);
  }
    where
      same : get_or (with_bit ws (2 * r + i / 64) (i % 64)) (2 * r + i / 64) 0 ≡ bit_or (get_or ws (2 * r + i / 64) 0) (2 ^ (i % 64))
      same = get_or-set_same ws (2 * r + i / 64) (bit_or (get_or ws (2 * r + i / 64) 0) (2 ^ (i % 64))) 0 (omega (arith, v.size))

      keeps : (k j : ℕ) → bit (get_or ws k 0) j ≡ 1 → (b : Bool) → eqb k (2 * r + i / 64) ≡ b → bit (get_or (with_bit ws (2 * r + i / 64) (i % 64)) k 0) j ≡ 1
      keeps k j e true t =
          let z : k ≡ 2 * r + i / 64 = eqb-true k (2 * r + i / 64) t in
          rw (z, same) (bit_or_left (get_or ws (2 * r + i / 64) 0) (2 ^ (i % 64)) j (rw z at e))
      keeps k j e false t =
          rw (get_or-set_other ws (2 * r + i / 64) k (bit_or (get_or ws (2 * r + i / 64) 0) (2 ^ (i % 64))) 0 (eqb-false k (2 * r + i / 64) t)) e

      go : (q x : ℕ) → q < rows → x < i + 1 → u.first x ≤ q → u.first x ≡ q → (b : Bool) → eqb x i ≡ b
          → bit (get_or (with_bit ws (2 * r + i / 64) (i % 64)) (2 * q + x / 64) 0) (x % 64) ≡ 1
      go q x l m a e true t =
          let z : x ≡ i = eqb-true x i t in
          let f : u.first x ≡ u.first i = ap u.first z in
          let g : q ≡ r = omega arith in
          rw (z, g, same) (bit_or_right (get_or ws (2 * r + i / 64) 0) (2 ^ (i % 64)) (i % 64) (bit_of_power (i % 64)))
      go q x l m a e false t =
          let ne : x ≡ i → ⊥ = eqb-false x i t in
          keeps (2 * q + x / 64) (x % 64) (v.each q x l (omega arith) a (λ k. e)) (eqb (2 * q + x / 64) (2 * r + i / 64)) refl

-- each word gets the bits of the row before
module _ {u : Rules} {rows n : ℕ} {ws : List ℕ} where
  module _ {k : ℕ} (v : Beginning u rows n k ws) where
    pub beginning_word : 2 ≤ k → k < 512 → {ws' : List ℕ} → ws' ≡ set ws k (bit_or (get_or ws k 0) (get_or ws (k - 2) 0)) → Beginning u rows n (k + 1) ws'
    beginning_word two room {ws'} we = record {
      size = ap length we ∙ length-set ws k (bit_or (get_or ws k 0) (get_or ws (k - 2) 0)) ∙ v.size;
      each = λ q x l m a c. rw we (go q x l m a c (eqb (2 * q + x / 64) k) refl);
    }
      where
        same : get_or (set ws k (bit_or (get_or ws k 0) (get_or ws (k - 2) 0))) k 0 ≡ bit_or (get_or ws k 0) (get_or ws (k - 2) 0)
        same = get_or-set_same ws k (bit_or (get_or ws k 0) (get_or ws (k - 2) 0)) 0 (omega (arith, v.size))

        -- the job begins in this row, or in one before
        here : (q x : ℕ) → q < rows → x < n → u.first x ≤ q → 2 * q + x / 64 ≡ k → (b : Bool) → eqb (u.first x) q ≡ b
            → bit (bit_or (get_or ws k 0) (get_or ws (k - 2) 0)) (x % 64) ≡ 1
        here q x l m a z true t =
            let e : u.first x ≡ q = eqb-true (u.first x) q t in
            let old : bit (get_or ws (2 * q + x / 64) 0) (x % 64) ≡ 1 = v.each q x l m a (λ c. e) in
            bit_or_left (get_or ws k 0) (get_or ws (k - 2) 0) (x % 64) (rw z at old)
        here q x l m a z false t =
            let ne : u.first x ≡ q → ⊥ = eqb-false (u.first x) q t in
            let w : 2 * (q - 1) + x / 64 ≡ k - 2 = omega arith in
            let old : bit (get_or ws (2 * (q - 1) + x / 64) 0) (x % 64) ≡ 1 = v.each (q - 1) x (omega arith) m (omega arith) (λ c. absurd (omega arith)) in
            bit_or_right (get_or ws k 0) (get_or ws (k - 2) 0) (x % 64) (rw w at old)

        go : (q x : ℕ) → q < rows → x < n → u.first x ≤ q → (k + 1 ≤ 2 * q + x / 64 → u.first x ≡ q) → (b : Bool) → eqb (2 * q + x / 64) k ≡ b
            → bit (get_or (set ws k (bit_or (get_or ws k 0) (get_or ws (k - 2) 0))) (2 * q + x / 64) 0) (x % 64) ≡ 1
        go q x l m a c true t =
            let z : 2 * q + x / 64 ≡ k = eqb-true (2 * q + x / 64) k t in
            rw (z, same) (here q x l m a z (eqb (u.first x) q) refl)
        go q x l m a c false t =
            let ne : 2 * q + x / 64 ≡ k → ⊥ = eqb-false (2 * q + x / 64) k t in
            rw (get_or-set_other ws k (2 * q + x / 64) (bit_or (get_or ws k 0) (get_or ws (k - 2) 0)) 0 ne) (v.each q x l m a (λ d. c (omega arith)))

    pub beginning_done : 2 * rows ≤ k → u.n ≡ n → n ≤ 128 → Begun u rows ws
    beginning_done h e few = record {
      size = v.size;
      each = λ q x l m a. v.each q x l (omega arith) a (λ t. absurd (omega arith));
    }

-- jobs without a free bit are passed over
module _ (g : InArrays) (s : Swept) (ps : List Bool) (p : ℕ) where
  passed_by : (i : ℕ) → ((rules_in g s).first i ≤ p → get_or ps i false ≡ true) → skips (rules_in g s) p ps i ≡ true
  unfolding rules_in
  passed_by i has = go (ltb p (get_or s.first i 0)) refl
    where
      go : (b : Bool) → ltb p (get_or s.first i 0) ≡ b → (get_or ps i false || ltb p (get_or s.first i 0)) ≡ true
      go true t = rw t (or-true (get_or ps i false))
      go false t = rw (has (ltb-false p (get_or s.first i 0) t))

  module _ {rows : ℕ} {ws : List ℕ} (b : Begun (rules_in g s) rows ws) (row : p < rows) {w i j : ℕ} where
    pub low_passed : w ≡ word_at ps 0 → Unfree (get_or ws (2 * p) 0) w i j
        → (y : ℕ) → i ≤ y → y < j → y < 64 → y < (rules_in g s).n → skips (rules_in g s) p ps y ≡ true
    low_passed e un y le lt low job =
        let z : 0 + y ≡ y = omega arith in
        passed_by y (λ f. subst (λ (x : ℕ). get_or ps x false ≡ true) z (word_flag ps 0 y low (rw e at (un y le lt (has f)))))
      where
        has : (rules_in g s).first y ≤ p → bit (get_or ws (2 * p) 0) y ≡ 1
        has f =
            let k : 2 * p + y / 64 ≡ 2 * p = omega arith in
            let t : y % 64 ≡ y = omega arith in
            rw (k, t) at (b.each p y row job f)

    pub high_passed : w ≡ word_at ps 64 → Unfree (get_or ws (2 * p + 1) 0) w i j
        → (y : ℕ) → 64 + i ≤ y → y < 64 + j → y < 128 → y < (rules_in g s).n → skips (rules_in g s) p ps y ≡ true
    high_passed e un y le lt high job =
        let z : 64 + (y - 64) ≡ y = omega arith in
        passed_by y (λ f. subst (λ (x : ℕ). get_or ps x false ≡ true) z
        (word_flag ps 64 (y - 64) (omega arith) (rw e at (un (y - 64) (omega arith) (omega arith) (has f)))))
      where
        has : (rules_in g s).first y ≤ p → bit (get_or ws (2 * p + 1) 0) (y - 64) ≡ 1
        has f =
            let k : 2 * p + y / 64 ≡ 2 * p + 1 = omega arith in
            let t : y % 64 ≡ y - 64 = omega arith in
            rw (k, t) at (b.each p y row job f)

  pub both_passed : {rows : ℕ} {ws : List ℕ} → Begun (rules_in g s) rows ws → p < rows → {v w i j k : ℕ} → v ≡ word_at ps 0 → w ≡ word_at ps 64
      → Unfree (get_or ws (2 * p) 0) v i j → 64 ≤ j → Unfree (get_or ws (2 * p + 1) 0) w 0 k
      → (y : ℕ) → i ≤ y → y < 64 + k → y < 128 → y < (rules_in g s).n → skips (rules_in g s) p ps y ≡ true
  both_passed b row d e lows all highs y le lt few job = go (ltb y 64) refl
    where
      go : (c : Bool) → ltb y 64 ≡ c → skips (rules_in g s) p ps y ≡ true
      go true t =
          let h : y < 64 = ltb-true y 64 t in
          low_passed b row d lows y le (omega arith) h job
      go false t =
          let h : 64 ≤ y = ltb-false y 64 t in
          high_passed b row e highs y (omega arith) lt few job
