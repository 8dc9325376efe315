-- Flags as numbers: two words of 64 flags each. Where one list's words have no bit that another's lack, it has no flag that the other lacks. Assumes nothing.
use Rattle.std.specs.Prelude.{◌≡◌, refl, Bool, true, false, cond, List, [], ◌∷◌, ℕ, zero, suc, ◌+◌, ◌-◌, ◌*◌, ◌/◌, ◌%◌, ◌^◌, ◌≤◌, ◌<◌, min, ◌⊎◌, length, get_or, set, take, drop, ltb}
use Rattle.std.proofs.Common.{sym, ap, ◌∙◌, pow-suc, arith, inl, inr, length-take, length-drop, ltb-true, ltb-false, get_or-take, get_or-drop}
use Rattle.std.proofs.lemmas.Bool.{false≢true}
use Rattle.std.proofs.Math.ListN.{get_or-eq_default}
use Rattle.std.specs.Int.Bits.{bit_and, and_step}
use Rattle.exact.specs.Sweep.{Fewer}

-- the first has the value 1, the next 2, ..
unfoldable pub word : List Bool → ℕ
word [] = 0
word (b ∷ bs) = cond b 1 0 + 2 * word bs

-- the word of the 64 flags from a on
abbrev pub word_at : List Bool → ℕ → ℕ
word_at ps a = word (take 64 (drop a ps))

-- the words of flags that are all among others tell so
within : (a b : List Bool) → length a ≡ length b → bit_and (word a) (word b) ≡ word a → Fewer a b
unfolding word
within [] b l e y h = absurd (false≢true h)
within (x ∷ a) [] l e y h = absurd (omega arith)
within (x ∷ a) (z ∷ b) l e zero h = first x z h e
  where
    first : (x z : Bool) → x ≡ true → bit_and (cond x 1 0 + 2 * word a) (cond z 1 0 + 2 * word b) ≡ cond x 1 0 + 2 * word a → z ≡ true
    first x true h e = refl
    first false false h e = absurd (false≢true h)
    first true false h e = absurd (omega (arith, and_step (1 + 2 * word a) (0 + 2 * word b)))
within (x ∷ a) (z ∷ b) l e (suc y) h = within a b (omega arith) (others x z e) y h
  where
    half : (x : Bool) (k : ℕ) → (cond x 1 0 + 2 * k) / 2 ≡ k
    half true k = omega arith
    half false k = omega arith

    last : (x z : Bool) (c a b : ℕ) → c * 2 + min ((cond x 1 0 + 2 * a) % 2) ((cond z 1 0 + 2 * b) % 2) ≡ cond x 1 0 + 2 * a → c ≡ a
    last true true c a b e = omega arith
    last true false c a b e = omega arith
    last false z c a b e = omega arith

    others : (x z : Bool) → bit_and (cond x 1 0 + 2 * word a) (cond z 1 0 + 2 * word b) ≡ cond x 1 0 + 2 * word a → bit_and (word a) (word b) ≡ word a
    others x z e =
        let k = and_step (cond x 1 0 + 2 * word a) (cond z 1 0 + 2 * word b) in
        let m : bit_and (cond x 1 0 + 2 * word a) (cond z 1 0 + 2 * word b) ≡ bit_and (word a) (word b) * 2 + min ((cond x 1 0 + 2 * word a) % 2) ((cond z 1 0 + 2 * word b) % 2) =
        rw (half x (word a), half z (word b)) at k in
        last x z (bit_and (word a) (word b)) (word a) (word b) (sym m ∙ e)

-- so do the two words of 128 flags
pub words_within : (a b : List Bool) → length a ≡ 128 → length b ≡ 128 → bit_and (word_at a 0) (word_at b 0) ≡ word_at a 0 → bit_and (word_at a 64) (word_at b 64) ≡ word_at a 64 → Fewer a b
words_within a b l m e g y h = go (ltb y 64) refl
  where
    part_size : (ps : List Bool) (k : ℕ) → length ps ≡ 128 → k ≤ 64 → length (take 64 (drop k ps)) ≡ 64
    part_size ps k s t = rw (length-take 64 (drop k ps), length-drop k ps, s) (omega arith)

    go : (c : Bool) → ltb y 64 ≡ c → get_or b y false ≡ true
    go true q =
        let t : y < 64 = ltb-true y 64 q in
        sym (get_or-take 64 b y false t) ∙ within (take 64 a) (take 64 b) (part_size a 0 l (omega arith) ∙ sym (part_size b 0 m (omega arith))) e y (get_or-take 64 a y false t ∙ h)
    go false q =
        let t : 64 ≤ y = ltb-false y 64 q in
        let z : 64 + (y - 64) ≡ y = omega arith in
        by (ltb y 128) refl t z
      where
        by : (c : Bool) → ltb y 128 ≡ c → 64 ≤ y → 64 + (y - 64) ≡ y → get_or b y false ≡ true
        by true k t z =
            let i : y - 64 < 64 = omega (arith, ltb-true y 128 k) in
            let at : (ps : List Bool) → get_or (take 64 (drop 64 ps)) (y - 64) false ≡ get_or ps y false =
            λ ps. get_or-take 64 (drop 64 ps) (y - 64) false i ∙ get_or-drop 64 ps (y - 64) false ∙ ap (λ (j : ℕ). get_or ps j false) z in
            sym (at b) ∙ within (take 64 (drop 64 a)) (take 64 (drop 64 b)) (part_size a 64 l (omega arith) ∙ sym (part_size b 64 m (omega arith))) g (y - 64) (at a ∙ h)
        by false k t z = absurd (false≢true (sym (get_or-eq_default a false (omega (arith, ltb-false y 128 k))) ∙ h))

-- 64 flags fit
twice : ℕ → ℕ
twice zero = 1
twice (suc k) = 2 * twice k

twice_le : (j m : ℕ) → j ≤ m → twice j ≤ twice m
unfolding twice
twice_le zero zero h = omega arith
twice_le zero (suc m) h = let e : twice (suc m) ≡ 2 * twice m = refl in omega (arith, twice_le zero m (omega arith))
twice_le (suc j) zero h = absurd (omega arith)
twice_le (suc j) (suc m) h =
    let a : twice (suc j) ≡ 2 * twice j = refl in
    let b : twice (suc m) ≡ 2 * twice m = refl in
    omega (arith, twice_le j m (omega arith))

word_below : (bs : List Bool) → word bs < twice (length bs)
unfolding word twice
word_below [] = let e : twice 0 ≡ 1 = refl in omega arith
word_below (true ∷ bs) = let e : twice (suc (length bs)) ≡ 2 * twice (length bs) = refl in omega (arith, word_below bs)
word_below (false ∷ bs) = let e : twice (suc (length bs)) ≡ 2 * twice (length bs) = refl in omega (arith, word_below bs)

word_fits : (bs : List Bool) → length bs ≤ 64 → word bs ≤ 18446744073709551615
unfolding twice
word_fits bs h =
    let v : twice 64 ≡ 18446744073709551616 = refl in
    omega (arith, word_below bs, twice_le (length bs) 64 h)

-- one flag more
word_set : (bs : List Bool) (j : ℕ) → j < length bs → get_or bs j false ≡ false → word (set bs j true) ≡ word bs + 2 ^ j
unfolding word
word_set [] j h e = absurd (omega arith)
word_set (b ∷ bs) zero h e = rw e (omega arith)
word_set (b ∷ bs) (suc j) h e = omega (arith, pow-suc 2 j, word_set bs j (omega arith) e)

take_set_in : (k j : ℕ) (bs : List Bool) → j < k → take k (set bs j true) ≡ set (take k bs) j true
take_set_in zero j bs h = absurd (omega arith)
take_set_in (suc k) j [] h = refl
take_set_in (suc k) zero (b ∷ bs) h = refl
take_set_in (suc k) (suc j) (b ∷ bs) h = ap (λ (l : List Bool). b ∷ l) (take_set_in k j bs (omega arith))

take_set_out : (k j : ℕ) (bs : List Bool) → k ≤ j → take k (set bs j true) ≡ take k bs
take_set_out zero j bs h = refl
take_set_out (suc k) j [] h = refl
take_set_out (suc k) zero (b ∷ bs) h = absurd (omega arith)
take_set_out (suc k) (suc j) (b ∷ bs) h = ap (λ (l : List Bool). b ∷ l) (take_set_out k j bs (omega arith))

drop_set_in : (a j : ℕ) (bs : List Bool) → drop a (set bs (a + j) true) ≡ set (drop a bs) j true
drop_set_in zero j bs = let z : 0 + j ≡ j = omega arith in rw z
drop_set_in (suc a) j [] = refl
drop_set_in (suc a) j (b ∷ bs) = let z : suc a + j ≡ suc (a + j) = omega arith in rw z (drop_set_in a j bs)

drop_set_out : (a j : ℕ) (bs : List Bool) → j < a → drop a (set bs j true) ≡ drop a bs
drop_set_out zero j bs h = absurd (omega arith)
drop_set_out (suc a) j [] h = refl
drop_set_out (suc a) zero (b ∷ bs) h = refl
drop_set_out (suc a) (suc j) (b ∷ bs) h = drop_set_out a j bs (omega arith)

module _ (ps : List Bool) (i a : ℕ) where
  -- a flag of another word
  pub word_other : (i < a) ⊎ (a + 64 ≤ i) → word_at (set ps i true) a ≡ word_at ps a
  word_other (inl h) = rw (drop_set_out a i ps h)
  word_other (inr h) =
      let z : a + (i - a) ≡ i = omega arith in
      rw (sym z) (rw (drop_set_in a (i - a) ps, take_set_out 64 (i - a) (drop a ps) (omega arith)))

  -- a flag of this one
  pub word_more : a ≤ i → i < a + 64 → i < length ps → get_or ps i false ≡ false → word_at (set ps i true) a ≡ word_at ps a + 2 ^ (i - a)
  word_more h l size e =
      let z : a + (i - a) ≡ i = omega arith in
      let at : get_or (take 64 (drop a ps)) (i - a) false ≡ false =
      get_or-take 64 (drop a ps) (i - a) false (omega arith) ∙ get_or-drop a ps (i - a) false ∙ ap (λ (j : ℕ). get_or ps j false) z ∙ e in
      let long : i - a < length (take 64 (drop a ps)) = rw (length-take 64 (drop a ps), length-drop a ps) (omega arith) in
      ap (λ (j : ℕ). word_at (set ps j true) a) (sym z)
      ∙ ap (λ (l : List Bool). word (take 64 l)) (drop_set_in a (i - a) ps)
      ∙ ap word (take_set_in 64 (i - a) (drop a ps) (omega arith)) ∙ word_set (take 64 (drop a ps)) (i - a) long at

  pub word_size : (qs : List Bool) → word_at qs a ≤ 18446744073709551615
  word_size qs = word_fits (take 64 (drop a qs)) (rw (length-take 64 (drop a qs)) (omega arith))
