-- A memory of states that failed: a row and the flags, as two words, at any of 5120 places. It is one list: at each place one past the row, then the
-- low words, then the high ones. A state of the same row whose words have no bit that those of a noted one lack has no flag that it lacks, and
-- fails too. Assumes nothing.
use Rattle.std.specs.Prelude.{◌≡◌, refl, Bool, true, false, ◌⊎◌, List, [], ◌∷◌, ◌++◌, ℕ, suc, ◌+◌, ◌<◌, length, get_or, set, replicate, eqb}
use Rattle.std.proofs.Common.{sym, ap, ◌∙◌, inl, inr, ⊎_elim, arith, length-set, length-append, get_or-set_same, get_or-set_other, get_or-append-add, eqb-true}
use Rattle.std.proofs.lemmas.List.{length-replicate, get_or-replicate, set-append_left}
use Rattle.std.proofs.Math.ListN.{get_or-append}
use Rattle.std.specs.Int.Bits.{bit_and}
use Rattle.std.proofs.lemmas.Bool.{eqb-false}
use Rattle.exact.specs.Sweep.{Rules, From, Fewer}
use Rattle.exact.specs.Words.{word_at, words_within}

-- place s has a state of row p whose words have these bits and perhaps more
pub record Covers (memo : List ℕ) (p low high s : ℕ) : Type 0 where
  pub row : get_or memo s 0 ≡ p + 1
  pub low_in : bit_and low (get_or memo (5120 + s) 0) ≡ low
  pub high_in : bit_and high (get_or memo (10240 + s) 0) ≡ high

-- some place has one
pub record Knows (memo : List ℕ) (p low high : ℕ) : Type 0 where
  pub slot : ℕ
  pub inside : slot < 5120
  pub covers : Covers memo p low high slot

-- every state that it knows fails
pub record Sound (u : Rules) (rows : ℕ) (memo : List ℕ) : Type 0 where
  pub fails : (p : ℕ) (ps : List Bool) → length ps ≡ 128 → Knows memo p (word_at ps 0) (word_at ps 64) → From u rows p ps

-- what was noted: the state of row p with these words; so it knows those with fewer bits, and nothing else
pub record Noted (memo memo' : List ℕ) (p low high : ℕ) : Type 0 where
  pub old_or_this : (q l h : ℕ) → Knows memo' q l h → Knows memo q l h ⊎ ((q ≡ p) × (bit_and l low ≡ l) × (bit_and h high ≡ h))

-- where no place has a row, nothing is known
pub sound_first : (u : Rules) (rows : ℕ) (words : List ℕ) → Sound u rows (replicate 5120 0 ++ words)
sound_first u rows words = record {
  fails = λ p ps l k. absurd (omega (arith, k.covers.row, none k.slot k.inside));
}
  where
    none : (s : ℕ) → s < 5120 → get_or (replicate 5120 0 ++ words) s 0 ≡ 0
    none s h =
        get_or-append (replicate {A = ℕ} 5120 0) words 0 s (omega (arith, length-replicate {A = ℕ} 5120 0))
        ∙ get_or-replicate {A = ℕ} 5120 s 0 0 h

-- a failed state may be noted, where those with fewer flags fail too
pub sound_noted : {u : Rules} {rows : ℕ} {memo memo' : List ℕ} {p : ℕ} (ps : List Bool) → length ps ≡ 128
    → Sound u rows memo → Noted memo memo' p (word_at ps 0) (word_at ps 64) → ((qs : List Bool) → Fewer qs ps → From u rows p qs) → Sound u rows memo'
sound_noted ps flags s w e = record {
  fails = λ q qs l k.
      ⊎_elim (s.fails q qs l) (λ b. rw b.0 (e qs (words_within qs ps l flags b.1 b.2))) (w.old_or_this q (word_at qs 0) (word_at qs 64) k);
}

-- the three stores of a state
abbrev pub stored : List ℕ → ℕ → ℕ → ℕ → ℕ → List ℕ
stored memo p low high s = set (set (set memo s (p + 1)) (5120 + s) low) (10240 + s) high

module _ (memo : List ℕ) (size : length memo ≡ 15360) (p low high s : ℕ) (inside : s < 5120) where
  abbrev one : List ℕ
  one = set memo s (p + 1)

  abbrev two : List ℕ
  two = set one (5120 + s) low

  abbrev three : List ℕ
  three = set two (10240 + s) high

  stored_row : (t : ℕ) → t < 5120 → get_or three t 0 ≡ get_or one t 0
  stored_row t h = get_or-set_other two (10240 + s) t high 0 (λ e. omega arith) ∙ get_or-set_other one (5120 + s) t low 0 (λ e. omega arith)

  stored_low : (t : ℕ) → t < 5120 → get_or three (5120 + t) 0 ≡ get_or two (5120 + t) 0
  stored_low t h = get_or-set_other two (10240 + s) (5120 + t) high 0 (λ e. omega arith)

  pub noted : Noted memo (stored memo p low high s) p low high
  noted = record { old_or_this = λ q l h k. go q l h k (eqb k.slot s) refl }
    where
      go : (q l h : ℕ) → (k : Knows three q l h) → (b : Bool) → eqb k.slot s ≡ b → Knows memo q l h ⊎ ((q ≡ p) × (bit_and l low ≡ l) × (bit_and h high ≡ h))
      go q l h k true e =
          let t : k.slot ≡ s = eqb-true k.slot s e in
          let a : get_or three s 0 ≡ p + 1 = stored_row s inside ∙ get_or-set_same memo s (p + 1) 0 (omega arith) in
          let b : get_or three (5120 + s) 0 ≡ low = stored_low s inside ∙ get_or-set_same one (5120 + s) low 0 (omega (arith, length-set memo s (p + 1))) in
          let c : get_or three (10240 + s) 0 ≡ high =
          get_or-set_same two (10240 + s) high 0 (omega (arith, length-set one (5120 + s) low, length-set memo s (p + 1))) in
          let row : get_or three s 0 ≡ q + 1 = rw t at k.covers.row in
          inr (omega arith, rw (t, b) at k.covers.low_in, rw (t, c) at k.covers.high_in)
      go q l h k false e =
          let t : k.slot ≡ s → ⊥ = eqb-false k.slot s e in
          let i : k.slot < 5120 = k.inside in
          let a : get_or three k.slot 0 ≡ get_or memo k.slot 0 = stored_row k.slot i ∙ get_or-set_other memo s k.slot (p + 1) 0 t in
          let b : get_or three (5120 + k.slot) 0 ≡ get_or memo (5120 + k.slot) 0 =
          stored_low k.slot i ∙ get_or-set_other one (5120 + s) (5120 + k.slot) low 0 (λ w. t (omega arith)) ∙ get_or-set_other memo s (5120 + k.slot) (p + 1) 0 (λ w. omega arith) in
          let c : get_or three (10240 + k.slot) 0 ≡ get_or memo (10240 + k.slot) 0 =
          get_or-set_other two (10240 + s) (10240 + k.slot) high 0 (λ w. t (omega arith)) ∙ get_or-set_other one (5120 + s) (10240 + k.slot) low 0 (λ w. omega arith)
          ∙ get_or-set_other memo s (10240 + k.slot) (p + 1) 0 (λ w. omega arith) in
          inl (record {
            slot = k.slot;
            inside = i;
            covers = record { row = sym a ∙ k.covers.row; low_in = rw b at k.covers.low_in; high_in = rw c at k.covers.high_in };
          })

-- noted at two places
pub noted_twice : {memo memo' memo'' : List ℕ} {p low high : ℕ} → Noted memo memo' p low high → Noted memo' memo'' p low high → Noted memo memo'' p low high
noted_twice a b = record {
  old_or_this = λ q l h k. ⊎_elim (a.old_or_this q l h) (λ w. inr w) (b.old_or_this q l h k);
}

pub noted_both : {memo memo' memo'' : List ℕ} {p low high s t : ℕ} → length memo ≡ 15360 → s < 5120 → t < 5120 → memo' ≡ stored memo p low high s
    → length memo' ≡ 15360 → memo'' ≡ stored memo' p low high t → Noted memo memo'' p low high
noted_both {memo} {memo'} {memo''} {p} {low} {high} {s} {t} size inside within e size' g =
    let a : Noted memo memo' p low high = rw e (noted memo size p low high s inside) in
    let b : Noted memo' memo'' p low high = rw g (noted memo' size' p low high t within) in
    noted_twice a b

-- the list in two arrays: the places' rows, and the words
pub memo_size : (marks words : List ℕ) → length marks ≡ 5120 → length words ≡ 10240 → length (marks ++ words) ≡ 15360
memo_size marks words m w = length-append marks words ∙ omega arith

module _ (marks words : List ℕ) (size : length marks ≡ 5120) where
  pub mark_at : (s : ℕ) → s < 5120 → get_or (marks ++ words) s 0 ≡ get_or marks s 0
  mark_at s h = get_or-append marks words 0 s (omega arith)

  pub word_in : (s : ℕ) → get_or (marks ++ words) (5120 + s) 0 ≡ get_or words s 0
  word_in s = let e : 5120 + s ≡ length marks + s = omega arith in rw e (get_or-append-add marks words s 0)

  set_behind : (xs ys : List ℕ) (i v : ℕ) → set (xs ++ ys) (length xs + i) v ≡ xs ++ set ys i v
  set_behind [] ys i v = let e : 0 + i ≡ i = omega arith in rw e
  set_behind (x ∷ xs) ys i v = let e : length (x ∷ xs) + i ≡ suc (length xs + i) = omega arith in rw e (ap (λ (l : List ℕ). x ∷ l) (set_behind xs ys i v))

  -- the stores in the arrays are those in the list
  pub stored_in : (p low high s : ℕ) → s < 5120 → set marks s (p + 1) ++ set (set words s low) (5120 + s) high ≡ stored (marks ++ words) p low high s
  stored_in p low high s h =
      let m : List ℕ = set marks s (p + 1) in
      let n : length m ≡ 5120 = length-set marks s (p + 1) ∙ size in
      let a : set (marks ++ words) s (p + 1) ≡ m ++ words = set-append_left marks words s (p + 1) (omega arith) in
      let e : 5120 + s ≡ length m + s = omega arith in
      let f : 10240 + s ≡ length m + (5120 + s) = omega arith in
      let b : set (m ++ words) (5120 + s) low ≡ m ++ set words s low = ap (λ (j : ℕ). set (m ++ words) j low) e ∙ set_behind m words s low in
      let c : set (m ++ set words s low) (10240 + s) high ≡ m ++ set (set words s low) (5120 + s) high =
      ap (λ (j : ℕ). set (m ++ set words s low) j high) f ∙ set_behind m (set words s low) (5120 + s) high in
      sym (ap (λ (l : List ℕ). set (set l (5120 + s) low) (10240 + s) high) a ∙ ap (λ (l : List ℕ). set l (10240 + s) high) b ∙ c)
