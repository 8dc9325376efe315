-- What the reader's definition comes to, place by place: each step of it stops with the number of its place, or all places up to there are kept.
-- Its recursion over records is followed once, for the tasks and for the pairs.
use Prim.Native.Nat.{ℕ, zero, suc, ◌+◌, ◌-◌, ◌*◌, ◌/◌, ◌≤◌, ◌<◌}
use Rattle.std.specs.Prelude.{◌≡◌, refl, Bool, true, false, cond, List, [], ◌∷◌, ◌++◌, ◌⊎◌, length, get_or, drop, ltb}
use Rattle.std.proofs.Common.{sym, ap, subst, ◌∙◌, inl, inr, ⊎_elim, eq-or-lt_of_le, length-append}
use native.Mathlib.Omega.{arith}
use Rattle.std.proofs.Math.ListN.{get_or-append}
use Rattle.std.proofs.Math.Seq.{get_or-append_seam}
use borrow.Author.Tests.{lt-ltb, le-ltb}
use Rattle.cursor.specs.Parsed.{Parsed, got, refused, then, records}
use Rattle.cursor.specs.ChoiceLaws.{lt_or_ge}
use Rattle.cursor.specs.FieldLaws.{byte_here, byte_none}
use Rattle.request.specs.Request.{section}
use Rattle.request.specs.Exactly.{Place, task_count_lem, pair_count_lem, silent_count, silent_ticks, the_end, task, pair, byte, second, third, field, Kept, Stops}

module _ (s : List ℕ) where
  -- The place whose bytes a byte is one of.
  unfoldable pub find : ℕ → Place
  find x =
      cond (ltb x 1) task_count_lem
      (cond (ltb x (second s)) (task ((x - 1) / 8))
      (cond (ltb x (second s + 1)) pair_count_lem
      (cond (ltb x (third s)) (pair ((x - (second s + 1)) / 2))
      (cond (ltb x (third s + 1)) silent_count
      (cond (ltb x (third s + 1 + byte s (third s))) silent_ticks the_end)))))

  find_within : (p : Place) → (field s p).There → (x : ℕ) → (field s p).at ≤ x → x < (field s p).at + (field s p).size → find x ≡ p
  unfolding find
  find_within task_count_lem here x low high = rw (lt-ltb x 1 high)
  find_within (task i) here x low high =
      let place : (x - 1) / 8 ≡ i = omega arith in
      rw (le-ltb x 1 (omega arith), lt-ltb x (second s) (omega arith), place)
  find_within pair_count_lem here x low high = rw (le-ltb x 1 (omega arith), le-ltb x (second s) low, lt-ltb x (second s + 1) high)
  find_within (pair j) here x low high =
      let place : (x - (second s + 1)) / 2 ≡ j = omega arith in
      rw (le-ltb x 1 (omega arith), le-ltb x (second s) (omega arith), le-ltb x (second s + 1) (omega arith), lt-ltb x (third s) (omega arith), place)
  find_within silent_count here x low high =
      rw (
        le-ltb x 1 (omega arith),
        le-ltb x (second s) (omega arith),
        le-ltb x (second s + 1) (omega arith),
        le-ltb x (third s) low,
        lt-ltb x (third s + 1) high,
      )
  find_within silent_ticks here x low high =
      rw (
        le-ltb x 1 (omega arith),
        le-ltb x (second s) (omega arith),
        le-ltb x (second s + 1) (omega arith),
        le-ltb x (third s) (omega arith),
        le-ltb x (third s + 1) low,
        lt-ltb x (third s + 1 + byte s (third s)) (omega (arith, here.1)),
      )
  find_within the_end here x low high = absurd (omega arith)

  pub find_end : (x : ℕ) → (field s the_end).at ≤ x → find x ≡ the_end
  unfolding find
  find_end x low =
      rw (
        le-ltb x 1 (omega arith),
        le-ltb x (second s) (omega arith),
        le-ltb x (second s + 1) (omega arith),
        le-ltb x (third s) (omega arith),
        le-ltb x (third s + 1) (omega arith),
        le-ltb x (third s + 1 + byte s (third s)) low,
      )

  -- a place is the one at its first byte
  pub found : (p : Place) → (field s p).There → find (field s p).at ≡ p
  found task_count_lem here = find_within task_count_lem here _ (omega arith) (omega arith)
  found (task i) here = find_within (task i) here _ (omega arith) (omega arith)
  found pair_count_lem here = find_within pair_count_lem here _ (omega arith) (omega arith)
  found (pair j) here = find_within (pair j) here _ (omega arith) (omega arith)
  found silent_count here = find_within silent_count here _ (omega arith) (omega arith)
  found silent_ticks here = find_within silent_ticks here _ (omega arith) (omega arith)
  found the_end here = find_end _ (omega arith)

  -- all places that begin before a byte are kept
  abbrev pub KeptBelow : ℕ → Type 0
  KeptBelow a = (q : Place) → (field s q).There → (field s q).at < a → Kept s q

  pub none_below : KeptBelow 0
  none_below q here low = absurd (omega arith)

  -- one place more
  pub kept_more : (p : Place) → (field s p).There → KeptBelow (field s p).at → Kept s p → KeptBelow ((field s p).at + (field s p).size)
  kept_more p here below kept q there low =
      ⊎_elim (λ l. below q there l)
      (λ h. subst (Kept s) (sym (find_within p here (field s q).at h low) ∙ found q there) kept)
      (lt_or_ge (field s q).at (field s p).at)

  -- A step of the reader stops at a place with its number, or goes on from byte a with a value, and all places before are kept.
  pub data Step {A : Type 0} (a : ℕ) (Value : A → Type 0) (r : Parsed A) : Type 0 where
    stops : (number : ℕ) → Stops s number → r ≡ refused number → Step a Value r
    goes : KeptBelow a → (x : A) → Value x → r ≡ got x (drop a s) → Step a Value r

  -- what a place gives where its bytes are cut, and where they break its rule
  module _ (p : Place) (here : (field s p).There) (below : KeptBelow (field s p).at) where
    pub cut_here : length s < (field s p).at + (field s p).size → Stops s 1
    cut_here h = record { place = p; there = here; before = below; gives = inl (h, refl) }

    pub broken_here : (field s p).at + (field s p).size ≤ length s → ((field s p).Rule → ⊥) → Stops s (field s p).number
    broken_here h bad = record { place = p; there = here; before = below; gives = inr (λ cut. omega arith, bad, refl) }

    pub kept_here : (field s p).at + (field s p).size ≤ length s → (field s p).Rule → KeptBelow ((field s p).at + (field s p).size)
    kept_here h good = kept_more p here below (record { whole = λ cut. omega arith; rule = good })

  -- k values in a list
  abbrev pub Filled : {A : Type 0} → A → (ℕ → A) → ℕ → List A → Type 0
  Filled blank value k xs = (length xs ≡ k) × ((i : ℕ) → i < k → get_or xs i blank ≡ value i)

  filled_more : {A : Type 0} (blank : A) (value : ℕ → A) (i : ℕ) (xs : List A) (x : A) → Filled blank value i xs → x ≡ value i
      → Filled blank value (suc i) (xs ++ (x ∷ []))
  filled_more blank value i xs x f is = (omega (arith, length-append xs (x ∷ []), f.0), each)
    where
      each : (j : ℕ) → j < suc i → get_or (xs ++ (x ∷ [])) j blank ≡ value j
      each j h =
          let most : j ≤ i = omega arith in
          ⊎_elim
          (λ (e : j ≡ i). ap (λ (k : ℕ). get_or (xs ++ (x ∷ [])) k blank) (e ∙ sym f.0) ∙ get_or-append_seam xs x [] blank ∙ is ∙ ap value (sym e))
          (λ (l : j < i). get_or-append xs (x ∷ []) blank j (omega (arith, f.0)) ∙ f.1 j l)
          (eq-or-lt_of_le most)

  -- Records of one width, `total` of them from byte `start` on; `value` is what each says.
  module _ {A : Type 0} (one : List ℕ → Parsed A) (blank : A) (value : ℕ → A) (start width total : ℕ)
      (step : (i : ℕ) → i < total → KeptBelow (start + width * i) → Step (start + width * suc i) (λ x. x ≡ value i) (one (drop (start + width * i) s))) where
    run : (k i : ℕ) → i + k ≡ total → (done : List A) → Filled blank value i done → KeptBelow (start + width * i)
        → Step (start + width * total) (Filled blank value total) (records one k done (drop (start + width * i) s))
    unfolding records
    run zero i e done f below =
        let all : i ≡ total = omega arith in
        goes (subst (λ j. KeptBelow (start + width * j)) all below) done (subst (λ j. Filled blank value j done) all f) (ap (λ (j : ℕ). got done (drop (start + width * j) s)) all)
    run (suc k) i e done f below =
        go (one (drop (start + width * i) s)) (step i (omega arith) below) (λ x v. run k (suc i) (omega arith) (done ++ (x ∷ [])) (filled_more blank value i done x f v))
      where
        go : (r : Parsed A) → Step (start + width * suc i) (λ x. x ≡ value i) r
            → ((x : A) → x ≡ value i → KeptBelow (start + width * suc i)
            → Step (start + width * total) (Filled blank value total) (records one k (done ++ (x ∷ [])) (drop (start + width * suc i) s)))
            → Step (start + width * total) (Filled blank value total) (then r (λ x rest. records one k (done ++ (x ∷ [])) rest))
        go r (stops number at is) more = stops number at (rw is)
        go r (goes kept x v is) more = rw is (more x v kept)

    all_records : KeptBelow start → Step (start + width * total) (Filled blank value total) (records one total [] (drop start s))
    all_records below =
        let first : start + width * 0 ≡ start = omega arith in
        rw first at (run total 0 (omega arith) [] (refl, λ i h. absurd (omega arith)) (rw first below))

  -- A section, from its count at byte `start` on.
  module _ {A : Type 0} (test : ℕ → Bool) (one : List ℕ → Parsed A) (number : ℕ) (blank : A) (value : ℕ → A) (start width : ℕ)
      (step : (i : ℕ) → i < byte s start → KeptBelow (start + 1 + width * i)
      → Step (start + 1 + width * suc i) (λ x. x ≡ value i) (one (drop (start + 1 + width * i) s))) where
    pub section_step : (length s ≤ start → Stops s 1) → (start < length s → test (byte s start) ≡ false → Stops s number)
        → (start < length s → test (byte s start) ≡ true → KeptBelow (start + 1))
        → Step (start + 1 + width * byte s start) (Filled blank value (byte s start)) (section test one number (drop start s))
    section_step cut bad good = go (lt_or_ge start (length s))
      where
        judged : start < length s → (t : Bool) → test (byte s start) ≡ t
            → Step (start + 1 + width * byte s start) (Filled blank value (byte s start)) (cond t (records one (byte s start) [] (drop (start + 1) s)) (refused number))
        judged h true e = all_records one blank value (start + 1) width (byte s start) step (good h e)
        judged h false e = stops number (bad h e) refl

        go : (start < length s) ⊎ (length s ≤ start)
            → Step (start + 1 + width * byte s start) (Filled blank value (byte s start)) (section test one number (drop start s))
        go (inl h) = rw (byte_here 1 s start h) (judged h (test (byte s start)) refl)
        go (inr h) = stops 1 (cut h) (rw (byte_none 1 s start h))
