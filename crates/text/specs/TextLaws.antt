-- Putting two texts one after the other; what a buffer holds after a text was put into it from the front; and the two laws of the
-- decimal digits: a number below 10 is one digit, and any other has the digits of its tenth and then its last one.
use Rattle.std.specs.Prelude.{ℕ, zero, suc, ◌+◌, ◌/◌, ◌%◌, ◌≤◌, ◌<◌, ◌^◌, min, ◌≡◌, refl, List, [], ◌∷◌, ◌++◌, Bool, true, false, ltb, length, drop, get_or}
use Rattle.std.proofs.Common.{sym, ap, ◌∙◌, arith, le_refl, zero-add, pow-suc, add-one, lt-ltb, le-ltb, ltb-true, ltb-false, length-append, length-take, length-drop, drop_of_length-le, drop-cons, take_all, length-take-le}
use Rattle.std.proofs.Math.Seq.{drop-nil, take-nil, set-append_seam, append_snoc}
use Rattle.text.specs.Text.{Filled, filled_to, put_of, put_all_of, laid, PutIn, decimal_steps, decimal_of}

pub put_none : (x : Filled) → put_all_of x [] ≡ x
unfolding put_all_of
put_none x = refl

pub put_more : (x : Filled) (b : ℕ) (bs : List ℕ) → put_all_of x (b ∷ bs) ≡ put_all_of (put_of x b) bs
unfolding put_all_of
put_more x b bs = refl

pub put_one : (x : Filled) (b : ℕ) → put_all_of x (b ∷ []) ≡ put_of x b
unfolding put_all_of
put_one x b = refl

pub put_append : (x : Filled) (bs cs : List ℕ) → put_all_of x (bs ++ cs) ≡ put_all_of (put_all_of x bs) cs
unfolding put_all_of
put_append x [] cs = refl
put_append x (b ∷ bs) cs = put_append (put_of x b) bs cs

-- a turn of a loop over the text
pub put_turn : (x : Filled) (text : List ℕ) (i : ℕ) → i < length text → put_all_of (put_of x (get_or text i 0)) (drop (i + 1) text) ≡ put_all_of x (drop i text)
put_turn x text i h = rw (add-one i, drop-cons text i 0 h) (sym (put_more x _ _))

pub put_ended : (x : Filled) (text : List ℕ) (i : ℕ) → length text ≤ i → put_all_of x (drop i text) ≡ x
put_ended x text i h = rw (drop_of_length-le text h) (put_none x)

tenth : (k n : ℕ) → 10 ≤ n → n ≤ suc k → n / 10 ≤ k
tenth k n h i = omega arith

-- steps beyond n change nothing
steps : (k j n : ℕ) → n ≤ k → n ≤ j → decimal_steps k n ≡ decimal_steps j n
unfolding decimal_steps
steps zero zero n h i = refl
steps zero (suc j) n h i = let short : n < 10 = omega arith in simp (lt-ltb _ _ short)
steps (suc k) zero n h i = let short : n < 10 = omega arith in simp (lt-ltb _ _ short)
steps (suc k) (suc j) n h i =
    go (ltb n 10) refl (λ long. steps k j (n / 10) (tenth k n long h) (tenth j n long i))
  where
    go : (t : Bool) → ltb n 10 ≡ t → (10 ≤ n → decimal_steps k (n / 10) ≡ decimal_steps j (n / 10)) → decimal_steps (suc k) n ≡ decimal_steps (suc j) n
    go true e same = simp e
    go false e same = rw e (ap (λ l. l ++ ((48 + n % 10) ∷ [])) (same (ltb-false n 10 e)))

pub decimal_short : (n : ℕ) → n < 10 → decimal_of n ≡ (48 + n) ∷ []
unfolding decimal_of decimal_steps
decimal_short zero h = refl
decimal_short (suc n) h = simp (lt-ltb _ _ h)

pub decimal_long : (n : ℕ) → 10 ≤ n → decimal_of n ≡ decimal_of (n / 10) ++ ((48 + n % 10) ∷ [])
unfolding decimal_of decimal_steps
decimal_long zero h = absurd (omega arith)
decimal_long (suc n) h =
    rw (le-ltb _ _ h) (ap (λ l. l ++ ((48 + suc n % 10) ∷ [])) (steps n (suc n / 10) (suc n / 10) (tenth n (suc n) h (le_refl (suc n))) (le_refl (suc n / 10))))

pub put_short : (x : Filled) (n : ℕ) → n < 10 → put_of x (48 + n) ≡ put_all_of x (decimal_of n)
put_short x n h = rw (decimal_short n h) (sym (put_one x (48 + n)))

pub put_long : (x : Filled) (n : ℕ) → 10 ≤ n → put_of (put_all_of x (decimal_of (n / 10))) (48 + n % 10) ≡ put_all_of x (decimal_of n)
put_long x n h = rw (decimal_long n h, put_append x) (sym (put_one _ _))

-- a text put behind the bytes p of a buffer
put_behind : (text p rest : List ℕ) → put_all_of (filled_to (length p) (p ++ rest)) text ≡ filled_to (length p + min (length text) (length rest)) (p ++ laid text rest)
unfolding put_all_of put_of laid
put_behind [] p rest =
    let end : length p + min 0 (length rest) ≡ length p = omega arith in
    rw (end, take-nil)
put_behind (b ∷ text) p [] =
    let end : length p + min (length (b ∷ text)) 0 ≡ length p + min (length text) 0 = omega arith in
    let full : ltb (length p) (length (p ++ [])) ≡ false = le-ltb (length p) (length (p ++ [])) (omega (arith, length-append p [])) in
    rw (full, end) (put_behind text p [] ∙ rw (drop-nil (length text)))
put_behind (b ∷ text) p (r ∷ rest) =
    let room : ltb (length p) (length (p ++ r ∷ rest)) ≡ true = lt-ltb (length p) (length (p ++ r ∷ rest)) (omega (arith, length-append p (r ∷ rest))) in
    let one : length (p ++ (b ∷ [])) ≡ length p + 1 = length-append p (b ∷ []) in
    let end : length p + 1 + min (length text) (length rest) ≡ length p + min (length (b ∷ text)) (length (r ∷ rest)) = omega arith in
    rw (room, set-append_seam p r rest b, ← append_snoc p b rest, ← one) (put_behind text (p ++ (b ∷ [])) rest ∙ rw (one, end, append_snoc p b (laid text rest)))

-- a text put into a buffer from the front
pub put_laid : (out text : List ℕ) → put_all_of (filled_to 0 out) text ≡ filled_to (min (length text) (length out)) (laid text out)
put_laid out text = put_behind text [] out ∙ rw (zero-add (min (length text) (length out)))

pub laid_length : (text out : List ℕ) → length (laid text out) ≡ length out
unfolding laid
laid_length text out = simp (length-append, length-take, length-drop) (omega arith)

pub put_front : (text old new : List ℕ) (end : ℕ) → filled_to end new ≡ put_all_of (filled_to 0 old) text → PutIn text old end new
put_front text old new end e =
    let whole = e ∙ put_laid old text in
    let ends : end ≡ min (length text) (length old) = ap (λ (x : Filled). x.end) whole in
    let holds : new ≡ laid text old = ap (λ (x : Filled). x.bytes) whole in
    let long : length new ≡ length old = ap length holds ∙ laid_length text old in
    (ends, holds, sym (length-take-le end new (omega arith)))

-- where the buffer is long enough, the text stands in it whole, with the old bytes behind it
pub put_whole : (text old new : List ℕ) (end : ℕ) → length text ≤ length old → PutIn text old end new → (end ≡ length text) × (new ≡ text ++ drop (length text) old)
unfolding laid
put_whole text old new end h put = (omega (arith, put.0), put.1 ∙ rw (take_all (length old) text h))

-- a number below 10 ^ k has at most k digits
pub decimal_length : (k n : ℕ) → n < 10 ^ suc k → length (decimal_of n) ≤ suc k
decimal_length zero n h = rw (decimal_short n h) (omega arith)
decimal_length (suc k) n h = go (ltb n 10) refl (decimal_length k (n / 10))
  where
    go : (t : Bool) → ltb n 10 ≡ t → (n / 10 < 10 ^ suc k → length (decimal_of (n / 10)) ≤ suc k) → length (decimal_of n) ≤ suc (suc k)
    go true e more = rw (decimal_short n (ltb-true n 10 e)) (omega arith)
    go false e more = rw (decimal_long n (ltb-false n 10 e), length-append) (omega (arith, more (omega (arith, pow-suc 10 (suc k)))))
