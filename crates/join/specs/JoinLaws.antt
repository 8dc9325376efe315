-- The ways out of joining: a refusal of either request, a misfit, and the joined request, whose tasks and pairs stand in arrays.
use Rattle.std.specs.Prelude.{ℕ, zero, suc, ◌+◌, ◌≤◌, ◌<◌, min, Bool, cond, List, [], ◌∷◌, ◌++◌, map, length, get_or, set, take, drop, replicate, ◌-◌}
use Rattle.std.proofs.Math.Path.{◌≡◌, refl}
use Rattle.std.proofs.Common.{sym, ap, ◌∙◌, append_assoc, add-one, arith, length-append, length-take-le, take-suc}
use Rattle.std.proofs.lemmas.List.{drop-replicate}
use Rattle.std.proofs.Math.Seq.{take-append_seam, drop-append_seam}
use borrow.Rule.Slice.PartMut.{put_mid}
use Rattle.std.proofs.Math.Bool.{true, false}
use Rattle.std.proofs.lemmas.List.{map-append, length-map}
use Rattle.std.proofs.Math.Dec.{ltb, eqb}
use borrow.Author.Tests.{lt-ltb, le-ltb, eq-eqb, ne_eqb, ltb-false, eqb-true}
use Rattle.cursor.specs.Padded.{padded, firsts}
use Rattle.cursor.specs.PaddedLaws.{set_padded, take_padded, get_or_padded_any}
use Rattle.request.specs.Request.{Reading, readable, unreadable, reading, no_task, no_pair}
use Rattle.request.specs.Encode.{request_bytes}
use Rattle.request.specs.Answers.{request_answered}
use Rattle.request.specs.AnswerLaws.{not_read}
use Rattle.request.specs.declared.Task.{Task}
use Rattle.request.specs.declared.Pair.{Pair}
use Rattle.request.specs.Numbered.{Request}
use Rattle.cursor.specs.Written.{written, buffer}
use Rattle.request.specs.Written.{request_answer, request_buffer}
use Rattle.request.specs.FileLaws.{refusal_answered, request_answered_lem}
use Rattle.request.specs.Places.{ReadAs, Few, pairs_few, places_hold}
use Rattle.cursor.specs.Written.{Written}
use Rattle.join.specs.Joined.{raised_by, joined_tasks, joined_pairs, misfit, unless, joined}

-- An array with one element more behind those of two lists.
more_behind : {A : Type 0} (blank : A) (xs ys : List A) (at : ℕ) (x : A) → length xs + length ys ≡ at → at < 16
    → set (padded 16 blank (xs ++ ys)) at x ≡ padded 16 blank (xs ++ (ys ++ (x ∷ [])))
more_behind blank xs ys at x place room =
    let here : length (xs ++ ys) ≡ at = length-append xs ys ∙ place in
    rw (← here, ← append_assoc xs ys (x ∷ [])) (set_padded 16 blank (xs ++ ys) x (omega arith))

-- A list put to the front of an empty array, and a second one behind it.
pub front_put : {A : Type 0} (blank : A) (xs put : List A) → put ≡ xs → put ++ drop (length xs) (replicate 16 blank) ≡ padded 16 blank xs
unfolding padded
front_put blank xs put is = rw (is, drop-replicate (length xs) 16 blank)

pub both_put : {A : Type 0} (blank : A) (xs ys put put' : List A) → put ≡ xs → put' ≡ ys → (k : ℕ) → k ≡ length ys
    → put_mid (length xs) k (put ++ drop (length xs) (replicate 16 blank)) put' ≡ padded 16 blank (xs ++ ys)
unfolding padded
both_put blank xs ys put put' is is' k count =
    let left : 16 - length xs - k ≡ 16 - length (xs ++ ys) = omega (arith, length-append xs ys) in
    let blanks = replicate (16 - length xs) blank in
    rw (is, is', drop-replicate (length xs) 16 blank, take-append_seam xs blanks, drop-append_seam xs blanks, drop-replicate k (16 - length xs) blank, left)
    (sym (append_assoc xs ys (replicate (16 - length (xs ++ ys)) blank)))

pub pair_behind : (xs ys : List Pair) (m i n : ℕ) → m ≡ length xs → i < length ys → m + i < 16
    → set (padded 16 no_pair (xs ++ map (raised_by n) (take i ys))) (m + i) (raised_by n (get_or ys i no_pair))
    ≡ padded 16 no_pair (xs ++ map (raised_by n) (take (i + 1) ys))
pair_behind xs ys m i n first more room =
    let done = map (raised_by n) (take i ys) in
    let count : length done ≡ i = length-map (take i ys) (raised_by n) ∙ length-take-le i ys (omega arith) in
    rw (add-one i, take-suc ys i no_pair more, map-append (raised_by n) (take i ys) (get_or ys i no_pair ∷ []))
    (more_behind no_pair xs done (m + i) (raised_by n (get_or ys i no_pair)) (omega (arith, count)) room)

pub pairs_counted : (n : ℕ) (pairs pairs' : List Pair) → length (joined_pairs n pairs pairs') ≡ length pairs + length pairs'
pairs_counted n pairs pairs' = simp (length-append, length-map) (omega arith)

-- The numbers 18, 19 and 20.

module _ (n m g h : ℕ) where
  pub many_tasks : 16 < n → 18 ≡ misfit n m g h
  unfolding misfit
  many_tasks t = rw (lt-ltb 16 n t)

  pub many_pairs : n ≤ 16 → 16 < m → 19 ≡ misfit n m g h
  unfolding misfit
  many_pairs t p = rw (le-ltb 16 n t, lt-ltb 16 m p)

  pub other_silence : n ≤ 16 → m ≤ 16 → (g ≡ h → ⊥) → 20 ≡ misfit n m g h
  unfolding misfit
  other_silence t p e = rw (le-ltb 16 n t, le-ltb 16 m p, ne_eqb g h e)

  pub all_fit : n ≤ 16 → m ≤ 16 → g ≡ h → 0 ≡ misfit n m g h
  unfolding misfit
  all_fit t p e = rw (le-ltb 16 n t, le-ltb 16 m p, eq-eqb g h e)

  pub fit_all : 0 ≡ misfit n m g h → (n ≤ 16) × (m ≤ 16) × (g ≡ h)
  unfolding misfit
  fit_all e = go (ltb 16 n) (ltb 16 m) (eqb g h) refl refl refl e
    where
      go : (a b c : Bool) → ltb 16 n ≡ a → ltb 16 m ≡ b → eqb g h ≡ c → ◌≡◌ {A = ℕ} 0 (cond a 18 (cond b 19 (cond c 0 20))) → (n ≤ 16) × (m ≤ 16) × (g ≡ h)
      go true b c p q r z = absurd (omega arith)
      go false true c p q r z = absurd (omega arith)
      go false false true p q r z = (ltb-false 16 n p, ltb-false 16 m q, eqb-true g h r)
      go false false false p q r z = absurd (omega arith)

unless_refused : (number : ℕ) (r : Reading) → (number ≡ 0 → ⊥) → unless number r ≡ unreadable number
unless_refused zero r ne = absurd (ne refl)
unless_refused (suc number) r ne = refl

-- A request's tasks and pairs are the first in its arrays.
module _ (bytes : List ℕ) (x : Request) (o : ReadAs bytes x) where
  tasks_taken : take x.n x.tasks ≡ o.tasks
  tasks_taken = rw (o.n_is, o.tasks_are) (take_padded 16 no_task o.tasks)

  pairs_taken : take x.m x.pairs ≡ o.pairs
  pairs_taken = rw (o.m_is, o.pairs_are) (take_padded 16 no_pair o.pairs)

  pub few_taken : Few (take x.m x.pairs)
  few_taken =
      let all = pairs_few bytes x o in
      let same : (i : ℕ) → get_or x.pairs i no_pair ≡ get_or o.pairs i no_pair = λ i. rw o.pairs_are (get_or_padded_any 16 no_pair o.pairs i) in
      rw pairs_taken (record { first = λ i. rw same at (all.first i); second = λ i. rw same at (all.second i) })

module _ (first second out : List ℕ) where
  -- what is answered, and left in the buffer, is what joining comes to
  abbrev pub Hands : Written → List ℕ → Type 0
  Hands w out' = (w ≡ request_answer (joined (reading first) (reading second)) out) × (out' ≡ request_buffer (joined (reading first) (reading second)) out)

  refuses : (number : ℕ) → joined (reading first) (reading second) ≡ unreadable number → Hands (record { refusal = number; length = 0 }) out
  refuses number e = let r = refusal_answered number out in rw e (sym r.0, sym r.1)

  module _ (x : Request) where
    pub first_refused : x ≡ request_answered (reading first) → (x.refusal ≡ 0 → ⊥) → Hands (record { refusal = x.refusal; length = 0 }) out
    unfolding joined
    first_refused e ne = refuses x.refusal (rw (not_read first x e ne))

    module _ (one : ReadAs first x) (y : Request) where
      pub second_refused : y ≡ request_answered (reading second) → (y.refusal ≡ 0 → ⊥) → Hands (record { refusal = y.refusal; length = 0 }) out
      unfolding joined
      second_refused e ne = refuses y.refusal (rw (one.is, not_read second y e ne))

      module _ (two : ReadAs second y) (number : ℕ) (is : number ≡ misfit (x.n + y.n) (x.m + y.m) x.g y.g) where
        abbrev whole : Reading
        whole = readable (joined_tasks one.tasks two.tasks) (joined_pairs (length one.tasks) one.pairs two.pairs) one.g

        joined_is : joined (reading first) (reading second) ≡ unless number whole
        unfolding joined
        joined_is = rw (one.is, two.is, is, one.n_is, one.m_is, one.g_is, two.n_is, two.m_is, two.g_is)

        pub not_joined : (number ≡ 0 → ⊥) → Hands (record { refusal = number; length = 0 }) out
        not_joined ne = refuses number (joined_is ∙ unless_refused number whole ne)

        module _ (fits : number ≡ 0) where
          sums : (x.n + y.n ≤ 16) × (x.m + y.m ≤ 16)
          sums = let s = fit_all _ _ _ _ (sym fits ∙ is) in (s.0, s.1)

          pub was_joined : (tasks : List Task) (pairs : List Pair) → tasks ≡ padded 16 no_task (take x.n x.tasks ++ take y.n y.tasks)
              → pairs ≡ padded 16 no_pair (take x.m x.pairs ++ map (raised_by x.n) (take y.m y.pairs))
              → let bytes = request_bytes (firsts (min (x.n + y.n) 16) no_task tasks) (firsts (min (x.m + y.m) 16) no_pair pairs) x.g in
              Hands (written bytes out) (buffer bytes out)
          was_joined tasks pairs t p =
              let n : x.n + y.n ≡ length (one.tasks ++ two.tasks) = omega (arith, one.n_is, two.n_is, length-append one.tasks two.tasks) in
              let ps = joined_pairs (length one.tasks) one.pairs two.pairs in
              let m : x.m + y.m ≡ length ps = omega (arith, one.m_is, two.m_is, pairs_counted (length one.tasks) one.pairs two.pairs) in
              let t_are : firsts (min (x.n + y.n) 16) no_task tasks ≡ one.tasks ++ two.tasks
              = rw (t, tasks_taken first x one, tasks_taken second y two) (places_hold no_task (one.tasks ++ two.tasks) _ n sums.0) in
              let p_are : firsts (min (x.m + y.m) 16) no_pair pairs ≡ ps
              = rw (p, pairs_taken first x one, pairs_taken second y two, one.n_is) (places_hold no_pair ps _ m sums.1) in
              let done : joined (reading first) (reading second) ≡ whole = joined_is ∙ ap (λ (k : ℕ). unless k whole) fits in
              let w = request_answered_lem (joined_tasks one.tasks two.tasks) ps one.g out in
              rw (done, t_are, p_are, one.g_is) (sym w.0, sym w.1)
