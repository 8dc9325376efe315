-- The ways out of cutting: the request's own refusal, 24, 25, 19, and the cut request, whose tasks and pairs stand in arrays.
use Rattle.std.specs.Prelude.{ℕ, ◌+◌, ◌-◌, ◌≤◌, ◌<◌, min, suc, ◌≡◌, Bool, true, false, List, [], ◌∷◌, ◌++◌, length, get_or, set, take, drop, replicate, leb, ltb}
use Rattle.std.proofs.Common.{sym, ap, ◌∙◌, append_assoc, add-one, arith, length-append, length-drop, length-take-le, take-suc, drop-drop}
use Rattle.std.proofs.Math.Seq.{set-append_seam, append_snoc, take-append-add, drop-append_seam}
use borrow.Rule.Slice.PartMut.{put_mid}
use Rattle.std.proofs.lemmas.List.{map-append, drop-replicate}
use borrow.Author.Tests.{le-ltb, eq-eqb, ne_eqb, ltb-true, leb-true}
use Rattle.cursor.specs.ParsedLaws.{both_true}
use Rattle.cursor.specs.Padded.{padded, firsts}
use Rattle.cursor.specs.PaddedLaws.{padded_none, set_padded, take_padded, get_or_padded_any}
use Rattle.request.specs.Request.{readable, unreadable, reading, no_task, no_pair}
use Rattle.request.specs.Encode.{request_bytes}
use Rattle.request.specs.Answers.{request_answered}
use Rattle.request.specs.AnswerLaws.{not_read}
use Rattle.request.specs.declared.Task.{Task}
use Rattle.request.specs.declared.Pair.{Pair}
use Rattle.request.specs.Numbered.{Request}
use Rattle.cursor.specs.Written.{written, buffer}
use Rattle.request.specs.Written.{request_answer, request_buffer}
use Rattle.request.specs.FileLaws.{refusal_answered, request_answered_lem}
use Rattle.request.specs.Places.{ReadAs, Few, counts_few, pairs_few, places_hold}
use Rattle.cursor.specs.Written.{Written}
use Rattle.cut.specs.Cut.{piece, cut_tasks, cut_pair, cut_pairs, cuttable, cut}
use Rattle.cut.specs.Exactly.{PieceOf}
use Rattle.cut.specs.Places.{tasks_are, pairs_are}

pub piece_is : {x y : Task} {c : ℕ} → PieceOf x c y → piece c x ≡ y
piece_is o = rw (← o.c_is, ← o.same_t, ← o.same_d, ← o.same_p)

-- Two elements behind a list.
module _ {A : Type 0} (xs rest : List A) (a b : A) (i : ℕ) (long : length xs ≡ i) where
  two_taken : take (i + 2) (xs ++ (a ∷ b ∷ rest)) ≡ xs ++ (a ∷ b ∷ [])
  two_taken = rw (← long) (take-append-add xs (a ∷ b ∷ rest) 2)

  two_dropped : drop (i + 2) (xs ++ (a ∷ b ∷ rest)) ≡ rest
  two_dropped = rw (← drop-drop 2 i (xs ++ (a ∷ b ∷ rest)), ← long, drop-append_seam xs (a ∷ b ∷ rest))

  two_set : (p q : A) → set (set (xs ++ (a ∷ b ∷ rest)) i p) (i + 1) q ≡ xs ++ (p ∷ q ∷ rest)
  two_set p q =
      let first : set (xs ++ (a ∷ b ∷ rest)) i p ≡ xs ++ (p ∷ b ∷ rest) = rw (← long) (set-append_seam xs a (b ∷ rest) p) in
      let place : i + 1 ≡ length (xs ++ (p ∷ [])) = omega (arith, length-append xs (p ∷ [])) in
      rw (first, ← append_snoc xs p (b ∷ rest), place) (set-append_seam (xs ++ (p ∷ [])) b rest q ∙ append_snoc xs p (q ∷ rest))

-- The tasks in an array: those before, two places, those behind, and then the two pieces.
pub both_put : {A : Type 0} (blank : A) (xs ys put put' : List A) (p q : A) (i k : ℕ) → put ≡ xs → put' ≡ ys → length xs ≡ i → length ys ≡ k → i + 2 + k ≤ 16
    → set (set (put_mid (i + 2) k (put ++ drop i (replicate 16 blank)) put') i p) (i + 1) q ≡ padded 16 blank (xs ++ (p ∷ q ∷ ys))
unfolding padded
both_put blank xs ys put put' p q i k is is' long wide room =
    let left = replicate (14 - i) blank in
    let two : 16 - i ≡ suc (suc (14 - i)) = omega arith in
    let start : put ++ drop i (replicate 16 blank) ≡ xs ++ (blank ∷ blank ∷ left) = rw (is, drop-replicate i 16 blank, two) in
    let fewer : 14 - i - k ≡ 16 - length (xs ++ (p ∷ q ∷ ys)) = omega (arith, length-append xs (p ∷ q ∷ ys)) in
    let blanks : drop k left ≡ replicate (16 - length (xs ++ (p ∷ q ∷ ys))) blank = rw (drop-replicate k (14 - i) blank, fewer) in
    let tail = ys ++ drop k left in
    rw (
      start,
      two_taken xs left blank blank i long,
      two_dropped xs left blank blank i long,
      is',
      append_assoc xs (blank ∷ blank ∷ []) tail,
      two_set xs tail blank blank i long p q,
      blanks,
    )
    (sym (append_assoc xs (p ∷ q ∷ ys) (replicate (16 - length (xs ++ (p ∷ q ∷ ys))) blank)))

pub tasks_put : (tasks put put' : List Task) (i u k : ℕ) → put ≡ take i tasks → put' ≡ drop (i + 1) tasks → i < length tasks → length tasks < 16 → k ≡ length tasks - (i + 1)
    → let x = get_or tasks i no_task in
    set (set (put_mid (i + 2) k (put ++ drop i (replicate 16 no_task)) put') i (piece u x)) (i + 1) (piece (x.c - u) x) ≡ padded 16 no_task (cut_tasks tasks i u)
unfolding cut_tasks
tasks_put tasks put put' i u k is is' known room count =
    let before : length (take i tasks) ≡ i = length-take-le i tasks (omega arith) in
    let after : length (drop (i + 1) tasks) ≡ k = length-drop (i + 1) tasks ∙ sym count in
    both_put no_task (take i tasks) (drop (i + 1) tasks) put put' _ _ i k is is' before after (omega arith)

pub tasks_counted : (tasks : List Task) (i u : ℕ) → i < length tasks → u < (get_or tasks i no_task).c → length (cut_tasks tasks i u) ≡ length tasks + 1
tasks_counted tasks i u known short = (tasks_are tasks i u known short).one_more

-- The pairs, one more at a time

pub pairs_none : (i : ℕ) (pairs : List Pair) → set (replicate 16 no_pair) 0 (record { a = i; b = i + 1 }) ≡ padded 16 no_pair (cut_pairs i (take 0 pairs))
unfolding cut_pairs
pairs_none i pairs =
    let first : Pair = record { a = i; b = i + 1 } in
    ap (λ (l : List Pair). set l 0 first) (sym (padded_none 16 no_pair)) ∙ set_padded 16 no_pair [] first (omega arith)

pub pairs_counted : (i : ℕ) (pairs : List Pair) → length (cut_pairs i pairs) ≡ length pairs + 1
pairs_counted i pairs = (pairs_are i pairs).one_more

pairs_append : (i : ℕ) (pairs : List Pair) (q : Pair) → cut_pairs i (pairs ++ (q ∷ [])) ≡ cut_pairs i pairs ++ (cut_pair i q ∷ [])
unfolding cut_pairs
pairs_append i pairs q = rw (map-append (cut_pair i) pairs (q ∷ []))

pub pairs_more : (i : ℕ) (pairs : List Pair) (v : ℕ) → v < length pairs → v + 1 < 16
    → set (padded 16 no_pair (cut_pairs i (take v pairs))) (v + 1) (cut_pair i (get_or pairs v no_pair)) ≡ padded 16 no_pair (cut_pairs i (take (v + 1) pairs))
pairs_more i pairs v more room =
    let done = take v pairs in
    let q = get_or pairs v no_pair in
    let place : length (cut_pairs i done) ≡ v + 1 = pairs_counted i done ∙ ap (λ (m : ℕ). m + 1) (length-take-le v pairs (omega arith)) in
    ap (λ (m : ℕ). set (padded 16 no_pair (cut_pairs i done)) m (cut_pair i q)) (sym place)
    ∙ set_padded 16 no_pair (cut_pairs i done) (cut_pair i q) (omega arith)
    ∙ ap (padded 16 no_pair) (sym (pairs_append i done q))
    ∙ rw (add-one v, take-suc pairs v no_pair more)

-- What the test of a cut says

pub can_means : (tasks : List Task) (i u : ℕ) → cuttable tasks i u ≡ true → (i < length tasks) × (1 ≤ u) × (u < (get_or tasks i no_task).c)
unfolding cuttable
can_means tasks i u e =
    let one = both_true (ltb i (length tasks)) _ e in
    let two = both_true (leb 1 u) _ one.1 in
    (ltb-true i (length tasks) one.0, leb-true 1 u two.0, ltb-true u (get_or tasks i no_task).c two.1)

-- A request's tasks and pairs are the first in its arrays.
module _ (bytes : List ℕ) (x : Request) (o : ReadAs bytes x) where
  tasks_taken : take x.n x.tasks ≡ o.tasks
  tasks_taken = rw (o.n_is, o.tasks_are) (take_padded 16 no_task o.tasks)

  pairs_taken : take x.m x.pairs ≡ o.pairs
  pairs_taken = rw (o.m_is, o.pairs_are) (take_padded 16 no_pair o.pairs)

  pub few_taken : Few (take x.m x.pairs)
  few_taken =
      let all = pairs_few bytes x o in
      let same : (i : ℕ) → get_or x.pairs i no_pair ≡ get_or o.pairs i no_pair = λ i. rw o.pairs_are (get_or_padded_any 16 no_pair o.pairs i) in
      rw pairs_taken (record { first = λ i. rw same at (all.first i); second = λ i. rw same at (all.second i) })

-- there is room for one task and one pair more
pub room : (bytes : List ℕ) (x : Request) → ReadAs bytes x → (x.n ≡ 16 → ⊥) → (x.m ≡ 16 → ⊥) → (x.n < 16) × (x.m < 16)
room bytes x o n16 m16 = let few = counts_few bytes x o in (omega (arith, few.0), omega (arith, few.1))

-- The ways out

module _ (request out : List ℕ) (i u : ℕ) where
  -- what is answered, and left in the buffer, is what the cut comes to
  abbrev pub Hands : Written → List ℕ → Type 0
  Hands w out' = (w ≡ request_answer (cut i u (reading request)) out) × (out' ≡ request_buffer (cut i u (reading request)) out)

  refuses : (number : ℕ) → cut i u (reading request) ≡ unreadable number → Hands (record { refusal = number; length = 0 }) out
  refuses number e = let r = refusal_answered number out in rw e (sym r.0, sym r.1)

  module _ (x : Request) where
    pub was_refused : x ≡ request_answered (reading request) → (x.refusal ≡ 0 → ⊥) → Hands (record { refusal = x.refusal; length = 0 }) out
    unfolding cut
    was_refused e ne = refuses x.refusal (rw (not_read request x e ne))

    module _ (o : ReadAs request x) (can : Bool) (judged : can ≡ cuttable (take x.n x.tasks) i u) where
      test_is : cuttable o.tasks i u ≡ can
      test_is = ap (λ (l : List Task). cuttable l i u) (sym (tasks_taken request x o)) ∙ sym judged

      pub not_cut : can ≡ false → Hands (record { refusal = 24; length = 0 }) out
      unfolding cut
      not_cut e = refuses 24 (rw (o.is, test_is, e))

      pub tasks_full : can ≡ true → x.n ≡ 16 → Hands (record { refusal = 25; length = 0 }) out
      unfolding cut
      tasks_full e h = refuses 25 (rw (o.is, test_is, e, ← o.n_is, eq-eqb x.n 16 h))

      pub pairs_full : can ≡ true → (x.n ≡ 16 → ⊥) → x.m ≡ 16 → Hands (record { refusal = 19; length = 0 }) out
      unfolding cut
      pairs_full e h l = refuses 19 (rw (o.is, test_is, e, ← o.n_is, ne_eqb x.n 16 h, ← o.m_is, l))

      module _ (e : can ≡ true) (n16 : x.n ≡ 16 → ⊥) (m16 : x.m ≡ 16 → ⊥) where
        few : (x.n < 16) × (x.m < 16)
        few = room request x o n16 m16

        cut_is : cut i u (reading request) ≡ readable (cut_tasks o.tasks i u) (cut_pairs i o.pairs) o.g
        unfolding cut
        cut_is = rw (o.is, test_is, e, ← o.n_is, ne_eqb x.n 16 n16, ← o.m_is, le-ltb 16 (x.m + 1) (omega (arith, few.1)))

        pub was_cut : (tasks : List Task) (pairs : List Pair) → tasks ≡ padded 16 no_task (cut_tasks (take x.n x.tasks) i u)
            → pairs ≡ padded 16 no_pair (cut_pairs i (take x.m x.pairs))
            → let bytes = request_bytes (firsts (min (x.n + 1) 16) no_task tasks) (firsts (min (x.m + 1) 16) no_pair pairs) x.g in
            Hands (written bytes out) (buffer bytes out)
        was_cut tasks pairs t p =
            let known = can_means o.tasks i u (test_is ∙ e) in
            let ts = cut_tasks o.tasks i u in
            let ps = cut_pairs i o.pairs in
            let n : x.n + 1 ≡ length ts = ap (λ (k : ℕ). k + 1) o.n_is ∙ sym (tasks_counted o.tasks i u known.0 known.2) in
            let m : x.m + 1 ≡ length ps = ap (λ (k : ℕ). k + 1) o.m_is ∙ sym (pairs_counted i o.pairs) in
            let t_are : firsts (min (x.n + 1) 16) no_task tasks ≡ ts = rw (t, tasks_taken request x o) (places_hold no_task ts _ n (omega (arith, few.0))) in
            let p_are : firsts (min (x.m + 1) 16) no_pair pairs ≡ ps = rw (p, pairs_taken request x o) (places_hold no_pair ps _ m (omega (arith, few.1))) in
            let w = request_answered_lem ts ps o.g out in
            rw (cut_is, t_are, p_are, o.g_is) (sym w.0, sym w.1)
