-- Which answer joining gets, exactly: the theorem. Each condition gives its number, and one of the conditions holds. So the number tells which one.
use Rattle.std.specs.Prelude.{ℕ, ◌≤◌, ◌<◌, ◌≡◌, refl, Bool, true, false, cond, ◌⊎◌, ◌≢◌, List, ◌++◌, length, drop, eqb}
use Rattle.std.proofs.Common.{sym, ap, ap₂, subst₂, ◌∙◌, inl, inr, ⊎_elim, arith}
use borrow.Author.Tests.{lt-ltb, le-ltb, eqb-true, eqb-false}
use Rattle.cursor.specs.ChoiceLaws.{lt_or_ge}
use Rattle.request.specs.Request.{Reading, readable, unreadable, reading}
use Rattle.request.specs.Encode.{request_bytes}
use Rattle.request.specs.EncodeLaws.{read_encode}
use Rattle.request.specs.Readable.{UnreadNumber}
use Rattle.request.specs.ReadableLaws.{readable_kept, silent_few, unreadable_number}
use Rattle.request.specs.declared.Task.{Task}
use Rattle.request.specs.declared.Pair.{Pair}
use Rattle.cursor.specs.Written.{too_short, written, buffer}
use Rattle.request.specs.Written.{request_answer, request_buffer}
use Rattle.request.specs.WriteLaws.{bytes_short}
use Rattle.request.specs.FileLaws.{no_silence, refusal_answered, request_answered_lem}
use Rattle.cursor.specs.Written.{Written}
use Rattle.join.specs.Joined.{joined_tasks, joined_pairs, joined}
use Rattle.join.specs.JoinLaws.{many_tasks, many_pairs, other_silence, all_fit}
use Rattle.join.specs.Exactly.{Board, ReadsAs, both_tasks, both_pairs, JoinFile, OfBoards, JoinInto, JoinExact}
use Rattle.join.specs.Places.{tasks_are, pairs_are, same_tasks, same_pairs}
use Rattle.join.specs.Valid.{joined_kept}

-- Bytes are read as one board only, and two boards have one file only

same_board : (bytes : List ℕ) (x y : Board) → ReadsAs bytes x → ReadsAs bytes y → x ≡ y
same_board bytes x y p q =
    let e : readable x.tasks x.pairs x.g ≡ readable y.tasks y.pairs y.g = sym p ∙ q in
    let ts : x.tasks ≡ y.tasks = cc in
    let ps : x.pairs ≡ y.pairs = cc in
    let gs : x.g ≡ y.g = cc in
    λ i. record { tasks = ts i; pairs = ps i; g = gs i }

same_file : (x y : Board) (file file' : List ℕ) → JoinFile x y file → JoinFile x y file' → file ≡ file'
same_file x y file file' c d =
    let ts = same_tasks x.tasks y.tasks c.tasks d.tasks c.tasks_are d.tasks_are in
    let ps = same_pairs (length x.tasks) x.pairs y.pairs c.pairs d.pairs c.pairs_are d.pairs_are in
    c.bytes ∙ ap₂ (λ (l : List Task) (k : List Pair). request_bytes l k x.g) ts ps ∙ sym d.bytes

-- a refusal answers no length and leaves the buffer
refused_clean : (r : Reading) (out : List ℕ) → ((request_answer r out).refusal ≡ 0 → ⊥) → ((request_answer r out).length ≡ 0) × (request_buffer r out ≡ out)
unfolding request_answer request_buffer written buffer
refused_clean (unreadable number) out ne = (refl, refl)
refused_clean (readable tasks pairs g) out ne = go (too_short (request_bytes tasks pairs g) out) ne
  where
    bytes : List ℕ
    bytes = request_bytes tasks pairs g

    go : (short : Bool) → ((cond {A = Written} short (record { refusal = 11; length = 0 }) (record { refusal = 0; length = length bytes })).refusal ≡ 0 → ⊥)
        → ((cond {A = Written} short (record { refusal = 11; length = 0 }) (record { refusal = 0; length = length bytes })).length ≡ 0)
        × (cond short out (bytes ++ drop (length bytes) out) ≡ out)
    go true ne = (refl, refl)
    go false ne = absurd (ne refl)

module _ (first second : List ℕ) where
  -- The joined file

  module _ (x y : Board) (p : ReadsAs first x) (q : ReadsAs second y) (few_tasks : both_tasks x y ≤ 16) (few_pairs : both_pairs x y ≤ 16) where
    abbrev ts : List Task
    ts = joined_tasks x.tasks y.tasks

    abbrev ps : List Pair
    ps = joined_pairs (length x.tasks) x.pairs y.pairs

    abbrev the_file : List ℕ
    the_file = request_bytes ts ps x.g

    the_file_lem : JoinFile x y the_file
    the_file_lem =
        let one = readable_kept first x.tasks x.pairs x.g p in
        let two = readable_kept second y.tasks y.pairs y.g q in
        record {
          tasks = ts;
          pairs = ps;
          tasks_are = tasks_are x.tasks y.tasks;
          pairs_are = pairs_are (length x.tasks) x.pairs y.pairs;
          bytes = refl;
          silence = no_silence ts ps x.g;
          reads = read_encode ts ps x.g (joined_kept x.tasks y.tasks x.pairs y.pairs one two few_tasks few_pairs)
              (silent_few first x.tasks x.pairs x.g p);
        }

    -- it has at most 164 bytes
    file_short : length the_file ≤ 164
    file_short =
        let t = tasks_are x.tasks y.tasks in
        let l = pairs_are (length x.tasks) x.pairs y.pairs in
        bytes_short ts ps x.g (omega (arith, t.as_many)) (omega (arith, l.as_many))

  -- One of these holds

  data Which : Type 0 where
    first_case : (number : ℕ) → reading first ≡ unreadable number → Which
    second_case : (x : Board) → ReadsAs first x → (number : ℕ) → reading second ≡ unreadable number → Which
    tasks_case : OfBoards first second (λ x y. 16 < both_tasks x y) → Which
    pairs_case : OfBoards first second (λ x y. (both_tasks x y ≤ 16) × (16 < both_pairs x y)) → Which
    silence_case : OfBoards first second (λ x y. (both_tasks x y ≤ 16) × (both_pairs x y ≤ 16) × (x.g ≢ y.g)) → Which
    file_case : JoinInto first second (λ file. Unit {0}) → Which

  which : Which
  which = go (reading first) refl (reading second) refl
    where
      silence : (x y : Board) → ReadsAs first x → ReadsAs second y → both_tasks x y ≤ 16 → both_pairs x y ≤ 16 → (b : Bool) → eqb x.g y.g ≡ b → Which
      silence x y p q t l true e = file_case (x, y, p, q, (t, l, eqb-true x.g y.g e, (the_file x y p q t l, the_file_lem x y p q t l, tt)))
      silence x y p q t l false e = silence_case (x, y, p, q, (t, l, eqb-false x.g y.g e))

      linked : (x y : Board) → ReadsAs first x → ReadsAs second y → both_tasks x y ≤ 16 → Which
      linked x y p q t =
          ⊎_elim (λ (h : 16 < both_pairs x y). pairs_case (x, y, p, q, (t, h))) (λ (l : both_pairs x y ≤ 16). silence x y p q t l (eqb x.g y.g) refl)
          (lt_or_ge 16 (both_pairs x y))

      both : (x y : Board) → ReadsAs first x → ReadsAs second y → Which
      both x y p q = ⊎_elim (λ (h : 16 < both_tasks x y). tasks_case (x, y, p, q, h)) (linked x y p q) (lt_or_ge 16 (both_tasks x y))

      go : (a : Reading) → reading first ≡ a → (b : Reading) → reading second ≡ b → Which
      go (unreadable number) p b q = first_case number p
      go (readable ts₁ ps₁ g₁) p (unreadable number) q = second_case (record { tasks = ts₁; pairs = ps₁; g = g₁ }) p number q
      go (readable ts₁ ps₁ g₁) p (readable ts₂ ps₂ g₂) q = both (record { tasks = ts₁; pairs = ps₁; g = g₁ }) (record { tasks = ts₂; pairs = ps₂; g = g₂ }) p q

  module _ (out : List ℕ) where
    -- what the call answers, and the buffer after it
    abbrev answer : Written
    answer = request_answer (joined (reading first) (reading second)) out

    abbrev after : List ℕ
    after = request_buffer (joined (reading first) (reading second)) out

    numbered : (number : ℕ) → joined (reading first) (reading second) ≡ unreadable number → answer.refusal ≡ number
    numbered number e = ap (λ (r : Reading). (request_answer r out).refusal) e ∙ ap (λ (w : Written). w.refusal) (refusal_answered number out).0

    -- Each condition gives its number

    first_number : (number : ℕ) → reading first ≡ unreadable number → answer.refusal ≡ number
    unfolding joined
    first_number number e = numbered number (rw e)

    second_number : (x : Board) → ReadsAs first x → (number : ℕ) → reading second ≡ unreadable number → answer.refusal ≡ number
    unfolding joined
    second_number x p number e = numbered number (rw (p, e))

    tasks_number : OfBoards first second (λ x y. 16 < both_tasks x y) → answer.refusal ≡ 18
    unfolding joined
    tasks_number (x, y, p, q, h) = numbered 18 (rw (p, q, ← many_tasks (both_tasks x y) (both_pairs x y) x.g y.g h))

    pairs_number : OfBoards first second (λ x y. (both_tasks x y ≤ 16) × (16 < both_pairs x y)) → answer.refusal ≡ 19
    unfolding joined
    pairs_number (x, y, p, q, (t, h)) = numbered 19 (rw (p, q, ← many_pairs (both_tasks x y) (both_pairs x y) x.g y.g t h))

    silence_number : OfBoards first second (λ x y. (both_tasks x y ≤ 16) × (both_pairs x y ≤ 16) × (x.g ≢ y.g)) → answer.refusal ≡ 20
    unfolding joined
    silence_number (x, y, p, q, (t, l, ne)) = numbered 20 (rw (p, q, ← other_silence (both_tasks x y) (both_pairs x y) x.g y.g t l ne))

    module _ (x y : Board) (p : ReadsAs first x) (q : ReadsAs second y) (few_tasks : both_tasks x y ≤ 16) (few_pairs : both_pairs x y ≤ 16) (common : x.g ≡ y.g)
        (file : List ℕ) (c : JoinFile x y file) where
      joined_is : joined (reading first) (reading second) ≡ readable (ts x y p q few_tasks few_pairs) (ps x y p q few_tasks few_pairs) x.g
      unfolding joined
      joined_is = rw (p, q, ← all_fit (both_tasks x y) (both_pairs x y) x.g y.g few_tasks few_pairs common)

      whole : file ≡ the_file x y p q few_tasks few_pairs
      whole = same_file x y file (the_file x y p q few_tasks few_pairs) c (the_file_lem x y p q few_tasks few_pairs)

      writes : (answer ≡ written file out) × (after ≡ buffer file out)
      writes =
          let w = request_answered_lem (ts x y p q few_tasks few_pairs) (ps x y p q few_tasks few_pairs) x.g out in
          rw (joined_is, w.0, w.1, whole) (refl, refl)

      short_number : length out < length file → answer.refusal ≡ 11
      unfolding written
      short_number h = rw (writes.0, lt-ltb (length out) (length file) h)

      wrote : length file ≤ length out → (answer.refusal ≡ 0) × (answer.length ≡ length file) × (after ≡ file ++ drop (length file) out)
      unfolding written buffer
      wrote h = (rw (writes.0, le-ltb _ _ h), rw (writes.0, le-ltb _ _ h), rw (writes.1, le-ltb _ _ h))

      few_bytes : length file ≤ 164
      few_bytes = rw whole (file_short x y p q few_tasks few_pairs)

    -- The number tells the condition

    abbrev Tells : ℕ → Type 0
    Tells n = (n ≡ 18 → OfBoards first second (λ x y. 16 < both_tasks x y))
        × (n ≡ 19 → OfBoards first second (λ x y. (both_tasks x y ≤ 16) × (16 < both_pairs x y)))
        × (n ≡ 20 → OfBoards first second (λ x y. (both_tasks x y ≤ 16) × (both_pairs x y ≤ 16) × (x.g ≢ y.g)))
        × (n ≡ 11 → JoinInto first second (λ file. length out < length file))
        × (n ≡ 0 → JoinInto first second (λ file. length file ≤ length out))

    -- a request's own number tells none of them
    own_tells : (number : ℕ) → UnreadNumber number → Tells number
    own_tells number (inl (some, few)) = (λ e. absurd (omega arith), λ e. absurd (omega arith), λ e. absurd (omega arith), λ e. absurd (omega arith), λ e. absurd (omega arith))
    own_tells number (inr n) = (λ e. absurd (omega arith), λ e. absurd (omega arith), λ e. absurd (omega arith), λ e. absurd (omega arith), λ e. absurd (omega arith))

    tells : Which → Tells answer.refusal
    tells (first_case number e) = rw (first_number number e) (own_tells number (unreadable_number first number e))
    tells (second_case x p number e) = rw (second_number x p number e) (own_tells number (unreadable_number second number e))
    tells (tasks_case c) =
        rw (tasks_number c) (λ e. c, λ e. absurd (omega arith), λ e. absurd (omega arith), λ e. absurd (omega arith), λ e. absurd (omega arith))
    tells (pairs_case c) =
        rw (pairs_number c) (λ e. absurd (omega arith), λ e. c, λ e. absurd (omega arith), λ e. absurd (omega arith), λ e. absurd (omega arith))
    tells (silence_case c) =
        rw (silence_number c) (λ e. absurd (omega arith), λ e. absurd (omega arith), λ e. c, λ e. absurd (omega arith), λ e. absurd (omega arith))
    tells (file_case (x, y, p, q, (t, l, common, (file, c, u)))) = go (lt_or_ge (length out) (length file))
      where
        go : (length out < length file) ⊎ (length file ≤ length out) → Tells answer.refusal
        go (inl h) =
            rw (short_number x y p q t l common file c h)
            (λ e. absurd (omega arith), λ e. absurd (omega arith), λ e. absurd (omega arith), λ e. (x, y, p, q, (t, l, common, (file, c, h))), λ e. absurd (omega arith))
        go (inr h) =
            rw (wrote x y p q t l common file c h).0
            (λ e. absurd (omega arith), λ e. absurd (omega arith), λ e. absurd (omega arith), λ e. absurd (omega arith), λ e. (x, y, p, q, (t, l, common, (file, c, h))))

    eleven_back : JoinInto first second (λ file. length out < length file) → answer.refusal ≡ 11
    eleven_back (x, y, p, q, (t, l, common, (file, c, h))) = short_number x y p q t l common file c h

    written_back : JoinInto first second (λ file. length file ≤ length out) → answer.refusal ≡ 0
    written_back (x, y, p, q, (t, l, common, (file, c, h))) = (wrote x y p q t l common file c h).0

    file_there : JoinInto first second (λ file. length file ≤ length out)
        → JoinInto first second (λ file. (answer.length ≡ length file) × (after ≡ file ++ drop (length file) out))
    file_there (x, y, p, q, (t, l, common, (file, c, h))) =
        let w = wrote x y p q t l common file c h in
        (x, y, p, q, (t, l, common, (file, c, (w.1, w.2))))

    -- THE THEOREM: for all byte strings and buffers.
    pub join_exact : JoinExact first second out answer after
    join_exact =
        let told = tells which in
        record {
          first_number = first_number;
          second_number = second_number;
          eighteen = (told.0, tasks_number);
          nineteen = (told.1, pairs_number);
          twenty = (told.2, silence_number);
          eleven = (told.3, eleven_back);
          written = (told.4, written_back);
          is_file = λ e. file_there (told.4 e);
          untouched = refused_clean (joined (reading first) (reading second)) out;
        }

    -- no more than 164 bytes are answered
    pub join_length : answer.length ≤ 164
    join_length = ⊎_elim (λ (l : 0 < answer.refusal). omega (arith, (join_exact.untouched (λ e. omega arith)).0)) (λ (z : answer.refusal ≤ 0). go (join_exact.is_file (omega arith)))
        (lt_or_ge 0 answer.refusal)
      where
        go : JoinInto first second (λ file. (answer.length ≡ length file) × (after ≡ file ++ drop (length file) out)) → answer.length ≤ 164
        go (x, y, p, q, (t, l, common, (file, c, w))) = omega (arith, w.0, few_bytes x y p q t l common file c)

    -- A buffer of 164 bytes or more is never too short.
    pub join_enough : 164 ≤ length out → answer.refusal ≡ 11 → ⊥
    join_enough long e = go (join_exact.eleven.0 e)
      where
        go : JoinInto first second (λ file. length out < length file) → ⊥
        go (x, y, p, q, (t, l, common, (file, c, short))) = omega (arith, few_bytes x y p q t l common file c)

  -- What is said so of an answer and a buffer is true of no others

  module _ (out : List ℕ) (w w' : Written) (a a' : List ℕ) (one : JoinExact first second out w a) (two : JoinExact first second out w' a') where
    abbrev Same : Type 0
    Same = (w ≡ w') × (a ≡ a')

    both_refused : (number : ℕ) → number ≢ 0 → w.refusal ≡ number → w'.refusal ≡ number → Same
    both_refused number ne e f =
        let r : w.refusal ≡ w'.refusal = e ∙ sym f in
        let c = one.untouched (λ z. ne (sym e ∙ z)) in
        let d = two.untouched (λ z. ne (sym f ∙ z)) in
        let l : w.length ≡ w'.length = c.0 ∙ sym d.0 in
        (λ i. record { refusal = r i; length = l i }, c.1 ∙ sym d.1)

    both_files : w.refusal ≡ 0 → w'.refusal ≡ 0 → Same
    both_files e f = go (one.is_file e) (two.is_file f)
      where
        go : JoinInto first second (λ file. (w.length ≡ length file) × (a ≡ file ++ drop (length file) out))
            → JoinInto first second (λ file. (w'.length ≡ length file) × (a' ≡ file ++ drop (length file) out)) → Same
        go (x, y, p, q, (t, l, common, (file, c, s))) (x', y', p', q', (t', l', common', (file', c', s'))) =
            let moved : JoinFile x' y' file = subst₂ (λ (m n : Board). JoinFile m n file) (same_board first x x' p p') (same_board second y y' q q') c in
            let same : file ≡ file' = same_file x' y' file file' moved c' in
            let r : w.refusal ≡ w'.refusal = e ∙ sym f in
            let len : w.length ≡ w'.length = s.0 ∙ ap length same ∙ sym s'.0 in
            (λ i. record { refusal = r i; length = len i }, s.1 ∙ ap (λ (k : List ℕ). k ++ drop (length k) out) same ∙ sym s'.1)

    -- THE LAW: an answer and a buffer that meet the statement are the only ones.
    pub join_alone : Same
    join_alone = go which
      where
        own : (number : ℕ) → UnreadNumber number → number ≢ 0
        own number (inl n) z = omega (arith, n.0)
        own number (inr n) z = omega arith

        go : Which → Same
        go (first_case number e) = both_refused number (own number (unreadable_number first number e)) (one.first_number number e) (two.first_number number e)
        go (second_case x p number e) =
            both_refused number (own number (unreadable_number second number e)) (one.second_number x p number e) (two.second_number x p number e)
        go (tasks_case c) = both_refused 18 (λ z. omega arith) (one.eighteen.1 c) (two.eighteen.1 c)
        go (pairs_case c) = both_refused 19 (λ z. omega arith) (one.nineteen.1 c) (two.nineteen.1 c)
        go (silence_case c) = both_refused 20 (λ z. omega arith) (one.twenty.1 c) (two.twenty.1 c)
        go (file_case (x, y, p, q, (t, l, common, (file, c, u)))) =
            ⊎_elim
            (λ (h : length out < length file).
            let s : JoinInto first second (λ file. length out < length file) = (x, y, p, q, (t, l, common, (file, c, h))) in
            both_refused 11 (λ z. omega arith) (one.eleven.1 s) (two.eleven.1 s))
            (λ (h : length file ≤ length out).
            let s : JoinInto first second (λ file. length file ≤ length out) = (x, y, p, q, (t, l, common, (file, c, h))) in
            both_files (one.written.1 s) (two.written.1 s))
            (lt_or_ge (length out) (length file))
