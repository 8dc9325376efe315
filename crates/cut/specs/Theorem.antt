-- Which answer a cut gets, exactly: the theorem.
-- Each condition gives its number, and one of the conditions holds. So the number tells which one.
use Rattle.std.specs.Prelude.{ℕ, ◌+◌, ◌≤◌, ◌<◌, ◌≡◌, Bool, ◌&&◌, ◌⊎◌, List, ◌++◌, length, get_or, drop}
use Rattle.std.proofs.Math.Path.{refl}
use Rattle.std.proofs.Common.{ap, ◌∙◌, ⊎_elim, eq-or-lt_of_le, arith}
use Rattle.std.proofs.Math.Bool.{true, false}
use Rattle.std.proofs.Math.Logic.{inl, inr}
use Rattle.std.proofs.Math.Seq.{take-append_seam}
use Rattle.std.proofs.Math.Dec.{leb, ltb}
use borrow.Author.Tests.{lt-ltb, le-ltb, eq-eqb, ne_eqb, ltb-false, leb-false}
use Rattle.cursor.specs.ChoiceLaws.{lt_or_ge}
use Rattle.cursor.specs.ParsedLaws.{never}
use Rattle.request.specs.Request.{Reading, readable, unreadable, reading, no_task}
use Rattle.request.specs.Encode.{request_bytes}
use Rattle.request.specs.EncodeLaws.{read_encode}
use Rattle.request.specs.Readable.{UnreadNumber}
use Rattle.request.specs.ReadableLaws.{readable_kept, silent_few, unreadable_number}
use Rattle.request.specs.declared.Task.{Task}
use Rattle.request.specs.declared.Pair.{Pair}
use Rattle.cursor.specs.Written.{written, buffer}
use Rattle.request.specs.Written.{request_answer, request_buffer, file_of}
use Rattle.request.specs.WriteLaws.{bytes_short}
use Rattle.request.specs.FileLaws.{no_silence, refusal_answered, request_answered_lem}
use Rattle.cursor.specs.Written.{Written}
use Rattle.cut.specs.Cut.{cut_tasks, cut_pairs, cuttable, cut}
use Rattle.cut.specs.CutLaws.{can_means}
use Rattle.cut.specs.Exactly.{BadCut, CutFile, OfRequest, CutInto, answer, after, CutExact}
use Rattle.cut.specs.Places.{tasks_are, pairs_are}
use Rattle.cut.specs.Valid.{cut_kept}
use Rattle.cut.specs.Alone.{same_tasks, same_pairs}

-- The test of a cut

module _ (tasks : List Task) (i u : ℕ) where
  bad_says : cuttable tasks i u ≡ false → BadCut i u tasks
  unfolding cuttable
  bad_says q = go (ltb i (length tasks)) refl (leb 1 u) refl (ltb u (get_or tasks i no_task).c) refl q
    where
      go : (a : Bool) → ltb i (length tasks) ≡ a → (b : Bool) → leb 1 u ≡ b → (c : Bool) → ltb u (get_or tasks i no_task).c ≡ c → a && (b && c) ≡ false → BadCut i u tasks
      go false p b r c w z = inl (ltb-false i (length tasks) p)
      go true p false r c w z = inr (inl (let none = leb-false 1 u r in omega arith))
      go true p true r false w z = inr (inr (ltb-false u (get_or tasks i no_task).c w))
      go true p true r true w z = absurd (never (cc))

  good_says : cuttable tasks i u ≡ true → BadCut i u tasks → ⊥
  good_says q =
      let m = can_means tasks i u q in
      ⊎_elim (λ w. omega (arith, m.0)) (⊎_elim (λ w. omega (arith, m.1)) (λ w. omega (arith, m.2)))

  says_bad : BadCut i u tasks → cuttable tasks i u ≡ false
  says_bad bad = go (cuttable tasks i u) refl
    where
      go : (b : Bool) → cuttable tasks i u ≡ b → cuttable tasks i u ≡ false
      go true q = absurd (good_says q bad)
      go false q = q

  says_good : (BadCut i u tasks → ⊥) → cuttable tasks i u ≡ true
  says_good good = go (cuttable tasks i u) refl
    where
      go : (b : Bool) → cuttable tasks i u ≡ b → cuttable tasks i u ≡ true
      go true q = q
      go false q = absurd (good (bad_says q))

-- a cut that is not bad
pub not_bad : (tasks : List Task) (i u : ℕ) → (BadCut i u tasks → ⊥) → (i < length tasks) × (1 ≤ u) × (u < (get_or tasks i no_task).c)
not_bad tasks i u good = can_means tasks i u (says_good tasks i u good)

module _ (request : List ℕ) (i u : ℕ) (out : List ℕ) where
  -- what a refusal answers
  refused_with : (number : ℕ) → cut i u (reading request) ≡ unreadable number
      → ((answer request i u out).refusal ≡ number) × ((answer request i u out).length ≡ 0) × (after request i u out ≡ out)
  refused_with number e =
      let r = refusal_answered number out in
      let a = ap (λ (x : Reading). request_answer x out) e ∙ r.0 in
      (ap (λ (w : Written). w.refusal) a, ap (λ (w : Written). w.length) a, ap (λ (x : Reading). request_buffer x out) e ∙ r.1)

  own : (number : ℕ) → reading request ≡ unreadable number → cut i u (reading request) ≡ unreadable number
  unfolding cut
  own number e = rw e

  module _ (tasks : List Task) (pairs : List Pair) (g : ℕ) (is : reading request ≡ readable tasks pairs g) where
    cut_bad : BadCut i u tasks → cut i u (reading request) ≡ unreadable 24
    unfolding cut
    cut_bad bad = rw (is, says_bad tasks i u bad)

    module _ (good : BadCut i u tasks → ⊥) where
      cut_full : length tasks ≡ 16 → cut i u (reading request) ≡ unreadable 25
      unfolding cut
      cut_full full = rw (is, says_good tasks i u good, eq-eqb (length tasks) 16 full)

      cut_linked : length tasks < 16 → length pairs ≡ 16 → cut i u (reading request) ≡ unreadable 19
      unfolding cut
      cut_linked few full = rw (is, says_good tasks i u good, ne_eqb (length tasks) 16 (λ e. omega arith), lt-ltb 16 (length pairs + 1) (omega arith))

      module _ (few_tasks : length tasks < 16) (few_pairs : length pairs < 16) where
        abbrev ts : List Task
        ts = cut_tasks tasks i u

        abbrev ps : List Pair
        ps = cut_pairs i pairs

        cut_whole : cut i u (reading request) ≡ readable ts ps g
        unfolding cut
        cut_whole = rw (is, says_good tasks i u good, ne_eqb (length tasks) 16 (λ e. omega arith), le-ltb 16 (length pairs + 1) (omega arith))

        means : (i < length tasks) × (1 ≤ u) × (u < (get_or tasks i no_task).c)
        means = not_bad tasks i u good

        -- the file, and that there is no other
        the_file_lem : CutFile i u tasks pairs g (request_bytes ts ps g)
        the_file_lem =
            let t = tasks_are tasks i u means.0 means.2 in
            let p = pairs_are i pairs in
            let kept = cut_kept i u tasks pairs ts ps t p (readable_kept request tasks pairs g is) means.0 means.1 means.2 few_tasks few_pairs in
            record {
              tasks = ts;
              pairs = ps;
              tasks_are = t;
              pairs_are = p;
              bytes = refl;
              silence = no_silence ts ps g;
              reads = read_encode ts ps g kept (silent_few request tasks pairs g is);
            }

        no_other : (file : List ℕ) → CutFile i u tasks pairs g file → file ≡ request_bytes ts ps g
        no_other file c =
            let t = same_tasks i u tasks c.tasks ts c.tasks_are (tasks_are tasks i u means.0 means.2) (omega (arith, means.2)) in
            let p = same_pairs i pairs c.pairs ps c.pairs_are (pairs_are i pairs) in
            c.bytes ∙ ap (λ (l : List Task). request_bytes l c.pairs g) t ∙ ap (λ (l : List Pair). request_bytes ts l g) p

        writes : (answer request i u out ≡ written (request_bytes ts ps g) out) × (after request i u out ≡ buffer (request_bytes ts ps g) out)
        writes =
            let w = request_answered_lem ts ps g out in
            (ap (λ (x : Reading). request_answer x out) cut_whole ∙ w.0, ap (λ (x : Reading). request_buffer x out) cut_whole ∙ w.1)

        too_short : length out < length (request_bytes ts ps g)
            → ((answer request i u out).refusal ≡ 11) × ((answer request i u out).length ≡ 0) × (after request i u out ≡ out)
        unfolding written buffer
        too_short h = (rw (writes.0, lt-ltb _ _ h), rw (writes.0, lt-ltb _ _ h), rw (writes.1, lt-ltb _ _ h))

        wrote : length (request_bytes ts ps g) ≤ length out
            → ((answer request i u out).refusal ≡ 0) × ((answer request i u out).length ≡ length (request_bytes ts ps g))
            × (after request i u out ≡ request_bytes ts ps g ++ drop (length (request_bytes ts ps g)) out)
        unfolding written buffer
        wrote h = (rw (writes.0, le-ltb _ _ h), rw (writes.0, le-ltb _ _ h), rw (writes.1, le-ltb _ _ h))

        into : {Claim : List ℕ → Type 0} → Claim (request_bytes ts ps g) → CutInto request i u Claim
        into claim = (tasks, pairs, g, is, (good, few_tasks, few_pairs, (request_bytes ts ps g, the_file_lem, claim)))

  -- The conditions
  abbrev Bad : Type 0
  Bad = OfRequest request i u (λ tasks pairs g. BadCut i u tasks)

  abbrev Full : Type 0
  Full = OfRequest request i u (λ tasks pairs g. (BadCut i u tasks → ⊥) × (length tasks ≡ 16))

  abbrev Linked : Type 0
  Linked = OfRequest request i u (λ tasks pairs g. (BadCut i u tasks → ⊥) × (length tasks < 16) × (length pairs ≡ 16))

  abbrev Short : Type 0
  Short = CutInto request i u (λ file. length out < length file)

  abbrev Fits : Type 0
  Fits = CutInto request i u (λ file. length file ≤ length out)

  bad_number : Bad → (answer request i u out).refusal ≡ 24
  bad_number (tasks, pairs, g, is, bad) = (refused_with 24 (cut_bad tasks pairs g is bad)).0

  full_number : Full → (answer request i u out).refusal ≡ 25
  full_number (tasks, pairs, g, is, (good, full)) = (refused_with 25 (cut_full tasks pairs g is good full)).0

  linked_number : Linked → (answer request i u out).refusal ≡ 19
  linked_number (tasks, pairs, g, is, (good, few, full)) = (refused_with 19 (cut_linked tasks pairs g is good few full)).0

  short_number : Short → (answer request i u out).refusal ≡ 11
  short_number (tasks, pairs, g, is, (good, few_tasks, few_pairs, (file, c, h))) =
      (too_short tasks pairs g is good few_tasks few_pairs (omega (arith, ap length (no_other tasks pairs g is good few_tasks few_pairs file c)))).0

  fits_number : Fits → (answer request i u out).refusal ≡ 0
  fits_number (tasks, pairs, g, is, (good, few_tasks, few_pairs, (file, c, h))) =
      (wrote tasks pairs g is good few_tasks few_pairs (omega (arith, ap length (no_other tasks pairs g is good few_tasks few_pairs file c)))).0

  -- what is left in the buffer and answered as the length, with its refusal
  abbrev Untouched : Type 0
  Untouched = ((answer request i u out).length ≡ 0) × (after request i u out ≡ out)

  abbrev WrittenOut : Type 0
  WrittenOut = CutInto request i u (λ file. ((answer request i u out).length ≡ length file) × (after request i u out ≡ file ++ drop (length file) out))

  -- one of the conditions holds
  data Case : Type 0 where
    own_case : (number : ℕ) → UnreadNumber number → (answer request i u out).refusal ≡ number → Untouched → Case
    bad_case : Bad → Untouched → Case
    full_case : Full → Untouched → Case
    linked_case : Linked → Untouched → Case
    short_case : Short → Untouched → Case
    fits_case : Fits → WrittenOut → Case

  the_case : Case
  the_case = go (reading request) refl
    where
      sized : (tasks : List Task) (pairs : List Pair) (g : ℕ) → reading request ≡ readable tasks pairs g → (BadCut i u tasks → ⊥) → length tasks < 16 → length pairs < 16 → Case
      sized tasks pairs g is good few_tasks few_pairs =
          let bytes = request_bytes (cut_tasks tasks i u) (cut_pairs i pairs) g in
          ⊎_elim
          (λ (h : length out < length bytes).
          short_case (into tasks pairs g is good few_tasks few_pairs {Claim = λ file. length out < length file} h)
          (let w = too_short tasks pairs g is good few_tasks few_pairs h in (w.1, w.2)))
          (λ (h : length bytes ≤ length out).
          fits_case (into tasks pairs g is good few_tasks few_pairs {Claim = λ file. length file ≤ length out} h)
          (let w = wrote tasks pairs g is good few_tasks few_pairs h in
          into tasks pairs g is good few_tasks few_pairs
          {Claim = λ file. ((answer request i u out).length ≡ length file) × (after request i u out ≡ file ++ drop (length file) out)} (w.1, w.2)))
          (lt_or_ge (length out) (length bytes))

      linked : (tasks : List Task) (pairs : List Pair) (g : ℕ) → reading request ≡ readable tasks pairs g → (BadCut i u tasks → ⊥) → length tasks < 16 → Case
      linked tasks pairs g is good few_tasks =
          ⊎_elim
          (λ (full : length pairs ≡ 16).
          linked_case (tasks, pairs, g, is, (good, few_tasks, full)) (let r = refused_with 19 (cut_linked tasks pairs g is good few_tasks full) in (r.1, r.2)))
          (sized tasks pairs g is good few_tasks)
          (eq-or-lt_of_le (readable_kept request tasks pairs g is).few_pairs)

      allowed : (tasks : List Task) (pairs : List Pair) (g : ℕ) → reading request ≡ readable tasks pairs g → (BadCut i u tasks → ⊥) → Case
      allowed tasks pairs g is good =
          ⊎_elim
          (λ (full : length tasks ≡ 16). full_case (tasks, pairs, g, is, (good, full)) (let r = refused_with 25 (cut_full tasks pairs g is good full) in (r.1, r.2)))
          (linked tasks pairs g is good)
          (eq-or-lt_of_le (readable_kept request tasks pairs g is).few_tasks)

      judged : (tasks : List Task) (pairs : List Pair) (g : ℕ) → reading request ≡ readable tasks pairs g → (b : Bool) → cuttable tasks i u ≡ b → Case
      judged tasks pairs g is true q = allowed tasks pairs g is (good_says tasks i u q)
      judged tasks pairs g is false q =
          let bad = bad_says tasks i u q in
          bad_case (tasks, pairs, g, is, bad) (let r = refused_with 24 (cut_bad tasks pairs g is bad) in (r.1, r.2))

      go : (r : Reading) → reading request ≡ r → Case
      go (unreadable number) e = let r = refused_with number (own number e) in own_case number (unreadable_number request number e) r.0 (r.1, r.2)
      go (readable tasks pairs g) e = judged tasks pairs g e (cuttable tasks i u) refl

  -- its own number is none of the others
  not_own : (number k : ℕ) → UnreadNumber number → (answer request i u out).refusal ≡ number → (k ≡ 0) ⊎ ((6 < k) × (k ≡ 17 → ⊥)) → (answer request i u out).refusal ≡ k → ⊥
  not_own number k (inl n) is (inl z) e = omega (arith, n.0)
  not_own number k (inl n) is (inr l) e = omega (arith, n.1, l.0)
  not_own number k (inr n) is (inl z) e = omega arith
  not_own number k (inr n) is (inr l) e = l.1 (let same : k ≡ 17 = omega arith in same)

  -- what a number tells
  record Tells : Type 0 where
    pub of_24 : (answer request i u out).refusal ≡ 24 → Bad
    pub of_25 : (answer request i u out).refusal ≡ 25 → Full
    pub of_19 : (answer request i u out).refusal ≡ 19 → Linked
    pub of_11 : (answer request i u out).refusal ≡ 11 → Short
    pub of_0 : (answer request i u out).refusal ≡ 0 → Fits × WrittenOut
    pub of_some : ((answer request i u out).refusal ≡ 0 → ⊥) → Untouched

  tells : Case → Tells
  tells (own_case number n is clean) =
      let other : (k : ℕ) → (k ≡ 0) ⊎ ((6 < k) × (k ≡ 17 → ⊥)) → (answer request i u out).refusal ≡ k → ⊥ = λ k. not_own number k n is in
      record {
        of_24 = λ e. absurd (other 24 (inr (omega arith, λ z. omega arith)) e);
        of_25 = λ e. absurd (other 25 (inr (omega arith, λ z. omega arith)) e);
        of_19 = λ e. absurd (other 19 (inr (omega arith, λ z. omega arith)) e);
        of_11 = λ e. absurd (other 11 (inr (omega arith, λ z. omega arith)) e);
        of_0 = λ e. absurd (other 0 (inl refl) e);
        of_some = λ ne. clean;
      }
  tells (bad_case bad clean) = let n = bad_number bad in record {
    of_24 = λ e. bad;
    of_25 = λ e. absurd (omega arith);
    of_19 = λ e. absurd (omega arith);
    of_11 = λ e. absurd (omega arith);
    of_0 = λ e. absurd (omega arith);
    of_some = λ ne. clean;
  }
  tells (full_case full clean) = let n = full_number full in record {
    of_24 = λ e. absurd (omega arith);
    of_25 = λ e. full;
    of_19 = λ e. absurd (omega arith);
    of_11 = λ e. absurd (omega arith);
    of_0 = λ e. absurd (omega arith);
    of_some = λ ne. clean;
  }
  tells (linked_case linked clean) = let n = linked_number linked in record {
    of_24 = λ e. absurd (omega arith);
    of_25 = λ e. absurd (omega arith);
    of_19 = λ e. linked;
    of_11 = λ e. absurd (omega arith);
    of_0 = λ e. absurd (omega arith);
    of_some = λ ne. clean;
  }
  tells (short_case short clean) = let n = short_number short in record {
    of_24 = λ e. absurd (omega arith);
    of_25 = λ e. absurd (omega arith);
    of_19 = λ e. absurd (omega arith);
    of_11 = λ e. short;
    of_0 = λ e. absurd (omega arith);
    of_some = λ ne. clean;
  }
  tells (fits_case fits file) = let n = fits_number fits in record {
    of_24 = λ e. absurd (omega arith);
    of_25 = λ e. absurd (omega arith);
    of_19 = λ e. absurd (omega arith);
    of_11 = λ e. absurd (omega arith);
    of_0 = λ e. (fits, file);
    of_some = λ ne. absurd (ne n);
  }

-- THE THEOREM: for all byte strings, task numbers, lengths and buffers.
pub cut_exact : (request : List ℕ) (i u : ℕ) (out : List ℕ) → CutExact request i u out
cut_exact request i u out =
    let t = tells request i u out (the_case request i u out) in
    record {
      own_number = λ number e. (refused_with request i u out number (own request i u out number e)).0;
      twenty_four = (t.of_24, bad_number request i u out);
      twenty_five = (t.of_25, full_number request i u out);
      nineteen = (t.of_19, linked_number request i u out);
      eleven = (t.of_11, short_number request i u out);
      written = (λ e. (t.of_0 e).0, fits_number request i u out);
      is_file = λ e. (t.of_0 e).1;
      untouched = t.of_some;
    }

-- The bytes at the front of the buffer, as many as the answer says, are the file of the cut request.
pub cut_written : (request : List ℕ) (i u : ℕ) (out : List ℕ) → (answer request i u out).refusal ≡ 0
    → CutInto request i u (λ file. file_of (cut i u (reading request)) out ≡ file)
cut_written request i u out z = go ((cut_exact request i u out).is_file z)
  where
    go : CutInto request i u (λ file. ((answer request i u out).length ≡ length file) × (after request i u out ≡ file ++ drop (length file) out))
        → CutInto request i u (λ file. file_of (cut i u (reading request)) out ≡ file)
    go (tasks, pairs, g, is, (good, few_tasks, few_pairs, (file, c, w))) =
        let front : file_of (cut i u (reading request)) out ≡ file = rw (w.0, w.1) (take-append_seam file (drop (length file) out)) in
        (tasks, pairs, g, is, (good, few_tasks, few_pairs, (file, c, front)))

-- The file of a cut request has at most 164 bytes.
file_short : {i u : ℕ} {was : List Task} {links : List Pair} {g : ℕ} {file : List ℕ} → length was < 16 → length links < 16 → CutFile i u was links g file → length file ≤ 164
file_short {g} few_tasks few_pairs c =
    let few : length (request_bytes c.tasks c.pairs g) ≤ 164
    = bytes_short c.tasks c.pairs g (omega (arith, c.tasks_are.one_more)) (omega (arith, c.pairs_are.one_more)) in
    omega (arith, ap length c.bytes)

module _ (request : List ℕ) (i u : ℕ) (out : List ℕ) where
  -- no more bytes are answered
  pub cut_length : (answer request i u out).length ≤ 164
  cut_length = go (the_case request i u out)
    where
      go : Case request i u out → (answer request i u out).length ≤ 164
      go (own_case number n is clean) = omega (arith, clean.0)
      go (bad_case bad clean) = omega (arith, clean.0)
      go (full_case full clean) = omega (arith, clean.0)
      go (linked_case linked clean) = omega (arith, clean.0)
      go (short_case short clean) = omega (arith, clean.0)
      go (fits_case fits (tasks, pairs, g, is, (good, few_tasks, few_pairs, (file, c, w)))) = omega (arith, w.0, file_short few_tasks few_pairs c)

  -- A buffer of 164 bytes or more is never too short.
  pub cut_enough : 164 ≤ length out → (answer request i u out).refusal ≡ 11 → ⊥
  cut_enough long e = go ((cut_exact request i u out).eleven.0 e)
    where
      go : CutInto request i u (λ file. length out < length file) → ⊥
      go (tasks, pairs, g, is, (good, few_tasks, few_pairs, (file, c, short))) = omega (arith, file_short few_tasks few_pairs c)
