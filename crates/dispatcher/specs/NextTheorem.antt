-- Which answer next-frame gets, exactly: the theorem. The bytes say a table or none, and its row is there or not. So the number tells which of the three holds.
use Rattle.std.specs.Prelude.{ℕ, ◌+◌, ◌≤◌, ◌<◌, ◌≡◌, refl, Bool, true, false, cond, ◌≢◌, List, [], ◌∷◌, map, length, get_or, replicate, eqb}
use Rattle.std.proofs.Common.{sym, ap, subst, ◌∙◌, inl, inr, ⊎_elim, eq-or-lt_of_le, arith, ext_get_or}
use Rattle.std.proofs.lemmas.Bool.{false≢true}
use Rattle.std.proofs.lemmas.List.{length-map, length-replicate}
use Rattle.cursor.specs.ChoiceLaws.{lt_or_ge}
use Rattle.cursor.specs.ParsedLaws.{never}
use Rattle.cursor.specs.Fields.{Bytes}
use Rattle.cursor.specs.Padded.{padded}
use Rattle.cursor.specs.PaddedLaws.{padded_none, padded_length, get_or_padded_any}
use Rattle.table.specs.Table.{Entry, Table, Decoded, table, malformed, decode, job_byte, row_of}
use Rattle.table.specs.TableBytes.{SaysTable}
use Rattle.table.specs.TableBytesLaws.{says_decodes, decodes_says}
use Rattle.table.specs.RisingLaws.{row_few}
use Rattle.table.specs.Answers.{task_byte, row_given}
use Rattle.table.specs.AnswerLaws.{placed_given}
use Rattle.table.specs.Answers.{Row}
use Rattle.dispatcher.specs.Dispatch.{uncarried, served, shown, no_frame, onward, around, moved, next_frame}
use Rattle.dispatcher.specs.FrameLaws.{
  uncarried_none,
  uncarried_kept,
  uncarried_passed,
  served_few,
  frame_served_lem,
  frame_behind,
  frame_malformed,
  frame_refused_still,
  moved_next,
  moved_last,
}
use Rattle.dispatcher.specs.Exactly.{Serves, Shows, MovesOn, OfTable, NextExact}
use Rattle.dispatcher.specs.declared.State.{State}
use Rattle.dispatcher.specs.Numbered.{Frame}

-- What is served of a row

all_served : (row : List Entry) → Serves false row row
unfolding Serves
all_served [] = refl
all_served (e ∷ row) = inr (λ l. false≢true l.0, (row, refl, all_served row))

left_served : (row : List Entry) → Serves true row (uncarried row)
unfolding Serves
left_served [] = uncarried_none
left_served (e ∷ row) = go e.carried refl (left_served row)
  where
    go : (b : Bool) → e.carried ≡ b → Serves true row (uncarried row) → Serves true (e ∷ row) (uncarried (e ∷ row))
    go true q rest = inl ((refl, q), rw (uncarried_passed e row q) rest)
    go false q rest = inr (λ l. false≢true (sym q ∙ l.1), (uncarried row, uncarried_kept e row q, rest))

serves : (mark : Bool) (row : List Entry) → Serves mark row (served mark row)
serves true row = left_served row
serves false row = all_served row

serves_one : (mark : Bool) (row es es' : List Entry) → Serves mark row es → Serves mark row es' → es ≡ es'
unfolding Serves
serves_one mark [] es es' one two = one ∙ sym two
serves_one mark (e ∷ row) es es' one two = go one two (λ k l. serves_one mark row k l)
  where
    go : Serves mark (e ∷ row) es → Serves mark (e ∷ row) es' → ((k l : List Entry) → Serves mark row k → Serves mark row l → k ≡ l) → es ≡ es'
    go (inl (l, one)) (inl (l', two)) same = same es es' one two
    go (inl (l, one)) (inr (kept, two)) same = absurd (kept l)
    go (inr (kept, one)) (inl (l, two)) same = absurd (kept l)
    go (inr (kept, (rest, is, one))) (inr (kept', (rest', is', two))) same = is ∙ ap (λ (k : List Entry). e ∷ k) (same rest rest' one two) ∙ sym is'

-- How entries are shown

given_is : (es : List Entry) → record { refusal = 0; count = length es; tasks = padded 16 0 (map task_byte es); jobs = padded 16 0 (map job_byte es) } ≡ row_given es
given_is es =
    placed_given es (length es) (padded 16 0 (map task_byte es)) (padded 16 0 (map job_byte es)) (record { number = refl; tasks_are = refl; jobs_are = refl })

shows : (es : List Entry) (s : State) → length es ≤ 16 → Shows es (shown es s)
shows es s few = rw (← given_is es) (record {
  number = refl;
  places = (
    padded_length 16 0 (map task_byte es) (omega (arith, length-map es task_byte)),
    padded_length 16 0 (map job_byte es) (omega (arith, length-map es job_byte)),
  );
  task_bytes = get_or_padded_any 16 0 (map task_byte es);
  job_bytes = get_or_padded_any 16 0 (map job_byte es);
})

shows_none : (number : ℕ) (s : State) → Shows [] (no_frame number s)
shows_none number s =
    let none : List ℕ = replicate 16 0 in
    let blank : (k : ℕ) → get_or none k 0 ≡ 0 = λ k. ap (λ (l : List ℕ). get_or l k 0) (sym (padded_none 16 0)) ∙ get_or_padded_any 16 0 [] k in
    record { number = refl; places = (length-replicate {A = ℕ} 16 0, length-replicate {A = ℕ} 16 0); task_bytes = blank; job_bytes = blank }

-- the places of two answers that show the same
module _ (es : List Entry) (r r' : Frame) (one : Shows es r) (two : Shows es r') where
  same_count : r.count ≡ r'.count
  same_count = one.number ∙ sym two.number

  same_tasks : r.tasks ≡ r'.tasks
  same_tasks = ext_get_or 0 r.tasks r'.tasks (one.places.0 ∙ sym two.places.0) (λ k h. one.task_bytes k ∙ sym (two.task_bytes k))

  same_jobs : r.jobs ≡ r'.jobs
  same_jobs = ext_get_or 0 r.jobs r'.jobs (one.places.1 ∙ sym two.places.1) (λ k h. one.job_bytes k ∙ sym (two.job_bytes k))

  same_frame : r.refusal ≡ r'.refusal → r.state ≡ r'.state → r ≡ r'
  same_frame number state = λ i. record { refusal = number i; count = same_count i; tasks = same_tasks i; jobs = same_jobs i; state = state i }

-- How the state moves

moved_counts : (height : ℕ) (s : State) → (moved height s).counts ≡ s.counts
unfolding moved
moved_counts height s = go (eqb (s.row + 1) height)
  where
    go : (b : Bool) → (cond b (around s) (onward s)).counts ≡ s.counts
    go true = refl
    go false = refl

moves_on : (height : ℕ) (s : State) → MovesOn height s (moved height s)
moves_on height s = record {
  onward = λ h. rw (moved_next height s h) (refl, refl);
  around = λ e. rw (moved_last height s e) (refl, refl);
  counts_stay = moved_counts height s;
}

moves_one : (height : ℕ) (s a b : State) → s.row < height → MovesOn height s a → MovesOn height s b → a ≡ b
moves_one height s a b below one two = ⊎_elim last next (eq-or-lt_of_le (let m : s.row + 1 ≤ height = omega arith in m))
  where
    whole : (a.row ≡ b.row) → (a.first ≡ b.first) → a ≡ b
    whole row mark = let counts : a.counts ≡ b.counts = one.counts_stay ∙ sym two.counts_stay in λ i. record { row = row i; first = mark i; counts = counts i }

    last : s.row + 1 ≡ height → a ≡ b
    last e = let u = one.around e in let v = two.around e in whole (u.0 ∙ sym v.0) (u.1 ∙ sym v.1)

    next : s.row + 1 < height → a ≡ b
    next l = let u = one.onward l in let v = two.onward l in whole (u.0 ∙ sym v.0) (u.1 ∙ sym v.1)

-- One of three holds

module _ (bytes : List ℕ) (are : Bytes bytes) (s : State) where
  data Which : Type 0 where
    form_case : ((t : Table) → SaysTable bytes t → ⊥) → Which
    row_case : OfTable bytes s (λ t. length t.rows ≤ s.row) → Which
    served_case : OfTable bytes s (λ t. s.row < length t.rows) → Which

  which : Which
  which = go (decode bytes) refl
    where
      go : (d : Decoded) → decode bytes ≡ d → Which
      go malformed is = form_case (λ t says. never (let e : table t ≡ malformed = sym (says_decodes bytes t says) ∙ is in cc))
      go (table t) is =
          let says = decodes_says bytes t are is in
          ⊎_elim (λ (h : s.row < length t.rows). served_case (t, says, h)) (λ (h : length t.rows ≤ s.row). row_case (t, says, h))
          (lt_or_ge s.row (length t.rows))

  -- Each gives its number

  abbrev answer : Frame
  answer = next_frame (decode bytes) s

  form_number : ((t : Table) → SaysTable bytes t → ⊥) → answer ≡ no_frame 12 s
  form_number absent = go (decode bytes) refl
    where
      go : (d : Decoded) → decode bytes ≡ d → answer ≡ no_frame 12 s
      go malformed is = frame_malformed bytes s is
      go (table t) is = absurd (absent t (decodes_says bytes t are is))

  row_number : OfTable bytes s (λ t. length t.rows ≤ s.row) → answer ≡ no_frame 15 s
  row_number (t, says, h) = frame_behind bytes s t (says_decodes bytes t says) h

  module _ (t : Table) (says : SaysTable bytes t) (h : s.row < length t.rows) where
    abbrev es : List Entry
    es = served s.first (row_of t s.row)

    frame_is : answer ≡ shown es (moved (length t.rows) s)
    frame_is = frame_served_lem bytes s t (says_decodes bytes t says) h

    few : length es ≤ 16
    few = omega (arith, served_few s.first (row_of t s.row), row_few t s.row says.form)

    entries_are : (es : List Entry) × Serves s.first (row_of t s.row) es × Shows es answer
    entries_are = (es, serves s.first (row_of t s.row), rw frame_is (shows es (moved (length t.rows) s) few))

    state_is : MovesOn (length t.rows) s answer.state
    state_is = rw frame_is (moves_on (length t.rows) s)

    zero_answered : answer.refusal ≡ 0
    zero_answered = ap (λ (r : Frame). r.refusal) frame_is ∙ ap (λ (r : Row). r.refusal) (sym (given_is es))

  served_number : OfTable bytes s (λ t. s.row < length t.rows) → answer.refusal ≡ 0
  served_number (t, says, h) = zero_answered t says h

  -- and the number tells which one holds
  abbrev Tells : ℕ → Type 0
  Tells n = (n ≡ 12 → (t : Table) → SaysTable bytes t → ⊥) × (n ≡ 15 → OfTable bytes s (λ t. length t.rows ≤ s.row))
      × (n ≡ 0 → OfTable bytes s (λ t. s.row < length t.rows))

  tells : Which → Tells answer.refusal
  tells (form_case absent) = rw (form_number absent) (λ e. absent, λ e. absurd (omega arith), λ e. absurd (omega arith))
  tells (row_case c) = rw (row_number c) (λ e. absurd (omega arith), λ e. c, λ e. absurd (omega arith))
  tells (served_case c) = rw (served_number c) (λ e. absurd (omega arith), λ e. absurd (omega arith), λ e. c)

  -- a refusal shows no entries
  none_shown : Which → (answer.refusal ≡ 0 → ⊥) → Shows [] answer
  none_shown (form_case absent) ne = rw (form_number absent) (shows_none 12 s)
  none_shown (row_case c) ne = rw (row_number c) (shows_none 15 s)
  none_shown (served_case c) ne = absurd (ne (served_number c))

  -- THE THEOREM: for all byte strings and states.
  pub next_exact : NextExact bytes s answer
  next_exact =
      let told = tells which in
      record {
        twelve = (told.0, λ absent. ap (λ (r : Frame). r.refusal) (form_number absent));
        fifteen = (told.1, λ c. ap (λ (r : Frame). r.refusal) (row_number c));
        served = (told.2, served_number);
        entries = entries_are;
        state_after = state_is;
        refused_still = λ ne. (none_shown which ne, frame_refused_still (decode bytes) s ne);
      }

  -- THE LAW: an answer that meets the statement is the only one.
  module _ (r r' : Frame) (one : NextExact bytes s r) (two : NextExact bytes s r') where
    both_refused : (number : ℕ) → number ≢ 0 → r.refusal ≡ number → r'.refusal ≡ number → r ≡ r'
    both_refused number ne e f =
        let a = one.refused_still (λ z. ne (sym e ∙ z)) in
        let b = two.refused_still (λ z. ne (sym f ∙ z)) in
        same_frame [] r r' a.0 b.0 (e ∙ sym f) (a.1 ∙ sym b.1)

    both_served : (t : Table) → SaysTable bytes t → s.row < length t.rows → r ≡ r'
    both_served t says h = go (one.entries t says h) (two.entries t says h)
      where
        go : (es : List Entry) × Serves s.first (row_of t s.row) es × Shows es r → (es : List Entry) × Serves s.first (row_of t s.row) es × Shows es r' → r ≡ r'
        go (es, served, shown) (es', served', shown') =
            let same : es' ≡ es = serves_one s.first (row_of t s.row) es' es served' served in
            let again : Shows es r' = subst (λ (l : List Entry). Shows l r') same shown' in
            same_frame es r r' shown again (one.served.1 (t, says, h) ∙ sym (two.served.1 (t, says, h)))
            (moves_one (length t.rows) s r.state r'.state h (one.state_after t says h) (two.state_after t says h))

    pub next_alone : r ≡ r'
    next_alone = go which
      where
        go : Which → r ≡ r'
        go (form_case absent) = both_refused 12 (λ z. omega arith) (one.twelve.1 absent) (two.twelve.1 absent)
        go (row_case c) = both_refused 15 (λ z. omega arith) (one.fifteen.1 c) (two.fifteen.1 c)
        go (served_case (t, says, h)) = both_served t says h
