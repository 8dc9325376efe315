-- The laws by which the readers of a section and of the whole request go: a section ends within the bytes, where its count says,
-- so the part of the bytes behind it is what the definition goes on with. One law for the tasks and the pairs where they differ in the record alone.
use Rattle.std.specs.Prelude.{ℕ, ◌+◌, ◌-◌, ◌*◌, ◌≤◌, ◌<◌, ◌≡◌, refl, Bool, true, false, cond, List, [], ◌∷◌, length, get_or, take, drop, leb}
use Rattle.std.proofs.Common.{sym, ◌∙◌, arith, length-drop, drop-drop, leb-true}
use Rattle.std.proofs.Math.Path.{ap}
use Rattle.cursor.specs.Parsed.{Parsed, got, refused, then, records}
use Rattle.cursor.specs.ParsedLaws.{never, then_got, rule_got, both_true}
use Rattle.cursor.specs.Fields.{byte_of}
use Rattle.cursor.specs.Widths.{Wide, byte_wide, records_wide, records_count}
use Rattle.cursor.specs.RecordLaws.{SoFar, all_records, records_each}
use Rattle.cursor.specs.PaddedLaws.{padded_length, take_padded}
use Rattle.request.specs.Request.{section, task_count, task_of, tasks_of, pair_count, pair_of, pairs_of, silent_of, reading, ended, after_pairs, after_tasks, no_task, no_pair}
use Rattle.request.specs.Answers.{SectionTold, section_answer, task_section, pair_section, SilentTold, silent_section, request_answered}
use Rattle.request.specs.declared.Task.{Task}
use Rattle.request.specs.declared.Pair.{Pair}
use Rattle.request.specs.Numbered.{Request, unread}
use Rattle.refusal.specs.Refusal.{number_of}
use Rattle.refusal.specs.RefusalLaws.{is_refused}
use Rattle.refusal.specs.declared.Refusal.{Refusal}
use Rattle.request.specs.SilentLaws.{SilentRead, silent_section_lem, silent_number_pos}
use Rattle.request.specs.ReadingLaws.{TaskNumber, PairNumber, task_wide, pair_wide}

-- a section that was read: its count was let through, and it ends within the bytes, where its count says
pub record SectionRead {A : Type 0} (test : ℕ → Bool) (width : ℕ) (bytes : List ℕ) (xs : List A) (rest : List ℕ) : Type 0 where
  pub counted : test (length xs) ≡ true
  pub within : 1 + width * length xs ≤ length bytes
  pub behind : rest ≡ drop (1 + width * length xs) bytes

-- a section, read or refused with one of its numbers
abbrev pub Section : {A : Type 0} → (ℕ → Type 0) → (ℕ → Bool) → ℕ → List ℕ → Parsed (List A) → Type 0
Section Number test width bytes (got xs rest) = SectionRead test width bytes xs rest
Section Number test width bytes (refused number) = Number number

module _ {A : Type 0} (Number : ℕ → Type 0) (test : ℕ → Bool) (one : List ℕ → Parsed A) (width number : ℕ) (bytes : List ℕ) where
  section_read : Number 1 → Number number → ((bytes : List ℕ) → Wide Number width bytes (one bytes))
      → Section Number test width bytes (section test one number bytes)
  section_read short bad wide = go (byte_of 1 bytes) (byte_wide Number 1 short bytes)
    where
      read : (n : ℕ) (tail : List ℕ) → (1 ≤ length bytes) × (tail ≡ drop 1 bytes) → test n ≡ true → (r : Parsed (List A)) → records one n [] tail ≡ r
          → Wide Number (width * n) tail r → Section Number test width bytes r
      read n tail here q (got xs rest) e h =
          let size : length xs ≡ n = omega (arith, records_count one n [] tail xs rest e) in
          let left : length tail ≡ length bytes - 1 = rw (here.1, length-drop) refl in
          record {
            counted = rw size q;
            within = rw size (omega (arith, h.0, here.0));
            behind = h.1 ∙ rw (here.1, drop-drop, size);
          }
      read n tail here q (refused m) e h = h

      judged : (n : ℕ) (tail : List ℕ) → (1 ≤ length bytes) × (tail ≡ drop 1 bytes) → (t : Bool) → test n ≡ t
          → Section Number test width bytes (cond t (records one n [] tail) (refused number))
      judged n tail here true q = read n tail here q (records one n [] tail) refl (records_wide Number one width wide n [] tail)
      judged n tail here false q = bad

      go : (r : Parsed ℕ) → Wide Number 1 bytes r → Section Number test width bytes (then r (λ n tail. cond (test n) (records one n [] tail) (refused number)))
      go (got n tail) here = judged n tail here (test n) refl
      go (refused m) here = here

pub count_some : (n : ℕ) → task_count n ≡ true → (1 ≤ n) × (n ≤ 16)
count_some n e =
    let b = both_true (leb 1 n) (leb n 16) e in
    (leb-true 1 n b.0, leb-true n 16 b.1)

pub tasks_section : (bytes : List ℕ) → Section TaskNumber task_count 8 bytes (tasks_of bytes)
unfolding tasks_of
tasks_section bytes = section_read TaskNumber task_count task_of 8 2 bytes (omega arith) (omega arith) task_wide

pub pairs_section : (tasks : List Task) (bytes : List ℕ) → Section PairNumber pair_count 2 bytes (pairs_of tasks bytes)
unfolding pairs_of
pairs_section tasks bytes = section_read PairNumber pair_count (pair_of tasks) 2 4 bytes (omega arith) (omega arith) (pair_wide tasks)

-- the steps of a section that was read: its count, which is let through, and its records
pub record SectionSteps {A : Type 0} (test : ℕ → Bool) (one : List ℕ → Parsed A) (bytes : List ℕ) (xs : List A) (rest : List ℕ) : Type 0 where
  pub tail : List ℕ
  pub count : byte_of 1 bytes ≡ got (length xs) tail
  pub allowed : test (length xs) ≡ true
  pub listed : records one (length xs) [] tail ≡ got xs rest

module _ {A : Type 0} (test : ℕ → Bool) (one : List ℕ → Parsed A) (number : ℕ) (bytes : List ℕ) (xs : List A) (rest : List ℕ) where
  pub section_steps : section test one number bytes ≡ got xs rest → SectionSteps test one bytes xs rest
  section_steps e =
      let s = then_got (byte_of 1 bytes) (λ n rest. cond (test n) (records one n [] rest) (refused number)) xs rest e in
      let rule = rule_got (test s.value) (records one s.value [] s.tail) number xs rest s.second in
      let size : length xs ≡ s.value = omega (arith, records_count one s.value [] s.tail xs rest rule.1) in
      record { tail = s.tail; count = rw size s.first; allowed = rw size rule.0; listed = rw size rule.1 }

  -- what holds of every record that is read holds of all of them
  pub section_each : (blank : A) (P : A → Type 0) → ((bytes : List ℕ) (x : A) (rest : List ℕ) → one bytes ≡ got x rest → P x)
      → section test one number bytes ≡ got xs rest → (i : ℕ) → i < length xs → P (get_or xs i blank)
  section_each blank P judged e =
      let s = section_steps e in
      records_each one blank P judged (length xs) s.tail xs rest s.listed

-- a section whose answer has no refusal number
pub record SectionOf {A : Type 0} (test : ℕ → Bool) (width : ℕ) (bytes : List ℕ) (r : Parsed (List A)) : Type 0 where
  pub items : List A
  pub rest : List ℕ
  pub is : r ≡ got items rest
  pub read : SectionRead test width bytes items rest

-- What a section is, by its answer; and its answer, from its parts.
module _ {A : Type 0} (blank : A) (width : ℕ) where
  section_refused : (r : Parsed (List A)) → ((section_answer blank width r).refusal ≡ 0 → ⊥) → r ≡ refused (section_answer blank width r).refusal
  section_refused (got xs rest) ne = absurd (ne refl)
  section_refused (refused number) ne = refl

  section_got : (Number : ℕ → Type 0) → (Number 0 → ⊥) → (test : ℕ → Bool) (bytes : List ℕ) (r : Parsed (List A)) → Section Number test width bytes r
      → (section_answer blank width r).refusal ≡ 0 → SectionOf test width bytes r
  section_got Number some test bytes (got xs rest) h e = record { items = xs; rest = rest; is = refl; read = h }
  section_got Number some test bytes (refused number) h e = absurd (some (rw e at h))

-- all its records are read
module _ {A : Type 0} (width : ℕ)
    {one : List ℕ → Parsed A} {blank : A} {whole : Parsed (List A)} {s : List ℕ} {n i at : ℕ} {places : List A} where
  pub section_answer_lem : SoFar one 16 blank whole s n i at places → n ≤ i → i ≤ n → at ≡ 1 + width * n
      → record { refusal = 0; n = n; records = places; end = at } ≡ section_answer blank width whole
  section_answer_lem so_far end most place =
      let size : length so_far.done ≡ n = omega (arith, so_far.count) in
      let bytes : at ≡ 1 + width * length so_far.done = place ∙ rw size in
      (λ q. record { refusal = 0; n = sym size q; records = so_far.stored q; end = bytes q }) ∙ ap (section_answer blank width) (sym (all_records so_far end))

-- no refusal has the number 0
pub no_zero : (e : Refusal) → number_of e ≡ 0 → ⊥
no_zero e z = let none : true ≡ false = rw z at (is_refused e) in absurd (never (cc))

-- What is known of the first section once its answer has no refusal number.
pub record FirstSection (s : List ℕ) (a : SectionTold Task) : Type 0 where
  pub tasks : List Task
  pub rest : List ℕ
  pub is : tasks_of s ≡ got tasks rest
  pub answer : a ≡ task_section (got tasks rest)
  pub few : a.n ≤ 16
  pub places : length a.records ≡ 16
  pub listed : take a.n a.records ≡ tasks
  pub within : a.end ≤ length s
  pub behind : drop a.end s ≡ rest

section_is : (s : List ℕ) (a : SectionTold Task) (tasks : List Task) (rest : List ℕ) → tasks_of s ≡ got tasks rest → SectionRead task_count 8 s tasks rest
    → a ≡ task_section (got tasks rest) → FirstSection s a
section_is s a tasks rest is read answer =
    let few = count_some (length tasks) read.counted in
    record {
      tasks = tasks;
      rest = rest;
      is = is;
      answer = answer;
      few = rw answer few.1;
      places = rw answer (padded_length 16 no_task tasks few.1);
      listed = rw answer (take_padded 16 no_task tasks);
      within = rw answer read.within;
      behind = rw answer (sym read.behind);
    }

pub first_section : (s : List ℕ) (a : SectionTold Task) → a ≡ task_section (tasks_of s) → a.refusal ≡ 0 → FirstSection s a
first_section s a e z =
    let none = ap (λ (x : SectionTold Task). x.refusal) (sym e) ∙ z in
    let h = section_got no_task 8 TaskNumber (λ k. omega arith) task_count s
    (tasks_of s) (tasks_section s) none in
    section_is s a h.items h.rest h.is h.read (e ∙ ap task_section h.is)

-- the request is refused in its first section
pub refused_first : (s : List ℕ) (a : SectionTold Task) → a ≡ task_section (tasks_of s) → (a.refusal ≡ 0 → ⊥) → unread a.refusal ≡ request_answered (reading s)
unfolding reading
refused_first s a e ne =
    let number = ap (λ (x : SectionTold Task). x.refusal) e in
    let r = section_refused no_task 8 (tasks_of s) (λ z. ne (number ∙ z)) in
    rw number (sym (ap (λ (x : Parsed (List Task)). request_answered (after_tasks x)) r))

-- What is known of the second section once its answer has no refusal number: the request is what the bytes behind it make it.
pub record SecondSection (s : List ℕ) (a : SectionTold Task) (b : SectionTold Pair) : Type 0 where
  pub first : FirstSection s a
  pub pairs : List Pair
  pub rest : List ℕ
  pub is : reading s ≡ ended first.tasks pairs (silent_of rest)
  pub answer : b ≡ pair_section (got pairs rest)
  pub within : a.end + b.end ≤ length s
  pub behind : drop (a.end + b.end) s ≡ rest

module _ (s : List ℕ) (a : SectionTold Task) (h : FirstSection s a) (b : SectionTold Pair) (e : b ≡ pair_section (pairs_of (take a.n a.records) (drop a.end s))) where
  b_is : b ≡ pair_section (pairs_of h.tasks h.rest)
  b_is = e ∙ rw (h.listed, h.behind)

  whole : reading s ≡ after_pairs h.tasks (pairs_of h.tasks h.rest)
  unfolding reading
  whole = ap after_tasks h.is

  -- the request is refused in its second section
  pub refused_second : (b.refusal ≡ 0 → ⊥) → unread b.refusal ≡ request_answered (reading s)
  refused_second ne =
      let number = ap (λ (x : SectionTold Pair). x.refusal) b_is in
      let r = section_refused no_pair 2 (pairs_of h.tasks h.rest) (λ z. ne (number ∙ z)) in
      rw number (sym (ap request_answered (whole ∙ ap (after_pairs h.tasks) r)))

  pub second_section : b.refusal ≡ 0 → SecondSection s a b
  second_section z =
      let r = section_got no_pair 2 PairNumber (λ k. omega arith) pair_count h.rest
      (pairs_of h.tasks h.rest) (pairs_section h.tasks h.rest) (ap (λ (x : SectionTold Pair). x.refusal) (sym b_is) ∙ z) in
      let answer : b ≡ pair_section (got r.items r.rest) = b_is ∙ ap pair_section r.is in
      let end : b.end ≡ 1 + 2 * length r.items = ap (λ (x : SectionTold Pair). x.end) answer in
      let size : length h.rest ≡ length s - a.end = rw (← h.behind, length-drop) refl in
      record {
        first = h;
        pairs = r.items;
        rest = r.rest;
        is = whole ∙ ap (after_pairs h.tasks) r.is;
        answer = answer;
        within = omega (arith, h.within, r.read.within);
        behind = sym (drop-drop b.end a.end s) ∙ ap (drop b.end) h.behind ∙ ap (λ (k : ℕ). drop k h.rest) end ∙ sym r.read.behind;
      }

-- the third section, from the bytes behind the second
module _ (s : List ℕ) (a : SectionTold Task) (b : SectionTold Pair) (k : SecondSection s a b) (c : SilentTold)
    (e : c ≡ silent_section (drop (a.end + b.end) s) (silent_of (drop (a.end + b.end) s))) where
  c_is : c ≡ silent_section k.rest (silent_of k.rest)
  c_is = rw k.behind at e

  size : length k.rest ≡ length s - (a.end + b.end)
  size = rw (← k.behind, length-drop) refl

  -- the request is refused in its third section
  pub refused_third : (c.refusal ≡ 0 → ⊥) → unread c.refusal ≡ request_answered (reading s)
  refused_third ne = go (silent_of k.rest) c_is k.is
    where
      go : (r : Parsed ℕ) → c ≡ silent_section k.rest r → reading s ≡ ended k.first.tasks k.pairs r → unread c.refusal ≡ request_answered (reading s)
      go (got g l) q is = absurd (ne (rw q))
      go (refused number) q is = rw (q, is)

  -- bytes follow
  pub bytes_follow : c.refusal ≡ 0 → c.end < length s - (a.end + b.end) → unread 6 ≡ request_answered (reading s)
  bytes_follow z more = go (silent_of k.rest) (silent_section_lem k.rest) c_is k.is
    where
      go : (r : Parsed ℕ) → SilentRead k.rest r → c ≡ silent_section k.rest r → reading s ≡ ended k.first.tasks k.pairs r → unread 6 ≡ request_answered (reading s)
      go (got g []) known q is = absurd (omega (arith, size, ap (λ (x : SilentTold). x.end) q))
      go (got g (x ∷ l)) known q is = rw is
      go (refused number) known q is = absurd (omega (arith, silent_number_pos known, ap (λ (x : SilentTold). x.refusal) q))

  -- the request is read
  pub all_read : c.refusal ≡ 0 → length s - (a.end + b.end) ≤ c.end
      → ◌≡◌ {A = Request} (record { refusal = 0; n = a.n; tasks = a.records; m = b.n; pairs = b.records; g = c.g }) (request_answered (reading s))
  all_read z end = go (silent_of k.rest) (silent_section_lem k.rest) c_is k.is
    where
      go : (r : Parsed ℕ) → SilentRead k.rest r → c ≡ silent_section k.rest r → reading s ≡ ended k.first.tasks k.pairs r
          → ◌≡◌ {A = Request} (record { refusal = 0; n = a.n; tasks = a.records; m = b.n; pairs = b.records; g = c.g }) (request_answered (reading s))
      go (got g []) known q is = rw (k.first.answer, k.answer, q, is)
      go (got g (x ∷ l)) known q is = absurd (omega (arith, size, ap (λ (x : SilentTold). x.end) q))
      go (refused number) known q is = absurd (omega (arith, silent_number_pos known, ap (λ (x : SilentTold). x.refusal) q))
