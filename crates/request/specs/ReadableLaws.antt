-- Every request that is read keeps the form, and a refusal has one of its numbers. Crates above go by these laws.
-- A request that was read has its sections, and each record of a section keeps its rule and stands in the bytes as it is written.
use Rattle.std.specs.Prelude.{ℕ, ◌≤◌, ◌≡◌, true, length, leb, ltb}
use Rattle.std.proofs.Math.Path.{refl}
use Rattle.std.proofs.Common.{sym, ap, ◌∙◌, inl, inr, ⊎_elim, arith}
use mathlib.Core.List.{List, [], ◌∷◌}
use borrow.Author.Tests.{leb-true, ltb-true, eqb-true}
use Rattle.cursor.specs.Parsed.{Parsed, got, refused}
use Rattle.cursor.specs.ParsedLaws.{never, then_got, rule_got, got_same, both_true}
use Rattle.cursor.specs.Fields.{byte_of, word_of, Bytes}
use Rattle.cursor.specs.FrontLaws.{Front, front_then, byte_front, word_front}
use Rattle.request.specs.Request.{
  no_task,
  no_pair,
  period_of,
  task_rule,
  judged_task,
  task_of,
  task_count,
  tasks_of,
  pair_rule,
  judged_pair,
  pair_of,
  pair_count,
  pairs_of,
  silent_of,
  ended,
  after_pairs,
  after_tasks,
  Reading,
  reading,
  readable,
  unreadable,
}
use Rattle.request.specs.Encode.{task_bytes, pair_bytes}
use Rattle.request.specs.ReadingLaws.{TaskNumber, PairNumber}
use Rattle.request.specs.SilentLaws.{SilentRead, silent_section_lem}
use Rattle.request.specs.SectionLaws.{Section, count_some, tasks_section, pairs_section, section_steps, section_each}
use Rattle.request.specs.Readable.{TaskKept, PairKept, Readable, UnreadNumber, KeptReading}
use Rattle.request.specs.declared.Task.{Task}
use Rattle.request.specs.declared.Pair.{Pair}

pub rule_kept : (x : Task) → task_rule x ≡ true → TaskKept x
unfolding task_rule
rule_kept x e =
    let one = both_true (leb 1 x.c) _ e in
    let two = both_true (leb x.c x.d) _ one.1 in
    let three = both_true (leb x.d x.t) _ two.1 in
    record {
      some = leb-true 1 x.c one.0;
      room = leb-true x.c x.d two.0;
      due = leb-true x.d x.t three.0;
      phase = ltb-true x.p x.t three.1;
    }

-- a record that was read keeps its rule, and its bytes stand at the front
pub record RecordRead {A : Type 0} (Kept : A → Type 0) (write : A → List ℕ) (bytes : List ℕ) (x : A) (rest : List ℕ) : Type 0 where
  pub kept : Kept x
  pub front : Bytes bytes → Front bytes (write x) rest

pub task_read_lem : (bytes : List ℕ) (x : Task) (rest : List ℕ) → task_of bytes ≡ got x rest → RecordRead TaskKept task_bytes bytes x rest
unfolding task_of judged_task task_bytes
task_read_lem bytes x rest e =
    let s1 = then_got (word_of 1 bytes) _ x rest e in
    let s2 = then_got (word_of 1 s1.tail) _ x rest s1.second in
    let s3 = then_got (word_of 1 s2.tail) _ x rest s2.second in
    let s4 = then_got (word_of 1 s3.tail) _ x rest s3.second in
    let judged : Task = record { c = s1.value; t = s2.value; d = s3.value; p = s4.value } in
    let rule = rule_got (task_rule judged) (got judged s4.tail) 3 x rest s4.second in
    got_same (RecordRead TaskKept task_bytes bytes) {x = judged} rule.1
    (record {
      kept = rule_kept judged rule.0;
      front = λ k.
          let c = word_front 1 bytes s1.value s1.tail s1.first k in
          let t = word_front 1 s1.tail s2.value s2.tail s2.first c.bytes_behind in
          let d = word_front 1 s2.tail s3.value s3.tail s3.first t.bytes_behind in
          let p = word_front 1 s3.tail s4.value s4.tail s4.first d.bytes_behind in
          front_then (front_then (front_then c t) d) p;
    })

pub pair_rule_kept : (tasks : List Task) (a b : ℕ) → pair_rule tasks a b ≡ true → PairKept tasks (record { a = a; b = b })
unfolding pair_rule
pair_rule_kept tasks a b e =
    let one = both_true (ltb a b) _ e in
    let two = both_true (ltb b (length tasks)) _ one.1 in
    record { rises = ltb-true a b one.0; known = ltb-true b (length tasks) two.0; period = eqb-true (period_of tasks a) (period_of tasks b) two.1 }

pub pair_read : (tasks : List Task) (bytes : List ℕ) (q : Pair) (rest : List ℕ)
    → pair_of tasks bytes ≡ got q rest → RecordRead (PairKept tasks) pair_bytes bytes q rest
unfolding pair_of judged_pair pair_bytes
pair_read tasks bytes q rest e =
    let s1 = then_got (byte_of 1 bytes) _ q rest e in
    let s2 = then_got (byte_of 1 s1.tail) _ q rest s1.second in
    let judged : Pair = record { a = s1.value; b = s2.value } in
    let rule = rule_got (pair_rule tasks s1.value s2.value) (got judged s2.tail) 5 q rest s2.second in
    got_same (RecordRead (PairKept tasks) pair_bytes bytes) {x = judged} rule.1
    (record {
      kept = pair_rule_kept tasks s1.value s2.value rule.0;
      front = λ k.
          let a = (byte_front 1 bytes s1.value s1.tail s1.first k).1 in
          front_then a (byte_front 1 s1.tail s2.value s2.tail s2.first a.bytes_behind).1;
    })

-- the three sections of a readable request
pub record Sections (bytes : List ℕ) (tasks : List Task) (pairs : List Pair) (g : ℕ) : Type 0 where
  pub behind : List ℕ
  pub last : List ℕ
  pub first : tasks_of bytes ≡ got tasks behind
  pub second : pairs_of tasks behind ≡ got pairs last
  pub third : silent_of last ≡ got g []

module _ (bytes : List ℕ) (tasks : List Task) (pairs : List Pair) (g : ℕ) where
  pub reading_sections : reading bytes ≡ readable tasks pairs g → Sections bytes tasks pairs g
  unfolding reading
  reading_sections e = go (tasks_of bytes) refl e
    where
      at_end : (ts : List Task) (ps : List Pair) (r : Parsed ℕ) → ended ts ps r ≡ readable tasks pairs g → (ts ≡ tasks) × (ps ≡ pairs) × (r ≡ got g [])
      at_end ts ps (got x []) f = let same : x ≡ g = cc in (cc, cc, rw same)
      at_end ts ps (got x (b ∷ rest)) f = absurd (never (cc))
      at_end ts ps (refused number) f = absurd (never (cc))

      behind_first : (ts : List Task) (rest : List ℕ) → tasks_of bytes ≡ got ts rest → (r : Parsed (List Pair)) → pairs_of ts rest ≡ r
          → after_pairs ts r ≡ readable tasks pairs g → Sections bytes tasks pairs g
      behind_first ts rest p (got ps tail) q f =
          let h = at_end ts ps (silent_of tail) f in
          record {
            behind = rest;
            last = tail;
            first = p ∙ ap (λ (l : List Task). got l rest) h.0;
            second = ap (λ (l : List Task). pairs_of l rest) (sym h.0) ∙ q ∙ ap (λ (l : List Pair). got l tail) h.1;
            third = h.2;
          }
      behind_first ts rest p (refused number) q f = absurd (never (cc))

      go : (r : Parsed (List Task)) → tasks_of bytes ≡ r → after_tasks r ≡ readable tasks pairs g → Sections bytes tasks pairs g
      go (got ts rest) p f = behind_first ts rest p (pairs_of ts rest) refl f
      go (refused number) p f = absurd (never (cc))

  module _ (e : reading bytes ≡ readable tasks pairs g) where
    h : Sections bytes tasks pairs g
    h = reading_sections e

    -- Every readable request keeps the form.
    pub readable_kept : Readable tasks pairs
    unfolding tasks_of pairs_of
    readable_kept =
        let some = count_some (length tasks) (section_steps task_count task_of 2 bytes tasks h.behind h.first).allowed in
        record {
          some_task = some.0;
          few_tasks = some.1;
          few_pairs = leb-true (length pairs) 16 (section_steps pair_count (pair_of tasks) 4 h.behind pairs h.last h.second).allowed;
          task = section_each task_count task_of 2 bytes tasks h.behind no_task TaskKept (λ b x r e. (task_read_lem b x r e).kept) h.first;
          pair = section_each pair_count (pair_of tasks) 4 h.behind pairs h.last no_pair (PairKept tasks) (λ b q r e. (pair_read tasks b q r e).kept) h.second;
        }

    -- "g from 0 to 15"
    pub silent_few : g ≤ 15
    silent_few = let known : SilentRead h.last (got g []) = rw h.third at (silent_section_lem h.last) in known.0

pub unread_pos : {number : ℕ} → UnreadNumber number → 1 ≤ number
unread_pos (inl n) = n.0
unread_pos (inr n) = omega arith

pub unreadable_number : (bytes : List ℕ) (number : ℕ) → reading bytes ≡ unreadable number → UnreadNumber number
unfolding reading
unreadable_number bytes number e = first (tasks_of bytes) (tasks_section bytes) e
  where
    third : (ts : List Task) (ps : List Pair) (rest : List ℕ) (r : Parsed ℕ) → SilentRead rest r → ended ts ps r ≡ unreadable number → UnreadNumber number
    third ts ps rest (got g []) k f = absurd (never (cc))
    third ts ps rest (got g (b ∷ tail)) k f = let six : 6 ≡ number = cc in inl (omega arith, omega arith)
    third ts ps rest (refused m) k f =
        let same : m ≡ number = cc in
        ⊎_elim (λ (one : m ≡ 1). inl (omega arith, omega arith)) (λ (last : m ≡ 17). inr (omega arith)) k

    second : (ts : List Task) (rest : List ℕ) (r : Parsed (List Pair)) → Section PairNumber pair_count 2 rest r → after_pairs ts r ≡ unreadable number
        → UnreadNumber number
    second ts rest (got ps tail) k f = third ts ps tail (silent_of tail) (silent_section_lem tail) f
    second ts rest (refused m) k f = let same : m ≡ number = cc in inl (omega (arith, k), omega (arith, k))

    first : (r : Parsed (List Task)) → Section TaskNumber task_count 8 bytes r → after_tasks r ≡ unreadable number → UnreadNumber number
    first (got ts rest) h f = second ts rest (pairs_of ts rest) (pairs_section ts rest) f
    first (refused m) h f = let same : m ≡ number = cc in inl (omega (arith, h), omega (arith, h))

pub reading_kept : (bytes : List ℕ) → KeptReading (reading bytes)
reading_kept bytes = go (reading bytes) refl
  where
    go : (r : Reading) → reading bytes ≡ r → KeptReading r
    go (readable tasks pairs g) e = readable_kept bytes tasks pairs g e
    go (unreadable number) e = unreadable_number bytes number e
