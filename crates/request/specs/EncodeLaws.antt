-- Reading a request and writing it undo each other, but for the ways to write a g of 0. Cut short a request is refused with 1, unless its third
-- section alone is cut off, and with bytes behind that section with 6. Each record by itself, then a section, one law for the first two, then the whole.
use Rattle.std.specs.Prelude.{ℕ, zero, suc, ◌+◌, ◌-◌, ◌≤◌, ◌<◌, ◌≡◌, refl, Bool, true, ◌⊎◌, get_or, take, leb}
use Rattle.std.proofs.Common.{sym, ◌∙◌, inl, inr, arith, length-append}
use Rattle.std.proofs.Math.Path.{ap}
use mathlib.Core.List.{List, [], ◌∷◌, ◌++◌, append-nil, append_assoc}
use Rattle.std.proofs.Math.ListN.{length}
use Rattle.std.proofs.lemmas.List.{take-append-le}
use Rattle.std.proofs.Math.Seq.{take-append-add, take-append_seam}
use borrow.Author.Tests.{le-leb, lt-ltb, eq-eqb}
use Rattle.cursor.specs.Parsed.{Parsed, got, refused, then, records}
use Rattle.cursor.specs.ParsedLaws.{never, rule_got}
use Rattle.cursor.specs.ChoiceLaws.{lt_or_ge}
use Rattle.cursor.specs.Fields.{byte_of, word_of, Bytes}
use Rattle.cursor.specs.FrontLaws.{Front, front_then, byte_front, byte_read_lem, word_read, records_front, records_read}
use Rattle.cursor.specs.OwnBytes.{OwnBytes, ByOwnBytes, value_own, rule_own, byte_own, word_own, then_own, records_own}
use Rattle.request.specs.Request.{
  no_task,
  no_pair,
  task_rule,
  judged_task,
  task_of,
  task_count,
  tasks_of,
  pair_rule,
  judged_pair,
  pair_of,
  pair_count,
  pairs_of,
  silent_of,
  section,
  ended,
  after_tasks,
  reading,
  readable,
  unreadable,
}
use Rattle.request.specs.Encode.{task_bytes, pair_bytes, section_bytes, silent_bytes, SaysSilent, left_out, no_byte, one_byte, two_sections, request_bytes, SaysRequest}
use Rattle.request.specs.SectionLaws.{section_steps}
use Rattle.request.specs.Readable.{TaskKept, PairKept, Readable}
use Rattle.request.specs.ReadableLaws.{task_read_lem, pair_read, reading_sections, readable_kept, silent_few}
use Rattle.request.specs.declared.Task.{Task}
use Rattle.request.specs.declared.Pair.{Pair}

-- A task.

task_back : (x : Task) → TaskKept x → (rest : List ℕ) → task_of (task_bytes x ++ rest) ≡ got x rest
unfolding task_of judged_task task_rule task_bytes
task_back x kept rest =
    simp append_assoc
    (rw (
      word_read 1 x.c,
      word_read 1 x.t,
      word_read 1 x.d,
      word_read 1 x.p,
      le-leb 1 x.c kept.some,
      le-leb x.c x.d kept.room,
      le-leb x.d x.t kept.due,
      lt-ltb x.p x.t kept.phase,
    ))

task_own : ByOwnBytes 1 task_of
unfolding task_of judged_task
task_own =
    then_own 1 (word_of 1) _ (word_own 1) (λ c.
    then_own 1 (word_of 1) _ (word_own 1) (λ t.
    then_own 1 (word_of 1) _ (word_own 1) (λ d.
    then_own 1 (word_of 1) _ (word_own 1) (λ p.
    let x : Task = record { c = c; t = t; d = d; p = p } in
    rule_own 1 (task_rule x) 3 (got x) (value_own 1 x)))))

-- A pair, for the tasks of the first section.
module _ (tasks : List Task) where
  pair_back : (q : Pair) → PairKept tasks q → (rest : List ℕ) → pair_of tasks (pair_bytes q ++ rest) ≡ got q rest
  unfolding pair_of judged_pair pair_rule pair_bytes
  pair_back q kept rest =
      rw (byte_read_lem 1 q.a, byte_read_lem 1 q.b, lt-ltb q.a q.b kept.rises, lt-ltb q.b (length tasks) kept.known, eq-eqb _ _ kept.period)

  pair_own : ByOwnBytes 1 (pair_of tasks)
  unfolding pair_of judged_pair
  pair_own =
      then_own 1 (byte_of 1) _ (byte_own 1) (λ a.
      then_own 1 (byte_of 1) _ (byte_own 1) (λ b. rule_own 1 (pair_rule tasks a b) 5 (got (record { a = a; b = b })) (value_own 1 (record { a = a; b = b }))))

-- A section, of records that `one` reads and `write` writes.
module _ {A : Type 0} (test : ℕ → Bool) (one : List ℕ → Parsed A) (number : ℕ) where
  section_own : ByOwnBytes 1 one → ByOwnBytes 1 (section test one number)
  section_own own = then_own 1 (byte_of 1) _ (byte_own 1) (λ n. rule_own 1 (test n) number (records one n []) (records_own 1 one own n []))

  module _ (write : A → List ℕ) where
    section_back : (blank : A) (Kept : A → Type 0) → ((x : A) → Kept x → (rest : List ℕ) → one (write x ++ rest) ≡ got x rest)
        → (xs : List A) (rest : List ℕ) → test (length xs) ≡ true → ((i : ℕ) → i < length xs → Kept (get_or xs i blank))
        → section test one number (section_bytes write xs ++ rest) ≡ got xs rest
    unfolding section_bytes
    section_back blank Kept back xs rest count kept = rw (byte_read_lem 1 (length xs), count) (records_read one write blank Kept back xs rest kept)

    section_front : ((bytes : List ℕ) (x : A) (rest : List ℕ) → one bytes ≡ got x rest → Bytes bytes → Front bytes (write x) rest)
        → (bytes : List ℕ) (xs : List A) (rest : List ℕ) → section test one number bytes ≡ got xs rest → Bytes bytes → Front bytes (section_bytes write xs) rest
    unfolding section_bytes
    section_front front bytes xs rest e k =
        let s = section_steps test one number bytes xs rest e in
        let count = (byte_front 1 bytes (length xs) s.tail s.count k).1 in
        front_then count (records_front one write front (length xs) s.tail xs rest s.listed count.bytes_behind)

-- The first section of a request, and the second.

tasks_back : (tasks : List Task) (pairs : List Pair) → Readable tasks pairs → (rest : List ℕ)
    → tasks_of (section_bytes task_bytes tasks ++ rest) ≡ got tasks rest
unfolding tasks_of
tasks_back tasks pairs kept rest =
    let count : task_count (length tasks) ≡ true = rw (le-leb 1 (length tasks) kept.some_task, le-leb (length tasks) 16 kept.few_tasks) in
    section_back task_count task_of 2 task_bytes no_task TaskKept task_back tasks rest count kept.task

pairs_back : (tasks : List Task) (pairs : List Pair) → Readable tasks pairs → (rest : List ℕ)
    → pairs_of tasks (section_bytes pair_bytes pairs ++ rest) ≡ got pairs rest
unfolding pairs_of
pairs_back tasks pairs kept rest =
    section_back pair_count (pair_of tasks) 4 pair_bytes no_pair (PairKept tasks) (pair_back tasks) pairs rest (le-leb (length pairs) 16 kept.few_pairs) kept.pair

tasks_front : (bytes : List ℕ) (tasks : List Task) (rest : List ℕ) → tasks_of bytes ≡ got tasks rest
    → Bytes bytes → Front bytes (section_bytes task_bytes tasks) rest
unfolding tasks_of
tasks_front bytes tasks rest e = section_front task_count task_of 2 task_bytes (λ b x r e. (task_read_lem b x r e).front) bytes tasks rest e

pairs_front : (tasks : List Task) (bytes : List ℕ) (pairs : List Pair) (rest : List ℕ) → pairs_of tasks bytes ≡ got pairs rest → Bytes bytes
    → Front bytes (section_bytes pair_bytes pairs) rest
unfolding pairs_of
pairs_front tasks bytes pairs rest e = section_front pair_count (pair_of tasks) 4 pair_bytes (λ b q r e. (pair_read tasks b q r e).front) bytes pairs rest e

sections_own : ByOwnBytes 1 (λ bytes. then (tasks_of bytes) pairs_of)
unfolding tasks_of pairs_of
sections_own = then_own 1 tasks_of pairs_of (section_own task_count task_of 2 task_own) (λ tasks. section_own pair_count (pair_of tasks) 4 (pair_own tasks))

-- what is read, by the first two sections
module _ (bytes : List ℕ) where
  reading_refused : (number : ℕ) → then (tasks_of bytes) pairs_of ≡ refused number → reading bytes ≡ unreadable number
  unfolding reading
  reading_refused number e = go (tasks_of bytes) e
    where
      go : (r : Parsed (List Task)) → then r pairs_of ≡ refused number → after_tasks r ≡ unreadable number
      go (got tasks rest) f = rw f
      go (refused m) f = let same : m ≡ number = cc in rw same

-- The third section, of bytes that say g.

pub silent_says : (g : ℕ) → SaysSilent g (silent_bytes g)
unfolding silent_bytes
silent_says zero = left_out refl refl
silent_says (suc g) = one_byte refl

silent_said : (bytes : List ℕ) (g : ℕ) → silent_of bytes ≡ got g [] → SaysSilent g bytes
unfolding silent_of byte_of
silent_said [] g e = left_out (cc) refl
silent_said (zero ∷ rest) g e = let none : rest ≡ [] = cc in no_byte (cc) (rw none)
silent_said (suc zero ∷ []) g e = absurd (never (cc))
silent_said (suc zero ∷ (x ∷ rest)) g e =
    let r = (rule_got (leb x 15) (got x rest) 17 g [] e).1 in
    let same : x ≡ g = cc in
    let none : rest ≡ [] = cc in
    one_byte (rw (same, none))
silent_said (suc (suc n) ∷ rest) g e = absurd (never (cc))

module _ (g : ℕ) where
  silent_back : g ≤ 15 → (bytes : List ℕ) → SaysSilent g bytes → silent_of bytes ≡ got g []
  unfolding silent_of byte_of
  silent_back few bytes (left_out z e) = rw (e, z)
  silent_back few bytes (no_byte z e) = rw (e, z)
  silent_back few bytes (one_byte e) = rw (e, le-leb g 15 few)

  silent_followed : g ≤ 15 → (bytes : List ℕ) → SaysSilent g bytes → 0 < length bytes → (rest : List ℕ) → silent_of (bytes ++ rest) ≡ got g rest
  unfolding silent_of byte_of
  silent_followed few bytes (left_out z e) some rest = absurd (omega (arith, ap length e))
  silent_followed few bytes (no_byte z e) some rest = rw (e, z)
  silent_followed few bytes (one_byte e) some rest = rw (e, le-leb g 15 few)

  silent_cut : (bytes : List ℕ) → SaysSilent g bytes → (i : ℕ) → 0 < i → i < length bytes → silent_of (take i bytes) ≡ refused 1
  unfolding silent_of byte_of
  silent_cut bytes (left_out z e) i some short = absurd (omega (arith, ap length e))
  silent_cut bytes (no_byte z e) i some short = absurd (omega (arith, ap length e))
  silent_cut bytes (one_byte e) i some short = let one : i ≡ 1 = omega (arith, ap length e) in rw (e, one)

-- The first two sections, of a request that keeps the form.
module _ (tasks : List Task) (pairs : List Pair) (kept : Readable tasks pairs) where
  -- What follows the pairs is judged as the third section.
  pub read_behind : (rest : List ℕ) → reading (two_sections tasks pairs ++ rest) ≡ ended tasks pairs (silent_of rest)
  unfolding reading
  read_behind rest =
      rw (
        append_assoc (section_bytes task_bytes tasks) (section_bytes pair_bytes pairs) rest,
        tasks_back tasks pairs kept (section_bytes pair_bytes pairs ++ rest),
        pairs_back tasks pairs kept rest,
      )

  own : OwnBytes 1 (λ bytes. then (tasks_of bytes) pairs_of) (two_sections tasks pairs) pairs []
  own =
      let second : pairs_of tasks (section_bytes pair_bytes pairs) ≡ got pairs [] = rw append-nil at (pairs_back tasks pairs kept []) in
      sections_own (two_sections tasks pairs) pairs [] (rw (tasks_back tasks pairs kept (section_bytes pair_bytes pairs), second))

  cut_in_two : (k : ℕ) → k < length (two_sections tasks pairs) → reading (take k (two_sections tasks pairs)) ≡ unreadable 1
  cut_in_two k h =
      let all_own : own.own ≡ two_sections tasks pairs = sym (append-nil own.own) ∙ own.whole in
      reading_refused (take k (two_sections tasks pairs)) 1 (rw all_own at own.cut k h)

-- A request that keeps the form is read back from its bytes.
pub read_encode : (tasks : List Task) (pairs : List Pair) (g : ℕ) → Readable tasks pairs → g ≤ 15
    → reading (request_bytes tasks pairs g) ≡ readable tasks pairs g
unfolding request_bytes
read_encode tasks pairs g kept few =
    read_behind tasks pairs kept (silent_bytes g) ∙ ap (ended tasks pairs) (silent_back g few (silent_bytes g) (silent_says g))

module _ (bytes : List ℕ) (tasks : List Task) (pairs : List Pair) (g : ℕ) (e : reading bytes ≡ readable tasks pairs g) (k : Bytes bytes) where
  -- A request that is read has these bytes.
  pub encode_read : SaysRequest bytes tasks pairs g
  encode_read =
      let h = reading_sections bytes tasks pairs g e in
      let first = tasks_front bytes tasks h.behind h.first k in
      let second = pairs_front tasks h.behind pairs h.last h.second first.bytes_behind in
      record { third = h.last; says = silent_said h.last g h.third; whole = (front_then first second).whole }

  kept : Readable tasks pairs
  kept = readable_kept bytes tasks pairs g e

  -- 1: "bytes end inside a section or before its count"; the third section alone may be left out
  pub cut_short : (j : ℕ) → j < length bytes → (j ≡ length (two_sections tasks pairs) → ⊥) → reading (take j bytes) ≡ unreadable 1
  cut_short j h ne = let w = encode_read in rw (← w.whole) (go w.third w.says (omega (arith, ap length w.whole, length-append two w.third)) (lt_or_ge j (length two)))
    where
      two : List ℕ
      two = two_sections tasks pairs

      go : (third : List ℕ) → SaysSilent g third → j < length two + length third → (j < length two) ⊎ (length two ≤ j)
          → reading (take j (two ++ third)) ≡ unreadable 1
      go third says short (inl within) = rw (take-append-le j two third (omega arith)) (cut_in_two tasks pairs kept j within)
      go third says short (inr past) =
          let i = j - length two in
          let place : j ≡ length two + i = omega arith in
          ap (λ (x : ℕ). reading (take x (two ++ third))) place
          ∙ ap reading (take-append-add two third i)
          ∙ read_behind tasks pairs kept (take i third)
          ∙ ap (ended tasks pairs) (silent_cut g third says i (omega arith) (omega arith))

  pub cut_before_third : reading (take (length (two_sections tasks pairs)) bytes) ≡ readable tasks pairs 0
  unfolding silent_of
  cut_before_third =
      let w = encode_read in
      let two = two_sections tasks pairs in
      rw (← w.whole, take-append_seam two w.third) (rw append-nil at (read_behind tasks pairs kept []))

  -- 6: bytes follow the third section
  pub too_long : length (two_sections tasks pairs) < length bytes → (b : ℕ) (rest : List ℕ) → reading (bytes ++ (b ∷ rest)) ≡ unreadable 6
  too_long more b rest =
      let w = encode_read in
      let two = two_sections tasks pairs in
      let some : 0 < length w.third = omega (arith, ap length w.whole, length-append two w.third) in
      rw (← w.whole, append_assoc two w.third (b ∷ rest)) (
      read_behind tasks pairs kept (w.third ++ (b ∷ rest))
      ∙ ap (ended tasks pairs) (silent_followed g (silent_few bytes tasks pairs g e) w.third w.says some (b ∷ rest))
      )
