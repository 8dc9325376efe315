-- The bytes of a request with two bytes replaced, those of one task's P: they read as the request with that phase.
-- A task that was read is six bytes and two for its P; each record is read by itself, and no pair's rule speaks of a phase.
use Prim.Native.Nat.{ℕ, zero, suc, ◌+◌, ◌*◌, ◌≤◌, ◌<◌}
use Rattle.std.specs.Prelude.{◌≡◌, refl, length, get_or, take, drop}
use Rattle.std.proofs.Common.{sym, ap₂, subst, ◌∙◌, arith, length-append, length-set, take_at, drop_at, get_or-append-add, le-leb, lt-ltb}
use Rattle.std.proofs.Math.Path.{ap}
use mathlib.Core.List.{List, [], ◌∷◌, ◌++◌, append-nil, append_assoc}
use Rattle.std.proofs.Math.Bool.{cond}
use Rattle.std.proofs.Math.Seq.{append_snoc, take-append-add, drop-append-add}
use Rattle.cursor.specs.Parsed.{Parsed, got, refused, then, records}
use Rattle.cursor.specs.ParsedLaws.{never, then_got, rule_got, got_same}
use Rattle.cursor.specs.Fields.{byte_of, word_of, word_bytes, Bytes}
use Rattle.cursor.specs.FrontLaws.{byte_read_lem, word_read}
use Rattle.cursor.specs.WordBytesLaws.{two_bytes}
use Rattle.request.specs.Request.{no_task, period_of, task_rule, judged_task, task_of, task_count, tasks_of, pair_rule, judged_pair, pair_of, pair_count, pairs_of, section, reading, readable}
use Rattle.request.specs.Readable.{TaskKept}
use Rattle.request.specs.ReadableLaws.{task_read_lem, Sections, reading_sections}
use Rattle.request.specs.SectionLaws.{SectionRead, tasks_section, SectionSteps, section_steps}
use Rattle.request.specs.declared.Task.{Task}
use Rattle.request.specs.declared.Pair.{Pair}
use Rattle.cycle.specs.PhaseLaws.{task_with, tasks_with, periods_with}
use Rattle.phases.specs.Phases.{with_phase}

-- A row of records: the first one, and the others

module _ {A : Type 0} (one : List ℕ → Parsed A) where
  -- those behind the records that were read already do not depend on them
  record Behind (k : ℕ) (done : List A) (bytes : List ℕ) (xs : List A) (rest : List ℕ) : Type 0 where
    pub more : List A
    pub all : xs ≡ done ++ more
    pub any : (other : List A) → records one k other bytes ≡ got (other ++ more) rest

  behind : (k : ℕ) (done : List A) (bytes : List ℕ) (xs : List A) (rest : List ℕ) → records one k done bytes ≡ got xs rest → Behind k done bytes xs rest
  unfolding records
  behind zero done bytes xs rest e =
      let same : done ≡ xs = cc in
      let end : bytes ≡ rest = cc in
      record { more = []; all = rw (same, append-nil); any = λ other. rw (end, append-nil) }
  behind (suc k) done bytes xs rest e =
      let s = then_got (one bytes) (λ x tail. records one k (done ++ (x ∷ [])) tail) xs rest e in
      let b = behind k (done ++ (s.value ∷ [])) s.tail xs rest s.second in
      record {
        more = s.value ∷ b.more;
        all = b.all ∙ append_snoc done s.value b.more;
        any = λ other.
            ap (λ (r : Parsed A). then r (λ x tail. records one k (other ++ (x ∷ [])) tail)) s.first
            ∙ b.any (other ++ (s.value ∷ []))
            ∙ ap (λ (l : List A). got l rest) (append_snoc other s.value b.more);
      }

  record FirstRead (k : ℕ) (bytes : List ℕ) (xs : List A) (rest : List ℕ) : Type 0 where
    pub value : A
    pub tail : List ℕ
    pub more : List A
    pub first : one bytes ≡ got value tail
    pub others : records one k [] tail ≡ got more rest
    pub all : xs ≡ value ∷ more

  first_read : (k : ℕ) (bytes : List ℕ) (xs : List A) (rest : List ℕ) → records one (suc k) [] bytes ≡ got xs rest → FirstRead k bytes xs rest
  unfolding records
  first_read k bytes xs rest e =
      let s = then_got (one bytes) (λ x tail. records one k ([] ++ (x ∷ [])) tail) xs rest e in
      let b = behind k (s.value ∷ []) s.tail xs rest s.second in
      record { value = s.value; tail = s.tail; more = b.more; first = s.first; others = b.any []; all = b.all }

  first_then : (k : ℕ) (bytes : List ℕ) (x : A) (tail : List ℕ) (more : List A) (rest : List ℕ)
      → one bytes ≡ got x tail → records one k [] tail ≡ got more rest → records one (suc k) [] bytes ≡ got (x ∷ more) rest
  unfolding records
  first_then k bytes x tail more rest first others =
      let b = behind k [] tail more rest others in
      rw first (b.any (x ∷ []) ∙ ap (λ (l : List A). got (x ∷ l) rest) (sym b.all))

-- A task that was read: C, T and D are six bytes, and P is two

record TwoBytes (bytes : List ℕ) (w : ℕ) (rest : List ℕ) : Type 0 where
  pub low : ℕ
  pub high : ℕ
  pub whole : bytes ≡ low ∷ high ∷ rest
  pub any : (behind : List ℕ) → word_of 1 (low ∷ high ∷ behind) ≡ got w behind
  pub own : low < 256 → word_bytes w ≡ low ∷ high ∷ []

word_split : (bytes : List ℕ) (w : ℕ) (rest : List ℕ) → word_of 1 bytes ≡ got w rest → TwoBytes bytes w rest
unfolding word_of byte_of
word_split [] w rest e = absurd (never (cc))
word_split (low ∷ []) w rest e = absurd (never (cc))
word_split (low ∷ high ∷ tail) w rest e =
    let end : tail ≡ rest = cc in
    let value : low + high * 256 ≡ w = cc in
    record {
      low = low;
      high = high;
      whole = rw end;
      any = λ behind. rw value;
      own = λ h. rw (← value) (two_bytes low high h);
    }

-- `front` holds C, T and D, and `last` P
record TaskRead (bytes : List ℕ) (x : Task) (rest : List ℕ) : Type 0 where
  pub front : List ℕ
  pub last : List ℕ
  pub front_long : length front ≡ 6
  pub last_long : length last ≡ 2
  pub whole : bytes ≡ front ++ last ++ rest
  pub same : (behind : List ℕ) → task_of (front ++ last ++ behind) ≡ got x behind
  pub own : Bytes bytes → word_bytes x.p ≡ last
  pub other : (p : ℕ) → p < x.t → (behind : List ℕ) → task_of (front ++ word_bytes p ++ behind) ≡ got (task_with x p) behind

kept_judged : (x : Task) → TaskKept x → (rest : List ℕ) → judged_task x rest ≡ got x rest
unfolding judged_task task_rule
kept_judged x k rest =
    rw (le-leb 1 x.c k.some, le-leb x.c x.d k.room, le-leb x.d x.t k.due, lt-ltb x.p x.t k.phase)

-- from its four words
of_words : {c t d p : ℕ} {bytes tail1 tail2 tail3 rest : List ℕ} → TwoBytes bytes c tail1 → TwoBytes tail1 t tail2 → TwoBytes tail2 d tail3 → TwoBytes tail3 p rest
    → TaskKept (record { c = c; t = t; d = d; p = p }) → TaskRead bytes (record { c = c; t = t; d = d; p = p }) rest
unfolding task_of
of_words {c} {t} {d} {p} {bytes} {rest} b1 b2 b3 b4 kept = record {
  front = b1.low ∷ b1.high ∷ b2.low ∷ b2.high ∷ b3.low ∷ b3.high ∷ [];
  last = b4.low ∷ b4.high ∷ [];
  front_long = refl;
  last_long = refl;
  whole = whole;
  same = λ behind. rw (b1.any _, b2.any _, b3.any _, b4.any behind) (kept_judged (record { c = c; t = t; d = d; p = p }) kept behind);
  own = λ k. b4.own (rw whole at (k 6));
  other = λ q early behind.
      rw (b1.any _, b2.any _, b3.any _, word_read 1 q behind)
      (kept_judged (record { c = c; t = t; d = d; p = q }) (record { some = kept.some; room = kept.room; due = kept.due; phase = early }) behind);
}
  where
    whole : bytes ≡ b1.low ∷ b1.high ∷ b2.low ∷ b2.high ∷ b3.low ∷ b3.high ∷ b4.low ∷ b4.high ∷ rest
    whole =
        b1.whole ∙ ap (λ (l : List ℕ). b1.low ∷ b1.high ∷ l) (b2.whole ∙ ap (λ (l : List ℕ). b2.low ∷ b2.high ∷ l)
        (b3.whole ∙ ap (λ (l : List ℕ). b3.low ∷ b3.high ∷ l) b4.whole))

task_parts : (bytes : List ℕ) (x : Task) (rest : List ℕ) → task_of bytes ≡ got x rest → TaskRead bytes x rest
unfolding task_of judged_task
task_parts bytes x rest e =
    let s1 = then_got (word_of 1 bytes) _ x rest e in
    let s2 = then_got (word_of 1 s1.tail) _ x rest s1.second in
    let s3 = then_got (word_of 1 s2.tail) _ x rest s2.second in
    let s4 = then_got (word_of 1 s3.tail) _ x rest s3.second in
    let judged : Task = record { c = s1.value; t = s2.value; d = s3.value; p = s4.value } in
    let rule = rule_got (task_rule judged) (got judged s4.tail) 3 x rest s4.second in
    let same : x ≡ judged = cc in
    got_same (TaskRead bytes) rule.1
    (of_words
    (word_split bytes s1.value s1.tail s1.first)
    (word_split s1.tail s2.value s2.tail s2.first)
    (word_split s2.tail s3.value s3.tail s3.first)
    (word_split s3.tail s4.value s4.tail s4.first)
    (subst TaskKept same (task_read_lem bytes x rest e).kept))

-- two bytes replaced in records that stand without their count
abbrev shifted : ℕ → ℕ → List ℕ → List ℕ
shifted i p bytes = take (6 + 8 * i) bytes ++ word_bytes p ++ drop (8 + 8 * i) bytes

-- in the first record
shifted_here : (p : ℕ) (front last tail : List ℕ) → length front ≡ 6 → length last ≡ 2 → shifted 0 p (front ++ last ++ tail) ≡ front ++ word_bytes p ++ tail
shifted_here p front last tail six two =
    let eight : length (front ++ last) ≡ 8 = omega (arith, length-append front last) in
    let before : take 6 (front ++ last ++ tail) ≡ front = ap (take 6) (append_assoc front last tail) ∙ take_at front (last ++ tail) 6 six in
    ap₂ (λ (a b : List ℕ). a ++ word_bytes p ++ b) before (drop_at (front ++ last) tail 8 eight)

-- behind the first record
shifted_there : (i p : ℕ) (own tail : List ℕ) → length own ≡ 8 → shifted (suc i) p (own ++ tail) ≡ own ++ shifted i p tail
shifted_there i p own tail eight =
    let n : 6 + 8 * suc i ≡ length own + (6 + 8 * i) = omega arith in
    let m : 8 + 8 * suc i ≡ length own + (8 + 8 * i) = omega arith in
    let before : take (6 + 8 * suc i) (own ++ tail) ≡ own ++ take (6 + 8 * i) tail = ap (λ (k : ℕ). take k (own ++ tail)) n ∙ take-append-add own tail (6 + 8 * i) in
    let after : drop (8 + 8 * suc i) (own ++ tail) ≡ drop (8 + 8 * i) tail = ap (λ (k : ℕ). drop k (own ++ tail)) m ∙ drop-append-add own tail (8 + 8 * i) in
    ap₂ (λ (a b : List ℕ). a ++ word_bytes p ++ b) before after
    ∙ ap (λ (l : List ℕ). l ++ drop (8 + 8 * i) tail) (append_assoc own (take (6 + 8 * i) tail) (word_bytes p))
    ∙ append_assoc own (take (6 + 8 * i) tail ++ word_bytes p) (drop (8 + 8 * i) tail)

records_shifted : (i p k : ℕ) (bytes : List ℕ) (xs : List Task) (rest : List ℕ) → records task_of k [] bytes ≡ got xs rest → i < k → p < period_of xs i
    → records task_of k [] (shifted i p bytes) ≡ got (tasks_with xs i p) rest
records_shifted i p zero bytes xs rest e h early = absurd (omega arith)
records_shifted zero p (suc k) bytes xs rest e h early =
    let f = first_read task_of k bytes xs rest e in
    let w = task_parts bytes f.value f.tail f.first in
    let soon : p < f.value.t = omega (arith, early, ap (λ (l : List Task). period_of l 0) f.all) in
    ap (λ (l : List ℕ). records task_of (suc k) [] (shifted 0 p l)) w.whole
    ∙ ap (records task_of (suc k) []) (shifted_here p w.front w.last f.tail w.front_long w.last_long)
    ∙ first_then task_of k _ (task_with f.value p) f.tail f.more rest (w.other p soon f.tail) f.others
    ∙ ap (λ (l : List Task). got (tasks_with l 0 p) rest) (sym f.all)
records_shifted (suc i) p (suc k) bytes xs rest e h early =
    let f = first_read task_of k bytes xs rest e in
    let w = task_parts bytes f.value f.tail f.first in
    let soon : p < period_of f.more i = omega (arith, early, ap (λ (l : List Task). period_of l (suc i)) f.all) in
    let eight : length (w.front ++ w.last) ≡ 8 = omega (arith, length-append w.front w.last, w.front_long, w.last_long) in
    ap (λ (l : List ℕ). records task_of (suc k) [] (shifted (suc i) p l)) w.whole
    ∙ ap (records task_of (suc k) []) (shifted_there i p (w.front ++ w.last) f.tail eight)
    ∙ first_then task_of k _ f.value (shifted i p f.tail) (tasks_with f.more i p) rest (w.same (shifted i p f.tail))
    (records_shifted i p k f.tail f.more rest f.others (omega arith) soon)
    ∙ ap (λ (l : List Task). got (tasks_with l (suc i) p) rest) (sym f.all)

bytes_behind : (own tail : List ℕ) → Bytes (own ++ tail) → Bytes tail
bytes_behind own tail b j = rw (get_or-append-add own tail j 0) at (b (length own + j))

-- the bytes are the request's own where the phase is
records_own : (i k : ℕ) (bytes : List ℕ) (xs : List Task) (rest : List ℕ) → records task_of k [] bytes ≡ got xs rest → i < k → Bytes bytes
    → shifted i (get_or xs i no_task).p bytes ≡ bytes
records_own i zero bytes xs rest e h b = absurd (omega arith)
records_own zero (suc k) bytes xs rest e h b =
    let f = first_read task_of k bytes xs rest e in
    let w = task_parts bytes f.value f.tail f.first in
    ap₂ (λ (l : List ℕ) (m : List Task). shifted 0 (get_or m 0 no_task).p l) w.whole f.all
    ∙ shifted_here f.value.p w.front w.last f.tail w.front_long w.last_long
    ∙ ap (λ (l : List ℕ). w.front ++ l ++ f.tail) (w.own b) ∙ sym w.whole
records_own (suc i) (suc k) bytes xs rest e h b =
    let f = first_read task_of k bytes xs rest e in
    let w = task_parts bytes f.value f.tail f.first in
    let eight : length (w.front ++ w.last) ≡ 8 = omega (arith, length-append w.front w.last, w.front_long, w.last_long) in
    let behind : Bytes f.tail = bytes_behind (w.front ++ w.last) f.tail (subst Bytes w.whole b) in
    ap₂ (λ (l : List ℕ) (m : List Task). shifted (suc i) (get_or m (suc i) no_task).p l) w.whole f.all
    ∙ shifted_there i (get_or f.more i no_task).p (w.front ++ w.last) f.tail eight
    ∙ ap (λ (l : List ℕ). w.front ++ w.last ++ l) (records_own i k f.tail f.more rest f.others (omega arith) behind) ∙ sym w.whole

-- The request whole

front_byte : (bytes : List ℕ) (b : ℕ) (rest : List ℕ) → byte_of 1 bytes ≡ got b rest → bytes ≡ b ∷ rest
unfolding byte_of
front_byte [] b rest e = absurd (never (cc))
front_byte (x ∷ xs) b rest e = cc

-- the count stands in front of the records
with_count : (n i p : ℕ) (tail : List ℕ) → with_phase (n ∷ tail) i p ≡ n ∷ shifted i p tail
unfolding with_phase
with_count n i p tail =
    let before : 7 + 8 * i ≡ suc (6 + 8 * i) = omega arith in
    let after : 9 + 8 * i ≡ suc (8 + 8 * i) = omega arith in
    rw (before, after)

module _ (bytes : List ℕ) (tasks : List Task) (pairs : List Pair) (g : ℕ) (is : reading bytes ≡ readable tasks pairs g) (i : ℕ) (known : i < length tasks) where
  read : Sections bytes tasks pairs g
  read = reading_sections bytes tasks pairs g is

  steps : SectionSteps task_count task_of bytes tasks read.behind
  unfolding tasks_of
  steps = section_steps task_count task_of 2 bytes tasks read.behind read.first

  whole : bytes ≡ length tasks ∷ steps.tail
  whole = front_byte bytes (length tasks) steps.tail steps.count

  -- the two bytes stand within the request
  pub phase_inside : 9 + 8 * i ≤ length bytes
  phase_inside = let s : SectionRead task_count 8 bytes tasks read.behind = rw read.first at (tasks_section bytes) in omega (arith, s.within)

  -- with its own phase it is the request itself
  pub own_with : Bytes bytes → with_phase bytes i (get_or tasks i no_task).p ≡ bytes
  own_with b =
      let n = length tasks in
      let behind : Bytes steps.tail = λ j. rw whole at (b (suc j)) in
      ap (λ (l : List ℕ). with_phase l i (get_or tasks i no_task).p) whole
      ∙ with_count n i (get_or tasks i no_task).p steps.tail
      ∙ ap (λ (l : List ℕ). n ∷ l) (records_own i n steps.tail tasks read.behind steps.listed known behind)
      ∙ sym whole

module _ (bytes : List ℕ) (tasks : List Task) (pairs : List Pair) (g : ℕ) (is : reading bytes ≡ readable tasks pairs g)
    (i p : ℕ) (known : i < length tasks) (early : p < period_of tasks i) where
  abbrev r : Sections bytes tasks pairs g
  r = read bytes tasks pairs g is i known

  abbrev s : SectionSteps task_count task_of bytes tasks r.behind
  s = steps bytes tasks pairs g is i known

  tasks_with_lem : tasks_of (with_phase bytes i p) ≡ got (tasks_with tasks i p) r.behind
  unfolding tasks_of
  tasks_with_lem =
      ap (λ (l : List ℕ). tasks_of (with_phase l i p)) (whole bytes tasks pairs g is i known)
      ∙ ap tasks_of (with_count (length tasks) i p s.tail)
      ∙ rw (byte_read_lem 1 (length tasks), s.allowed) (records_shifted i p (length tasks) s.tail tasks r.behind s.listed known early)

  rule_with : (a b : ℕ) → pair_rule (tasks_with tasks i p) a b ≡ pair_rule tasks a b
  unfolding pair_rule
  rule_with a b =
      rw (length-set tasks i (task_with (get_or tasks i no_task) p), periods_with tasks i p known early a, periods_with tasks i p known early b)

  pair_with : pair_of (tasks_with tasks i p) ≡ pair_of tasks
  unfolding pair_of judged_pair
  pair_with = λ q bytes. then (byte_of 1 bytes) (λ a rest. then (byte_of 1 rest) (λ b rest. cond (rule_with a b q) (got (record { a = a; b = b }) rest) (refused 5)))

  pairs_with : pairs_of (tasks_with tasks i p) r.behind ≡ got pairs r.last
  unfolding pairs_of
  pairs_with = ap (λ (one : List ℕ → Parsed Pair). section pair_count one 4 r.behind) pair_with ∙ r.second

  -- the bytes with two bytes replaced read as the request with that phase
  pub reading_with : reading (with_phase bytes i p) ≡ readable (tasks_with tasks i p) pairs g
  unfolding reading
  reading_with = rw (tasks_with_lem, pairs_with, r.third)
