-- What the writer keeps: a section goes into a buffer record by record behind its count, and the sections go there one behind the other.
use Prim.Native.Nat.{ℕ, zero, suc, ◌+◌, ◌*◌, ◌≤◌, ◌<◌}
use Rattle.std.specs.Prelude.{min, ◌≡◌, get_or, take, set}
use Rattle.std.proofs.Math.Path.{refl}
use Rattle.std.proofs.Common.{sym, ap, ◌∙◌, zero-add, add-one, drop-drop}
use mathlib.Core.List.{List, [], ◌∷◌, ◌++◌, flat_map, append-nil, append_assoc}
use native.Mathlib.Omega.{arith}
use Rattle.std.proofs.Math.ListN.{length, drop, length-append, length-drop, drop_of_length-le}
use Rattle.std.proofs.Math.Seq.{drop-cons, drop-set-lt, take-suc}
use Rattle.std.proofs.lemmas.List.{set_split}
use Rattle.std.proofs.lemmas.List.Edits.{sets, sets-eq}
use Rattle.cursor.specs.Fields.{word_bytes}
use Rattle.cursor.specs.WordBytesLaws.{word_parts, four_stored}
use Rattle.cursor.specs.Padded.{firsts}
use Rattle.cursor.specs.PaddedLaws.{firsts_length}
use Rattle.cursor.specs.Pieces.{Placed, PartWay, part_start, part_more, part_end, two_stored}
use Rattle.request.specs.Request.{no_task, no_pair}
use Rattle.request.specs.Encode.{task_bytes, pair_bytes, section_bytes, silent_bytes, request_bytes}
use Rattle.request.specs.declared.Task.{Task}
use Rattle.request.specs.declared.Pair.{Pair}

-- A section of records, each `width` bytes wide.
module _ {A : Type 0} (write : A → List ℕ) (width : ℕ) (wide : (x : A) → length (write x) ≡ width) where
  flat_length : (xs : List A) → length (flat_map write xs) ≡ width * length xs
  unfolding flat_map
  flat_length [] = omega arith
  flat_length (x ∷ xs) = simp length-append (omega (arith, wide x, flat_length xs))

  section_length : (xs : List A) → length (section_bytes write xs) ≡ 1 + width * length xs
  unfolding section_bytes
  section_length xs = rw (flat_length xs) (omega arith)

  module _ (blank : A) (xs : List A) where
    -- the count and the records before record i are in their places
    abbrev pub SectionPart : List ℕ → List ℕ → ℕ → ℕ → Type 0
    SectionPart old out at i = PartWay (section_bytes write xs) old out (flat_map write (drop i xs)) at

    module _ (old : List ℕ) (fits : length (section_bytes write xs) ≤ length old) where
      pub count_room : 0 < length old
      count_room = omega (arith, section_length xs)

      pub section_start : SectionPart (set old 0 (length xs)) (set old 0 (length xs)) 1 0
      unfolding section_bytes
      section_start =
          let records = flat_map write xs in
          let room : length records ≤ length (drop 1 old) = rw length-drop (omega (arith, fits)) in
          rw (set_split old 0 (length xs) count_room) (part_start (length xs ∷ []) records (drop 1 old) 1 refl room)

    module _ (old out : List ℕ) (at i : ℕ) (so : SectionPart old out at i) where
      module _ (more : i < length xs) where
        section_next : flat_map write (drop i xs) ≡ write (get_or xs i blank) ++ flat_map write (drop (i + 1) xs)
        unfolding flat_map
        section_next =
            rw (add-one i, drop-cons xs i blank more)

        pub section_room : at + width ≤ length out
        section_room = omega (arith, so.room, so.long, simp length-append at (ap length section_next), wide (get_or xs i blank))

        pub section_more : (out' : List ℕ) → out' ≡ take at out ++ write (get_or xs i blank) ++ drop (at + width) out → SectionPart old out' (at + width) (i + 1)
        section_more out' e =
            let one = wide (get_or xs i blank) in
            rw (← one) (part_more _ _ _ _ _ so (write (get_or xs i blank)) _ out' section_next (rw one e))

        -- the record was written into the part behind
        pub section_placed : (part : List ℕ) → part ≡ write (get_or xs i blank) ++ drop width (drop at out) → SectionPart old (take at out ++ part) (at + width) (i + 1)
        section_placed part e =
            section_more (take at out ++ part) (rw (e, drop-drop) (sym (append_assoc (take at out) (write (get_or xs i blank)) (drop (at + width) out))))

    pub section_end : (old out : List ℕ) (at i : ℕ) → SectionPart (set old 0 (length xs)) out at i → length xs ≤ i → Placed (section_bytes write xs) old out at
    unfolding flat_map
    section_end old out at i so last =
        let none : drop i xs ≡ [] = drop_of_length-le xs last in
        let done = part_end _ _ _ _ _ so (rw none) in
        let kept = drop-set-lt (length (section_bytes write xs)) old 0 (length xs) (omega (arith, section_length xs)) in
        record { whole = done.whole ∙ rw kept; ends = done.ends }

pub task_wide : (x : Task) → length (task_bytes x) ≡ 8
unfolding task_bytes
task_wide x = rw (word_parts x.c, word_parts x.t, word_parts x.d, word_parts x.p)

pub pair_wide : (q : Pair) → length (pair_bytes q) ≡ 2
unfolding pair_bytes
pair_wide q = refl

pub pair_stored : (out : List ℕ) (at : ℕ) (q : Pair) → at + 2 ≤ length out
    → set (set out at q.a) (at + 1) q.b ≡ take at out ++ pair_bytes q ++ drop (at + 2) out
unfolding pair_bytes
pair_stored out at q h = two_stored out at q.a q.b h

pub task_stored : (out : List ℕ) (x : Task) → 8 ≤ length out
    → sets (sets (sets (sets out 0 (word_bytes x.c)) 2 (word_bytes x.t)) 4 (word_bytes x.d)) 6 (word_bytes x.p) ≡ task_bytes x ++ drop 8 out
unfolding task_bytes
task_stored out x h = four_stored out x.c x.t x.d x.p h

-- The third section.

pub silent_none : (g : ℕ) → g ≡ 0 → silent_bytes g ≡ []
unfolding silent_bytes
silent_none g e = rw e

pub silent_some : (g : ℕ) → (g ≡ 0 → ⊥) → silent_bytes g ≡ 1 ∷ g ∷ []
unfolding silent_bytes
silent_some zero ne = absurd (ne refl)
silent_some (suc g) ne = refl

pub silent_short : (g : ℕ) → length (silent_bytes g) ≤ 2
unfolding silent_bytes
silent_short zero = omega arith
silent_short (suc g) = omega arith

module _ (g : ℕ) (old : List ℕ) (width : ℕ) (is : width ≡ length (silent_bytes g)) where
  pub silent_left_out : width ≡ 0 → Placed (silent_bytes g) old old 0
  unfolding silent_bytes
  silent_left_out z = go g is
    where
      go : (k : ℕ) → width ≡ length (silent_bytes k) → Placed (silent_bytes k) old old 0
      go zero e = record { whole = refl; ends = refl }
      go (suc k) e = absurd (omega arith)

  module _ (some : width ≡ 0 → ⊥) where
    silent_are : silent_bytes g ≡ 1 ∷ g ∷ []
    silent_are = silent_some g (λ z. some (is ∙ ap length (silent_none g z)))

    pub silent_room : width ≡ 2
    silent_room = is ∙ ap length silent_are

    pub silent_stored : length (silent_bytes g) ≤ length old → Placed (silent_bytes g) old (set (set old 0 1) 1 g) width
    silent_stored fits =
        rw (is, silent_are) (record { whole = sets-eq (1 ∷ g ∷ []) old 0 (omega (arith, silent_room)); ends = refl })

-- The number of bytes of a request.
module _ (tasks : List Task) (pairs : List Pair) (g : ℕ) where
  bytes_length : length (request_bytes tasks pairs g) ≡ 2 + 8 * length tasks + 2 * length pairs + length (silent_bytes g)
  unfolding request_bytes
  bytes_length = simp (length-append, section_length task_bytes 8 task_wide tasks, section_length pair_bytes 2 pair_wide pairs) (omega arith)

  -- no request is longer than 164 bytes
  pub bytes_short : length tasks ≤ 16 → length pairs ≤ 16 → length (request_bytes tasks pairs g) ≤ 164
  bytes_short t p = omega (arith, bytes_length, silent_short g)

-- A piece that was placed in the part behind the bytes that stand there already.
part_placed : (bytes old out left : List ℕ) (at : ℕ) → PartWay bytes old out left at → (piece left' part : List ℕ) (used : ℕ) → left ≡ piece ++ left'
    → Placed piece (drop at out) part used → PartWay bytes old (take at out ++ part) left' (at + used)
part_placed bytes old out left at so piece left' part used e b =
    rw b.ends
    (part_more _ _ _ _ _ so piece left' _ e (rw (b.whole, drop-drop) (sym (append_assoc (take at out) piece (drop (at + length piece) out)))))

-- Three pieces, one behind the other, into a buffer that has room for them.
module _ (s p t entry : List ℕ) (fits : length (s ++ p ++ t) ≤ length entry) (one : List ℕ) (end : ℕ) (first : Placed s entry one end) where
  first_part : PartWay (s ++ p ++ t) entry one (p ++ t) end
  first_part =
      rw zero-add at
      (part_placed _ entry entry (s ++ p ++ t) 0 (part_start [] (s ++ p ++ t) entry 0 refl fits) s (p ++ t) one end (append_assoc s p t) first)

  pub first_within : end ≤ length one
  first_within = omega (arith, first_part.room, first_part.long)

  pub second_fits : length p ≤ length (drop end one)
  second_fits = rw length-drop (omega (arith, first_part.room, first_part.long, length-append p t))

  module _ (part : List ℕ) (used : ℕ) (second : Placed p (drop end one) part used) where
    second_part : PartWay (s ++ p ++ t) entry (take end one ++ part) t (end + used)
    second_part = part_placed _ _ _ _ _ first_part p t part used refl second

    pub second_within : (end + used ≤ length (take end one ++ part)) × (end + used ≤ length entry)
    second_within = (omega (arith, second_part.room, second_part.long), omega (arith, second_part.room))

    pub third_fits : length t ≤ length (drop (end + used) (take end one ++ part))
    third_fits = rw length-drop (omega (arith, second_part.room, second_part.long))

    pub all_placed : (last : List ℕ) (more : ℕ) → Placed t (drop (end + used) (take end one ++ part)) last more
        → Placed (s ++ p ++ t) entry (take (end + used) (take end one ++ part) ++ last) (end + used + more)
    all_placed last more third =
        part_end _ _ _ _ _ (part_placed _ _ _ _ _ second_part t [] last more (sym (append-nil t)) third) refl

-- The elements in the first places of an array are a part of it.
pub firsts_are : {A : Type 0} (blank : A) (xs : List A) (n : ℕ) → n ≤ length xs → firsts n blank xs ≡ take n xs
unfolding firsts
firsts_are blank xs zero h = refl
firsts_are blank xs (suc n) h = rw (firsts_are blank xs n (omega arith)) (sym (take-suc xs n blank (omega arith)))

-- The length, which is known before the first byte.
module _ (tasks : List Task) (n : ℕ) (pairs : List Pair) (m g : ℕ) (entry : List ℕ) where
  abbrev bytes : List ℕ
  bytes = request_bytes (firsts n no_task tasks) (firsts m no_pair pairs) g

  pub request_length : length bytes ≡ 2 + 8 * n + 2 * m + length (silent_bytes g)
  request_length =
      bytes_length (firsts n no_task tasks) (firsts m no_pair pairs) g ∙ rw (firsts_length no_task tasks n, firsts_length no_pair pairs m)

  -- the first places of arrays of 16
  module _ (count links : ℕ) (e : count ≡ min n 16) (f : links ≡ min m 16) (all_tasks : length tasks ≡ 16) (all_pairs : length pairs ≡ 16) where
    pub parts_are : request_bytes (take count tasks) (take links pairs) g ≡ request_bytes (firsts (min n 16) no_task tasks) (firsts (min m 16) no_pair pairs) g
    parts_are = rw (e, f, firsts_are no_task tasks (min n 16) (omega arith), firsts_are no_pair pairs (min m 16) (omega arith))
