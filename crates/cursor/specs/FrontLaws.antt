-- Reading and writing undo each other. What was read stands, as it is written, at the front of the bytes; what is written is read back,
-- whatever follows. For a byte, a u16 and a row of records.
use Prim.Native.Nat.{ℕ, zero, suc, ◌+◌, ◌*◌, ◌%◌, ◌/◌, ◌<◌}
use Rattle.std.specs.Prelude.{◌≡◌, length, get_or}
use Rattle.std.proofs.Math.Path.{refl}
use Rattle.std.proofs.Common.{sym, ap, ◌∙◌, arith}
use mathlib.Core.List.{List, [], ◌∷◌, ◌++◌, flat_map, append-nil, append_assoc}
use Rattle.std.proofs.Math.Seq.{append_snoc}
use Rattle.cursor.specs.Parsed.{Parsed, got, then, records}
use Rattle.cursor.specs.ParsedLaws.{never, then_got, got_same}
use Rattle.cursor.specs.Fields.{byte_of, word_of, word_bytes, Bytes}
use Rattle.cursor.specs.WordBytesLaws.{word_parts, word_back, two_bytes}

-- `front` are the first bytes, and `rest` those behind them
pub record Front (bytes front rest : List ℕ) : Type 0 where
  pub whole : front ++ rest ≡ bytes
  pub bytes_behind : Bytes rest

-- one front behind another
pub front_then : {bytes front tail next rest : List ℕ} → Front bytes front tail → Front tail next rest → Front bytes (front ++ next) rest
front_then {front} {next} {rest} one two =
    record { whole = append_assoc front next rest ∙ ap (λ (l : List ℕ). front ++ l) two.whole ∙ one.whole; bytes_behind = two.bytes_behind }

module _ (short : ℕ) where
  byte_got : (bytes : List ℕ) (b : ℕ) (rest : List ℕ) → byte_of short bytes ≡ got b rest → (b ∷ rest) ≡ bytes
  unfolding byte_of
  byte_got [] b rest e = absurd (never (cc))
  byte_got (x ∷ xs) b rest e = cc

  pub byte_front : (bytes : List ℕ) (b : ℕ) (rest : List ℕ) → byte_of short bytes ≡ got b rest → Bytes bytes → (b < 256) × Front bytes (b ∷ []) rest
  byte_front bytes b rest e h =
      let whole : (b ∷ rest) ≡ bytes = byte_got bytes b rest e in
      let known : Bytes (b ∷ rest) = rw whole h in
      (known 0, record { whole = whole; bytes_behind = λ i. known (suc i) })

  pub byte_read_lem : (b : ℕ) (rest : List ℕ) → byte_of short (b ∷ rest) ≡ got b rest
  unfolding byte_of
  byte_read_lem b rest = refl

  pub word_front : (bytes : List ℕ) (w : ℕ) (rest : List ℕ) → word_of short bytes ≡ got w rest → Bytes bytes → Front bytes (word_bytes w) rest
  unfolding word_of
  word_front bytes w rest e h =
      let b = then_got (byte_of short bytes) (λ low rest. then (byte_of short rest) (λ high rest. got (low + high * 256) rest)) w rest e in
      let c = then_got (byte_of short b.tail) (λ high rest. got (b.value + high * 256) rest) w rest b.second in
      let low = byte_front bytes b.value b.tail b.first h in
      let high = byte_front b.tail c.value c.tail c.first low.1.bytes_behind in
      got_same (λ w rest. Front bytes (word_bytes w) rest) c.second (rw (two_bytes b.value c.value low.0) (front_then low.1 high.1))

  pub word_read : (w : ℕ) (rest : List ℕ) → word_of short (word_bytes w ++ rest) ≡ got w rest
  unfolding word_of
  word_read w rest = rw (word_parts w, byte_read_lem (w % 256), byte_read_lem (w / 256), word_back w)

flat_snoc : {A : Type 0} (write : A → List ℕ) (xs : List A) (x : A) → flat_map write (xs ++ (x ∷ [])) ≡ flat_map write xs ++ write x
unfolding flat_map
flat_snoc write [] x = append-nil (write x)
flat_snoc write (y ∷ xs) x = rw (flat_snoc write xs x) (sym (append_assoc (write y) (flat_map write xs) (write x)))

-- A row of records, `write` being the bytes of one.
module _ {A : Type 0} (one : List ℕ → Parsed A) (write : A → List ℕ) where
  module _ (front : (bytes : List ℕ) (x : A) (rest : List ℕ) → one bytes ≡ got x rest → Bytes bytes → Front bytes (write x) rest) where
    -- those in `done` are read
    front_from : (k : ℕ) (done : List A) (bytes : List ℕ) (xs : List A) (rest : List ℕ) → records one k done bytes ≡ got xs rest
        → Bytes bytes → Front (flat_map write done ++ bytes) (flat_map write xs) rest
    unfolding records
    front_from zero done bytes xs rest e h =
        got_same (λ xs rest. Front (flat_map write done ++ bytes) (flat_map write xs) rest) e (record { whole = refl; bytes_behind = h })
    front_from (suc k) done bytes xs rest e h =
        let s = then_got (one bytes) (λ x tail. records one k (done ++ (x ∷ [])) tail) xs rest e in
        let here = front bytes s.value s.tail s.first h in
        rw (flat_snoc write done s.value, append_assoc, here.whole) at
        (front_from k (done ++ (s.value ∷ [])) s.tail xs rest s.second here.bytes_behind)

    pub records_front : (k : ℕ) (bytes : List ℕ) (xs : List A) (rest : List ℕ)
        → records one k [] bytes ≡ got xs rest → Bytes bytes → Front bytes (flat_map write xs) rest
    unfolding flat_map
    records_front k = front_from k []

  module _ (blank : A) (Kept : A → Type 0) (back : (x : A) → Kept x → (rest : List ℕ) → one (write x ++ rest) ≡ got x rest) where
    read_from : (done xs : List A) (rest : List ℕ) → ((i : ℕ) → i < length xs → Kept (get_or xs i blank))
        → records one (length xs) done (flat_map write xs ++ rest) ≡ got (done ++ xs) rest
    unfolding records flat_map
    read_from done [] rest kept = rw append-nil
    read_from done (x ∷ xs) rest kept =
        rw (append_assoc (write x) (flat_map write xs) rest, back x (kept 0 (omega arith)) (flat_map write xs ++ rest))
        (read_from (done ++ (x ∷ [])) xs rest (λ i h. kept (suc i) (omega arith)) ∙ rw append_snoc)

    pub records_read : (xs : List A) (rest : List ℕ) → ((i : ℕ) → i < length xs → Kept (get_or xs i blank))
        → records one (length xs) [] (flat_map write xs ++ rest) ≡ got xs rest
    records_read = read_from []
