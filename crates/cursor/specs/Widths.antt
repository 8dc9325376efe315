-- Where a reading ends: a byte is 1 byte wide, a u16 is 2, and readings one after another are as wide as their sum.
-- So a record of fixed width that was read at a place ends that much further.
use Prim.Native.Nat.{ℕ, zero, suc, ◌+◌, ◌-◌, ◌*◌, ◌≤◌}
use Rattle.std.specs.Prelude.{◌≡◌, refl, Bool, true, false, cond, length, drop}
use Rattle.std.proofs.Common.{sym, ap, ◌∙◌, length-append, length-drop, drop-drop}
use mathlib.Core.List.{List, [], ◌∷◌, ◌++◌}
use native.Mathlib.Omega.{arith}
use Rattle.cursor.specs.Parsed.{Parsed, got, refused, then, records}
use Rattle.cursor.specs.ParsedLaws.{never, then_got}
use Rattle.cursor.specs.Fields.{byte_of, word_of}
use Rattle.cursor.specs.declared.Cursor.{Cursor}

-- what was read is `width` bytes wide and within the bytes; a refusal's number is one of `Number`
abbrev pub Wide : {A : Type 0} → (ℕ → Type 0) → ℕ → List ℕ → Parsed A → Type 0
Wide Number width bytes (got x rest) = (width ≤ length bytes) × (rest ≡ drop width bytes)
Wide Number width bytes (refused number) = Number number

module _ (Number : ℕ → Type 0) where
  pub byte_wide : (short : ℕ) → Number short → (bytes : List ℕ) → Wide Number 1 bytes (byte_of short bytes)
  unfolding byte_of
  byte_wide short is [] = is
  byte_wide short is (b ∷ rest) = (omega arith, refl)

  pub then_wide : {A B : Type 0} (v w : ℕ) (bytes : List ℕ) (r : Parsed A) (next : A → List ℕ → Parsed B)
      → Wide Number v bytes r → ((x : A) (rest : List ℕ) → Wide Number w rest (next x rest)) → Wide Number (v + w) bytes (then r next)
  then_wide {B} v w bytes (got x rest) next here after = go (next x rest) (after x rest)
    where
      size : length rest ≡ length bytes - v
      size = rw (here.1, length-drop) refl

      go : (r : Parsed B) → Wide Number w rest r → Wide Number (v + w) bytes r
      go (got y tail) e = (omega (arith, here.0, e.0, size), e.1 ∙ rw (here.1, drop-drop))
      go (refused number) e = e
  then_wide v w bytes (refused number) next here after = here

  pub word_wide : (short : ℕ) → Number short → (bytes : List ℕ) → Wide Number 2 bytes (word_of short bytes)
  unfolding word_of
  word_wide short is bytes =
      then_wide 1 1 bytes (byte_of short bytes) _ (byte_wide short is bytes) (λ low rest.
      then_wide 1 0 rest (byte_of short rest) _ (byte_wide short is rest) (λ high rest. (omega arith, refl)))

  -- a rule is judged, and takes no bytes
  pub rule_wide : {A : Type 0} (test : Bool) (x : A) (rest : List ℕ) (number : ℕ) → Number number → Wide Number 0 rest (cond test (got x rest) (refused number))
  rule_wide true x rest number is = (omega arith, refl)
  rule_wide false x rest number is = is

  -- k records of one width
  module _ {A : Type 0} (one : List ℕ → Parsed A) (width : ℕ) (wide : (bytes : List ℕ) → Wide Number width bytes (one bytes)) where
    pub records_wide : (k : ℕ) (done : List A) (bytes : List ℕ) → Wide Number (width * k) bytes (records one k done bytes)
    unfolding records
    records_wide zero done bytes = let none : width * 0 ≡ 0 = omega arith in rw none (omega arith, refl)
    records_wide (suc k) done bytes =
        let more : width * suc k ≡ width + width * k = omega arith in
        rw more (then_wide width (width * k) bytes (one bytes) _ (wide bytes) (λ x rest. records_wide k (done ++ (x ∷ [])) rest))

-- as many more than those already read
pub records_count : {A : Type 0} (one : List ℕ → Parsed A) (k : ℕ) (done : List A) (bytes : List ℕ) (xs : List A) (rest : List ℕ)
    → records one k done bytes ≡ got xs rest → length xs ≡ length done + k
unfolding records
records_count one zero done bytes xs rest e = let same : done ≡ xs = cc in rw (← same) (omega arith)
records_count one (suc k) done bytes xs rest e =
    let s = then_got (one bytes) (λ x tail. records one k (done ++ (x ∷ [])) tail) xs rest e in
    omega (arith, records_count one k (done ++ (s.value ∷ [])) s.tail xs rest s.second, length-append done (s.value ∷ []))

-- A record of fixed width as an answer with the next cursor: `good` makes the answer of a record, `bad` that of a refusal.
abbrev pub located : {A R : Type 0} → (A → Cursor → R) → (ℕ → R) → ℕ → ℕ → Parsed A → R
located good bad width at (got x rest) = good x (record { at = at + width })
located good bad width at (refused number) = bad number

-- what such an answer tells
pub data Told (A : Type 0) : Type 0 where
  a_record : A → Cursor → Told A
  a_number : ℕ → Told A

module _ {A R : Type 0} (good : A → Cursor → R) (bad : ℕ → R) (tells : R → Told A)
    (tells_good : (x : A) (k : Cursor) → tells (good x k) ≡ a_record x k) (tells_bad : (number : ℕ) → tells (bad number) ≡ a_number number)
    (width at : ℕ) (s : List ℕ) where
  pub record_taken : (Number : ℕ → Type 0) (r : Parsed A) → Wide Number width (drop at s) r → (x : A) (next : Cursor) → located good bad width at r ≡ good x next
      → (r ≡ got x (drop next.at s)) × (next.at ≡ at + width)
  record_taken Number (got y rest) wide x next e =
      let told : a_record y (record { at = at + width }) ≡ a_record x next = sym (tells_good y (record { at = at + width })) ∙ ap tells e ∙ tells_good x next in
      let value : y ≡ x = cc in
      let cursor : record { at = at + width } ≡ next = cc in
      let place : next.at ≡ at + width = ap (λ (k : Cursor). k.at) (sym cursor) in
      (rw (value, wide.1, drop-drop, place), place)
  record_taken Number (refused number) wide x next e =
      let told : a_number number ≡ a_record x next = sym (tells_bad number) ∙ ap tells e ∙ tells_good x next in absurd (never (cc))

  pub record_refused : (r : Parsed A) (number : ℕ) → located good bad width at r ≡ bad number → r ≡ refused number
  record_refused (got y rest) number e =
      let told : a_record y (record { at = at + width }) ≡ a_number number = sym (tells_good y (record { at = at + width })) ∙ ap tells e ∙ tells_bad number in
      absurd (never (cc))
  record_refused (refused m) number e =
      let told : a_number m ≡ a_number number = sym (tells_bad m) ∙ ap tells e ∙ tells_bad number in
      let same : m ≡ number = cc in
      rw same
