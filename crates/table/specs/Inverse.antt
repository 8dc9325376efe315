-- Decoding and encoding undo each other, and what is decoded is well formed: each reading by itself, then the whole.
use Rattle.std.specs.Prelude.{ℕ, zero, suc, ◌+◌, ◌*◌, ◌≤◌, ◌<◌, ◌≡◌, refl, List, [], ◌∷◌, ◌++◌, true, cond, ◌&&◌, length, leb, ltb, eqb}
use Rattle.std.proofs.Common.{ap, subst, ◌∙◌, append-nil, append_assoc, arith, leb-true, ltb-true, eqb-true, le-leb, lt-ltb, eq-eqb}
use Rattle.std.proofs.Math.Seq.{append_snoc}
use Rattle.cursor.specs.Parsed.{Parsed, got, refused, then, records}
use Rattle.cursor.specs.ParsedLaws.{never, then_got, rule_got, got_same, both_true}
use Rattle.cursor.specs.Fields.{byte_of, word_of, word_bytes, Bytes}
use Rattle.cursor.specs.FrontLaws.{Front, front_then, byte_front, word_front, word_read, records_front, records_read}
use Rattle.cursor.specs.Widths.{records_count}
use Rattle.cursor.specs.RecordLaws.{records_each}
use Rattle.table.specs.Table.{
  Entry,
  Table,
  Lengths,
  table,
  job_byte,
  entry_of,
  entry_from,
  entries_from,
  row_from,
  sizes_from,
  height_fits,
  tabled,
  rows_from,
  whole_table,
  decode,
  entries_bytes,
  row_bytes,
  rows_bytes,
  head_bytes,
  encode,
}
use Rattle.table.specs.WellFormed.{RisingFrom, AllRising, WellFormed}
use Rattle.table.specs.EntryLaws.{job_of_byte, entry_back}
use Rattle.table.specs.RisingLaws.{rising_few, rising_at, all_rising}

-- what is written is read back

entry_read : (low : ℕ) (e : Entry) (rest : List ℕ) → low ≤ e.task → e.task < 16 → e.number < 128 → entry_from low (e.task ∷ job_byte e ∷ rest) ≡ got e rest
unfolding entry_from byte_of
entry_read low e rest a b c =
    rw (le-leb low e.task a, lt-ltb e.task 16 b, entry_back e c)

entries_read_lem : (es : List Entry) (low : ℕ) (done : List Entry) (rest : List ℕ) → RisingFrom low es
    → entries_from (length es) low done (entries_bytes es ++ rest) ≡ got (done ++ es) rest
unfolding entries_from entries_bytes RisingFrom
entries_read_lem [] low done rest h = rw append-nil
entries_read_lem (e ∷ es) low done rest h =
    rw (entry_read low e (entries_bytes es ++ rest) h.0 h.1 h.2) (entries_read_lem es (e.task + 1) (done ++ (e ∷ [])) rest h.3 ∙ rw append_snoc)

pub row_read : (es : List Entry) (rest : List ℕ) → RisingFrom 0 es → row_from (row_bytes es ++ rest) ≡ got es rest
unfolding row_from row_bytes byte_of
row_read es rest h = rw (le-leb (length es) 16 (omega (arith, rising_few es 0 (omega arith) h))) (entries_read_lem es 0 [] rest h)

rows_read : (rows : List (List Entry)) → AllRising rows → records row_from (length rows) [] (rows_bytes rows) ≡ got rows []
rows_read rows h =
    rw append-nil at
    (records_read row_from row_bytes [] (RisingFrom 0) (λ es rising rest. row_read es rest rising) rows [] (λ k below. rising_at rows h k))

sizes_read : (f h : ℕ) (rest : List ℕ) → 1 ≤ h → h ≤ 10000 → sizes_from ((2 ∷ word_bytes f ++ word_bytes h) ++ rest) ≡ got (record { f = f; h = h }) rest
unfolding sizes_from byte_of
sizes_read f h rest a b =
    rw (append_assoc (word_bytes f) (word_bytes h) rest, word_read 12 f (word_bytes h ++ rest)) (rw (word_read 12 h rest) (rw (le-leb 1 h a, le-leb h 10000 b)))

height_fits_lem : (height : ℕ) (z : Lengths) → 1 ≤ height → height ≤ 256 → height * z.f ≡ z.h → height_fits height z ≡ true
unfolding height_fits
height_fits_lem height z a b c = rw (le-leb 1 height a, le-leb height 256 b, eq-eqb _ _ c)

-- the sizes, then the rows
encode_sections : (t : Table) → encode t ≡ (2 ∷ word_bytes t.f ++ word_bytes t.h) ++ (word_bytes (length t.rows) ++ rows_bytes t.rows)
unfolding encode head_bytes
encode_sections t = append_assoc (2 ∷ word_bytes t.f ++ word_bytes t.h) (word_bytes (length t.rows)) (rows_bytes t.rows)

pub decode_encode : (t : Table) → WellFormed t → decode (encode t) ≡ table t
unfolding decode rows_from
decode_encode t w =
    let z : Lengths = record { f = t.f; h = t.h } in
    let rows = t.rows in
    rw (
      encode_sections t,
      sizes_read t.f t.h (word_bytes (length rows) ++ rows_bytes rows) w.some_ticks w.few_ticks,
      word_read 12 (length rows) (rows_bytes rows),
      height_fits_lem (length rows) z w.some_rows w.few_rows w.whole,
      rows_read rows w.rising,
    )

-- what is read is well formed, and is written back

pub record EntryTaken (low : ℕ) (bytes : List ℕ) (e : Entry) (rest : List ℕ) : Type 0 where
  pub above : low ≤ e.task
  pub below : e.task < 16
  pub small : e.number < 128
  pub front : Bytes bytes → Front bytes (e.task ∷ job_byte e ∷ []) rest

entry_made : (low : ℕ) (bytes : List ℕ) (task byte : ℕ) (rest : List ℕ) → low ≤ task → task < 16
    → (Bytes bytes → (byte < 256) × Front bytes (task ∷ byte ∷ []) rest) → EntryTaken low bytes (entry_of task byte) rest
unfolding entry_of
entry_made low bytes task byte rest above below front =
    record { above = above; below = below; small = omega arith; front = λ h. rw (job_of_byte task byte (front h).0) (front h).1 }

entry_taken : (low : ℕ) (bytes : List ℕ) (e : Entry) (rest : List ℕ) → entry_from low bytes ≡ got e rest → EntryTaken low bytes e rest
unfolding entry_from
entry_taken low bytes e rest q =
    let b = then_got (byte_of 12 bytes) _ e rest q in
    let p = rule_got (leb low b.value && ltb b.value 16) _ 12 e rest b.second in
    let c = then_got (byte_of 12 b.tail) (λ byte rest. got (entry_of b.value byte) rest) e rest p.1 in
    let tests = both_true (leb low b.value) (ltb b.value 16) p.0 in
    got_same (EntryTaken low bytes) c.second
    (entry_made low bytes b.value c.value c.tail (leb-true _ _ tests.0) (ltb-true _ _ tests.1) (λ h.
    let one = byte_front 12 bytes b.value b.tail b.first h in
    let two = byte_front 12 b.tail c.value c.tail c.first one.1.bytes_behind in
    (two.0, front_then one.1 two.1)))

-- k entries behind those in `done`
record EntriesTaken (k low : ℕ) (done es : List Entry) (bytes rest : List ℕ) : Type 0 where
  new : List Entry
  split : es ≡ done ++ new
  count : length new ≡ k
  rising : RisingFrom low new
  front : Bytes bytes → Front bytes (entries_bytes new) rest

entries_taken : (k low : ℕ) (done es : List Entry) (bytes rest : List ℕ) → entries_from k low done bytes ≡ got es rest → EntriesTaken k low done es bytes rest
unfolding entries_from entries_bytes RisingFrom
entries_taken zero low done es bytes rest q =
    got_same (λ es rest. EntriesTaken 0 low done es bytes rest) q
    (record { new = []; split = rw append-nil; count = refl; rising = tt; front = λ h. record { whole = refl; bytes_behind = h } })
entries_taken (suc k) low done es bytes rest q =
    let b = then_got (entry_from low bytes) (λ e rest. entries_from k (e.task + 1) (done ++ (e ∷ [])) rest) es rest q in
    let e = b.value in
    let one = entry_taken low bytes e b.tail b.first in
    let more = entries_taken k (e.task + 1) (done ++ (e ∷ [])) es b.tail rest b.second in
    record {
      new = e ∷ more.new;
      split = more.split ∙ rw append_snoc;
      count = ap suc more.count;
      rising = (one.above, one.below, one.small, more.rising);
      front = λ h. let here = one.front h in front_then here (more.front here.bytes_behind);
    }

pub record RowTaken (bytes : List ℕ) (es : List Entry) (rest : List ℕ) : Type 0 where
  pub rising : RisingFrom 0 es
  pub front : Bytes bytes → Front bytes (row_bytes es) rest

row_taken : (bytes : List ℕ) (es : List Entry) (rest : List ℕ) → row_from bytes ≡ got es rest → RowTaken bytes es rest
unfolding row_from row_bytes
row_taken bytes es rest q =
    let b = then_got (byte_of 12 bytes) (λ count rest. cond (leb count 16) (entries_from count 0 [] rest) (refused 12)) es rest q in
    let p = rule_got (leb b.value 16) (entries_from b.value 0 [] b.tail) 12 es rest b.second in
    let all = entries_taken b.value 0 [] es b.tail rest p.1 in
    record {
      rising = rw all.split all.rising;
      front = λ h.
          let one = byte_front 12 bytes b.value b.tail b.first h in
          rw (all.split, all.count) (front_then one.1 (all.front one.1.bytes_behind));
    }

record SizesTaken (bytes : List ℕ) (z : Lengths) (rest : List ℕ) : Type 0 where
  some_ticks : 1 ≤ z.h
  few_ticks : z.h ≤ 10000
  front : Bytes bytes → Front bytes (2 ∷ word_bytes z.f ++ word_bytes z.h) rest

sizes_taken : (bytes : List ℕ) (z : Lengths) (rest : List ℕ) → sizes_from bytes ≡ got z rest → SizesTaken bytes z rest
unfolding sizes_from
sizes_taken bytes z rest q =
    let b = then_got (byte_of 12 bytes) _ z rest q in
    let m = rule_got (eqb b.value 2) _ 12 z rest b.second in
    let f = then_got (word_of 12 b.tail) _ z rest m.1 in
    let h = then_got (word_of 12 f.tail) _ z rest f.second in
    let p = rule_got (leb 1 h.value && leb h.value 10000) _ 12 z rest h.second in
    let tests = both_true (leb 1 h.value) (leb h.value 10000) p.0 in
    got_same (SizesTaken bytes) p.1
    (record {
      some_ticks = leb-true _ _ tests.0;
      few_ticks = leb-true _ _ tests.1;
      front = λ k.
          let mark = byte_front 12 bytes b.value b.tail b.first k in
          let one = word_front 12 b.tail f.value f.tail f.first mark.1.bytes_behind in
          let two = word_front 12 f.tail h.value h.tail h.first one.bytes_behind in
          subst (λ (n : ℕ). Front bytes (n ∷ word_bytes f.value ++ word_bytes h.value) h.tail) (eqb-true b.value 2 m.0)
          (front_then (front_then mark.1 one) two);
    })

record HeightRight (height : ℕ) (z : Lengths) : Type 0 where
  some_rows : 1 ≤ height
  few_rows : height ≤ 256
  whole : height * z.f ≡ z.h

height_right_lem : (height : ℕ) (z : Lengths) → height_fits height z ≡ true → HeightRight height z
unfolding height_fits
height_right_lem height z q =
    let a = both_true (leb 1 height) (leb height 256 && eqb (height * z.f) z.h) q in
    let b = both_true (leb height 256) (eqb (height * z.f) z.h) a.1 in
    record { some_rows = leb-true _ _ a.0; few_rows = leb-true _ _ b.0; whole = eqb-true _ _ b.1 }

-- the section of the rows, behind the sizes
record TableTaken (z : Lengths) (bytes : List ℕ) (t : Table) (rest : List ℕ) : Type 0 where
  f_is : t.f ≡ z.f
  h_is : t.h ≡ z.h
  right : HeightRight (length t.rows) z
  rising : AllRising t.rows
  front : Bytes bytes → Front bytes (word_bytes (length t.rows) ++ rows_bytes t.rows) rest

table_taken : (z : Lengths) (bytes : List ℕ) (t : Table) (rest : List ℕ) → rows_from z bytes ≡ got t rest → TableTaken z bytes t rest
unfolding rows_from
table_taken z bytes t rest q =
    let b = then_got (word_of 12 bytes) (λ height rest. cond (height_fits height z) (tabled z (records row_from height [] rest)) (refused 12)) t rest q in
    let p = rule_got (height_fits b.value z) (tabled z (records row_from b.value [] b.tail)) 12 t rest b.second in
    let r = then_got (records row_from b.value [] b.tail) (λ rows rest. got (record { f = z.f; h = z.h; rows = rows }) rest) t rest p.1 in
    let count : length r.value ≡ b.value = omega (arith, records_count row_from b.value [] b.tail r.value r.tail r.first) in
    let each = records_each row_from [] (RisingFrom 0) (λ b es r e. (row_taken b es r e).rising) b.value b.tail r.value r.tail r.first in
    got_same (TableTaken z bytes) r.second
    (record {
      f_is = refl;
      h_is = refl;
      right = rw count (height_right_lem b.value z p.0);
      rising = all_rising r.value each;
      front = λ k.
          let one = word_front 12 bytes b.value b.tail b.first k in
          let rows = records_front row_from row_bytes (λ b es r e. (row_taken b es r e).front) b.value b.tail r.value r.tail r.first in
          rw count (front_then one (rows one.bytes_behind));
    })

whole_table_lem : (p : Parsed Table) (t : Table) → whole_table p ≡ table t → p ≡ got t []
whole_table_lem (got x []) t q = let same : x ≡ t = cc in rw same
whole_table_lem (got x (b ∷ rest)) t q = absurd (never (cc))
whole_table_lem (refused n) t q = absurd (never (cc))

record Taken (bytes : List ℕ) (t : Table) : Type 0 where
  form : WellFormed t
  bytes_are : Bytes bytes → encode t ≡ bytes

sections_taken : (bytes : List ℕ) (z : Lengths) (tail : List ℕ) (t : Table) → SizesTaken bytes z tail → TableTaken z tail t [] → Taken bytes t
sections_taken bytes z tail t sizes rows =
    record {
      form = record {
        some_ticks = rw rows.h_is sizes.some_ticks;
        few_ticks = rw rows.h_is sizes.few_ticks;
        some_rows = rows.right.some_rows;
        few_rows = rows.right.few_rows;
        whole = rw (rows.f_is, rows.h_is) rows.right.whole;
        rising = rows.rising;
      };
      bytes_are = λ k.
          let one = sizes.front k in
          let both = front_then one (rows.front one.bytes_behind) in
          encode_sections t ∙ rw (rows.f_is, rows.h_is) (rw append-nil at both.whole);
    }

decode_taken : (bytes : List ℕ) (t : Table) → decode bytes ≡ table t → Taken bytes t
unfolding decode
decode_taken bytes t q =
    let b = then_got (sizes_from bytes) rows_from t [] (whole_table_lem (then (sizes_from bytes) rows_from) t q) in
    sections_taken bytes b.value b.tail t
    (sizes_taken bytes b.value b.tail b.first)
    (table_taken b.value b.tail t [] b.second)

pub decode_wellformed : (bytes : List ℕ) (t : Table) → decode bytes ≡ table t → WellFormed t
decode_wellformed bytes t q = (decode_taken bytes t q).form

pub encode_decode : (bytes : List ℕ) (t : Table) → Bytes bytes → decode bytes ≡ table t → encode t ≡ bytes
encode_decode bytes t k q = (decode_taken bytes t q).bytes_are k
