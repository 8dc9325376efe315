-- What five stores come to, what the eight bytes say, and records written one behind the other.
use Rattle.std.specs.Prelude.{ℕ, zero, suc, ◌+◌, ◌*◌, ◌-◌, ◌≤◌, ◌<◌, ◌≡◌, get_or, set, take}
use Rattle.std.proofs.Math.Path.{refl, ap}
use Rattle.std.proofs.Common.{sym, ◌∙◌, arith, length-append, drop-drop}
use mathlib.Core.List.{List, [], ◌∷◌, ◌++◌, flat_map, append-nil, append_assoc}
use Rattle.std.proofs.Math.Nat.{sub-zero}
use Rattle.std.proofs.Math.ListN.{length, drop}
use Rattle.std.proofs.lemmas.List.Edits.{sets, sets-eq}
use Rattle.cursor.specs.Fields.{word_bytes}
use Rattle.cursor.specs.WordBytesLaws.{word_long, three_stored}
use Rattle.cursor.specs.Pieces.{PartWay, part_start, part_more, part_end}
use Rattle.job_records.specs.Known.{record_here, records_from, records_known}
use Rattle.job_records.specs.KnownLaws.{records_more, records_none}
use Rattle.job_records.specs.declared.JobRecord.{JobRecord}
use Rattle.job_records.specs.declared.JobsKnown.{JobsKnown}
use Rattle.lent.specs.Words.{word_in, words_bytes}
use Rattle.lent.specs.WordsBack.{word_there}
use Rattle.lent.specs.Records.{record_bytes}

pub record_wide : (r : JobRecord) → length (record_bytes r) ≡ 8
unfolding record_bytes
record_wide r =
    let release = word_bytes r.release in
    let due = word_bytes r.due in
    let frame = word_bytes r.frame in
    omega (arith, length-append (release ++ due) frame, length-append release due, word_long r.release, word_long r.due, word_long r.frame)

-- two bytes and three words one behind the other are the eight bytes
pub record_stored : (out : List ℕ) (r : JobRecord) → 8 ≤ length out
    → sets (sets (sets (set (set out 0 r.task) 1 r.job) 2 (word_bytes r.release)) 4 (word_bytes r.due)) 6 (word_bytes r.frame) ≡ record_bytes r ++ drop 8 out
unfolding record_bytes
record_stored out r h =
    let eight = record_wide r in
    rw (three_stored (set (set out 0 r.task) 1 r.job) 2 r.release r.due r.frame) (rw eight at (sets-eq (record_bytes r) out 0 (omega (arith, eight))))

-- what the eight bytes say
module _ (r : JobRecord) (rest : List ℕ) where
  pub record_task : get_or (record_bytes r ++ rest) 0 0 ≡ r.task
  unfolding record_bytes
  record_task = refl

  pub record_job : get_or (record_bytes r ++ rest) 1 0 ≡ r.job
  unfolding record_bytes
  record_job = refl

  abbrev pub three_words : List ℕ
  three_words = r.release ∷ r.due ∷ r.frame ∷ []

  are_words : record_bytes r ++ rest ≡ (r.task ∷ r.job ∷ []) ++ words_bytes three_words 3 0 ++ rest
  unfolding record_bytes words_bytes
  are_words = simp (append_assoc, append-nil)

  pub record_words : (k : ℕ) → k < 3 → word_in (record_bytes r ++ rest) 2 k ≡ get_or three_words k 0
  record_words k h = rw are_words (word_there (r.task ∷ r.job ∷ []) three_words rest 2 3 refl k h)

records_wide : (rs : List JobRecord) → length (flat_map record_bytes rs) ≡ 8 * length rs
unfolding flat_map
records_wide [] = omega arith
records_wide (r ∷ rs) = simp length-append (omega (arith, record_wide r, records_wide rs))

from_length : (k : JobsKnown) (n y : ℕ) → length (records_from k n y) ≡ n
unfolding records_from
from_length k zero y = refl
from_length k (suc n) y = ap suc (from_length k n (y + 1))

-- the records before place y are written
module _ (k : JobsKnown) where
  abbrev pub RecordsPart : List ℕ → List ℕ → ℕ → ℕ → Type 0
  RecordsPart old out at y = PartWay (flat_map record_bytes (records_known k)) old out (flat_map record_bytes (records_from k (k.count - y) y)) at

  pub records_start : (old : List ℕ) → 8 * k.count ≤ length old → RecordsPart old old 0 0
  records_start old h =
      rw (sub-zero k.count)
      (part_start [] (flat_map record_bytes (records_known k)) old 0 refl (omega (arith, records_wide (records_known k), from_length k k.count 0)))

  module _ (old out : List ℕ) (at y : ℕ) (so : RecordsPart old out at y) where
    module _ (more : y < k.count) where
      records_next : flat_map record_bytes (records_from k (k.count - y) y)
          ≡ record_bytes (record_here k y) ++ flat_map record_bytes (records_from k (k.count - (y + 1)) (y + 1))
      unfolding flat_map
      records_next = rw (records_more k k.count y more)

      pub record_room : at + 8 ≤ length out
      record_room = omega (arith, so.room, so.long, simp length-append at (ap length records_next), record_wide (record_here k y))

      -- the record was written into the part behind
      pub record_placed : (part : List ℕ) → part ≡ record_bytes (record_here k y) ++ drop 8 (drop at out) → RecordsPart old (take at out ++ part) (at + 8) (y + 1)
      record_placed part e =
          let piece = record_bytes (record_here k y) in
          let one : length piece ≡ 8 = record_wide (record_here k y) in
          let whole : take at out ++ part ≡ take at out ++ piece ++ drop (at + 8) out = rw (e, drop-drop) (sym (append_assoc (take at out) piece (drop (at + 8) out))) in
          rw (← one) (part_more _ _ _ _ _ so piece _ (take at out ++ part) records_next (rw one whole))

    pub records_end : k.count ≤ y → out ≡ flat_map record_bytes (records_known k) ++ drop (8 * k.count) old
    unfolding flat_map
    records_end last =
        let done = part_end _ _ _ _ _ so (rw (records_none k k.count y last)) in
        let size : length (flat_map record_bytes (records_known k)) ≡ 8 * k.count = omega (arith, records_wide (records_known k), from_length k k.count 0) in
        done.whole ∙ ap (λ (n : ℕ). flat_map record_bytes (records_known k) ++ drop n old) size
