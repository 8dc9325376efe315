-- The bytes of a draft, both ways: a draft that was written is read again, and 770 bytes are those that their draft is written as.
use Rattle.std.specs.Prelude.{ℕ, ◌≤◌, ◌≡◌, length, get_or}
use Rattle.std.proofs.Math.Path.{refl, ap}
use Rattle.std.proofs.Common.{◌∙◌, arith, length-append, drop-cons}
use mathlib.Core.List.{List, ◌++◌, append_assoc}
use Rattle.std.proofs.Math.ListN.{drop}
use Rattle.cursor.specs.Fields.{word_bytes, Bytes}
use Rattle.cursor.specs.WordBytesLaws.{word_long, two_bytes}
use Rattle.draft.specs.Kept.{Sized}
use Rattle.draft.specs.declared.Draft.{Draft}
use Rattle.lent.specs.Words.{word_in, words_from, words_bytes}
use Rattle.lent.specs.WordLaws.{bytes_count, words_count}
use Rattle.lent.specs.WordsBack.{word_first, words_read, words_back}
use Rattle.lent.specs.DraftBytes.{draft_in, draft_bytes}

module _ (d : Draft) (bytes : List ℕ) where
  abbrev frames : List ℕ
  frames = words_bytes d.frames 128 0

  abbrev loads : List ℕ
  loads = words_bytes d.loads 256 0

  -- the bytes before the loads
  abbrev front : List ℕ
  front = word_bytes d.f ++ frames

  front_long : length front ≡ 258
  front_long = omega (arith, length-append (word_bytes d.f) frames, word_long d.f, bytes_count d.frames 128 0)

  loads_behind : draft_bytes d bytes ≡ front ++ loads ++ drop 770 bytes
  unfolding draft_bytes
  loads_behind = refl

  frames_behind : draft_bytes d bytes ≡ word_bytes d.f ++ frames ++ (loads ++ drop 770 bytes)
  frames_behind = loads_behind ∙ append_assoc front loads (drop 770 bytes)

  length_first : draft_bytes d bytes ≡ word_bytes d.f ++ (frames ++ (loads ++ drop 770 bytes))
  length_first = frames_behind ∙ append_assoc (word_bytes d.f) frames (loads ++ drop 770 bytes)

  pub draft_read : Sized d → draft_in (draft_bytes d bytes) ≡ d
  unfolding draft_in
  draft_read s = λ i. record { f = length_is i; frames = frames_are i; loads = loads_are i }
    where
      length_is : word_in (draft_bytes d bytes) 0 0 ≡ d.f
      length_is = ap (λ (l : List ℕ). word_in l 0 0) length_first ∙ word_first d.f (frames ++ (loads ++ drop 770 bytes))

      frames_are : words_from (draft_bytes d bytes) 2 128 0 ≡ d.frames
      frames_are =
          ap (λ (l : List ℕ). words_from l 2 128 0) frames_behind
          ∙ words_read (word_bytes d.f) d.frames (loads ++ drop 770 bytes) 2 128 (word_long d.f) s.frames_are

      loads_are : words_from (draft_bytes d bytes) 258 256 0 ≡ d.loads
      loads_are = ap (λ (l : List ℕ). words_from l 258 256 0) loads_behind ∙ words_read front d.loads (drop 770 bytes) 258 256 front_long s.loads_are

pub draft_sized : (bytes : List ℕ) → Sized (draft_in bytes)
unfolding draft_in
draft_sized bytes = record { frames_are = words_count bytes 2 128 0; loads_are = words_count bytes 258 256 0 }

-- any 770 bytes are a draft's
pub draft_back : (bytes : List ℕ) → 770 ≤ length bytes → Bytes bytes → draft_bytes (draft_in bytes) bytes ≡ bytes
unfolding draft_in
draft_back bytes room are =
    length_first (draft_in bytes) bytes
    ∙ rw (
      two_bytes (get_or bytes 0 0) (get_or bytes 1 0) (are 0),
      words_back bytes are 258 256 (omega arith),
      words_back bytes are 2 128 (omega arith),
      ← drop-cons bytes 1 0 (omega arith),
      ← drop-cons bytes 0 0 (omega arith),
    )
