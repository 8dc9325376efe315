-- The bytes of a draft as they are stored.
use Rattle.std.specs.Prelude.{ℕ, ◌≤◌, ◌≡◌, List, ◌++◌, length, take, drop}
use Rattle.std.proofs.Common.{◌∙◌, append_assoc, arith, length-append}
use Rattle.std.proofs.lemmas.List.Edits.{sets}
use Rattle.cursor.specs.Fields.{word_bytes}
use Rattle.cursor.specs.WordBytesLaws.{word_long, word_stored}
use Rattle.draft.specs.declared.Draft.{Draft}
use Rattle.lent.specs.Words.{words_bytes}
use Rattle.lent.specs.WordLaws.{bytes_count, stored_behind}
use Rattle.lent.specs.DraftBytes.{draft_bytes}

-- the frame length is stored, the frames behind it, and the loads behind these
module _ (d : Draft) (bytes : List ℕ) (room : 770 ≤ length bytes) where
  abbrev pub length_stored : List ℕ
  length_stored = sets bytes 0 (word_bytes d.f)

  abbrev pub frames_stored : List ℕ
  frames_stored = take 2 length_stored ++ words_bytes d.frames 128 0 ++ drop 258 length_stored

  abbrev front : List ℕ
  front = word_bytes d.f ++ words_bytes d.frames 128 0

  front_long : length front ≡ 258
  front_long = omega (arith, length-append (word_bytes d.f) (words_bytes d.frames 128 0), word_long d.f, bytes_count d.frames 128 0)

  length_stored_lem : length_stored ≡ word_bytes d.f ++ drop 2 bytes
  length_stored_lem = word_stored bytes 0 d.f (omega (arith, room))

  frames_stored_lem : frames_stored ≡ front ++ drop 258 bytes
  frames_stored_lem = rw length_stored_lem (stored_behind (word_bytes d.f) (words_bytes d.frames 128 0) bytes 2 256 (word_long d.f))

  pub draft_stored : take 258 frames_stored ++ words_bytes d.loads 256 0 ++ drop 770 frames_stored ≡ draft_bytes d bytes
  unfolding draft_bytes
  draft_stored = rw frames_stored_lem (stored_behind front (words_bytes d.loads 256 0) bytes 258 512 front_long ∙ rw (append_assoc, append_assoc))
