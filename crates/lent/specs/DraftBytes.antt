-- A draft in the bytes that the caller lends: 770.
use Rattle.std.specs.Prelude.{ℕ, List, ◌++◌, drop}
use Rattle.cursor.specs.Fields.{word_bytes}
use Rattle.draft.specs.declared.Draft.{Draft}
use Rattle.lent.specs.Words.{word_in, words_from, words_bytes}

-- bytes 0 and 1 the frame length, 2 to 257 the frame of each job, 258 to 769 the load of each row
unfoldable pub draft_in : List ℕ → Draft
draft_in bytes = record { f = word_in bytes 0 0; frames = words_from bytes 2 128 0; loads = words_from bytes 258 256 0 }

-- the draft in the first 770 bytes, and behind it what was there
unfoldable pub draft_bytes : Draft → List ℕ → List ℕ
draft_bytes d bytes = word_bytes d.f ++ words_bytes d.frames 128 0 ++ words_bytes d.loads 256 0 ++ drop 770 bytes
