-- The bytes of a table are those that decode to it.
use Rattle.std.specs.Prelude.{ℕ, ◌≡◌, List}
use Rattle.std.proofs.Common.{sym, ap, ◌∙◌}
use Rattle.table.specs.Table.{Table, table, decode}
use Rattle.cursor.specs.Fields.{Bytes}
use Rattle.table.specs.Inverse.{decode_encode, encode_decode, decode_wellformed}
use Rattle.table.specs.TableBytes.{SaysTable}

pub says_decodes : (bytes : List ℕ) (t : Table) → SaysTable bytes t → decode bytes ≡ table t
says_decodes bytes t s = ap decode (sym s.bytes_are) ∙ decode_encode t s.form

pub decodes_says : (bytes : List ℕ) (t : Table) → Bytes bytes → decode bytes ≡ table t → SaysTable bytes t
decodes_says bytes t are e = record { form = decode_wellformed bytes t e; bytes_are = encode_decode bytes t are e }
