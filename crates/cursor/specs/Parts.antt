-- A part `&s[a..]` or `&mut s[a..]` of a byte string, which goes to its end: what the part holds, and what the whole holds once the part is back.
use Rattle.std.specs.Prelude.{ℕ, ◌-◌, ◌≤◌, ◌≡◌, List, ◌++◌, length, take, drop}
use Rattle.std.proofs.Common.{append-nil, arith, length-drop, drop_of_length-le, take_all}
use borrow.Rule.Slice.PartMut.{put_mid}

pub rest_part : (a : ℕ) (s : List ℕ) → take (length s - a) (drop a s) ≡ drop a s
rest_part a s = take_all (length s - a) (drop a s) (simp length-drop (omega arith))

pub rest_put : (a : ℕ) (s part : List ℕ) → put_mid a (length s - a) s part ≡ take a s ++ part
rest_put a s part =
    let short : length (drop a s) ≤ length s - a = simp length-drop (omega arith) in
    rw (drop_of_length-le (drop a s) short, append-nil)
