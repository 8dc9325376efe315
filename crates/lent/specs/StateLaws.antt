-- The state's bytes: when 64 are there, and what stores one behind the other come to.
use Rattle.std.specs.Prelude.{ℕ, ◌≤◌, ◌≡◌, Bool, List, [], ◌∷◌, ◌++◌, get_or, set, take, drop}
use Rattle.std.proofs.Math.Path.{refl}
use Rattle.std.proofs.Common.{◌∙◌, arith, length-append}
use Rattle.std.proofs.Math.Bool.{true, false, cond}
use Rattle.std.proofs.lemmas.Bool.{false≢true}
use Rattle.std.proofs.Math.ListN.{length}
use Rattle.std.proofs.lemmas.List.Edits.{sets, sets-eq}
use Rattle.std.proofs.Math.Seq.{append_snoc}
use Rattle.std.proofs.Math.Dec.{ltb}
use borrow.Author.Tests.{ltb-false, le-ltb}
use mir.Val.{bool_byte}
use Rattle.cursor.specs.Fields.{word_bytes}
use Rattle.cursor.specs.WordBytesLaws.{word_long, stored_after}
use Rattle.dispatcher.specs.declared.State.{State}
use Rattle.lent.specs.Words.{words_bytes}
use Rattle.lent.specs.WordLaws.{stored_behind}
use Rattle.lent.specs.State.{is_state, mark_byte, state_bytes}

module _ (bytes : List ℕ) where
  pub long : 64 ≤ length bytes → ltb (get_or bytes 2 0) 2 ≡ is_state bytes
  unfolding is_state
  long h = rw (le-ltb (length bytes) 64 h)

  pub state_long : is_state bytes ≡ true → 64 ≤ length bytes
  unfolding is_state
  state_long e = go (ltb (length bytes) 64) refl e
    where
      go : (b : Bool) → ltb (length bytes) 64 ≡ b → cond b false (ltb (get_or bytes 2 0) 2) ≡ true → 64 ≤ length bytes
      go true w q = absurd (false≢true q)
      go false w q = ltb-false (length bytes) 64 w

mark_is : (first : Bool) → bool_byte first ≡ mark_byte first
mark_is true = refl
mark_is false = refl

-- three stores, and the counts behind them
pub state_stored : (s : State) (bytes : List ℕ) → 64 ≤ length bytes
    → let out = set (sets bytes 0 (word_bytes s.row)) 2 (bool_byte s.first) in
    take 3 out ++ words_bytes s.counts 16 0 ++ drop 35 out ≡ state_bytes s bytes
unfolding state_bytes
state_stored s bytes h =
    let mark = mark_byte s.first ∷ [] in
    let front = word_bytes s.row ++ mark in
    let long : length front ≡ 3 = omega (arith, length-append (word_bytes s.row) mark, word_long s.row) in
    let stored : set (sets bytes 0 (word_bytes s.row)) 2 (mark_byte s.first) ≡ front ++ drop 3 bytes
    = stored_after bytes 0 s.row mark ∙ (rw long at (sets-eq front bytes 0 (omega arith))) in
    rw (mark_is s.first, stored) (stored_behind front (words_bytes s.counts 16 0) bytes 3 32 long ∙ rw append_snoc)
