-- Whether the bytes are a timer.
use Rattle.std.specs.Prelude.{ℕ, ◌≤◌, ◌<◌, ◌≡◌, Bool, ◌&&◌, List, get_or}
use Rattle.std.proofs.Math.Path.{refl}
use Rattle.std.proofs.Math.Bool.{true, false, cond}
use Rattle.std.proofs.lemmas.Bool.{false≢true}
use Rattle.std.proofs.Math.ListN.{length}
use Rattle.std.proofs.Math.Dec.{ltb}
use borrow.Author.Tests.{ltb-false, lt-ltb, le-ltb}
use Rattle.lent.specs.TimerBytes.{is_timer}

module _ (bytes : List ℕ) where
  abbrev judged_long : Bool
  judged_long = ltb (get_or bytes 2 0) 2 && (ltb (get_or bytes 64 0) 4 && ltb (get_or bytes 65 0) 8)

  pub timer_long : is_timer bytes ≡ true → 72 ≤ length bytes
  unfolding is_timer
  timer_long e = go (ltb (length bytes) 72) refl e
    where
      go : (b : Bool) → ltb (length bytes) 72 ≡ b → cond b false judged_long ≡ true → 72 ≤ length bytes
      go true w q = absurd (false≢true q)
      go false w q = ltb-false (length bytes) 72 w

  module _ (long : 72 ≤ length bytes) where
    module _ (mark : get_or bytes 2 0 < 2) where
      pub status_decides : get_or bytes 64 0 < 4 → ltb (get_or bytes 65 0) 8 ≡ is_timer bytes
      unfolding is_timer
      status_decides h = rw (le-ltb (length bytes) 72 long, lt-ltb (get_or bytes 2 0) 2 mark, lt-ltb (get_or bytes 64 0) 4 h)
