-- bus_one_off: what it answers.
use Rattle.std.specs.Prelude.{ℕ, List, ℤ}
use Rattle.one_off.specs.OneOff.{one_off}
use Rattle.one_off.specs.Answers.{offer_answer}
use Rattle.one_off.specs.Numbered.{FrameFound}
use Rattle.bus.specs.Reply.{reply}

-- the frame, or the number negated
abbrev pub found_reply : FrameFound → ℤ
found_reply found = reply found.refusal found.frame

unfoldable pub one_off_reply : ℕ → ℕ → ℕ → List ℕ → List ℕ → ℤ
one_off_reply L s e request table = found_reply (offer_answer (one_off L s e request table))
