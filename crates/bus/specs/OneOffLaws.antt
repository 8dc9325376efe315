-- The two ways out of bus_one_off.
use Rattle.std.specs.Prelude.{ℕ, ◌≡◌, List, pos}
use Rattle.std.proofs.Math.Path.{ap}
use Rattle.std.proofs.Common.{◌∙◌}
use Rattle.one_off.specs.OneOff.{one_off}
use Rattle.one_off.specs.Answers.{offer_answer}
use Rattle.one_off.specs.Numbered.{FrameFound}
use Rattle.bus.specs.Reply.{refused_reply}
use Rattle.bus.specs.ReplyLaws.{reply_refused, reply_value}
use Rattle.bus.specs.OneOff.{found_reply, one_off_reply}

module _ (L s e : ℕ) (request table : List ℕ) (found : FrameFound) (is : found ≡ offer_answer (one_off L s e request table)) where
  pub one_off_refused : (found.refusal ≡ 0 → ⊥) → refused_reply found.refusal ≡ one_off_reply L s e request table
  unfolding one_off_reply
  one_off_refused h = reply_refused found.refusal found.frame h ∙ ap found_reply is

  pub one_off_found : found.refusal ≡ 0 → pos found.frame ≡ one_off_reply L s e request table
  unfolding one_off_reply
  one_off_found h = reply_value found.refusal found.frame h ∙ ap found_reply is
