-- The lent draft is read, and the draft after the put is handed back.
use Rattle.std.proofs.Common.{ap, ◌∙◌}
use Rattle.draft.specs.Draft.{put}
use Rattle.lent.specs.DraftBytes.{draft_in}
use Rattle.draft.specs.Numbered.{Drafted}
use Rattle.bus.specs.Drafts.{drafted_reply, drafted_bytes, put_reply, put_bytes}
use Rattle.bus.specs.ReplyLaws.{kept}
use Rattle.bus.specs.DraftLaws.{too_short, handed_back}
use Rattle.bus.proofs.drafts.bus_draft_put.Goals as goal

pub returns-then-lent-lt770 : goal.returns-then-lent-lt770
unfolding put_reply put_bytes
returns-then-lent-lt770 c = let a = c.args in too_short (put a.request.now (draft_in a.lent.now) a.job a.frame) a.lent.now c.if-lent-lt770.true

pub returns : goal.returns
unfolding put_reply put_bytes
returns c =
    let a = c.args in
    let law = handed_back (draft_in a.lent.now) c.put.result a.lent.now c.if-lent-lt770.false in
    let is = (rw c.read_draft-old.ensures at c.put.ensures) in (
      kept _ c.hand_back.type_inv ∙ c.hand_back.ensures.0 ∙ law.0 ∙ ap (λ (made : Drafted). drafted_reply made a.lent.now) is,
      c.hand_back.ensures.1 ∙ law.1 ∙ ap (λ (made : Drafted). drafted_bytes made a.lent.now) is,
    )
