-- The lent draft is read, and the draft after the lift is handed back.
use Rattle.std.proofs.Common.{ap, ◌∙◌}
use Rattle.draft.specs.Draft.{lift}
use Rattle.lent.specs.DraftBytes.{draft_in}
use Rattle.draft.specs.Numbered.{Drafted}
use Rattle.bus.specs.Drafts.{drafted_reply, drafted_bytes, lift_reply, lift_bytes}
use Rattle.bus.specs.ReplyLaws.{kept}
use Rattle.bus.specs.DraftLaws.{too_short, handed_back}
use Rattle.bus.proofs.drafts.bus_draft_lift.Goals as goal

pub returns-then-lent-lt770 : goal.returns-then-lent-lt770
unfolding lift_reply lift_bytes
returns-then-lent-lt770 c = let a = c.args in too_short (lift a.request.now (draft_in a.lent.now) a.job) a.lent.now c.if-lent-lt770.true

pub returns : goal.returns
unfolding lift_reply lift_bytes
returns c =
    let a = c.args in
    let law = handed_back (draft_in a.lent.now) c.lift.result a.lent.now c.if-lent-lt770.false in
    let is = (rw c.read_draft-old.ensures at c.lift.ensures) in (
      kept _ c.hand_back.type_inv ∙ c.hand_back.ensures.0 ∙ law.0 ∙ ap (λ (made : Drafted). drafted_reply made a.lent.now) is,
      c.hand_back.ensures.1 ∙ law.1 ∙ ap (λ (made : Drafted). drafted_bytes made a.lent.now) is,
    )
