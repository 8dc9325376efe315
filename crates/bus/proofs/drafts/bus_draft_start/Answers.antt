-- The draft of the table is handed back; a buffer that is too short comes first.
use Rattle.std.proofs.Common.{ap, ◌∙◌}
use Rattle.draft.specs.Draft.{no_draft, start}
use Rattle.draft.specs.Numbered.{Drafted}
use Rattle.bus.specs.Drafts.{drafted_reply, drafted_bytes, start_reply, start_bytes}
use Rattle.bus.specs.ReplyLaws.{kept}
use Rattle.bus.specs.DraftLaws.{too_short, handed_back}
use Rattle.bus.proofs.drafts.bus_draft_start.Goals as goal

pub returns-then-lent-lt770 : goal.returns-then-lent-lt770
unfolding start_reply start_bytes
returns-then-lent-lt770 c = let a = c.args in too_short (start a.request.now a.table.now) a.lent.now c.if-lent-lt770.true

pub returns : goal.returns
unfolding start_reply start_bytes
returns c =
    let a = c.args in
    let law = handed_back no_draft c.start.result a.lent.now c.if-lent-lt770.false in
    let is = c.start.ensures in (
      kept _ c.hand_back.type_inv ∙ c.hand_back.ensures.0 ∙ law.0 ∙ ap (λ (made : Drafted). drafted_reply made a.lent.now) is,
      c.hand_back.ensures.1 ∙ law.1 ∙ ap (λ (made : Drafted). drafted_bytes made a.lent.now) is,
    )
