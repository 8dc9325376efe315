-- Each way out of a call on a draft, as its definition has it.
use Rattle.std.specs.Prelude.{ℕ, ◌≤◌, ◌<◌, ◌≡◌, List, ℤ, pos, length, Result, Ok, Err}
use Rattle.std.proofs.Common.{ap, refl, inl, inr, arith}
use borrow.Author.Tests.{lt-ltb, le-ltb}
use Rattle.refusal.specs.declared.Refusal.{Refusal}
use Rattle.request.specs.SectionLaws.{no_zero}
use Rattle.cursor.specs.WrittenLaws.{written_most}
use Rattle.cursor.specs.Written.{Written}
use Rattle.table.specs.Table.{encode}
use Rattle.model.specs.WithinLaws.{within_good}
use Rattle.model.specs.Described.{plan_table}
use Rattle.model.specs.PlanTable.{plan_table_length}
use Rattle.plan_writer.specs.Outcome.{outcome_answer, outcome_buffer}
use Rattle.plan_writer.specs.OutcomeLaws.{refused_answer, table_answer}
use Rattle.draft.specs.Draft.{write, frames_held}
use Rattle.draft.specs.WriteLaws.{WriteComes, write_comes_to}
use Rattle.draft.specs.declared.Draft.{Draft}
use Rattle.draft.specs.Numbered.{Drafted, drafted_said}
use Rattle.lent.specs.DraftBytes.{draft_in, draft_bytes}
use Rattle.bus.specs.Reply.{refused_reply, written_reply}
use Rattle.bus.specs.ReplyLaws.{reply_refused, reply_value, after_refusal, after_value}
use Rattle.bus.specs.Drafts.{handed_reply, handed_bytes, drafted_reply, drafted_bytes, write_reply, write_buffer}

-- a call that gives a draft
module _ (made : Drafted) (draft : List ℕ) where
  abbrev pub Drafts : ℤ → List ℕ → Type 0
  Drafts z draft' = (z ≡ drafted_reply made draft) × (draft' ≡ drafted_bytes made draft)

  pub too_short : length draft < 770 → Drafts (refused_reply 99) draft
  unfolding drafted_reply drafted_bytes
  too_short h = let e = lt-ltb (length draft) 770 h in (rw e, rw e)

  module _ (room : 770 ≤ length draft) where
    pub draft_refused : (made.refusal ≡ 0 → ⊥) → Drafts (refused_reply made.refusal) draft
    unfolding drafted_reply drafted_bytes
    draft_refused h = rw (le-ltb (length draft) 770 room) (
      reply_refused made.refusal 0 h,
      after_refusal made.refusal (draft_bytes made.draft draft) draft h,
    )

    pub draft_made : made.refusal ≡ 0 → Drafts (pos 0) (draft_bytes made.draft draft)
    unfolding drafted_reply drafted_bytes
    draft_made h = rw (le-ltb (length draft) 770 room) (
      reply_value made.refusal 0 h,
      after_value made.refusal (draft_bytes made.draft draft) draft h,
    )

-- a draft handed back: what the call `made` says of it, of any draft `old` that its caller had
pub handed_back : (old : Draft) (made : Result Draft Refusal) (draft : List ℕ) → 770 ≤ length draft
    → Drafts (drafted_said old made) draft (handed_reply made) (handed_bytes made draft)
handed_back old (Ok d) draft room = draft_made (drafted_said old (Ok d)) draft room refl
handed_back old (Err e) draft room = draft_refused (drafted_said old (Err e)) draft room (no_zero e)

-- bus_draft_write
module _ (request draft out : List ℕ) where
  abbrev pub Writes : ℤ → List ℕ → Type 0
  Writes z out' = (z ≡ write_reply request draft out) × (out' ≡ write_buffer request draft out)

  pub write_short : length draft < 770 → Writes (refused_reply 99) out
  unfolding write_reply write_buffer
  write_short h = let e = lt-ltb (length draft) 770 h in (rw e, rw e)

  module _ (room : 770 ≤ length draft) (w : Written) (e : w ≡ outcome_answer (write request (draft_in draft)) out) where
    pub write_answered : written_reply w ≡ write_reply request draft out
    unfolding write_reply
    write_answered = rw (le-ltb (length draft) 770 room) (ap written_reply e)

  pub write_buffer_lem : 770 ≤ length draft → outcome_buffer (write request (draft_in draft)) out ≡ write_buffer request draft out
  unfolding write_buffer
  write_buffer_lem room = rw (le-ltb (length draft) 770 room)

-- the length is small
pub write_few : (request : List ℕ) (d : Draft) (out : List ℕ) → (outcome_answer (write request d) out).length < 65536
write_few request d out = go (write_comes_to request d)
  where
    go : WriteComes request d → (outcome_answer (write request d) out).length < 65536
    go (inl p) =
        let good = within_good request p.x p.within in
        let frames = frames_held p.x d in
        let table = plan_table p.x d.f frames in
        let size = plan_table_length p.x good d.f frames p.is_plan in
        rw (p.table_is, table_answer table out) (omega (arith, written_most (encode table) out, size, p.is_plan.few_rows, good.few_jobs))
    go (inr (number, e)) = rw (e, refused_answer number out) (omega arith)
