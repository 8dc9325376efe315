-- The bytes of a draft are read as they were written, both ways. So the calls from C make of the drafts in the lent bytes what the calls on drafts make of them.
use Rattle.std.specs.Prelude.{ℕ, ◌≤◌, ◌≡◌, refl, Bool, true, false, List, length, eqb}
use Rattle.std.proofs.Common.{sym, ap, ◌∙◌, inl, inr, eqb-true}
use Rattle.std.proofs.lemmas.Bool.{eqb-false}
use Rattle.draft.specs.Draft.{start, lift, put}
use Rattle.draft.specs.Kept.{Sized}
use Rattle.draft.specs.SizeLaws.{CameTo, lift_came, put_came, came_sized, start_sized}
use Rattle.draft.specs.Numbered.{Drafted}
use Rattle.lent.specs.DraftBytes.{draft_in}
use Rattle.lent.specs.DraftBytesBack.{draft_read, draft_sized, draft_back}
use Rattle.bus.specs.Drafts.{drafted_bytes, start_bytes, lift_bytes, put_bytes}
use Rattle.bus.specs.DraftLaws.{draft_refused, draft_made}
use Rattle.bus_laws.specs.Trips.{DraftRoundTrip, DraftsRead}

-- What a call from C leaves in the lent bytes is read as the draft that the call gives, refused or not
module _ (bytes : List ℕ) (room : 770 ≤ length bytes) where
  left_read : (made : Drafted) → Sized made.draft → made.refusal ≡ 0 → draft_in (drafted_bytes made bytes) ≡ made.draft
  left_read made sized none = ap draft_in (sym (draft_made made bytes room none).1) ∙ draft_read made.draft bytes sized

  came_read : (made : Drafted) → CameTo (draft_in bytes) made → draft_in (drafted_bytes made bytes) ≡ made.draft
  came_read made came = go (eqb made.refusal 0) refl came
    where
      sized : Sized made.draft
      sized = came_sized (draft_in bytes) made (draft_sized bytes) came

      go : (b : Bool) → eqb made.refusal 0 ≡ b → CameTo (draft_in bytes) made → draft_in (drafted_bytes made bytes) ≡ made.draft
      go true e came = left_read made sized (eqb-true made.refusal 0 e)
      go false e (inl (number, is)) =
          ap draft_in (sym (draft_refused made bytes room (eqb-false made.refusal 0 e)).1) ∙ sym (ap (λ (m : Drafted). m.draft) is)
      go false e (inr (y, k, row, load, is)) = absurd (eqb-false made.refusal 0 e (ap (λ (m : Drafted). m.refusal) is))

  pub start_left : (request table : List ℕ) → (start request table).refusal ≡ 0 → draft_in (start_bytes request table bytes) ≡ (start request table).draft
  unfolding start_bytes
  start_left request table none = left_read (start request table) (start_sized request table) none

  pub lift_left : (request : List ℕ) (job : ℕ) → draft_in (lift_bytes request job bytes) ≡ (lift request (draft_in bytes) job).draft
  unfolding lift_bytes
  lift_left request job = came_read (lift request (draft_in bytes) job) (lift_came (draft_in bytes) request job)

  pub put_left : (request : List ℕ) (job frame : ℕ) → draft_in (put_bytes request job frame bytes) ≡ (put request (draft_in bytes) job frame).draft
  unfolding put_bytes
  put_left request job frame = came_read (put request (draft_in bytes) job frame) (put_came (draft_in bytes) request job frame)

pub draft_round_trip : DraftRoundTrip
draft_round_trip d bytes = (draft_read d bytes, draft_back bytes)

pub drafts_read : DraftsRead
drafts_read bytes request table job frame room =
    record { started = start_left bytes room request table; lifted = lift_left bytes room request job; put_there = put_left bytes room request job frame }
