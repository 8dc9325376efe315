-- Lists of bus_draft_lift and bus_draft_put from C, on the bytes of a draft, and bus_draft_write after them: they answer as the calls on drafts do. All get one
-- request.
use Rattle.std.specs.Prelude.{ℕ, ◌<◌, ◌≡◌, true, List, ℤ, pos, length, leb}
use Rattle.cursor.specs.Fields.{Bytes}
use Rattle.draft.specs.Draft.{start}
use Rattle.draft.specs.declared.Draft.{Draft}
use Rattle.draft_moves.specs.Exactly.{write_answer, buffer_after}
use Rattle.draft_moves.specs.Moves.{Move, lifts, puts, move_answer, draft_after, Draftable}
use Rattle.lent.specs.DraftBytes.{draft_in}
use Rattle.bus.specs.Reply.{refused_reply, reply, written_reply}
use Rattle.bus.specs.Drafts.{start_reply, start_bytes, lift_reply, lift_bytes, put_reply, put_bytes, write_reply, write_buffer}
use Rattle.calls_in_c.specs.Runs.{Lending, Kind, bytes_left, fed, Runs, RunsAll}

module _ (request : List ℕ) where
  -- the int32_t
  abbrev pub seen_of_draft : Move → List ℕ → ℤ
  seen_of_draft (lifts y) bytes = lift_reply request y bytes
  seen_of_draft (puts y k) bytes = put_reply request y k bytes

  abbrev pub draft_left : Move → List ℕ → List ℕ
  draft_left (lifts y) bytes = lift_bytes request y bytes
  draft_left (puts y k) bytes = put_bytes request y k bytes

  -- any 770 bytes are a draft's
  abbrev pub drafts : Kind Draft Move ℤ Move
  drafts = record {
    size = 770;
    Used = λ i. i < 770;
    good = λ bytes. leb 770 (length bytes);
    says = draft_in;
    seen = seen_of_draft;
    leaves = draft_left;
    fits = λ m. true;
    sent_back = λ m. refused_reply 99;
    asked = λ m. m;
    shown = λ m d. reply (move_answer request d m).refusal 0;
    final = draft_after request;
  }

  -- a list of moves on a draft that bus_draft_start made
  module _ (table bytes : List ℕ) (moves : List (Lending Move)) where
    abbrev pub draft_now : Draft
    draft_now = draft_after request (start request table).draft (fed drafts moves)

    pub record DraftToldInC : Type 0 where
      pub runs : Runs drafts (start_bytes request table bytes) moves
      pub from_start : draft_in (start_bytes request table bytes) ≡ (start request table).draft
      -- so bus_draft_write then writes the draft after the moves below
      pub writes : (out : List ℕ) → let left = bytes_left drafts (start_bytes request table bytes) moves in
          (write_reply request left out ≡ written_reply (write_answer request draft_now out)) × (write_buffer request left out ≡ buffer_after request draft_now out)

-- of all bytes; and of a draft to which bus_draft_start answered 0, of which the theorem over lists of moves holds
abbrev pub DraftInC : Type 0
DraftInC = ((request : List ℕ) → RunsAll (drafts request))
    × ((request table bytes : List ℕ) → Bytes table → start_reply request table bytes ≡ pos 0
    → Draftable request table × ((moves : List (Lending Move)) → DraftToldInC request table bytes moves))
