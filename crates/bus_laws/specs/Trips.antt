-- The bytes of a state and of a draft, both ways: what was written is read again, and bytes are those that what they say is written as.
use Rattle.std.specs.Prelude.{ℕ, ◌≤◌, ◌<◌, ◌≡◌, true, List, length, get_or}
use Rattle.cursor.specs.Fields.{Bytes}
use Rattle.dispatcher.specs.declared.State.{State}
use Rattle.draft.specs.Draft.{start, lift, put}
use Rattle.draft.specs.Kept.{Sized}
use Rattle.draft.specs.declared.Draft.{Draft}
use Rattle.lent.specs.State.{is_state, count_in, state_of, state_bytes}
use Rattle.lent.specs.DraftBytes.{draft_in, draft_bytes}
use Rattle.bus.specs.Drafts.{start_bytes, lift_bytes, put_bytes}

-- each count stands in its two bytes
abbrev pub StateRoundTrip : Type 0
StateRoundTrip = (s : State) (bytes : List ℕ) → (length s.counts ≡ 16 → state_of (state_bytes s bytes) ≡ s)
    × ((i : ℕ) → i < 16 → count_in (state_bytes s bytes) i ≡ get_or s.counts i 0)
    × (is_state bytes ≡ true → Bytes bytes → state_bytes (state_of bytes) bytes ≡ bytes)

abbrev pub DraftRoundTrip : Type 0
DraftRoundTrip = (d : Draft) (bytes : List ℕ) → (Sized d → draft_in (draft_bytes d bytes) ≡ d)
    × (770 ≤ length bytes → Bytes bytes → draft_bytes (draft_in bytes) bytes ≡ bytes)

-- what a call from C leaves in the lent bytes is read as the draft that the call below it gives, refused or not
pub record DraftsLeft (bytes request table : List ℕ) (job frame : ℕ) : Type 0 where
  pub started : (start request table).refusal ≡ 0 → draft_in (start_bytes request table bytes) ≡ (start request table).draft
  pub lifted : draft_in (lift_bytes request job bytes) ≡ (lift request (draft_in bytes) job).draft
  pub put_there : draft_in (put_bytes request job frame bytes) ≡ (put request (draft_in bytes) job frame).draft

abbrev pub DraftsRead : Type 0
DraftsRead = (bytes request table : List ℕ) (job frame : ℕ) → 770 ≤ length bytes → DraftsLeft bytes request table job frame
