-- What each call on a draft answers and what it leaves in the buffers that it was lent.
use Rattle.std.specs.Prelude.{ℕ, List, cond, ℤ, pos, length, ltb, Result, Ok, Err}
use Rattle.refusal.specs.Refusal.{number_of}
use Rattle.refusal.specs.declared.Refusal.{Refusal}
use Rattle.plan_writer.specs.Outcome.{outcome_answer, outcome_buffer}
use Rattle.draft.specs.Draft.{start, lift, put, write}
use Rattle.draft.specs.Numbered.{Drafted}
use Rattle.draft.specs.declared.Draft.{Draft}
use Rattle.lent.specs.DraftBytes.{draft_in, draft_bytes}
use Rattle.bus.specs.Reply.{refused_reply, reply, written_reply, after}

-- a call that gives a draft: 0, or its number; 99 for a buffer below 770 bytes, before every other number
unfoldable pub drafted_reply : Drafted → List ℕ → ℤ
drafted_reply made draft = cond (ltb (length draft) 770) (refused_reply 99) (reply made.refusal 0)

-- the lent draft after it: a refused call leaves it as it was
unfoldable pub drafted_bytes : Drafted → List ℕ → List ℕ
drafted_bytes made draft = cond (ltb (length draft) 770) draft (after made.refusal (draft_bytes made.draft draft) draft)

-- the same of a draft that is made or refused, for a buffer that is long enough
abbrev pub handed_reply : Result Draft Refusal → ℤ
handed_reply (Ok d) = pos 0
handed_reply (Err e) = refused_reply (number_of e)

abbrev pub handed_bytes : Result Draft Refusal → List ℕ → List ℕ
handed_bytes (Ok d) draft = draft_bytes d draft
handed_bytes (Err e) draft = draft

-- bus_draft_start
unfoldable pub start_reply : List ℕ → List ℕ → List ℕ → ℤ
start_reply request table draft = drafted_reply (start request table) draft

unfoldable pub start_bytes : List ℕ → List ℕ → List ℕ → List ℕ
start_bytes request table draft = drafted_bytes (start request table) draft

-- bus_draft_lift
unfoldable pub lift_reply : List ℕ → ℕ → List ℕ → ℤ
lift_reply request job draft = drafted_reply (lift request (draft_in draft) job) draft

unfoldable pub lift_bytes : List ℕ → ℕ → List ℕ → List ℕ
lift_bytes request job draft = drafted_bytes (lift request (draft_in draft) job) draft

-- bus_draft_put
unfoldable pub put_reply : List ℕ → ℕ → ℕ → List ℕ → ℤ
put_reply request job frame draft = drafted_reply (put request (draft_in draft) job frame) draft

unfoldable pub put_bytes : List ℕ → ℕ → ℕ → List ℕ → List ℕ
put_bytes request job frame draft = drafted_bytes (put request (draft_in draft) job frame) draft

-- bus_draft_write: the length of the table, or its number
unfoldable pub write_reply : List ℕ → List ℕ → List ℕ → ℤ
write_reply request draft out = cond (ltb (length draft) 770) (refused_reply 99) (written_reply (outcome_answer (write request (draft_in draft)) out))

unfoldable pub write_buffer : List ℕ → List ℕ → List ℕ → List ℕ
write_buffer request draft out = cond (ltb (length draft) 770) out (outcome_buffer (write request (draft_in draft)) out)
