-- One bus_draft_lift or bus_draft_put is one move of the draft that the bytes say; so is every list of them.
use Prim.Native.Nat.{ℕ, zero, suc, ◌+◌, ◌*◌, ◌-◌, ◌≤◌, ◌<◌}
use Rattle.std.specs.Prelude.{◌≡◌, Bool, ◌&&◌, List, [], ◌∷◌, ◌++◌, pos, eqb}
use Rattle.std.proofs.Math.Path.{refl, ap}
use Rattle.std.proofs.Common.{sym, ◌∙◌, arith}
use Rattle.std.proofs.Math.Bool.{true, false}
use Rattle.std.proofs.lemmas.Bool.{false≢true}
use Rattle.std.proofs.Math.Logic.{⊎_elim}
use Rattle.std.proofs.Math.ListN.{length, get_or, drop, length-append, length-drop}
use Rattle.std.proofs.Math.Seq.{get_or-append-add, get_or-drop}
use Rattle.std.proofs.Math.Dec.{leb}
use borrow.Author.Tests.{le-ltb, leb-true, leb-false, eqb-true, eqb-false}
use Rattle.cursor.specs.ChoiceLaws.{lt_or_ge}
use Rattle.cursor.specs.Fields.{word_bytes}
use Rattle.cursor.specs.WordBytesLaws.{word_long}
use Rattle.draft.specs.Draft.{start}
use Rattle.draft.specs.declared.Draft.{Draft}
use Rattle.draft.specs.Numbered.{Drafted}
use Rattle.draft_moves.specs.Moves.{Move, lifts, puts, move_answer, draft_after}
use Rattle.draft_moves.specs.MoveTheorem.{moves_theorem}
use Rattle.lent.specs.Words.{words_from, words_bytes}
use Rattle.lent.specs.WordLaws.{bytes_count}
use Rattle.lent.specs.DraftBytes.{draft_in, draft_bytes}
use Rattle.bus.specs.Reply.{refused_reply, reply}
use Rattle.bus.specs.Drafts.{drafted_reply, drafted_bytes, start_reply, start_bytes, lift_reply, lift_bytes, put_reply, put_bytes, write_reply, write_buffer}
use Rattle.bus.specs.DraftLaws.{too_short, draft_refused, draft_made}
use Rattle.bus_laws.specs.Answered.{not_refused, reply_told}
use Rattle.bus_laws.specs.DraftTrip.{start_left, lift_left, put_left}
use Rattle.calls_in_c.specs.Runs.{Lending, bytes_left, Runs}
use Rattle.calls_in_c.specs.RunLaws.{Stands, OneCall, runs_all}
use Rattle.calls_in_c.specs.DraftInC.{seen_of_draft, draft_left, drafts, DraftToldInC, DraftInC}

-- the first 770 bytes decide what bytes say
module _ (a b : List ℕ) (same : (i : ℕ) → i < 770 → get_or a i 0 ≡ get_or b i 0) where
  same_words : (at n i : ℕ) → at + 2 * (i + n) ≤ 770 → words_from a at n i ≡ words_from b at n i
  unfolding words_from
  same_words at zero i h = refl
  same_words at (suc n) i h = rw (same (at + 2 * i) (omega arith), same (at + 1 + 2 * i) (omega arith), same_words at n (i + 1) (omega arith))

  same_draft : draft_in a ≡ draft_in b
  unfolding draft_in
  same_draft = rw (same 0 (omega arith), same 1 (omega arith), same_words 2 128 0 (omega arith), same_words 258 256 0 (omega arith))

-- a draft is written: as many bytes, and those behind it stay
module _ (d : Draft) (bytes : List ℕ) (room : 770 ≤ length bytes) where
  abbrev front : List ℕ
  front = word_bytes d.f ++ words_bytes d.frames 128 0

  abbrev written : List ℕ
  written = front ++ words_bytes d.loads 256 0

  all_written : length written ≡ 770
  all_written = omega (
    arith,
    length-append front (words_bytes d.loads 256 0),
    length-append (word_bytes d.f) (words_bytes d.frames 128 0),
    word_long d.f,
    bytes_count d.frames 128 0,
    bytes_count d.loads 256 0,
  )

  draft_length : length (draft_bytes d bytes) ≡ length bytes
  unfolding draft_bytes
  draft_length = omega (arith, length-append written (drop 770 bytes), all_written, length-drop 770 bytes)

  draft_kept : (i : ℕ) → 770 ≤ i → get_or (draft_bytes d bytes) i 0 ≡ get_or bytes i 0
  unfolding draft_bytes
  draft_kept i h =
      let place : i ≡ length written + (i - 770) = omega (arith, all_written, h) in
      let there : 770 + (i - 770) ≡ i = omega (arith, h) in
      ap (λ (j : ℕ). get_or (written ++ drop 770 bytes) j 0) place ∙ get_or-append-add written (drop 770 bytes) (i - 770) 0
      ∙ get_or-drop 770 bytes (i - 770) 0 ∙ ap (λ (j : ℕ). get_or bytes j 0) there

long_enough : (n : ℕ) → 770 ≤ n → leb 770 n ≡ true
long_enough n h = go (leb 770 n) refl
  where
    go : (b : Bool) → leb 770 n ≡ b → b ≡ true
    go true e = refl
    go false e = absurd (let few = leb-false 770 n e in omega (arith, few, h))

alike : (a b : List ℕ) → 770 ≤ length a → 770 ≤ length b → ((i : ℕ) → i < 770 → get_or a i 0 ≡ get_or b i 0)
    → (leb 770 (length a) ≡ leb 770 (length b)) × (draft_in a ≡ draft_in b)
alike a b long_a long_b same = (long_enough (length a) long_a ∙ sym (long_enough (length b) long_b), same_draft a b same)

module _ (request : List ℕ) where
  -- a call that gives a draft
  module _ (bytes : List ℕ) (room : 770 ≤ length bytes) (made : Drafted) where
    seen_so : drafted_reply made bytes ≡ reply made.refusal 0
    unfolding drafted_reply
    seen_so = rw (le-ltb (length bytes) 770 room)

    stands_so : draft_in (drafted_bytes made bytes) ≡ made.draft → Stands (drafts request) bytes made.draft (drafted_bytes made bytes)
    stands_so said = record {
      good = long_enough (length (drafted_bytes made bytes)) (omega (arith, go.0, room));
      said = said;
      as_long = go.0;
      kept = λ i h. go.1 i (⊎_elim (λ low. absurd (h low)) (λ far. far) (lt_or_ge i 770));
    }
      where
        go : (length (drafted_bytes made bytes) ≡ length bytes) × ((i : ℕ) → 770 ≤ i → get_or (drafted_bytes made bytes) i 0 ≡ get_or bytes i 0)
        go = case (eqb made.refusal 0) refl
          where
            case : (b : Bool) → eqb made.refusal 0 ≡ b
                → (length (drafted_bytes made bytes) ≡ length bytes) × ((i : ℕ) → 770 ≤ i → get_or (drafted_bytes made bytes) i 0 ≡ get_or bytes i 0)
            case true e = rw (← (draft_made made bytes room (eqb-true made.refusal 0 e)).1) (draft_length made.draft bytes room, draft_kept made.draft bytes room)
            case false e = rw (← (draft_refused made bytes room (eqb-false made.refusal 0 e)).1) (refl, λ i h. refl)

  one_made : (m : Move) (bytes : List ℕ) → leb 770 (length bytes) ≡ true
      → (seen_of_draft request m bytes ≡ reply (move_answer request (draft_in bytes) m).refusal 0)
      × Stands (drafts request) bytes (draft_after request (draft_in bytes) (m ∷ [])) (draft_left request m bytes)
  unfolding draft_after lift_reply lift_bytes put_reply put_bytes
  one_made (lifts y) bytes long =
      let room = leb-true 770 (length bytes) long in
      (seen_so bytes room _, stands_so bytes room (move_answer request (draft_in bytes) (lifts y)) (lift_left bytes room request y))
  one_made (puts y k) bytes long =
      let room = leb-true 770 (length bytes) long in
      (seen_so bytes room _, stands_so bytes room (move_answer request (draft_in bytes) (puts y k)) (put_left bytes room request y k))

  sent_back : (m : Move) (bytes : List ℕ) → leb 770 (length bytes) && true ≡ false → (seen_of_draft request m bytes ≡ refused_reply 99) × (draft_left request m bytes ≡ bytes)
  unfolding lift_reply lift_bytes put_reply put_bytes
  sent_back m bytes short = go m
    where
      few : (b : Bool) → leb 770 (length bytes) ≡ b → b && true ≡ false → length bytes < 770
      few true e q = absurd (false≢true (sym q))
      few false e q = leb-false 770 (length bytes) e

      back : (made : Drafted) → (drafted_reply made bytes ≡ refused_reply 99) × (drafted_bytes made bytes ≡ bytes)
      back made = let law = too_short made bytes (few (leb 770 (length bytes)) refl short) in (sym law.0, sym law.1)

      go : (m : Move) → (seen_of_draft request m bytes ≡ refused_reply 99) × (draft_left request m bytes ≡ bytes)
      go (lifts y) = back (move_answer request (draft_in bytes) (lifts y))
      go (puts y k) = back (move_answer request (draft_in bytes) (puts y k))

  one_call : OneCall (drafts request)
  unfolding draft_after
  one_call = record {
    used_few = λ i h. h;
    long = λ bytes good. leb-true 770 (length bytes) good;
    alike = alike;
    refused = sent_back;
    made = λ m bytes long fits. one_made m bytes long;
    none = λ d. refl;
    more = λ d m ms. refl;
  }

-- a draft that bus_draft_start made
module _ (request table bytes : List ℕ) (made : start_reply request table bytes ≡ pos 0) where
  room : 770 ≤ length bytes
  unfolding start_reply
  room = ⊎_elim (λ h. absurd (not_refused 98 0 ((too_short (start request table) bytes h).0 ∙ made))) (λ h. h) (lt_or_ge (length bytes) 770)

  none : (start request table).refusal ≡ 0
  unfolding start_reply
  none = (reply_told (start request table).refusal 0 0 (sym (seen_so request bytes room (start request table)) ∙ made)).0

  said : draft_in (start_bytes request table bytes) ≡ (start request table).draft
  said = start_left bytes room request table none

  good : leb 770 (length (start_bytes request table bytes)) ≡ true
  unfolding start_bytes
  good = (stands_so request bytes room (start request table) said).good

  told : (moves : List (Lending Move)) → DraftToldInC request table bytes moves
  unfolding write_reply write_buffer
  told moves =
      let run : Runs (drafts request) (start_bytes request table bytes) moves = (runs_all (drafts request) (one_call request) (start_bytes request table bytes) moves).0 good in
      let left = bytes_left (drafts request) (start_bytes request table bytes) moves in
      let long = leb-true 770 (length left) run.still_good in
      record {
        runs = run;
        from_start = said;
        writes = λ out. rw (le-ltb (length left) 770 long, run.same_said, said) (refl, refl);
      }

-- THE THEOREM: every list of bus_draft_lift and bus_draft_put, and bus_draft_write after it.
pub draft_in_c : DraftInC
draft_in_c = (
  λ request. runs_all (drafts request) (one_call request),
  λ request table bytes are made. (moves_theorem request table are (none request table bytes made), told request table bytes made),
)
