-- Starting, exactly (StartTheorem): the check's verdict decides. An accepted table's plan is laid into the arrays, so the draft holds that plan; and written at
-- once it is the table's own bytes (SameBytesTheorem), since a table that describes a plan is the plan's table.
use Rattle.std.specs.Prelude.{ℕ, ◌≤◌, ◌<◌, ◌≡◌, List, length, take, drop}
use Rattle.std.proofs.Math.Path.{refl, sym, ap, subst}
use Rattle.std.proofs.Common.{ap₂, subst₂, ◌∙◌, arith, ext_get_or}
use Rattle.std.proofs.Math.ListN.{get_or-eq_default}
use Rattle.std.proofs.Math.Seq.{take-append_seam}
use Rattle.cursor.specs.Padded.{padded, firsts}
use Rattle.cursor.specs.PaddedLaws.{padded_length, get_or_padded_any, firsts_length, get_or_firsts, firsts_padded}
use Rattle.cursor.specs.Fields.{Bytes}
use Rattle.cycle.specs.Cycle.{Cycle, cycle, no_cycle, cycle_of}
use Rattle.table.specs.Table.{Table, Decoded, decode, encode}
use Rattle.table.specs.TableBytesLaws.{decodes_says}
use Rattle.model.specs.Plan.{Instance, rows_at, costs, IsPlan}
use Rattle.model.specs.Good.{Good}
use Rattle.model.specs.Within.{Within}
use Rattle.model.specs.WithinLaws.{within_good}
use Rattle.model.specs.Described.{Describes, plan_table}
use Rattle.model.specs.PlanTable.{describes_is, plan_table_length}
use Rattle.checker.specs.Checked.{Verdict, accepted, refusal, verdict_number, checked_by, checked, check_number}
use Rattle.checker.specs.Accepts.{accepts_described}
use Rattle.checker.specs.Verdicts.{plan_read_lem, refusal_number}
use Rattle.draft.specs.Draft.{frames_held, no_draft, loads_of, draft_of, start_of, start}
use Rattle.draft.specs.Kept.{Sound}
use Rattle.draft.specs.MoveLaws.{load_there, load_behind, loads_length}
use Rattle.draft.specs.declared.Draft.{Draft}
use Rattle.draft.specs.Numbered.{Drafted}
use Rattle.draft_moves.specs.Exactly.{AllPlaced, DraftOf, StartedFrom, StartTheorem, write_answer, buffer_after, size_of}
use Rattle.draft_moves.specs.Moves.{SameBytesTheorem}
use Rattle.draft_moves.specs.WrittenLaws.{held_plan, write_zero, write_out}

-- the number, and the draft of a refusal
by_check : (c : Cycle) (bytes : Decoded)
    → ((start_of c (checked c bytes)).refusal ≡ verdict_number (checked c bytes))
    × ((verdict_number (checked c bytes) ≡ 0 → ⊥) → (start_of c (checked c bytes)).draft ≡ no_draft)
unfolding checked_by
by_check (no_cycle number) bytes = (refl, λ ne. refl)
by_check (cycle tasks pairs g h jobs) bytes = go (checked (cycle tasks pairs g h jobs) bytes)
  where
    go : (v : Verdict) → ((start_of (cycle tasks pairs g h jobs) v).refusal ≡ verdict_number v)
        × ((verdict_number v ≡ 0 → ⊥) → (start_of (cycle tasks pairs g h jobs) v).draft ≡ no_draft)
    go (accepted f frames) = (refl, λ ne. absurd (ne refl))
    go (refusal number) = (refl, λ ne. refl)

-- the draft of a plan
module _ (x : Instance) (g : Good x) (f : ℕ) (frames : List ℕ) (v : IsPlan x f frames) where
  few : length frames ≤ 128
  few = omega (arith, v.all, g.few_jobs)

  pub is_draft_of : DraftOf x f frames (draft_of x f frames)
  unfolding draft_of
  is_draft_of = record {
    f_is = refl;
    sized = record { frames_are = padded_length 128 0 frames few; loads_are = loads_length (rows_at x f) (costs x) frames v.few_rows };
    frames_are = λ y h. get_or_padded_any 128 0 frames y;
    unused_jobs = λ y h. get_or_padded_any 128 0 frames y ∙ get_or-eq_default frames 0 {n = y} (omega (arith, v.all, h));
    loads_are = λ r h. get_or_padded_any 256 0 (loads_of (rows_at x f) (costs x) frames) r ∙ load_there (rows_at x f) (costs x) frames r h;
    unused_rows = λ r h. get_or_padded_any 256 0 (loads_of (rows_at x f) (costs x) frames) r ∙ load_behind (rows_at x f) (costs x) frames r h;
  }

  held : frames_held x (draft_of x f frames) ≡ frames
  unfolding draft_of
  held = ap (λ (n : ℕ). firsts n 0 (padded 128 0 frames)) (sym v.all) ∙ firsts_padded 128 0 frames

  pub draft_sound : (request : List ℕ) → Within request x → Sound x (draft_of x f frames) × AllPlaced x (draft_of x f frames)
  unfolding draft_of
  draft_sound request within =
      held_plan request x within (draft_of x f frames) is_draft_of.sized (rw held v, λ r low. is_draft_of.loads_are r low ∙ rw held)

module _ (request bytes : List ℕ) (are : Bytes bytes) where
  pub started_from : check_number request bytes ≡ 0 → StartedFrom request bytes (start request bytes).draft
  unfolding start
  started_from z = go (checked (cycle_of request) (decode bytes)) refl
    where
      go : (verdict : Verdict) → checked (cycle_of request) (decode bytes) ≡ verdict
          → StartedFrom request bytes (start_of (cycle_of request) (checked (cycle_of request) (decode bytes))).draft
      go (refusal n) is = absurd (omega (arith, (refusal_number request bytes n is).0, sym (ap verdict_number is) ∙ z))
      go (accepted f frames) is =
          let p = plan_read_lem request bytes f frames is in
          let x = p.x in
          let t = p.t in
          let verdict : checked (cycle_of request) (decode bytes) ≡ accepted t.f frames
          = is ∙ ap (λ (k : ℕ). accepted k frames) (sym p.describes.same_f) in
          let (v, describes) = (accepts_described request bytes x t p.within p.read t.f frames).0 verdict in
          let begun : (start_of (cycle_of request) (checked (cycle_of request) (decode bytes))).draft ≡ draft_of x t.f frames
          = ap (λ (s : Drafted). s.draft) (ap₂ start_of p.within verdict) in
          let good = within_good request x p.within in
          let kept = draft_sound x good t.f frames v request p.within in
          record {
            x = x;
            within = p.within;
            t = t;
            says = decodes_says bytes t are p.read;
            frames = frames;
            is_plan = v;
            describes = describes;
            is_draft_of = subst (DraftOf x t.f frames) (sym begun) (is_draft_of x good t.f frames v);
            sound = subst (Sound x) (sym begun) kept.0;
            all_placed = subst (AllPlaced x) (sym begun) kept.1;
          }

pub start_theorem : StartTheorem
unfolding start
start_theorem request bytes are =
    let by = by_check (cycle_of request) (decode bytes) in
    record { as_the_check = by.0; refused = by.1; started = started_from request bytes are }

-- Written as it was started
module _ (request bytes : List ℕ) (d : Draft) (s : StartedFrom request bytes d) where
  abbrev plan : Table
  plan = plan_table s.x s.t.f s.frames

  good_there : Good s.x
  good_there = within_good request s.x s.within

  own_table : encode plan ≡ bytes
  own_table = ap encode (sym (describes_is s.x good_there s.t.f s.frames s.is_plan s.t s.describes)) ∙ s.says.bytes_are

  f_same : d.f ≡ s.t.f
  f_same = s.is_draft_of.f_is

  own_size : size_of s.x d ≡ length bytes
  own_size =
      let size = plan_table_length s.x good_there s.t.f s.frames s.is_plan in
      rw (f_same, ← own_table) (sym size)

  frames_same : frames_held s.x d ≡ s.frames
  frames_same =
      let count = firsts_length 0 d.frames (length s.x.jobs) in
      ext_get_or 0 (frames_held s.x d) s.frames (count ∙ sym s.is_plan.all)
      (λ y h. let known : y < length s.x.jobs = omega (arith, count, h) in
      get_or_firsts 0 d.frames (length s.x.jobs) y known ∙ s.is_draft_of.frames_are y known)

  same_plan : (t : Table) → Describes s.x d.f (frames_held s.x d) t → encode t ≡ bytes
  same_plan t h =
      ap encode (describes_is s.x good_there s.t.f s.frames s.is_plan t
      (subst₂ (λ (f : ℕ) (frames : List ℕ). Describes s.x f frames t) f_same frames_same h)) ∙ own_table

  pub written_back : (out : List ℕ) → length bytes ≤ length out
      → ((write_answer request d out).refusal ≡ 0) × (take (write_answer request d out).length (buffer_after request d out) ≡ bytes)
  written_back out room =
      let sized = s.is_draft_of.sized in
      let zero = (write_zero request s.x s.within d sized out).1 (s.sound, s.all_placed, omega (arith, own_size, room)) in
      let w = write_out request s.x s.within d sized out zero in
      let front : take (write_answer request d out).length (buffer_after request d out) ≡ encode w.t
      = rw (w.length_is, w.bytes_are, ← w.encoded_length) (take-append_seam (encode w.t) (drop (length (encode w.t)) out)) in
      (zero, front ∙ same_plan w.t w.describes)

pub same_bytes : SameBytesTheorem
same_bytes request bytes are z =
    let exact = start_theorem request bytes are in
    written_back request bytes (start request bytes).draft (exact.started (sym exact.as_the_check ∙ z))
