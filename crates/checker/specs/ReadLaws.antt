-- The check's steps on the answers of the readers: what they tell of the request and the table, and what is answered from there.
use Rattle.std.specs.Prelude.{ℕ, ◌≤◌, min, ◌≡◌, Bool, true, false, cond, ◌&&◌, Option, Some, None, Result, Ok, Err, List, length, eqb}
use Rattle.refusal.specs.Refusal.{number_of}
use Rattle.refusal.specs.declared.Refusal.{Refusal}
use Rattle.std.proofs.Math.Path.{refl, ap}
use Rattle.std.proofs.Common.{sym, ◌∙◌, arith, eq-eqb, ne_eqb}
use Rattle.std.proofs.Math.ListN.{length-map}
use Rattle.cursor.specs.Fields.{Bytes}
use Rattle.request.specs.SectionLaws.{no_zero}
use Rattle.cursor.specs.ParsedLaws.{never}
use Rattle.cursor.specs.Padded.{padded, firsts}
use Rattle.cursor.specs.PaddedLaws.{firsts_length, firsts_padded}
use Rattle.cycle.specs.Cycle.{no_cycle, cycle_of}
use Rattle.cycle.specs.Answers.{cycle_answered}
use Rattle.cycle.specs.Planned.{no_job}
use Rattle.cycle.specs.declared.Job.{Job}
use Rattle.cycle.specs.declared.Cycle.{Cycle}
use Rattle.table.specs.Table.{Table, Decoded, table, malformed, decode}
use Rattle.table.specs.Answers as answered
use Rattle.table.specs.Answers.{sizes_of, sizes_said}
use Rattle.table.specs.Inverse.{decode_wellformed}
use Rattle.table.specs.declared.Sizes.{Sizes}
use Rattle.model.specs.Plausible.{plausible}
use Rattle.model.specs.Answers.{instance_of}
use Rattle.plan_rules.specs.Every.{every}
use Rattle.plan_rules.specs.Rules.{rules_right}
use Rattle.checker.specs.Checked.{frames_in, frame_in, is_placed, rows_kept, entries_right, Verdict, accepted, refusal, plan_of, judged_by, judged, checked_by, checked, verdict_number, check_number}
use Rattle.checker.specs.Answers.{frames_answer, read_answer, cycle_in, rows_of}
use Rattle.checker.specs.WalkLaws.{rows_count, rows_in_bytes}
use Rattle.checker.specs.Numbered.{Read, read_said, found_said}
use Rattle.checker.specs.declared.Read as code

-- what the reader of the frames answers
none_read : (b : Bool) (frames : List ℕ) → None ≡ frames_answer b frames → b ≡ false
none_read true frames e = absurd (never (cc))
none_read false frames e = refl

some_read : (b : Bool) (frames places : List ℕ) → Some places ≡ frames_answer b frames → (b ≡ true) × (places ≡ padded 128 0 frames)
some_read true frames places e = (refl, cc)
some_read false frames places e = absurd (never (cc))

-- A cycle in its arrays.
module _ (c : Cycle) (few_jobs : c.count ≤ 128) where
  abbrev pub jobs_of : List Job
  jobs_of = firsts c.count no_job c.jobs

  count_is : min c.count 128 ≡ c.count
  count_is = omega (arith, few_jobs)

  jobs_count : length jobs_of ≡ c.count
  jobs_count = firsts_length no_job c.jobs c.count

  module _ (s : List ℕ) (height f : ℕ) where
    abbrev pub frames_of : List ℕ
    frames_of = frames_in (rows_of s height) jobs_of

    frames_count : length frames_of ≡ c.count
    unfolding frames_in
    frames_count = length-map jobs_of (frame_in (rows_of s height)) ∙ jobs_count

    -- the frames are those in the places
    frames_are : (places : List ℕ) → places ≡ padded 128 0 frames_of → firsts c.count 0 places ≡ frames_of
    frames_are places e = rw e (rw frames_count at (firsts_padded 128 0 frames_of))

    -- every job has a place, and every entry is right
    abbrev pub all_placed : Bool
    all_placed = every c.count (is_placed (rows_of s height) jobs_of)

    abbrev entries_kept : List ℕ → Bool
    entries_kept frames = rows_kept jobs_of frames c.count height 0 (rows_of s height)

    plan_is : plan_of (instance_of c) f (rows_of s height)
        ≡ cond ((all_placed && entries_kept frames_of) && rules_right (instance_of c) height f frames_of) (accepted f frames_of) (refusal 14)
    unfolding plan_of entries_right
    plan_is = rw (count_is, jobs_count, rows_count s height 7)

    -- what the reader of the frames says of the jobs that are lent
    module _ (lent : List Job) (lent_is : lent ≡ jobs_of) (read : Option (List ℕ))
        (told : read ≡ frames_answer (every (length lent) (is_placed (rows_of s height) lent)) (frames_in (rows_of s height) lent)) where
      says : read ≡ frames_answer all_placed frames_of
      says = rw (lent_is, jobs_count) at told

      pub job_missing : read ≡ None → plan_of (instance_of c) f (rows_of s height) ≡ refusal 14
      job_missing e = plan_is ∙ rw (none_read all_placed frames_of (sym e ∙ says))

      module _ (places : List ℕ) (found : read ≡ Some places) (lent_frames : List ℕ) (lent_frames_are : lent_frames ≡ firsts c.count 0 places) where
        all : all_placed ≡ true
        all = (some_read all_placed frames_of places (sym found ∙ says)).0

        places_are : places ≡ padded 128 0 frames_of
        places_are = (some_read all_placed frames_of places (sym found ∙ says)).1

        frames_first : firsts c.count 0 places ≡ frames_of
        frames_first = frames_are places places_are

        frames_kept : firsts (min c.count 128) 0 places ≡ frames_of
        frames_kept = ap (λ (n : ℕ). firsts n 0 places) count_is ∙ frames_first

        abbrev pub entries_lent : Bool
        entries_lent = rows_kept lent lent_frames (length lent) height 0 (rows_of s height)

        entries_lent_lem : entries_lent ≡ entries_kept frames_of
        entries_lent_lem = rw (lent_is, lent_frames_are, frames_first, jobs_count)

        pub entry_wrong : entries_lent ≡ false → plan_of (instance_of c) f (rows_of s height) ≡ refusal 14
        entry_wrong e = plan_is ∙ rw (all, ← entries_lent_lem, e)

        pub rule_broken : entries_lent ≡ true → rules_right (instance_of c) height f (firsts (min c.count 128) 0 places) ≡ false
            → plan_of (instance_of c) f (rows_of s height) ≡ refusal 14
        rule_broken e q = plan_is ∙ rw (all, ← entries_lent_lem, e, rw frames_kept at q)

        pub plan_read_lem : entries_lent ≡ true → rules_right (instance_of c) height f (firsts (min c.count 128) 0 places) ≡ true
            → found_said c (Ok (f, places)) ≡ read_answer c (plan_of (instance_of c) f (rows_of s height))
        plan_read_lem e q =
            let p : plan_of (instance_of c) f (rows_of s height) ≡ accepted f frames_of
            = plan_is ∙ rw (all, ← entries_lent_lem, e, rw frames_kept at q) in
            rw (p, places_are)

-- The table has the form, and these sizes.
pub record Formed (bytes : List ℕ) (z : Sizes) : Type 0 where
  pub t : Table
  pub is : decode bytes ≡ table t
  pub f_is : z.f ≡ t.f
  pub h_is : z.h ≡ t.h
  pub height_is : z.height ≡ length t.rows

-- the request is refused
pub request_refused : (request : List ℕ) (number : ℕ) (d : Decoded) → cycle_of request ≡ no_cycle number
    → checked (cycle_of request) d ≡ refusal number
unfolding checked_by
request_refused request number d e = rw e

module _ (bytes : List ℕ) where
  -- the sizes are read,
  pub table_formed : {z : Sizes} → sizes_said (Ok z) ≡ sizes_of (decode bytes) → Formed bytes z
  unfolding sizes_of
  table_formed {z} read = go (decode bytes) refl read
    where
      go : (d : Decoded) → decode bytes ≡ d → sizes_said (Ok z) ≡ sizes_of d → Formed bytes z
      go (table t) is e = record {
        t = t;
        is = is;
        f_is = ap (λ (r : answered.Sizes). r.f) e;
        h_is = ap (λ (r : answered.Sizes). r.h) e;
        height_is = ap (λ (r : answered.Sizes). r.height) e;
      }
      go malformed is e = absurd (let twelve : 0 ≡ 12 = ap (λ (r : answered.Sizes). r.refusal) e in omega arith)

  -- or the bytes are no table
  pub table_unread : (c : Cycle) (e : Refusal) → sizes_said (Err e) ≡ sizes_of (decode bytes) → checked (cycle_in c) (decode bytes) ≡ refusal (number_of e)
  unfolding sizes_of checked_by
  table_unread c e read = go (decode bytes) read
    where
      go : (d : Decoded) → sizes_said (Err e) ≡ sizes_of d → checked (cycle_in c) d ≡ refusal (number_of e)
      go (table t) q = absurd (no_zero e (ap (λ (r : answered.Sizes). r.refusal) q))
      go malformed q = ap refusal (sym (ap (λ (r : answered.Sizes). r.refusal) q))

-- or they are one
module _ (bytes : List ℕ) (c : Cycle) (z : Sizes) (o : Formed bytes z) where
  pub height_few : z.height ≤ 256
  height_few = omega (arith, o.height_is, (decode_wellformed bytes o.t o.is).few_rows)

  judged_is : checked (cycle_in c) (decode bytes) ≡ judged (instance_of c) o.t
  unfolding checked_by
  judged_is = rw o.is

  pub other_cycle : (z.h ≡ c.h → ⊥) → checked (cycle_in c) (decode bytes) ≡ refusal 13
  unfolding judged_by
  other_cycle ne = judged_is ∙ rw (ne_eqb o.t.h c.h (λ q. ne (o.h_is ∙ q)))

  module _ (same : z.h ≡ c.h) where
    same_h : eqb o.t.h (instance_of c).h ≡ true
    same_h = eq-eqb o.t.h c.h (sym o.h_is ∙ same)

    pub not_plausible : plausible (instance_of c) z.f ≡ false → checked (cycle_in c) (decode bytes) ≡ refusal 13
    unfolding judged_by
    not_plausible e = judged_is ∙ rw (same_h, rw o.f_is at e)

    pub rows_judged : Bytes bytes → plausible (instance_of c) z.f ≡ true
        → checked (cycle_in c) (decode bytes) ≡ plan_of (instance_of c) z.f (rows_of bytes z.height)
    unfolding judged_by
    rows_judged k e = judged_is ∙ rw (same_h, rw o.f_is at e, o.f_is, o.height_is, rows_in_bytes bytes o.t k o.is)

-- the answer for a verdict has its number, and the cycle
module _ (c : Cycle) where
  pub answer_number : (v : Verdict) → (read_answer c v).refusal ≡ verdict_number v
  answer_number (accepted f frames) = refl
  answer_number (refusal number) = refl

  pub answer_cycle : (v : Verdict) → (read_answer c v).cycle ≡ c
  answer_cycle (accepted f frames) = refl
  answer_cycle (refusal number) = refl

-- the number of a verdict, from the answer for it
pub said_number : (c : Cycle) (v : Verdict) {r : Read} → r ≡ read_answer c v → r.refusal ≡ verdict_number v
said_number c v e = ap (λ (y : Read). y.refusal) e ∙ answer_number c v

-- what the answer of `read_plan` says of the bytes of a request and of a table
module _ (request bytes : List ℕ) where
  abbrev pub ReadSays : Result code.Read Refusal → Type 0
  ReadSays r = read_said r ≡ read_answer (cycle_answered (cycle_of request)) (checked (cycle_of request) (decode bytes))

  -- where the request is read, what was found in the table says it with the cycle beside it
  abbrev pub FoundSays : Cycle → Result (ℕ × List ℕ) Refusal → Type 0
  FoundSays c p = found_said c p ≡ read_answer (cycle_answered (cycle_of request)) (checked (cycle_of request) (decode bytes))

  -- a plan is found where the check passes, with the request's cycle;
  pub found_passes : {c : Cycle} {p : ℕ × List ℕ} → FoundSays c (Ok p) → check_number request bytes ≡ 0
  found_passes e = sym (said_number (cycle_answered (cycle_of request)) (checked (cycle_of request) (decode bytes)) e)

  pub found_cycle : {c : Cycle} {p : ℕ × List ℕ} → FoundSays c (Ok p) → c ≡ cycle_answered (cycle_of request)
  found_cycle e = ap (λ (y : Read). y.cycle) e ∙ answer_cycle (cycle_answered (cycle_of request)) (checked (cycle_of request) (decode bytes))

  -- and a refusal is the check's, of the table
  pub table_refused : {c : Cycle} (e : Refusal) → FoundSays c (Err e) → number_of e ≡ check_number request bytes
  table_refused e says = said_number (cycle_answered (cycle_of request)) (checked (cycle_of request) (decode bytes)) says

  -- or of the request
  pub refused_number : (e : Refusal) → ReadSays (Err e) → number_of e ≡ check_number request bytes
  refused_number e says = said_number (cycle_answered (cycle_of request)) (checked (cycle_of request) (decode bytes)) says
