-- What filling answers and leaves: the check refuses, or it has read a plan, and then the list is too short or it is filled.
use Rattle.std.specs.Prelude.{ℕ, ◌+◌, ◌-◌, ◌≤◌, ◌<◌, ◌≡◌, refl, Bool, true, false, cond, ◌&&◌, List, ◌++◌, eqb, length, get_or, take, drop}
use Rattle.std.proofs.Common.{sym, ap, subst, ◌∙◌, ⊎_elim, arith, length-append, length-drop, get_or-take, get_or-drop, get_or-append-add}
use Rattle.std.proofs.Math.Seq.{take-append_seam}
use Rattle.cursor.specs.ChoiceLaws.{lt_or_ge}
use Rattle.cursor.specs.Fields.{Bytes}
use Rattle.cursor.specs.ParsedLaws.{never}
use Rattle.cycle.specs.Cycle.{Cycle, cycle, no_cycle, cycle_of}
use Rattle.cycle.specs.LimitLaws.{no_cycle_number, request_number_own}
use Rattle.table.specs.Table.{Table, Decoded, table, malformed, decode}
use Rattle.table.specs.TableBytes.{SaysTable}
use Rattle.table.specs.TableBytesLaws.{says_decodes, decodes_says}
use Rattle.model.specs.Plan.{Instance, IsPlan}
use Rattle.model.specs.Plausible.{plausible}
use Rattle.model.specs.Answers.{instance}
use Rattle.model.specs.Within.{Within}
use Rattle.model.specs.WithinLaws.{within_limits, within_good}
use Rattle.model.specs.Described.{Describes, Accepted}
use Rattle.plan_rules.specs.Rules.{rules_right}
use Rattle.checker.specs.Checked as checker
use Rattle.checker.specs.Checked.{Verdict, frames_in, entries_right, checked, check_number}
use Rattle.checker.specs.Accepts.{accepts_described}
use Rattle.checker.specs.Verdicts.{plan_read_lem, refusal_number}
use Rattle.job_records.specs.declared.JobRecord.{JobRecord}
use Rattle.job_records.specs.Timeline.{no_record, records_of, Timeline, timeline, refusal, filling, filled_answer, filled_records, busy_of}
use Rattle.job_records.specs.KnownLaws.{records_count, record_at, refused_is, too_short, long_enough}
use Rattle.job_records.specs.BusyLaws.{busy_same}
use Rattle.job_records.specs.Exactly.{answer, after, FilledFor, FillExact, TimelineExact}

-- 11 is no number of the check's
not_eleven : (request bytes : List ℕ) (n : ℕ) → checked (cycle_of request) (decode bytes) ≡ checker.refusal n → n ≡ 11 → ⊥
unfolding checker.checked_by checker.judged_by checker.plan_of
not_eleven request bytes n e same = go (cycle_of request) refl (decode bytes) e
  where
    rules : (f : ℕ) (frames : List ℕ) (a b : Bool) → cond a (cond b (checker.accepted f frames) (checker.refusal 14)) (checker.refusal 13) ≡ checker.refusal n → ⊥
    rules f frames true true q = never (cc)
    rules f frames true false q = let is : 14 ≡ n = cc in omega arith
    rules f frames false b q = let is : 13 ≡ n = cc in omega arith

    own : (k : ℕ) → cycle_of request ≡ no_cycle k → k ≡ n → ⊥
    own k is also = request_number_own (no_cycle_number request k is) (omega arith) (omega arith)

    go : (c : Cycle) → cycle_of request ≡ c → (d : Decoded) → checked c d ≡ checker.refusal n → ⊥
    go (no_cycle k) is (table t) q = own k is (cc)
    go (no_cycle k) is malformed q = own k is (cc)
    go (cycle tasks pairs g h jobs) is malformed q = let is : 12 ≡ n = cc in omega arith
    go (cycle tasks pairs g h jobs) is (table t) q =
        let x = instance tasks pairs g h jobs in
        let frames = frames_in t.rows jobs in
        rules t.f frames (eqb t.h h && plausible x t.f) (entries_right x t.rows frames && rules_right x (length t.rows) t.f frames) q

-- what is behind the records
front_get_or : (rs lent : List JobRecord) (y : ℕ) → y < length rs → get_or (rs ++ drop (length rs) lent) y no_record ≡ get_or rs y no_record
front_get_or rs lent y h =
    sym (get_or-take (length rs) (rs ++ drop (length rs) lent) y no_record h) ∙ ap (λ (l : List JobRecord). get_or l y no_record) (take-append_seam rs (drop (length rs) lent))

behind_get_or : (rs lent : List JobRecord) (y : ℕ) → length rs ≤ y → get_or (rs ++ drop (length rs) lent) y no_record ≡ get_or lent y no_record
behind_get_or rs lent y h =
    let far : length rs + (y - length rs) ≡ y = omega arith in
    subst (λ (z : ℕ). get_or (rs ++ drop (length rs) lent) z no_record ≡ get_or lent z no_record) far
    (get_or-append-add rs (drop (length rs) lent) (y - length rs) no_record ∙ get_or-drop (length rs) lent (y - length rs) no_record)

module _ (request bytes : List ℕ) where
  module _ (are : Bytes bytes) (lent : List JobRecord) where
    abbrev number : ℕ
    number = (answer request bytes lent).refusal

    abbrev refusal_in : Timeline → ℕ
    refusal_in tl = (filled_answer tl).refusal

    module _ (x : Instance) (within : Within request x) (t : Table) (says : SaysTable bytes t) where
      abbrev reads : decode bytes ≡ table t
      reads = says_decodes bytes t says

      read_so : (a : Accepted x t) → checked (cycle_of request) (decode bytes) ≡ checker.accepted a.f a.frames
      read_so a = (accepts_described request bytes x t within reads a.f a.frames).1 (a.is_plan, a.describes)

      short_eleven : Accepted x t → length lent < length x.jobs → number ≡ 11
      short_eleven a h = ap refusal_in (too_short request bytes x within a.f a.frames (read_so a) a.is_plan (length lent) h)

      long_filled : Accepted x t → length x.jobs ≤ length lent → number ≡ 0
      long_filled a h = ap refusal_in (long_enough request bytes x within a.f a.frames (read_so a) a.is_plan (length lent) h)

      module _ (f : ℕ) (frames : List ℕ) (verdict : checked (cycle_of request) (decode bytes) ≡ checker.accepted f frames) (fits : length x.jobs ≤ length lent) where
        right : IsPlan x f frames × Describes x f frames t
        right = (accepts_described request bytes x t within reads f frames).0 verdict

        abbrev rs : List JobRecord
        rs = records_of x.jobs frames

        filled_is : filling request bytes (length lent) ≡ timeline rs
        filled_is = long_enough request bytes x within f frames verdict right.0 (length lent) fits

        as_jobs : length rs ≡ length x.jobs
        as_jobs = records_count x.jobs frames right.0.all

        after_is : after request bytes lent ≡ rs ++ drop (length rs) lent
        unfolding filled_records
        after_is = rw filled_is

        first_are : take (answer request bytes lent).count (after request bytes lent) ≡ rs
        unfolding filled_records
        first_are = rw filled_is (take-append_seam rs (drop (length rs) lent))

        for_read : FilledFor request bytes lent x t
        for_read =
            let same : t.f ≡ f = right.1.same_f in
            let all : length frames ≡ length x.jobs = right.0.all in
            record {
              frames = frames;
              is_plan = subst (λ (g : ℕ). IsPlan x g frames) (sym same) right.0;
              describes = subst (λ (g : ℕ). Describes x g frames t) (sym same) right.1;
              in_order = (within_limits request x within).in_order;
              each_filled = λ y h.
                  ap (λ (l : List JobRecord). get_or l y no_record) after_is ∙ (front_get_or rs lent y (omega (arith, as_jobs)) ∙ record_at x.jobs frames y all h);
              number_is = ap filled_answer filled_is ∙ ap (λ (n : ℕ). record { refusal = 0; count = n }) as_jobs;
              behind_kept = λ y h. ap (λ (l : List JobRecord). get_or l y no_record) after_is ∙ behind_get_or rs lent y (omega (arith, as_jobs));
              as_many = ap (λ (l : List JobRecord). length l) after_is
                  ∙ (length-append rs (drop (length rs) lent) ∙ omega (arith, length-drop (length rs) lent, as_jobs));
              busy_is = ap (busy_of x.tasks) first_are ∙ busy_same x (within_good request x within) f frames right.0 t right.1 all;
            }

    -- the check refuses, or it has read a plan
    cases : (Goal : Type 0)
        → ((n : ℕ) → checked (cycle_of request) (decode bytes) ≡ checker.refusal n → Goal)
        → ((x : Instance) → Within request x → (t : Table) → SaysTable bytes t → Accepted x t → Goal)
        → Goal
    cases Goal refused read = go (checked (cycle_of request) (decode bytes)) refl
      where
        go : (v : Verdict) → checked (cycle_of request) (decode bytes) ≡ v → Goal
        go (checker.refusal n) is = refused n is
        go (checker.accepted f frames) is =
            let p = plan_read_lem request bytes f frames is in
            read p.x p.within p.t (decodes_says bytes p.t are p.read) (record { f = f; frames = frames; is_plan = p.is_plan; describes = p.describes })

    refused_number : (n : ℕ) → checked (cycle_of request) (decode bytes) ≡ checker.refusal n → number ≡ n
    refused_number n is = ap refusal_in (refused_is request bytes (length lent) n is)

    refused_pos : (n : ℕ) → checked (cycle_of request) (decode bytes) ≡ checker.refusal n → 0 < number
    refused_pos n is = omega (arith, refused_number n is, (refusal_number request bytes n is).0)

    first : (check_number request bytes ≡ 0 → ⊥) → number ≡ check_number request bytes
    first ne = go (checked (cycle_of request) (decode bytes)) refl
      where
        go : (v : Verdict) → checked (cycle_of request) (decode bytes) ≡ v → number ≡ check_number request bytes
        go (checker.refusal n) is = refused_number n is ∙ sym (rw is)
        go (checker.accepted f frames) is = absurd (ne (rw is))

    is_eleven : number ≡ 11 → (x : Instance) × Within request x × (t : Table) × SaysTable bytes t × (Accepted x t × (length lent < length x.jobs))
    is_eleven e =
        cases _ (λ n is. absurd (not_eleven request bytes n is (omega (arith, refused_number n is))))
        (λ x within t says a.
        ⊎_elim (λ h. (x, within, t, says, (a, h))) (λ h. absurd (omega (arith, long_filled x within t says a h))) (lt_or_ge (length lent) (length x.jobs)))

    is_filled : number ≡ 0 → (x : Instance) × Within request x × (t : Table) × SaysTable bytes t × (Accepted x t × (length x.jobs ≤ length lent))
    is_filled e =
        cases _ (λ n is. absurd (omega (arith, refused_pos n is)))
        (λ x within t says a.
        ⊎_elim (λ h. absurd (omega (arith, short_eleven x within t says a h))) (λ h. (x, within, t, says, (a, h))) (lt_or_ge (length lent) (length x.jobs)))

    -- the table that was read is t
    for_both : (x : Instance) → Within request x → (t : Table) → SaysTable bytes t → number ≡ 0 → FilledFor request bytes lent x t
    for_both x within t says z = go (checked (cycle_of request) (decode bytes)) refl
      where
        go : (v : Verdict) → checked (cycle_of request) (decode bytes) ≡ v → FilledFor request bytes lent x t
        go (checker.refusal n) is = absurd (omega (arith, refused_pos n is))
        go (checker.accepted f frames) is =
            let right = (accepts_described request bytes x t within (says_decodes bytes t says) f frames).0 is in
            let a : Accepted x t = record { f = f; frames = frames; is_plan = right.0; describes = right.1 } in
            ⊎_elim (λ h. absurd (omega (arith, short_eleven x within t says a h))) (λ h. for_read x within t says f frames is h)
            (lt_or_ge (length lent) (length x.jobs))

    -- a refusal fills none
    none : (tl : Timeline) → ((filled_answer tl).refusal ≡ 0 → ⊥) → ((filled_answer tl).count ≡ 0) × (filled_records tl lent ≡ lent)
    unfolding filled_records
    none (timeline rs) ne = absurd (ne refl)
    none (refusal n) ne = (refl, refl)

    -- THE THEOREM: what filling answers and leaves, exactly.
    exact : FillExact request bytes lent
    exact = record {
      check_first = first;
      eleven = (is_eleven, λ c. short_eleven c.0 c.1 c.2 c.3 c.4.0 c.4.1);
      filled = (is_filled, λ c. long_filled c.0 c.1 c.2 c.3 c.4.0 c.4.1);
      filled_for = for_both;
      refused_none = λ ne. (none (filling request bytes (length lent)) ne).0;
      refused_still = λ ne. (none (filling request bytes (length lent)) ne).1;
    }

pub timeline_exact : TimelineExact
timeline_exact = exact
