-- What filling comes to: where the check refuses, where the list is too short, and where it is long enough; and so the answer of `known`. The records that are
-- made of it, one place after the other, are the timeline's.
use Prim.Native.Nat.{ℕ, zero, suc, ◌+◌, ◌-◌, ◌≤◌, ◌<◌}
use Rattle.std.specs.Prelude.{◌≡◌, refl, get_or, Ok, Err}
use Rattle.std.proofs.Math.Path.{sym, ap, ap₂}
use Rattle.std.proofs.Common.{◌∙◌, ⊎_elim, zero-add, drop-cons, lt-ltb, le-ltb}
use mathlib.Core.List.{List, [], ◌∷◌, map}
use native.Mathlib.Omega.{arith}
use Rattle.std.proofs.Math.ListN.{length, drop}
use Rattle.std.proofs.Math.Seq.{drop-length}
use Rattle.cursor.specs.ChoiceLaws.{lt_or_ge}
use Rattle.cursor.specs.Padded.{padded}
use Rattle.cursor.specs.PaddedLaws.{get_or_padded_any, map_at}
use Rattle.refusal.specs.Refusal.{number_of}
use Rattle.refusal.specs.declared.Refusal.{Refusal}
use Rattle.cycle.specs.Cycle.{Cycle, cycle_of}
use Rattle.cycle.specs.Answers.{cycle_answered, listed}
use Rattle.cycle.specs.Planned.{no_job}
use Rattle.cycle.specs.declared.Job.{Job}
use Rattle.table.specs.Table.{decode}
use Rattle.table.specs.Left.{less_one, none_left}
use Rattle.model.specs.Plan.{Instance, IsPlan}
use Rattle.model.specs.Answers.{instance_of}
use Rattle.model.specs.AnswerLaws.{jobs_counted}
use Rattle.model.specs.Within.{Within}
use Rattle.model.specs.WithinLaws.{within_good}
use Rattle.checker.specs.Checked as checker
use Rattle.checker.specs.Checked.{Verdict, checked}
use Rattle.checker.specs.Answers.{read_answer}
use Rattle.checker.specs.Verdicts.{plan_read_lem, HandedOn, handed_on}
use Rattle.checker.specs.Numbered.{Read}
use Rattle.job_records.specs.Timeline.{record_of, no_record, records_of, Timeline, timeline, refusal, timeline_of, fitting, filling, records_in, filled_answer}
use Rattle.job_records.specs.Known.{job_in, frame_in, known_answer, record_here, records_from, records_known}
use Rattle.job_records.specs.declared.JobRecord.{JobRecord}
use Rattle.job_records.specs.declared.JobsKnown.{JobsKnown}
use Rattle.job_records.specs.Numbered as numbered
use Rattle.job_records.specs.Numbered.{known_said}

-- a record for each job
pub records_count : (jobs : List Job) (frames : List ℕ) → length frames ≡ length jobs → length (records_of jobs frames) ≡ length jobs
unfolding records_of
records_count [] frames e = refl
records_count (job ∷ jobs) [] e = absurd (omega (arith, e))
records_count (job ∷ jobs) (k ∷ frames) e = ap suc (records_count jobs frames (omega (arith, e)))

pub record_at : (jobs : List Job) (frames : List ℕ) (y : ℕ) → length frames ≡ length jobs → y < length jobs
    → get_or (records_of jobs frames) y no_record ≡ record_of (get_or jobs y no_job) (get_or frames y 0)
unfolding records_of
record_at [] frames y e h = absurd (omega arith)
record_at (job ∷ jobs) [] y e h = absurd (omega (arith, e))
record_at (job ∷ jobs) (k ∷ frames) zero e h = refl
record_at (job ∷ jobs) (k ∷ frames) (suc y) e h = record_at jobs frames y (omega (arith, e)) (omega arith)

-- a record says its job and its frame
jobs_said : (jobs : List Job) (frames : List ℕ) → length frames ≡ length jobs → map job_in (records_of jobs frames) ≡ jobs
unfolding records_of
jobs_said [] frames e = refl
jobs_said (job ∷ jobs) [] e = absurd (omega (arith, e))
jobs_said (job ∷ jobs) (k ∷ frames) e = ap (λ (l : List Job). job ∷ l) (jobs_said jobs frames (omega (arith, e)))

frames_said : (jobs : List Job) (frames : List ℕ) → length frames ≡ length jobs → map frame_in (records_of jobs frames) ≡ frames
unfolding records_of
frames_said [] [] e = refl
frames_said [] (k ∷ frames) e = absurd (omega (arith, e))
frames_said (job ∷ jobs) [] e = absurd (omega (arith, e))
frames_said (job ∷ jobs) (k ∷ frames) e = ap (λ (l : List ℕ). k ∷ l) (frames_said jobs frames (omega (arith, e)))

module _ (request bytes : List ℕ) where
  -- the check refuses
  pub refused_is : (places n : ℕ) → checked (cycle_of request) (decode bytes) ≡ checker.refusal n → filling request bytes places ≡ refusal n
  unfolding filling timeline_of
  refused_is places n e = rw e

  -- the check has read a plan
  module _ (x : Instance) (within : Within request x) (f : ℕ) (frames : List ℕ) (verdict : checked (cycle_of request) (decode bytes) ≡ checker.accepted f frames)
      (plan : IsPlan x f frames) (places : ℕ) where
    abbrev records : List JobRecord
    records = records_of x.jobs frames

    many : length records ≡ length x.jobs
    many = records_count x.jobs frames plan.all

    fills : filling request bytes places ≡ fitting places (timeline records)
    unfolding filling timeline_of
    fills = rw (verdict, within)

    pub too_short : places < length x.jobs → filling request bytes places ≡ refusal 11
    too_short h = fills ∙ rw (lt-ltb places (length records) (omega (arith, many)))

    pub long_enough : length x.jobs ≤ places → filling request bytes places ≡ timeline records
    long_enough h = fills ∙ rw (le-ltb places (length records) (omega (arith, many)))

-- a refusal leaves all places unused
pub refused_said : (e : Refusal) → known_said (Err e) ≡ known_answer (refusal (number_of e))
unfolding padded
refused_said e = refl

-- The answer of `known`: r is what the check answered
module _ (request bytes : List ℕ) (places : ℕ) (r : Read) (e : r ≡ read_answer (cycle_answered (cycle_of request)) (checked (cycle_of request) (decode bytes))) where
  -- the check refuses
  pub not_known : (r.refusal ≡ 0 → ⊥) → known_answer (refusal r.refusal) ≡ known_answer (filling request bytes places)
  not_known ne = go (checked (cycle_of request) (decode bytes)) refl e
    where
      go : (v : Verdict) → checked (cycle_of request) (decode bytes) ≡ v → r ≡ read_answer (cycle_answered (cycle_of request)) v
          → known_answer (refusal r.refusal) ≡ known_answer (filling request bytes places)
      go (checker.accepted f ks) is q = absurd (ne (ap (λ (y : Read). y.refusal) q))
      go (checker.refusal n) is q =
          ap (λ (m : ℕ). known_answer (refusal m)) (ap (λ (y : Read). y.refusal) q) ∙ ap known_answer (sym (refused_is request bytes places n is))

  module _ (z : r.refusal ≡ 0) where
    abbrev plan : HandedOn request bytes r
    plan = handed_on request bytes r e z

    abbrev x : Instance
    x = instance_of r.cycle

    counted : length x.jobs ≡ r.cycle.count
    counted = jobs_counted r.cycle plan.taken.limits.few_jobs

    -- the list is too short
    pub too_few : places < r.cycle.count → known_answer (refusal 11) ≡ known_answer (filling request bytes places)
    too_few h =
        ap known_answer (sym (too_short request bytes x plan.taken.within r.f plan.frames plan.verdict plan.is_plan places (omega (arith, counted))))

    -- the jobs as they were read
    jobs_read : r.cycle.jobs ≡ padded 128 no_job x.jobs
    unfolding listed
    jobs_read =
        let read : r ≡ read_answer (cycle_answered (cycle_of request)) (checker.accepted r.f plan.frames) =
        e ∙ ap (read_answer (cycle_answered (cycle_of request))) plan.verdict in
        ap (λ (y : Read). y.cycle.jobs) read ∙ ap (λ (c : Cycle). (cycle_answered c).jobs) plan.taken.within

    -- it is long enough
    pub all_known : r.cycle.count ≤ places
        → record { refusal = 0; count = r.cycle.count; jobs = r.cycle.jobs; frames = r.frames } ≡ known_answer (filling request bytes places)
    all_known h =
        let all : length plan.frames ≡ length x.jobs = plan.is_plan.all in
        let jobs : r.cycle.jobs ≡ padded 128 no_job (map job_in (records_of x.jobs plan.frames)) =
        jobs_read ∙ ap (padded 128 no_job) (sym (jobs_said x.jobs plan.frames all)) in
        let frames : r.frames ≡ padded 128 0 (map frame_in (records_of x.jobs plan.frames)) =
        plan.frames_are ∙ ap (padded 128 0) (sym (frames_said x.jobs plan.frames all)) in
        let count : r.cycle.count ≡ length (records_of x.jobs plan.frames) = sym (records_count x.jobs plan.frames all ∙ counted) in
        (λ i. record { refusal = 0; count = count i; jobs = jobs i; frames = frames i })
        ∙ ap known_answer
        (sym (long_enough request bytes x plan.taken.within r.f plan.frames plan.verdict plan.is_plan places (omega (arith, counted))))

-- what the answer of `known` without a refusal says of its parts
pub record KnownFor (tl : Timeline) (k : JobsKnown) : Type 0 where
  pub none_refused : 0 ≡ (filled_answer tl).refusal
  pub count_is : k.count ≡ length (records_in tl)
  pub few : k.count ≤ 128
  pub each : (y : ℕ) → y < k.count → record_here k y ≡ get_or (records_in tl) y no_record

module _ (request bytes : List ℕ) (places : ℕ) where
  abbrev tl : Timeline
  tl = filling request bytes places

  few_records : length (records_in tl) ≤ 128
  few_records = go (checked (cycle_of request) (decode bytes)) refl
    where
      go : (v : Verdict) → checked (cycle_of request) (decode bytes) ≡ v → length (records_in tl) ≤ 128
      go (checker.refusal n) is = rw (refused_is request bytes places n is) (omega arith)
      go (checker.accepted f frames) is =
          let p = plan_read_lem request bytes f frames is in
          let few : length p.x.jobs ≤ 128 = (within_good request p.x p.within).few_jobs in
          ⊎_elim (λ h. rw (too_short request bytes p.x p.within f frames is p.is_plan places h) (omega arith))
          (λ h. rw (long_enough request bytes p.x p.within f frames is p.is_plan places h) (omega (arith, records_count p.x.jobs frames p.is_plan.all)))
          (lt_or_ge places (length p.x.jobs))

  pub known_for : (k : JobsKnown) → known_said (Ok k) ≡ known_answer tl → KnownFor tl k
  known_for k e = record {
    none_refused = ap (λ (z : numbered.JobsKnown). z.refusal) e;
    count_is = count;
    few = omega (arith, count, few_records);
    each = λ y h. rw (ap (λ (z : numbered.JobsKnown). z.jobs) e, ap (λ (z : numbered.JobsKnown). z.frames) e) (there y (omega (arith, h, count)));
  }
    where
      count : k.count ≡ length (records_in tl)
      count = ap (λ (z : numbered.JobsKnown). z.count) e

      there : (y : ℕ) → y < length (records_in tl)
          → record_of (get_or (known_answer tl).jobs y no_job) (get_or (known_answer tl).frames y 0) ≡ get_or (records_in tl) y no_record
      there y h =
          rw (
            get_or_padded_any 128 no_job (map job_in (records_in tl)) y,
            get_or_padded_any 128 0 (map frame_in (records_in tl)) y,
            map_at job_in no_job no_record (records_in tl) y h,
            map_at frame_in 0 no_record (records_in tl) y h,
          )

-- The records, one place after the other

-- n places in all, the next is y
module _ (k : JobsKnown) (n y : ℕ) where
  pub records_more : y < n → records_from k (n - y) y ≡ record_here k y ∷ records_from k (n - (y + 1)) (y + 1)
  unfolding records_from
  records_more h = rw (less_one n y h)

  pub records_none : n ≤ y → records_from k (n - y) y ≡ []
  unfolding records_from
  records_none h = rw (none_left n y h)

-- they are those of the timeline
module _ (tl : Timeline) (k : JobsKnown) (known : KnownFor tl k) where
  from_here : (n y : ℕ) → y + n ≡ k.count → records_from k n y ≡ drop y (records_in tl)
  unfolding records_from
  from_here zero y e =
      let all : y ≡ length (records_in tl) = omega (arith, known.count_is) in
      rw all (sym (drop-length (records_in tl)))
  from_here (suc n) y e =
      let here : y < k.count = omega arith in
      let next : y + 1 ≡ suc y = omega arith in
      ap₂ (λ (r : JobRecord) (rs : List JobRecord). r ∷ rs) (known.each y here) (from_here n (y + 1) (omega arith) ∙ ap (λ (z : ℕ). drop z (records_in tl)) next)
      ∙ sym (drop-cons (records_in tl) y no_record (omega (arith, known.count_is)))

  pub known_are : records_known k ≡ records_in tl
  known_are = from_here k.count 0 (zero-add k.count)
