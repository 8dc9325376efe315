-- Filling a lent list, record by record: after i records it is the first i of the timeline, and the lent list behind them.
use Rattle.std.specs.Prelude.{ℕ, zero, suc, ◌+◌, ◌≤◌, ◌<◌, ◌≡◌, refl, Bool, true, false, cond, List, [], ◌∷◌, ◌++◌, ltb, get_or, set, take, drop, Ok, Err}
use Rattle.std.proofs.Common.{ap, ap₂, ◌∙◌, arith, ltb-false}
use Rattle.std.proofs.Math.ListN.{length}
use Rattle.std.proofs.Math.Seq.{take-length}
use Rattle.job_records.specs.Timeline.{no_record, Timeline, timeline, refusal, timeline_for, fitting, filling, records_in, filled_answer, filled_records}
use Rattle.refusal.specs.declared.Refusal.{Refusal}
use Rattle.job_records.specs.Known.{known_answer, record_here}
use Rattle.job_records.specs.Numbered as numbered
use Rattle.job_records.specs.Numbered.{filled_said, known_said}
use Rattle.job_records.specs.KnownLaws.{KnownFor}
use Rattle.job_records.specs.declared.JobRecord.{JobRecord}
use Rattle.job_records.specs.declared.JobsKnown.{JobsKnown}

-- there are never more records than places
fitting_few : (places : ℕ) (tl : Timeline) → length (records_in (fitting places tl)) ≤ places
fitting_few places (refusal number) = omega arith
fitting_few places (timeline rs) = go (ltb places (length rs)) refl
  where
    go : (t : Bool) → ltb places (length rs) ≡ t → length (records_in (cond t (refusal 11) (timeline rs))) ≤ places
    go true e = omega arith
    go false e = ltb-false places (length rs) e

pub filling_few : (request bytes : List ℕ) (places : ℕ) → length (records_in (filling request bytes places)) ≤ places
unfolding filling
filling_few request bytes places = fitting_few places (timeline_for request bytes)

set_next : (rs lent : List JobRecord) (i : ℕ) → i < length rs → length rs ≤ length lent
    → set (take i rs ++ drop i lent) i (get_or rs i no_record) ≡ take (suc i) rs ++ drop (suc i) lent
set_next [] lent i h l = absurd (omega arith)
set_next (r ∷ rs) [] i h l = absurd (omega arith)
set_next (r ∷ rs) (x ∷ lent) zero h l = refl
set_next (r ∷ rs) (x ∷ lent) (suc i) h l = ap (λ (l : List JobRecord). r ∷ l) (set_next rs lent i (omega arith) (omega arith))

counted : (t : Timeline) → length (records_in t) ≡ (filled_answer t).count
counted (timeline rs) = refl
counted (refusal number) = refl

module _ (tl : Timeline) (lent : List JobRecord) where
  abbrev pub filled_to : ℕ → List JobRecord
  filled_to i = take i (records_in tl) ++ drop i lent

  module _ (k : JobsKnown) (known : KnownFor tl k) where
    pub fill_more : (i : ℕ) → length (records_in tl) ≤ length lent → i < k.count → set (filled_to i) i (record_here k i) ≡ filled_to (i + 1)
    fill_more i fits h =
        let next : i + 1 ≡ suc i = omega arith in
        rw (known.each i h, next) (set_next (records_in tl) lent i (omega (arith, known.count_is)) fits)

    pub fill_end : (i : ℕ) → i ≤ k.count → k.count ≤ i → filled_to i ≡ filled_records tl lent
    unfolding filled_records
    fill_end i h l =
        let all : i ≡ length (records_in tl) = omega (arith, known.count_is) in
        rw (all, take-length (records_in tl))

    pub fill_answer : filled_said (Ok k.count) ≡ filled_answer tl
    fill_answer = ap₂ (λ n c. record { refusal = n; count = c }) known.none_refused (known.count_is ∙ counted tl)

  -- a refusal fills none
  pub fill_refused : (e : Refusal) → known_said (Err e) ≡ known_answer tl → (filled_said (Err e) ≡ filled_answer tl) × (lent ≡ filled_records tl lent)
  unfolding filled_records
  fill_refused e said =
      let none : 0 ≡ length (records_in tl) = ap (λ (k : numbered.JobsKnown). k.count) said in
      let number = ap (λ (k : numbered.JobsKnown). k.refusal) said in
      (ap₂ (λ n c. record { refusal = n; count = c }) number (none ∙ counted tl), still (records_in tl) none)
    where
      still : (rs : List JobRecord) → 0 ≡ length rs → lent ≡ rs ++ drop (length rs) lent
      still [] h = refl
      still (r ∷ rs) h = absurd (omega (arith, h))
