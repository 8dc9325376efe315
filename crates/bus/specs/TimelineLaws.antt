-- The two ways out of bus_timeline.
use Rattle.std.specs.Prelude.{ℕ, ◌*◌, ◌/◌, ◌≤◌, ◌≡◌, pos, length, drop, Ok, Err}
use Rattle.std.proofs.Math.Path.{refl, ap}
use Rattle.std.proofs.Common.{◌∙◌, arith}
use mathlib.Core.List.{List, [], ◌++◌, flat_map}
use Rattle.refusal.specs.Refusal.{number_of}
use Rattle.refusal.specs.declared.Refusal.{Refusal}
use Rattle.request.specs.SectionLaws.{no_zero}
use Rattle.job_records.specs.Timeline.{Timeline, timeline, refusal, filled_answer}
use Rattle.job_records.specs.Known.{known_answer, records_known}
use Rattle.job_records.specs.KnownLaws.{KnownFor, known_for, known_are}
use Rattle.job_records.specs.FillLaws.{filling_few, fill_answer, fill_refused}
use Rattle.job_records.specs.Numbered.{RecordsFilled, known_said}
use Rattle.job_records.specs.declared.JobsKnown.{JobsKnown}
use Rattle.lent.specs.Records.{record_bytes}
use Rattle.bus.specs.Reply.{refused_reply}
use Rattle.bus.specs.ReplyLaws.{reply_refused, reply_value}
use Rattle.bus.specs.Timeline.{filled_reply, filled_bytes, filling_in_c, timeline_reply, timeline_records}

module _ (request table records : List ℕ) where
  abbrev tl : Timeline
  tl = filling_in_c request table records

  pub timeline_refused : (e : Refusal) → known_said (Err e) ≡ known_answer (filling_in_c request table records)
      → (refused_reply (number_of e) ≡ timeline_reply request table records) × (records ≡ timeline_records request table records)
  unfolding timeline_reply timeline_records flat_map
  timeline_refused e said =
      let is = (fill_refused tl [] e said).0 in
      (reply_refused (number_of e) 0 (no_zero e) ∙ ap filled_reply is, still tl (λ z. no_zero e (ap (λ (r : RecordsFilled). r.refusal) is ∙ z)))
    where
      still : (t : Timeline) → ((filled_answer t).refusal ≡ 0 → ⊥) → records ≡ filled_bytes t records
      still (timeline rs) other = absurd (other refl)
      still (refusal number) other = refl

  module _ (k : JobsKnown) (said : known_said (Ok k) ≡ known_answer (filling_in_c request table records)) where
    pub known : KnownFor (filling_in_c request table records) k
    known = known_for request table (length records / 8) k said

    -- they have their places
    pub places_there : 8 * k.count ≤ length records
    places_there = omega (arith, known.count_is, filling_few request table (length records / 8))

    pub timeline_written : (new : List ℕ) → new ≡ flat_map record_bytes (records_known k) ++ drop (8 * k.count) records
        → (pos k.count ≡ timeline_reply request table records) × (new ≡ timeline_records request table records)
    unfolding timeline_reply timeline_records
    timeline_written new e =
        (reply_value 0 k.count refl ∙ ap filled_reply (fill_answer tl [] k known), e ∙ rw (known_are tl k known, known.count_is))
