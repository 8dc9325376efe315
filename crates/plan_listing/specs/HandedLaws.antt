-- The two ways of a listing: the request is refused, or the table that the planner left in a buffer is listed, which is the one that was handed out.
use Rattle.std.specs.Prelude.{ℕ, ◌≤◌, ◌≡◌, ◌⊎◌, List, length, take, replicate, Result, Ok, Err}
use Rattle.std.proofs.Common.{sym, ap, ◌∙◌, arith, inl, inr}
use Rattle.std.proofs.lemmas.List.{length-replicate}
use Rattle.refusal.specs.Refusal.{number_of}
use Rattle.refusal.specs.declared.Refusal.{Refusal}
use Rattle.cursor.specs.ParsedLaws.{never}
use Rattle.request.specs.Request.{readable, unreadable, reading}
use Rattle.cycle.specs.LimitLaws.{cycle_reading}
use Rattle.table.specs.Table.{Decoded, table, malformed, decode}
use Rattle.table.specs.Inverse.{decode_encode}
use Rattle.plan_writer.specs.Outcome.{handed, refusal, outcome_buffer}
use Rattle.planner.specs.Outcome.{program_tries, program_outcome, searched_answer}
use Rattle.planner.specs.TableLaws.{outcome_within_good, ReadBack, read_back, not_handed, written_of, searched_written, handed_within_cycle}
use Rattle.planner.specs.Numbered.{Searched}
use Rattle.plan_listing.specs.Listing.{refused_line, table_lines, tasks_in, printed, listing}
use Rattle.text.specs.Text.{filled_to, put_all_of}
use Rattle.plan_listing.specs.Answers.{table_in, TablePut, PlanPut}

-- the buffer that the planner is lent
abbrev pub blank : List ℕ
blank = replicate 519 0

room : 519 ≤ length blank
room = simp length-replicate (omega arith)

module _ (request : List ℕ) (r : Searched) (e : r ≡ searched_answer program_tries request blank) where
  pub refused_is : (r.refusal ≡ 0 → ⊥) → program_outcome request ≡ refusal r.refusal
  refused_is ne = not_handed blank room (written_of r) (program_outcome request) (outcome_within_good program_tries request) (searched_written program_tries request blank e) ne

  module _ (z : r.refusal ≡ 0) where
    back : ReadBack (program_outcome request) r.length (outcome_buffer (program_outcome request) blank)
    back = read_back blank room (written_of r) (program_outcome request) (outcome_within_good program_tries request) (searched_written program_tries request blank e) z

    pub written_few : r.length ≤ 519
    written_few = back.few

    pub table_is : (bytes : List ℕ) → bytes ≡ outcome_buffer (program_outcome request) blank
        → program_outcome request ≡ handed (table_in (decode (take r.length bytes)))
    table_is bytes b =
        let read : decode (take r.length bytes) ≡ table back.t = rw (b, back.front) (decode_encode back.t back.good.form) in
        back.is ∙ ap (λ (d : Decoded). handed (table_in d)) (sym read)

    table_there : (bytes : List ℕ) → bytes ≡ outcome_buffer (program_outcome request) blank → decode (take r.length bytes) ≡ table back.t
    table_there bytes b = rw (b, back.front) (decode_encode back.t back.good.form)

    pub not_malformed : (bytes : List ℕ) → bytes ≡ outcome_buffer (program_outcome request) blank → decode (take r.length bytes) ≡ malformed → ⊥
    not_malformed bytes b is = let none : table back.t ≡ malformed = sym (table_there bytes b) ∙ is in never (cc)

    -- the request of a table that is handed out was read
    pub request_there : (number : ℕ) → reading request ≡ unreadable number → ⊥
    request_there number e =
        let (x, within) = handed_within_cycle program_tries request back.t back.is in
        let none : readable x.tasks x.pairs x.g ≡ unreadable number = sym (cycle_reading request x.tasks x.pairs x.g x.h x.jobs within) ∙ e in
        never (cc)

-- `plan`

pub listing_refused : (request : List ℕ) (number : ℕ) → program_outcome request ≡ refusal number → refused_line number ≡ listing request
unfolding listing
listing_refused request number e = sym (ap (printed (tasks_in (reading request))) e)

pub listing_handed : (request bytes : List ℕ) → program_outcome request ≡ handed (table_in (decode bytes))
    → table_lines (tasks_in (reading request)) (table_in (decode bytes)) ≡ listing request
unfolding listing
listing_handed request bytes e = sym (ap (printed (tasks_in (reading request))) e)

-- what the planner handed out is listed: neither the table nor the request is refused
module _ (request : List ℕ) (r : Searched) (e : r ≡ searched_answer program_tries request blank) (z : r.refusal ≡ 0) (bytes : List ℕ)
    (b : bytes ≡ outcome_buffer (program_outcome request) blank) where
  pub plan_put : (put : Result ℕ Refusal) (old new : List ℕ) → TablePut put (reading request) (decode (take r.length bytes)) old new → PlanPut put request old new
  plan_put (Ok end) old new so =
      so ∙ ap (λ (text : List ℕ). put_all_of (filled_to 0 old) text) (listing_handed request (take r.length bytes) (table_is request r e z bytes b))
  plan_put (Err n) old new so = go so.1
    where
      go : ((number_of n ≡ 12) × (decode (take r.length bytes) ≡ malformed)) ⊎ (reading request ≡ unreadable (number_of n)) → PlanPut (Err n) request old new
      go (inl w) = absurd (not_malformed request r e z bytes b w.1)
      go (inr w) = absurd (request_there request r e z (number_of n) w)
