-- Every flight has at most 65,536 bytes: three cycles of at most 256 frames, each with at most 22 bytes besides its entries, and of at most 128 entries
-- with at most 9 bytes each. So `fly` never cuts one.
use Prim.Native.Nat.{ℕ, zero, suc, ◌+◌, ◌-◌, ◌*◌, ◌/◌, ◌%◌, ◌≤◌, ◌<◌}
use Rattle.std.specs.Prelude.{◌≡◌, Bool, true, false, cond, drop, ltb}
use Rattle.std.proofs.Math.Path.{ap}
use Rattle.std.proofs.Common.{◌∙◌, mod-eq_of_lt, zero-add, add_assoc, mul_assoc, div-lt_iff_lt-mul, mul-le-mul_right, add-one, length-append, drop-cons}
use mathlib.Core.List.{List, [], ◌++◌, flat_map, append_assoc}
use Rattle.std.proofs.Math.Nat.{add-mod_left}
use native.Mathlib.Omega.{arith}
use Rattle.std.proofs.Math.ListN.{length}
use Rattle.table.specs.Table.{Entry, Table, row_of}
use Rattle.table.specs.WellFormed.{RisingFrom}
use Rattle.table.specs.RisingLaws.{row_rises}
use Rattle.dispatcher.specs.FrameLaws.{served_rises, served_few}
use Rattle.table.specs.LengthLaws.{entry_count}
use Rattle.plan_writer.specs.Outcome.{Outcome, handed, refusal}
use Rattle.planner.specs.Outcome.{program_tries, program_outcome}
use Rattle.planner.specs.TableLaws.{GoodTable, GoodOutcome, outcome_within_good}
use Rattle.flight.specs.Calls.{height, plain_frame}
use Rattle.text.specs.Text.{PutIn}
use Rattle.text.specs.TextLaws.{decimal_length, put_whole}
use Rattle.plan_listing.specs.ShortLaws.{name_length, each_length, refused_length}
use Rattle.fly_listing.specs.Flown.{job_cycle, served_text, frame_line, flown, flight_listing}
use Rattle.fly_listing.specs.FlownLaws.{frame_lines}

cycle_few : (q : ℕ) (e : Entry) → job_cycle q e ≤ q
unfolding job_cycle
cycle_few q e = go e.carried
  where
    go : (b : Bool) → cond b (q - 1) q ≤ q
    go true = omega arith
    go false = omega arith

served_length : (q : ℕ) → q < 3 → (e : Entry) → e.task < 16 → e.number < 128 → length (served_text q e) ≤ 9
unfolding served_text
served_length q h e a b = simp length-append (omega (arith, name_length e a b, decimal_length 0 (job_cycle q e) (omega (arith, cycle_few q e))))

line_length : (m t q : ℕ) (es : List Entry) → m < 1000 → t < 100000 → q < 3 → RisingFrom 0 es → length (frame_line m t q es) ≤ 22 + 9 * length es
unfolding frame_line
line_length m t q es a b c rises =
    simp length-append (omega (arith, decimal_length 2 m a, decimal_length 4 t b, each_length (served_text q) 9 (served_length q c) es 0 rises))

frames_split : (t : Table) (a b m : ℕ) → frame_lines t (a + b) m ≡ frame_lines t a m ++ frame_lines t b (m + a)
unfolding flat_map
frames_split t zero b m = let same : m + 0 ≡ m = omega arith in let none : 0 + b ≡ b = omega arith in rw (same, none)
frames_split t (suc a) b m =
    let more : suc a + b ≡ suc (a + b) = omega arith in
    let on : m + 1 + a ≡ m + suc a = omega arith in
    rw (more, frames_split t a b (m + 1), on) (simp append_assoc)

module _ (t : Table) (good : GoodTable t) where
  frame_length : (m : ℕ) → m < 3 * height t → length (frame_line m (m * t.f) (m / height t) (plain_frame t m)) ≤ 22 + 9 * length (row_of t (m % height t))
  frame_length m h =
      let form = good.form in
      let early : m * t.f ≤ 3 * height t * t.f = mul-le-mul_right t.f (omega arith) in
      let whole : 3 * height t * t.f ≡ 3 * t.h = mul_assoc 3 (height t) t.f ∙ ap (λ n. 3 * n) form.whole in
      let some : 0 < height t = omega (arith, form.some_rows) in
      let cycle : m / height t < 3 = (div-lt_iff_lt-mul some).1 h in
      let rises = served_rises (ltb m (height t)) (row_of t (m % height t)) (row_rises t (m % height t) form) in
      let time : m * t.f < 100000 = omega (arith, early, whole, form.few_ticks) in
      let line = line_length m (m * t.f) (m / height t) (plain_frame t m) (omega (arith, form.few_rows)) time cycle rises in
      omega (arith, line, served_few (ltb m (height t)) (row_of t (m % height t)))

  -- n frames are left of a cycle that begins at frame b, the next is b + j
  module _ (b : ℕ) (begins : (j : ℕ) → j < height t → (b + j) % height t ≡ j) (within : b + height t ≤ 3 * height t) where
    cycle_length : (n j : ℕ) → j + n ≡ height t → length (frame_lines t n (b + j)) ≤ 22 * n + 9 * entry_count (drop j t.rows)
    unfolding flat_map entry_count
    cycle_length zero j e = omega arith
    cycle_length (suc n) j e =
        let here : j < height t = omega arith in
        let next : b + j + 1 ≡ b + (j + 1) = omega arith in
        let row : length (row_of t ((b + j) % height t)) ≡ length (row_of t j) = ap (λ i. length (row_of t i)) (begins j here) in
        let behind : entry_count (drop (j + 1) t.rows) ≡ entry_count (drop (suc j) t.rows) = ap (λ i. entry_count (drop i t.rows)) (add-one j) in
        rw (drop-cons t.rows j [] here, next, length-append)
        (omega (arith, frame_length (b + j) (omega arith), row, cycle_length n (j + 1) (omega arith), behind))

    one_cycle : length (frame_lines t (height t) b) ≤ 22 * height t + 9 * entry_count t.rows
    one_cycle = let same : b + 0 ≡ b = omega arith in rw same at (cycle_length (height t) 0 (omega arith))

  flight_length : length (frame_lines t (3 * height t) 0) ≤ 65536
  flight_length =
      let n = height t in
      let three : 3 * n ≡ n + (n + n) = omega arith in
      let first = one_cycle 0 (λ j h. rw (zero-add j) (mod-eq_of_lt h)) (omega arith) in
      let second = one_cycle (0 + n) (λ j h. rw (zero-add n) (add-mod_left n j ∙ mod-eq_of_lt h)) (omega arith) in
      let third = one_cycle (0 + n + n) (λ j h. rw (zero-add n, add_assoc n n j) (add-mod_left n (n + j) ∙ add-mod_left n j ∙ mod-eq_of_lt h)) (omega arith) in
      rw (three, frames_split t n (n + n) 0, frames_split t n n (0 + n), length-append, length-append)
      (omega (arith, first, second, third, good.few_entries, good.form.few_rows))

pub flight_short : (request : List ℕ) → length (flight_listing request) ≤ 65536
unfolding flight_listing
flight_short request = go (program_outcome request) (outcome_within_good program_tries request)
  where
    go : (o : Outcome) → GoodOutcome o → length (flown o) ≤ 65536
    go (handed t) good = flight_length t good
    go (refusal number) good = omega (arith, refused_length number (omega (arith, good.1)))

-- so a buffer of 65,536 bytes or more holds it whole, with the old bytes behind it
pub flight_whole : (request out new : List ℕ) (end : ℕ) → 65536 ≤ length out → PutIn (flight_listing request) out end new
    → (end ≡ length (flight_listing request)) × (new ≡ flight_listing request ++ drop (length (flight_listing request)) out)
flight_whole request out new end room put = put_whole (flight_listing request) out new end (omega (arith, flight_short request)) put
