-- Starts and ends: by capacity every frame's transfers end in it, and so each job keeps to its window and each pair to its order.
use Rattle.std.specs.Prelude.{◌≡◌, refl, List, [], ℕ, zero, suc, ◌+◌, ◌*◌, ◌-◌, ◌/◌, ◌%◌, ◌≤◌, ◌<◌, length, get_or, ltb}
use Rattle.std.proofs.Common.{sym, ap, subst, ◌∙◌, ⊎_elim, mod-lt, eq-or-lt_of_le, mul-le-mul_right, arith}
use Rattle.request.specs.Readable.{PairKept}
use Rattle.cycle.specs.Cycle.{jobs_in}
use Rattle.table.specs.Table.{Entry, Table, row_of}
use Rattle.table.specs.WellFormed.{RisingFrom}
use Rattle.table.specs.RisingLaws.{row_rises}
use Rattle.search.specs.Placing.{row_sum}
use Rattle.model.specs.Plan.{Instance, task_at, pair_at, job_at, slot, costs, frame_at, IsPlan}
use Rattle.model.specs.Slots.{slot_of, slots}
use Rattle.model.specs.PlanLaws.{costs_length, cost_at_lem}
use Rattle.model.specs.Good.{Good}
use Rattle.model.specs.GoodLaws.{PlaceOf}
use Rattle.model.specs.Described.{Among, entry_for, Describes}
use Rattle.model.specs.DescribedLaws.{stands_named}
use Rattle.flight.specs.Calls.{height, plain_frame}
use Rattle.flight.specs.Timing.{no_entry, served_at, Served, KeepToC, start_time, finish, released_in, due_in, late, Starts, StandsForSome, EndedBy}
use Rattle.flight.specs.Rows.{among_at, PlaceIn, place_in, rising_before, slots_to, slots_to_next, slots_to_le, slots_served}
use Rattle.flight.specs.Rows.{EntryLoad, slots_le_load, meant}
use Rattle.flight.specs.Serving.{place_of_job, job_of_place, job_there, some_row, whole, height_is, row_is, frame_rising, its_place, its_frame}
use Rattle.flight.specs.Serving.{stands_for_some, served_then, stands_then}

-- Inside a frame

-- the time of a transfer in its row is its C and the silent ticks after it
slot_is : (x : Instance) (i : ℕ) → slot x.g (task_at x i) ≡ (task_at x i).c + x.g
unfolding slot
slot_is x i = refl

-- an entry starts no later than if all before it took their time in the row
start_le : (x : Instance) (f : ℕ) (actual : ℕ → ℕ → ℕ) (m : ℕ) (es : List Entry)
    → ((p : ℕ) → p < length es → actual m p + x.g ≤ slot_of x (get_or es p no_entry)) → (p : ℕ) → p ≤ length es
    → start_time x.g f actual m p ≤ m * f + slots_to x es p
unfolding start_time
start_le x f actual m es fits zero h = omega arith
start_le x f actual m es fits (suc p) h = omega (arith, start_le x f actual m es fits p (omega arith), fits p h, slots_to_next x es p h)

-- what stands next starts when the silent ticks are over
pub starts_next : (g f : ℕ) (actual : ℕ → ℕ → ℕ) (m p : ℕ) → start_time g f actual m (suc p) ≡ finish g f actual m p + g
unfolding start_time
starts_next g f actual m p = refl

-- nothing starts before its frame, and what stands later starts later
pub frame_begins : (g f : ℕ) (actual : ℕ → ℕ → ℕ) (m p : ℕ) → m * f ≤ start_time g f actual m p
unfolding start_time
frame_begins g f actual m zero = omega arith
frame_begins g f actual m (suc p) = omega (arith, frame_begins g f actual m p)

pub one_by_one : (g f : ℕ) (actual : ℕ → ℕ → ℕ) (m p q : ℕ) → p < q → finish g f actual m p ≤ start_time g f actual m q
unfolding start_time
one_by_one g f actual m p zero h = absurd (omega arith)
one_by_one g f actual m p (suc q) h =
    ⊎_elim (λ (e : p ≡ q). rw e (omega arith)) (λ (l : p < q). omega (arith, one_by_one g f actual m p q l))
    (eq-or-lt_of_le (let k : p ≤ q = omega arith in k))

module _ (x : Instance) (g : Good x) (t : Table) (frames : List ℕ) (v : IsPlan x t.f frames) (d : Describes x t.f frames t) where
  -- a row's entries take at most f
  row_fits : (r : ℕ) → r < height t → slots x (row_of t r) ≤ t.f
  row_fits r h =
      let all : slots x (row_of t r) ≤ row_sum (height t) (costs x) frames r =
      slots_le_load x (λ y. (job_at x y).task) (height t) frames r 0 (row_of t r) (costs x) (row_rises t r d.form) there in
      let tall = height_is x g t frames v d in
      let room : row_sum (height t) (costs x) frames r ≤ t.f = rw tall at (v.capacity r (rw tall h)) in
      omega arith
    where
      there : (e : Entry) → Among e (row_of t r) → EntryLoad x (λ y. (job_at x y).task) (height t) (costs x) frames r e
      there e m =
          let (y, s) = d.only r h e m in
          record {
            y = y;
            within = rw (costs_length x) s.within;
            framed = rw v.all s.within;
            in_row = sym (row_is x g t frames v d y) ∙ s.in_row;
            its_task = (stands_named s).task_is;
            its_cost = cost_at_lem x y s.within ∙ ap (λ (i : ℕ). slot x.g (task_at x i)) (stands_named s).task_is;
          }

  -- the frames flown, and the actual times
  module _ (actual : ℕ → ℕ → ℕ) (fr : List (List Entry)) (is : (m : ℕ) → m < length fr → get_or fr m [] ≡ plain_frame t m) (keep : KeepToC x fr actual) where
    -- with its silent ticks, an entry takes at most its time in the row; and those served take at most what all entries of the row do
    in_slot : (m : ℕ) → m < length fr → (o : ℕ) → o < length (get_or fr m []) → actual m o + x.g ≤ slot_of x (served_at fr m o)
    in_slot m flown o h = omega (arith, keep m o (record { frame_flown = flown; place_filled = h }), slot_is x (served_at fr m o).task)

    served_less : (m : ℕ) → m < length fr → slots x (get_or fr m []) ≤ slots x (row_of t (m % height t))
    served_less m flown = rw (is m flown) (slots_served x (ltb m (height t)) (row_of t (m % height t)))

    -- so behind those served what is left of the row's time is left
    pub ends_by_slots : (m : ℕ) → m < length fr → start_time x.g t.f actual m (length (get_or fr m [])) ≤ m * t.f + slots x (row_of t (m % height t))
    ends_by_slots m flown =
        let es : List Entry = get_or fr m [] in
        omega (arith, start_le x t.f actual m es (in_slot m flown) (length es) (omega arith), slots_to_le x es (length es), served_less m flown)

    -- even with its whole C, an entry ends in its frame with the silent ticks after it
    pub room : (m p : ℕ) → Served fr m p → start_time x.g t.f actual m p + (task_at x (served_at fr m p).task).c + x.g ≤ (m + 1) * t.f
    room m p s =
        let es : List Entry = get_or fr m [] in
        omega (
          arith,
          start_le x t.f actual m es (in_slot m s.frame_flown) p (omega (arith, s.place_filled)),
          served_less m s.frame_flown,
          slot_is x (served_at fr m p).task,
          slots_to_next x es p s.place_filled,
          slots_to_le x es (suc p),
          row_fits (m % height t) (mod-lt m (some_row x g t frames v d)),
        )

    pub in_frame : (m p : ℕ) → Served fr m p → finish x.g t.f actual m p + x.g ≤ (m + 1) * t.f
    in_frame m p s = omega (arith, room m p s, keep m p s)

    among_frame : (m p : ℕ) → Served fr m p → Among (served_at fr m p) (plain_frame t m)
    among_frame m p s = subst (λ (es : List Entry). Among (served_at fr m p) es) (is m s.frame_flown) (among_at (get_or fr m []) p s.place_filled)

    module _ (i j q m p : ℕ) (s : Starts (height t) fr i j q m p) where
      pub started_place : PlaceOf x i j
      started_place = its_place x g t frames v d m i j q (served_at fr m p) (among_frame m p s.served_there) s.stands

      started_in : m ≡ frame_at frames started_place.place + q * height t
      unfolding started_place
      started_in = its_frame x g t frames v d m i j q (served_at fr m p) (among_frame m p s.served_there) s.stands

      -- that frame's first tick, in ticks of the job's own cycle
      ticks : m * t.f ≡ frame_at frames started_place.place * t.f + q * x.h
      ticks =
          let w = ap (λ (z : ℕ). z * t.f) started_in in
          let c = ap (λ (z : ℕ). q * z) (whole x g t frames v d) in
          omega arith

      pub after_release : released_in x q i j ≤ start_time x.g t.f actual m p
      after_release =
          let y = started_place in
          omega (arith, ticks, (v.window y.place y.within).not_early, (job_there x g i j y).0, frame_begins x.g t.f actual m p)

      -- even with its whole C it ends by its deadline
      pub leaves_time : start_time x.g t.f actual m p + (task_at x i).c ≤ due_in x q i j
      leaves_time =
          let its = (meant (m / height t) i j q (served_at fr m p) s.stands).task in
          let y = started_place in
          omega (arith, ticks, rw its at (room m p s.served_there), (v.window y.place y.within).not_late, (job_there x g i j y).1)

      pub before_due : finish x.g t.f actual m p ≤ due_in x q i j
      before_due =
          let its = (meant (m / height t) i j q (served_at fr m p) s.stands).task in
          omega (arith, leaves_time, rw its at (keep m p s.served_there))

    pub some_job : (m p : ℕ) → Served fr m p → StandsForSome x (height t) fr m p
    some_job m p s =
        let e : Entry = served_at fr m p in
        let q : ℕ = m / height t - late e in
        let stands = stands_for_some x g t frames v d m e (among_frame m p s) in
        let starts : Starts (height t) fr e.task e.number q m p = record { served_there = s; stands = stands } in
        let is_job = job_of_place x g e.task e.number (started_place e.task e.number q m p starts) in
        record { i = e.task; j = e.number; q = q; is_job = is_job; starts = starts }

    -- job j of the second task of a pair has started
    module _ (u : ℕ) (known : u < length x.pairs) (j q m p : ℕ) (s : Starts (height t) fr (pair_at x u).b j q m p) where
      abbrev a : ℕ
      a = (pair_at x u).a

      abbrev b : ℕ
      b = (pair_at x u).b

      pair : PairKept x.tasks (pair_at x u)
      pair = g.readable.pair u known

      -- job j of the first
      first_place : PlaceOf x a j
      unfolding jobs_in
      first_place =
          let is = job_of_place x g b j (started_place b j q m p s) in
          place_of_job x g a j (record { known = omega (arith, pair.rises, pair.known); early = rw pair.period is.early })

      -- its frame
      abbrev first_frame : ℕ
      first_frame = frame_at frames first_place.place + q * height t

      first_not_after : first_frame ≤ m
      first_not_after =
          let second = started_place b j q m p s in
          omega (
            arith,
            started_in b j q m p s,
            v.order u known first_place.place second.place first_place.within second.within first_place.task second.task
                (first_place.number ∙ sym second.number),
          )

      first_flown : first_frame < length fr
      first_flown = omega (arith, first_not_after, s.served_there.frame_flown)

      first_entry : PlaceIn (entry_for x t.f frames first_place.place) (get_or fr first_frame [])
      first_entry =
          let there = served_then x g t frames v d a j first_place q in
          rw (is first_frame first_flown) (place_in (entry_for x t.f frames first_place.place) (plain_frame t first_frame) there)

      first_served : Served fr first_frame first_entry.place
      first_served = record { frame_flown = first_flown; place_filled = first_entry.filled }

      first_starts : Starts (height t) fr a j q first_frame first_entry.place
      first_starts = record { served_there = first_served; stands = rw first_entry.is (stands_then x g t frames v d a j first_place q) }

      ended_in_earlier : first_frame < m → finish x.g t.f actual first_frame first_entry.place ≤ start_time x.g t.f actual m p
      ended_in_earlier l =
          let w : (first_frame + 1) * t.f ≤ m * t.f = mul-le-mul_right t.f (let n : first_frame + 1 ≤ m = omega arith in n) in
          omega (arith, room first_frame first_entry.place first_served, keep first_frame first_entry.place first_served, frame_begins x.g t.f actual m p)

      ended_in_same : first_frame ≡ m → finish x.g t.f actual first_frame first_entry.place ≤ start_time x.g t.f actual m p
      ended_in_same e =
          let of_a : (served_at fr first_frame first_entry.place).task ≡ a =
          (meant (first_frame / height t) a j q (served_at fr first_frame first_entry.place) first_starts.stands).task in
          let of_b : (served_at fr m p).task ≡ b = (meant (m / height t) b j q (served_at fr m p) s.stands).task in
          let rises : RisingFrom 0 (get_or fr m []) = rw (is m s.served_there.frame_flown) (frame_rising x g t frames v d m) in
          let lower : (served_at fr m first_entry.place).task < (served_at fr m p).task = omega (arith, rw e at of_a, of_b, pair.rises) in
          let before : first_entry.place < p =
          rising_before 0 (get_or fr m []) first_entry.place p rises (rw e at first_entry.filled) s.served_there.place_filled lower in
          rw e (one_by_one x.g t.f actual m first_entry.place p before)

      pub ended : EndedBy (height t) fr (finish x.g t.f actual) a j q (start_time x.g t.f actual m p)
      ended = record {
        m = first_frame;
        p = first_entry.place;
        started = first_starts;
        ended = ⊎_elim ended_in_same ended_in_earlier (eq-or-lt_of_le first_not_after);
      }
