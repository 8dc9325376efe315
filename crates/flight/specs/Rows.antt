-- Laws of rows: what is left when carried entries are left out, places, the time that entries take, and how often a job stands in a rising row.
use Rattle.std.specs.Prelude.{◌≡◌, Bool, ◌≢◌, length, get_or, set, eqb}
use Rattle.std.proofs.Math.Path.{refl}
use Rattle.std.proofs.Common.{sym, ap, ◌∙◌, inl, inr, ⊎_elim, length-set, get_or-set_other, eqb-true, eq-eqb}
use Rattle.std.proofs.Math.Bool.{true, false}
use mathlib.Core.List.{List, [], ◌∷◌}
use Prim.Native.Nat.{ℕ, zero, suc, ◌+◌, ◌%◌, ◌≤◌, ◌<◌}
use native.Mathlib.Omega.{arith}
use Rattle.cursor.specs.Choice.{bit}
use Rattle.cursor.specs.ParsedLaws.{both_true}
use Rattle.table.specs.Table.{Entry}
use Rattle.table.specs.WellFormed.{RisingFrom}
use Rattle.table.specs.RisingLaws.{rising_first}
use Rattle.search.specs.Placing.{row_sum}
use Rattle.model.specs.Plan.{Instance}
use Rattle.model.specs.Slots.{slot_of, slots}
use Rattle.model.specs.Described.{Among}
use Rattle.dispatcher.specs.Dispatch.{uncarried, served}
use Rattle.dispatcher.specs.FrameLaws.{uncarried_none, uncarried_kept, uncarried_passed}
use Rattle.flight.specs.Timing.{no_entry, late, stands_for, runs_in}

pub not_both : {A : Type 0} (b : Bool) → b ≡ true → b ≡ false → A
not_both b p q = absurd (let z : ◌≡◌ {A = ℕ} 0 1 = cc in omega arith)

-- Leaving carried entries out

among_uncarried : (e : Entry) (es : List Entry) → Among e es → e.carried ≡ false → Among e (uncarried es)
among_uncarried e [] m n = elim m [ ]
among_uncarried e (x ∷ xs) (inl q) n = rw (uncarried_kept x xs (ap (λ (y : Entry). y.carried) (sym q) ∙ n)) (inl q)
among_uncarried e (x ∷ xs) (inr m) n = go x.carried refl (among_uncarried e xs m n)
  where
    go : (b : Bool) → x.carried ≡ b → Among e (uncarried xs) → Among e (uncarried (x ∷ xs))
    go true q w = rw (uncarried_passed x xs q) w
    go false q w = rw (uncarried_kept x xs q) (inr w)

-- e is one of the entries, and is not carried
pub record AmongUncarried (e : Entry) (es : List Entry) : Type 0 where
  pub among : Among e es
  pub not_carried : e.carried ≡ false

uncarried_among : (e : Entry) (es : List Entry) → Among e (uncarried es) → AmongUncarried e es
uncarried_among e [] m = absurd (rw uncarried_none at m)
uncarried_among e (x ∷ xs) m = go x.carried refl (uncarried_among e xs)
  where
    further : AmongUncarried e xs → AmongUncarried e (x ∷ xs)
    further w = record { among = inr w.among; not_carried = w.not_carried }

    go : (b : Bool) → x.carried ≡ b → (Among e (uncarried xs) → AmongUncarried e xs) → AmongUncarried e (x ∷ xs)
    go true q ih = further (ih (rw (uncarried_passed x xs q) at m))
    go false q ih =
        ⊎_elim (λ w. record { among = inl w; not_carried = ap (λ (y : Entry). y.carried) w ∙ q }) (λ w. further (ih w)) (rw (uncarried_kept x xs q) at m)

pub among_served : (first : Bool) (e : Entry) (es : List Entry) → Among e es → (first ≡ true → e.carried ≡ false) → Among e (served first es)
among_served true e es m n = among_uncarried e es m (n refl)
among_served false e es m n = m

pub served_among : (first : Bool) (e : Entry) (es : List Entry) → Among e (served first es) → Among e es
served_among true e es m = (uncarried_among e es m).among
served_among false e es m = m

pub served_uncarried : (first : Bool) (e : Entry) (es : List Entry) → Among e (served first es) → first ≡ true → e.carried ≡ false
served_uncarried true e es m w = (uncarried_among e es m).not_carried
served_uncarried false e es m w = not_both false w refl

-- Places

pub among_at : (es : List Entry) (p : ℕ) → p < length es → Among (get_or es p no_entry) es
among_at [] p h = absurd (omega arith)
among_at (e ∷ es) zero h = inl refl
among_at (e ∷ es) (suc p) h = inr (among_at es p (omega arith))

pub record PlaceIn (e : Entry) (es : List Entry) : Type 0 where
  pub place : ℕ
  pub filled : place < length es
  pub is : get_or es place no_entry ≡ e

pub place_in : (e : Entry) (es : List Entry) → Among e es → PlaceIn e es
place_in e [] m = elim m [ ]
place_in e (x ∷ xs) (inl q) = record { place = 0; filled = omega arith; is = sym q }
place_in e (x ∷ xs) (inr m) = let w = place_in e xs m in record { place = suc w.place; filled = omega (arith, w.filled); is = w.is }

rising_at : (low : ℕ) (es : List Entry) (p : ℕ) → RisingFrom low es → p < length es → low ≤ (get_or es p no_entry).task
rising_at low [] p r h = absurd (omega arith)
rising_at low (e ∷ es) zero r h = (rising_first low e es r).above
rising_at low (e ∷ es) (suc p) r h =
    let w = rising_first low e es r in
    omega (arith, w.above, rising_at (e.task + 1) es p w.rest (omega arith))

pub rising_among : (low : ℕ) (es : List Entry) → RisingFrom low es → (e : Entry) → Among e es → low ≤ e.task
rising_among low es r e m =
    let k = place_in e es m in
    rw k.is at (rising_at low es k.place r k.filled)

-- a lower task number stands before
pub rising_before : (low : ℕ) (es : List Entry) (p q : ℕ) → RisingFrom low es → p < length es → q < length es
    → (get_or es p no_entry).task < (get_or es q no_entry).task → p < q
rising_before low [] p q r h k l = absurd (omega arith)
rising_before low (e ∷ es) zero zero r h k l = absurd (omega arith)
rising_before low (e ∷ es) zero (suc q) r h k l = omega arith
rising_before low (e ∷ es) (suc p) zero r h k l = absurd (omega (arith, rising_at (e.task + 1) es p (rising_first low e es r).rest (omega arith)))
rising_before low (e ∷ es) (suc p) (suc q) r h k l =
    omega (arith, rising_before (e.task + 1) es p q (rising_first low e es r).rest (omega arith) (omega arith) l)

-- The time that entries take

-- that of the first p of them
unfoldable pub slots_to : Instance → List Entry → ℕ → ℕ
slots_to x [] p = 0
slots_to x (e ∷ es) zero = 0
slots_to x (e ∷ es) (suc p) = slot_of x e + slots_to x es p

module _ (x : Instance) where
  pub slots_to_next : (es : List Entry) (p : ℕ) → p < length es → slots_to x es (suc p) ≡ slots_to x es p + slot_of x (get_or es p no_entry)
  unfolding slots_to
  slots_to_next [] p h = absurd (omega arith)
  slots_to_next (e ∷ []) zero h = omega arith
  slots_to_next (e ∷ y ∷ ys) zero h = omega arith
  slots_to_next (e ∷ es) (suc p) h = omega (arith, slots_to_next es p (omega arith))

  pub slots_to_le : (es : List Entry) (p : ℕ) → slots_to x es p ≤ slots x es
  unfolding slots_to
  slots_to_le [] p = omega arith
  slots_to_le (e ∷ es) zero = omega arith
  slots_to_le (e ∷ es) (suc p) = omega (arith, slots_to_le es p)

  slots_uncarried : (es : List Entry) → slots x (uncarried es) ≤ slots x es
  slots_uncarried [] = rw uncarried_none (omega arith)
  slots_uncarried (e ∷ es) = go e.carried refl (slots_uncarried es)
    where
      go : (b : Bool) → e.carried ≡ b → slots x (uncarried es) ≤ slots x es → slots x (uncarried (e ∷ es)) ≤ slot_of x e + slots x es
      go true q w = rw (uncarried_passed e es q) (omega arith)
      go false q w = rw (uncarried_kept e es q) (omega arith)

  pub slots_served : (first : Bool) (es : List Entry) → slots x (served first es) ≤ slots x es
  slots_served true es = slots_uncarried es
  slots_served false es = omega arith

-- the load of a row, with one of its jobs taken out
load_without : (rows : ℕ) (cs ks : List ℕ) (r y : ℕ) → y < length cs → y < length ks → get_or ks y 0 % rows ≡ r
    → row_sum rows cs ks r ≡ get_or cs y 0 + row_sum rows (set cs y 0) ks r
unfolding row_sum
load_without rows [] ks r y h k e = absurd (omega arith)
load_without rows (c ∷ cs) [] r y h k e = absurd (omega arith)
load_without rows (c ∷ cs) (j ∷ ks) r zero h k e = rw (eq-eqb (j % rows) r e) (omega arith)
load_without rows (c ∷ cs) (j ∷ ks) r (suc y) h k e = omega (arith, load_without rows cs ks r y (omega arith) (omega arith) e)

-- the entry's job has place y, in row r, and its time is that of the entry; `task` says of what task the job at a place is
pub record EntryLoad (x : Instance) (task : ℕ → ℕ) (rows : ℕ) (cs ks : List ℕ) (r : ℕ) (e : Entry) : Type 0 where
  pub y : ℕ
  pub within : y < length cs
  pub framed : y < length ks
  pub in_row : get_or ks y 0 % rows ≡ r
  pub its_task : task y ≡ e.task
  pub its_cost : get_or cs y 0 ≡ slot_of x e

-- rising entries of jobs in a row take at most the row's load: take one job after the other out
pub slots_le_load : (x : Instance) (task : ℕ → ℕ) (rows : ℕ) (ks : List ℕ) (r low : ℕ) (es : List Entry) (cs : List ℕ) → RisingFrom low es
    → ((e : Entry) → Among e es → EntryLoad x task rows cs ks r e) → slots x es ≤ row_sum rows cs ks r
slots_le_load x task rows ks r low [] cs rises there = omega arith
slots_le_load x task rows ks r low (e ∷ es) cs rises there =
    let here : EntryLoad x task rows cs ks r e = there e (inl refl) in
    let rest : slots x es ≤ row_sum rows (set cs here.y 0) ks r =
    slots_le_load x task rows ks r (e.task + 1) es (set cs here.y 0) (rising_first low e es rises).rest (λ z m. apart z m (there z (inr m))) in
    omega (arith, load_without rows cs ks r here.y here.within here.framed here.in_row, here.its_cost)
  where
    apart : (z : Entry) → Among z es → EntryLoad x task rows cs ks r z → EntryLoad x task rows (set cs (there e (inl refl)).y 0) ks r z
    apart z m w =
        let here : EntryLoad x task rows cs ks r e = there e (inl refl) in
        let above : e.task + 1 ≤ z.task = rising_among (e.task + 1) es (rising_first low e es rises).rest z m in
        let other : w.y ≢ here.y = λ same. let k : task w.y ≡ task here.y = ap task same in omega (arith, w.its_task, here.its_task) in
        record {
          y = w.y;
          within = simp length-set w.within;
          framed = w.framed;
          in_row = w.in_row;
          its_task = w.its_task;
          its_cost = get_or-set_other cs here.y w.y 0 0 other ∙ w.its_cost;
        }

-- How often a job of a cycle stands in a row

-- what it says that an entry stands for job j of task i, of cycle q
pub record Meant (now i j q : ℕ) (e : Entry) : Type 0 where
  pub task : e.task ≡ i
  pub number : e.number ≡ j
  pub cycle : q + late e ≡ now

pub meant : (now i j q : ℕ) (e : Entry) → stands_for now i j q e ≡ true → Meant now i j q e
meant now i j q e h =
    let one = both_true (eqb e.task i) _ h in
    let two = both_true (eqb e.number j) (eqb (q + late e) now) one.1 in
    record { task = eqb-true _ _ one.0; number = eqb-true _ _ two.0; cycle = eqb-true _ _ two.1 }

pub means : (now i j q : ℕ) (e : Entry) → Meant now i j q e → stands_for now i j q e ≡ true
means now i j q e w = rw (eq-eqb e.task i w.task, eq-eqb e.number j w.number, eq-eqb (q + late e) now w.cycle)

module _ (now i j q : ℕ) where
  pub runs_none : (es : List Entry) → ((e : Entry) → Among e es → stands_for now i j q e ≡ true → ⊥) → runs_in now i j q es ≡ 0
  unfolding runs_in
  runs_none [] h = refl
  runs_none (e ∷ es) h = go (stands_for now i j q e) refl (runs_none es (λ y m. h y (inr m)))
    where
      go : (b : Bool) → stands_for now i j q e ≡ b → runs_in now i j q es ≡ 0 → bit b + runs_in now i j q es ≡ 0
      go true w ih = absurd (h e (inl refl) w)
      go false w ih = omega arith

  above : (low : ℕ) (es : List Entry) → RisingFrom low es → i < low → (e : Entry) → Among e es → stands_for now i j q e ≡ true → ⊥
  above low es r l e m w = omega (arith, (meant now i j q e w).task, rising_among low es r e m)

  pub runs_once : (low : ℕ) (es : List Entry) → RisingFrom low es → (e : Entry) → Among e es → stands_for now i j q e ≡ true → runs_in now i j q es ≡ 1
  unfolding runs_in
  runs_once low [] r e m w = elim m [ ]
  runs_once low (y ∷ ys) r e m w = go (stands_for now i j q y) refl m (λ k. runs_once (y.task + 1) ys (rising_first low y ys r).rest e k w)
    where
      go : (b : Bool) → stands_for now i j q y ≡ b → Among e (y ∷ ys) → (Among e ys → runs_in now i j q ys ≡ 1) → bit b + runs_in now i j q ys ≡ 1
      go true v k ih =
          let t : y.task ≡ i = (meant now i j q y v).task in
          let n : runs_in now i j q ys ≡ 0 = runs_none ys (above (y.task + 1) ys (rising_first low y ys r).rest (omega arith)) in
          omega arith
      go false v (inl k) ih = not_both (stands_for now i j q y) (ap (stands_for now i j q) (sym k) ∙ w) v
      go false v (inr k) ih = let n : runs_in now i j q ys ≡ 1 = ih k in omega arith
