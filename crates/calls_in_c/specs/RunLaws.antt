-- What holds of one call holds of every list of them.
use Rattle.std.specs.Prelude.{ℕ, ◌+◌, ◌-◌, ◌≤◌, ◌<◌, ◌≡◌, Bool, cond, ◌&&◌, length, get_or, take, drop, leb}
use Rattle.std.proofs.Math.Path.{refl, sym}
use Rattle.std.proofs.Common.{ap, ◌∙◌, ⊎_elim, arith, length-append, length-take, take-append-drop, get_or-append-add, leb-true, leb-false}
use Rattle.std.proofs.Math.Bool.{true, false}
use mathlib.Core.List.{List, [], ◌∷◌, ◌++◌}
use Rattle.std.proofs.Math.ListN.{get_or-append}
use Rattle.cursor.specs.Choice.{keep}
use Rattle.cursor.specs.ChoiceLaws.{lt_or_ge}
use Rattle.calls_in_c.specs.Runs.{Lending, Kind, seen_of, left_by, all_seen, bytes_left, enough, fed, all_shown, Runs, Refused, RunsAll}

module _ {S Call Seen B : Type 0} (k : Kind S Call Seen B) where
  -- the bytes `new` come from `bytes` and say s
  pub record Stands (bytes : List ℕ) (s : S) (new : List ℕ) : Type 0 where
    pub good : k.good new ≡ true
    pub said : k.says new ≡ s
    pub as_long : length new ≡ length bytes
    pub kept : (i : ℕ) → (k.Used i → ⊥) → get_or new i 0 ≡ get_or bytes i 0

  -- what is known of one call on the bytes that it is lent
  pub record OneCall : Type 0 where
    pub used_few : (i : ℕ) → k.Used i → i < k.size
    pub long : (bytes : List ℕ) → k.good bytes ≡ true → k.size ≤ length bytes
    -- the used bytes decide
    pub alike : (a b : List ℕ) → k.size ≤ length a → k.size ≤ length b → ((i : ℕ) → k.Used i → get_or a i 0 ≡ get_or b i 0)
        → (k.good a ≡ k.good b) × (k.says a ≡ k.says b)
    pub refused : (c : Call) (bytes : List ℕ) → k.good bytes && k.fits c ≡ false → (k.seen c bytes ≡ k.sent_back c) × (k.leaves c bytes ≡ bytes)
    pub made : (c : Call) (bytes : List ℕ) → k.good bytes ≡ true → k.fits c ≡ true
        → (k.seen c bytes ≡ k.shown c (k.says bytes)) × Stands bytes (k.final (k.says bytes) (k.asked c ∷ [])) (k.leaves c bytes)
    pub none : (s : S) → k.final s [] ≡ s
    pub more : (s : S) (b : B) (bs : List B) → k.final s (b ∷ bs) ≡ k.final (k.final s (b ∷ [])) bs

  module _ (one : OneCall) where
    same : (bytes : List ℕ) → k.good bytes ≡ true → Stands bytes (k.says bytes) bytes
    same bytes good = record { good = good; said = refl; as_long = refl; kept = λ i h. refl }

    -- One call, on the bytes that it is lent of the caller's

    module _ (bytes : List ℕ) (n : ℕ) where
      abbrev front : List ℕ
      front = take n bytes

      abbrev behind : List ℕ
      behind = drop n bytes

      whole : front ++ behind ≡ bytes
      whole = take-append-drop n bytes

      lengths : length front + length behind ≡ length bytes
      lengths = sym (length-append front behind) ∙ ap (λ (l : List ℕ). length l) whole

      in_front : (i : ℕ) → i < length front → get_or front i 0 ≡ get_or bytes i 0
      in_front i h = sym (get_or-append front behind 0 i h) ∙ ap (λ (l : List ℕ). get_or l i 0) whole

      -- new bytes in front, as many as there were
      module _ (new : List ℕ) (as_long : length new ≡ length front) where
        new_length : length (new ++ behind) ≡ length bytes
        new_length = omega (arith, length-append new behind, as_long, lengths)

        new_front : (i : ℕ) → i < length front → get_or (new ++ behind) i 0 ≡ get_or new i 0
        new_front i h = get_or-append new behind 0 i (omega (arith, as_long))

        new_behind : (i : ℕ) → length front ≤ i → get_or (new ++ behind) i 0 ≡ get_or bytes i 0
        new_behind i h =
            let place : i ≡ length new + (i - length front) = omega (arith, as_long, h) in
            let there : length front + (i - length front) ≡ i = omega (arith, h) in
            ap (λ (j : ℕ). get_or (new ++ behind) j 0) place ∙ get_or-append-add new behind (i - length front) 0
            ∙ sym (get_or-append-add front behind (i - length front) 0) ∙ rw (whole, there)

      -- enough bytes are lent
      module _ (good : k.good bytes ≡ true) (room : k.size ≤ n) where
        long_front : k.size ≤ length front
        long_front = let far = one.long bytes good in rw (length-take n bytes) (omega (arith, far, room))

        same_front : (k.good front ≡ k.good bytes) × (k.says front ≡ k.says bytes)
        same_front = one.alike front bytes long_front (one.long bytes good) (λ i h. in_front i (omega (arith, one.used_few i h, long_front)))

        stood : (s : S) (new : List ℕ) → Stands front s new → Stands bytes s (new ++ behind)
        stood s new st =
            let long_new : k.size ≤ length (new ++ behind) = omega (arith, one.long bytes good, new_length new st.as_long) in
            let a = one.alike (new ++ behind) new long_new (omega (arith, st.as_long, long_front))
            (λ i h. new_front new st.as_long i (omega (arith, one.used_few i h, long_front))) in
            record {
              good = a.0 ∙ st.good;
              said = a.1 ∙ st.said;
              as_long = new_length new st.as_long;
              kept = λ i h. ⊎_elim (λ low. new_front new st.as_long i low ∙ st.kept i h ∙ in_front i low) (new_behind new st.as_long i)
                  (lt_or_ge i (length front));
            }

    -- too few bytes are none
    too_few : (bytes : List ℕ) → length bytes < k.size → k.good bytes ≡ false
    too_few bytes few = go (k.good bytes) refl
      where
        go : (b : Bool) → k.good bytes ≡ b → b ≡ false
        go true e = absurd (let far = one.long bytes e in omega (arith, far, few))
        go false e = refl

    short_front : (bytes : List ℕ) (n : ℕ) → n < k.size → k.good (take n bytes) ≡ false
    short_front bytes n h = too_few (take n bytes) (let some = length-take n bytes in omega (arith, some, h))

    -- what a call comes to, if it lends enough (`b`) or not
    record Step (bytes : List ℕ) (l : Lending Call) (b : Bool) : Type 0 where
      seen_so : seen_of k bytes l ≡ cond b (k.shown l.call (k.says bytes)) (k.sent_back l.call)
      stands : Stands bytes (k.final (k.says bytes) (keep b (k.asked l.call) [])) (left_by k bytes l)

    module _ (bytes : List ℕ) (l : Lending Call) (good : k.good bytes ≡ true) where
      step_back : k.good (take l.lent bytes) && k.fits l.call ≡ false → Step bytes l false
      step_back e =
          let back = one.refused l.call (take l.lent bytes) e in
          record {
            seen_so = back.0;
            stands = rw (back.1, whole bytes l.lent, one.none (k.says bytes)) (same bytes good);
          }

      step : Step bytes l (enough k l)
      step = go (leb k.size l.lent) refl (k.fits l.call) refl
        where
          go : (a : Bool) → leb k.size l.lent ≡ a → (b : Bool) → k.fits l.call ≡ b → Step bytes l (a && b)
          go true e true f =
              let room = leb-true k.size l.lent e in
              let front = same_front bytes l.lent good room in
              let m = one.made l.call (take l.lent bytes) (front.0 ∙ good) f in
              record {
                seen_so = m.0 ∙ ap (k.shown l.call) front.1;
                stands = stood bytes l.lent good room _ (k.leaves l.call (take l.lent bytes)) (rw front.1 at m.1);
              }
          go true e false f = step_back (let front = same_front bytes l.lent good (leb-true k.size l.lent e) in rw (front.0, good, f))
          go false e b f = step_back (rw (short_front bytes l.lent (leb-false k.size l.lent e)))

    -- A list of calls

    final_fed : (l : Lending Call) (ls : List (Lending Call)) (s : S) → k.final s (fed k (l ∷ ls)) ≡ k.final (k.final s (fed k (l ∷ []))) (fed k ls)
    unfolding fed
    final_fed l ls s = go (enough k l)
      where
        go : (b : Bool) → k.final s (keep b (k.asked l.call) (fed k ls)) ≡ k.final (k.final s (keep b (k.asked l.call) [])) (fed k ls)
        go true = one.more s (k.asked l.call) (fed k ls)
        go false = rw (one.none s)

    runs : (calls : List (Lending Call)) (bytes : List ℕ) → k.good bytes ≡ true → Runs k bytes calls
    unfolding all_seen bytes_left all_shown fed
    runs [] bytes good = record { same_seen = refl; still_good = good; same_said = sym (one.none (k.says bytes)); changed = (refl, λ i h. refl) }
    runs (l ∷ ls) bytes good =
        let st = step bytes l good in
        let new = st.stands in
        let rest = runs ls (left_by k bytes l) new.good in
        record {
          same_seen = rw (st.seen_so, rest.same_seen, new.said);
          still_good = rest.still_good;
          same_said = rest.same_said ∙ rw new.said (sym (final_fed l ls (k.says bytes)));
          changed = (rest.changed.0 ∙ new.as_long, λ i h. rest.changed.1 i h ∙ new.kept i h);
        }

    -- bytes that are not good, and so are none of their fronts
    bad_front : (bytes : List ℕ) (n : ℕ) → k.good bytes ≡ false → k.good (take n bytes) ≡ false
    bad_front bytes n bad =
        ⊎_elim (λ few. too_few (take n bytes) few) (λ far. all far) (lt_or_ge (length (take n bytes)) k.size)
      where
        all : k.size ≤ length (take n bytes) → k.good (take n bytes) ≡ false
        all far =
            let some = length-take n bytes in
            (one.alike (take n bytes) bytes far (omega (arith, some, far)) (λ i h. in_front bytes n i (omega (arith, one.used_few i h, far)))).0 ∙ bad

    back : (calls : List (Lending Call)) (bytes : List ℕ) → k.good bytes ≡ false → Refused k bytes calls
    unfolding all_seen bytes_left
    back [] bytes bad = record { all_refused = refl; bytes_kept = refl }
    back (l ∷ ls) bytes bad =
        let b = one.refused l.call (take l.lent bytes) (rw (bad_front bytes l.lent bad)) in
        let rest = back ls bytes bad in
        record { all_refused = rw (b.0, b.1, whole bytes l.lent, rest.all_refused); bytes_kept = rw (b.1, whole bytes l.lent) rest.bytes_kept }

    pub runs_all : RunsAll k
    runs_all bytes calls = (runs calls bytes, back calls bytes)
