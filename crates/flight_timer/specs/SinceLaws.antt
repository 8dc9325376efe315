-- One call more behind a list: what becomes of a bit that some call sets and a later one ends.
use Rattle.std.specs.Prelude.{ℕ, ◌+◌, ◌≤◌, ◌<◌, ◌≡◌, refl, Bool, true, false, not, ◌&&◌, ◌||◌, ◌⊎◌, ◌↔◌, List, [], ◌∷◌, ◌++◌, length, get_or, take}
use Rattle.std.proofs.lemmas.Bool.{false≢true}
use Rattle.std.proofs.Common.{inl, inr, append-nil, arith, length-append}
use Rattle.std.proofs.Math.ListN.{get_or-append}
use Rattle.std.proofs.lemmas.List.{take-append-le}
use Rattle.std.proofs.Math.Seq.{take-append_seam, get_or-append_seam, append_snoc}
use Rattle.cursor.specs.ChoiceLaws.{lt_or_ge}
use Rattle.flight_timer.specs.Calls.{RegisterCall, line}
use Rattle.flight_timer.specs.Told.{Since}

-- what holds of no call, and with one call more behind any list, holds of every list
pub every : (P : List RegisterCall → Type 0) → P [] → ((cs : List RegisterCall) (c : RegisterCall) → P cs → P (cs ++ (c ∷ []))) → (cs : List RegisterCall) → P cs
every P none more cs = go [] none cs
  where
    go : (done : List RegisterCall) → P done → (rest : List RegisterCall) → P (done ++ rest)
    go done p [] = rw append-nil p
    go done p (c ∷ rest) = rw (← append_snoc done c rest) (go (done ++ (c ∷ [])) (more done c p) rest)

module _ (calls : List RegisterCall) (c : RegisterCall) where
  abbrev pub more : List RegisterCall
  more = calls ++ (c ∷ [])

  longer : length more ≡ length calls + 1
  longer = length-append calls (c ∷ [])

  -- the places before the last, and the last, as they are seen in the longer list
  module _ (P : List RegisterCall → RegisterCall → Type 0) where
    early : (i : ℕ) → i < length calls → P (take i more) (get_or more i line) ≡ P (take i calls) (get_or calls i line)
    early i h = rw (take-append-le i calls (c ∷ []) (omega arith), get_or-append calls (c ∷ []) line i h)

    last : P (take (length calls) more) (get_or more (length calls) line) ≡ P calls c
    last = rw (take-append_seam calls (c ∷ []), get_or-append_seam calls c [] line)

  module _ (Sets Ends : List RegisterCall → RegisterCall → Type 0) where
    since_last : Sets calls c → Since Sets Ends more
    since_last s = record {
      i = length calls;
      within = omega (arith, longer);
      set_there = rw (last Sets) s;
      not_ended = λ j l w e. absurd (omega (arith, longer));
    }

    since_kept : Since Sets Ends calls → (Ends calls c → ⊥) → Since Sets Ends more
    since_kept s ne = record {
      i = s.i;
      within = omega (arith, longer, s.within);
      set_there = rw (early Sets s.i s.within) s.set_there;
      not_ended = λ j l w e. go j l w e (lt_or_ge j (length calls));
    }
      where
        go : (j : ℕ) → s.i < j → j < length more → Ends (take j more) (get_or more j line) → (j < length calls) ⊎ (length calls ≤ j) → ⊥
        go j l w e (inl h) = s.not_ended j l h (rw (early Ends j h) at e)
        go j l w e (inr h) = let at_last : j ≡ length calls = omega (arith, longer) in ne (rw (at_last, last Ends) at e)

    since_back : Since Sets Ends more → (Sets calls c) ⊎ (Since Sets Ends calls × (Ends calls c → ⊥))
    since_back s = go (lt_or_ge s.i (length calls))
      where
        go : (s.i < length calls) ⊎ (length calls ≤ s.i) → (Sets calls c) ⊎ (Since Sets Ends calls × (Ends calls c → ⊥))
        go (inl h) = inr (
          record {
            i = s.i;
            within = h;
            set_there = rw (early Sets s.i h) at s.set_there;
            not_ended = λ j l w e. s.not_ended j l (omega (arith, longer)) (rw (early Ends j w) e);
          },
          λ e. s.not_ended (length calls) h (omega (arith, longer)) (rw (last Ends) e),
        )
        go (inr h) = let at_last : s.i ≡ length calls = omega (arith, longer, s.within) in inl (rw (at_last, last Sets) at s.set_there)

    -- the bit was b and is `now`; `here` says that this call sets it, and `ends` that it ends it
    module _ (b now here ends : Bool) (is : now ≡ here || (b && not ends)) (sets : (here ≡ true) ↔ Sets calls c) (ended : (ends ≡ true) ↔ Ends calls c)
        (so : (b ≡ true) ↔ Since Sets Ends calls) where
      set_now : (here b ends : Bool) → (here ≡ true → Sets calls c) → (b ≡ true → Since Sets Ends calls) → (Ends calls c → ends ≡ true)
          → here || (b && not ends) ≡ true → Since Sets Ends more
      set_now true b ends s k e q = since_last (s refl)
      set_now false true true s k e q = absurd (false≢true q)
      set_now false true false s k e q = since_kept (k refl) (λ x. false≢true (e x))
      set_now false false ends s k e q = absurd (false≢true q)

      bit_now : (here b ends : Bool) → (Sets calls c → here ≡ true) → (Since Sets Ends calls → b ≡ true) → (ends ≡ true → Ends calls c)
          → (Sets calls c) ⊎ (Since Sets Ends calls × (Ends calls c → ⊥)) → here || (b && not ends) ≡ true
      bit_now true b ends s k e q = refl
      bit_now false b ends s k e (inl x) = absurd (false≢true (s x))
      bit_now false true true s k e (inr q) = absurd (q.1 (e refl))
      bit_now false true false s k e (inr q) = refl
      bit_now false false ends s k e (inr q) = absurd (false≢true (k q.0))

      pub bit_step : (now ≡ true) ↔ Since Sets Ends more
      bit_step = rw is (
        set_now here b ends sets.0 so.0 ended.1,
        λ s. bit_now here b ends sets.1 so.1 ended.0 (since_back s),
      )
