-- The two ends keep the law, over every list of arrivals.
-- They differ in one bit, `waits`: the master's bit is not the one last obeyed. It is set exactly while no copy of the current command has arrived: that is shown
-- frame by frame, and each clause of the law reads it off.
use Prim.Native.Nat.{ℕ, zero, suc, ◌+◌, ◌≤◌, ◌<◌}
use Rattle.std.specs.Prelude.{◌≡◌, Bool, not, cond, ◌&&◌, ◌⊎◌, List, [], ◌∷◌, length, get_or}
use Rattle.std.proofs.Math.Path.{refl, subst}
use Rattle.std.proofs.Common.{sym, ap, ◌∙◌, inl, inr, arith}
use Rattle.std.proofs.Math.Bool.{true, false, false≢true}
use Rattle.std.proofs.Math.Logic.{⊎_elim}
use Rattle.cursor.specs.Choice.{bit}
use Rattle.cursor.specs.ChoiceLaws.{lt_or_ge}
use Rattle.cursor.specs.ParsedLaws.{both_true}
use Rattle.heater_link.specs.Machine.{
  Ends,
  fresh_ends,
  Arrivals,
  Effect,
  differ,
  outcome,
  ends_now,
  outcomes,
  count_of,
  no_arrivals,
  no_outcome,
  arrivals_at,
  outcome_at,
  EndsLaw,
}
use Rattle.heater_link.specs.Law.{FirstReply, FirstCopy, UnderWay}

-- One frame

abbrev waits : Ends → Bool
waits e = differ e.master e.obeyed

-- after the frame's command
abbrev waits_then : Bool → Bool → Bool
waits_then command w = not command && w

-- what the toggles have more than the answers: a command under way
abbrev pending : Ends → ℕ
pending e = bit (not (waits e))

record OneFrame (e : Ends) (x : Arrivals) : Type 0 where
  pub answered_by : (outcome e x).answered ≡ x.reply && not (waits_then x.command (waits e))
  pub waits_next : waits (ends_now e x) ≡ cond (outcome e x).answered true (waits_then x.command (waits e))
  pub counted : bit (outcome e x).toggled + pending e ≡ bit (outcome e x).answered + pending (ends_now e x)

one_frame : (e : Ends) (x : Arrivals) → OneFrame e x
one_frame e x = go x.reply x.command e.master e.obeyed
  where
    go : (r c m o : Bool) → OneFrame (record { master = m; obeyed = o }) (record { command = c; reply = r })
    go true true true true = record { answered_by = refl; waits_next = refl; counted = refl }
    go true true true false = record { answered_by = refl; waits_next = refl; counted = refl }
    go true true false true = record { answered_by = refl; waits_next = refl; counted = refl }
    go true true false false = record { answered_by = refl; waits_next = refl; counted = refl }
    go true false true true = record { answered_by = refl; waits_next = refl; counted = refl }
    go true false true false = record { answered_by = refl; waits_next = refl; counted = refl }
    go true false false true = record { answered_by = refl; waits_next = refl; counted = refl }
    go true false false false = record { answered_by = refl; waits_next = refl; counted = refl }
    go false true true true = record { answered_by = refl; waits_next = refl; counted = refl }
    go false true true false = record { answered_by = refl; waits_next = refl; counted = refl }
    go false true false true = record { answered_by = refl; waits_next = refl; counted = refl }
    go false true false false = record { answered_by = refl; waits_next = refl; counted = refl }
    go false false true true = record { answered_by = refl; waits_next = refl; counted = refl }
    go false false true false = record { answered_by = refl; waits_next = refl; counted = refl }
    go false false false true = record { answered_by = refl; waits_next = refl; counted = refl }
    go false false false false = record { answered_by = refl; waits_next = refl; counted = refl }

-- The ends after the first m frames

unfoldable ends_after : Ends → List Arrivals → ℕ → Ends
ends_after e xs zero = e
ends_after e [] (suc m) = e
ends_after e (x ∷ xs) (suc m) = ends_after (ends_now e x) xs m

outcome_at_lem : (e : Ends) (xs : List Arrivals) (m : ℕ) → get_or (outcomes e xs) m no_outcome ≡ outcome (ends_after e xs m) (get_or xs m no_arrivals)
unfolding outcomes ends_after
outcome_at_lem e [] zero = refl
outcome_at_lem e [] (suc m) = refl
outcome_at_lem e (x ∷ xs) zero = refl
outcome_at_lem e (x ∷ xs) (suc m) = outcome_at_lem (ends_now e x) xs m

ends_next : (e : Ends) (xs : List Arrivals) (m : ℕ) → ends_after e xs (suc m) ≡ ends_now (ends_after e xs m) (get_or xs m no_arrivals)
unfolding ends_after
ends_next e [] zero = refl
ends_next e [] (suc m) = refl
ends_next e (x ∷ xs) zero = refl
ends_next e (x ∷ xs) (suc m) = ends_next (ends_now e x) xs m

-- Counts

all_counted : (e : Ends) (xs : List Arrivals)
    → count_of (λ (o : Effect). o.toggled) (outcomes e xs) + pending e ≡ count_of (λ (o : Effect). o.answered) (outcomes e xs) + pending (ends_after e xs (length xs))
unfolding outcomes count_of ends_after
all_counted e [] = refl
all_counted e (x ∷ xs) = omega (arith, (one_frame e x).counted, all_counted (ends_now e x) xs)

-- Of the frames from j on and before m, one that has it; or that none has
abbrev Found : (ℕ → Bool) → ℕ → ℕ → Type 0
Found f j m = ((k : ℕ) × (j ≤ k) × (k < m) × (f k ≡ true)) ⊎ ((k : ℕ) → j ≤ k → k < m → f k ≡ true → ⊥)

some_or_none : (f : ℕ → Bool) (j m : ℕ) → Found f j m
some_or_none f j zero = inr (λ k a b q. absurd (omega arith))
some_or_none f j (suc m) = ⊎_elim (λ w. inl (w.0, w.1, omega (arith, w.2), w.3)) (λ none. here (f m) refl none) (some_or_none f j m)
  where
    here : (b : Bool) → f m ≡ b → ((k : ℕ) → j ≤ k → k < m → f k ≡ true → ⊥) → Found f j (suc m)
    here true q none = ⊎_elim (λ l. inr (λ k a b h. absurd (omega arith))) (λ l. inl (m, l, omega arith, q)) (lt_or_ge m j)
    here false q none = inr (λ k a b h. ⊎_elim (λ l. none k a l h) (λ l. last k (omega arith) h) (lt_or_ge k m))
      where
        last : (k : ℕ) → k ≡ m → f k ≡ true → ⊥
        last k e h = false≢true (sym q ∙ subst (λ (i : ℕ). f i ≡ true) e h)

module _ (xs : List Arrivals) where
  -- what frame m is given, and whether the ends wait before it
  abbrev c : ℕ → Bool
  c m = (arrivals_at xs m).command

  abbrev r : ℕ → Bool
  r m = (arrivals_at xs m).reply

  abbrev a : ℕ → Bool
  a m = (outcome_at xs m).answered

  abbrev w : ℕ → Bool
  w m = waits (ends_after fresh_ends xs m)

  abbrev Open : ℕ → ℕ → Type 0
  Open j m = (k : ℕ) → j ≤ k → k < m → a k ≡ true → ⊥

  toggled_is : (m : ℕ) → (outcome_at xs m).toggled ≡ c m && w m
  toggled_is m = rw (outcome_at_lem fresh_ends xs m)

  answered_is : (m : ℕ) → a m ≡ r m && not (waits_then (c m) (w m))
  answered_is m = ap (λ (o : Effect). o.answered) (outcome_at_lem fresh_ends xs m) ∙ (one_frame (ends_after fresh_ends xs m) (arrivals_at xs m)).answered_by

  w_next : (m : ℕ) → w (suc m) ≡ cond (a m) true (waits_then (c m) (w m))
  w_next m =
      ap waits (ends_next fresh_ends xs m) ∙ (one_frame (ends_after fresh_ends xs m) (arrivals_at xs m)).waits_next
      ∙ ap (λ (o : Effect). cond o.answered true (waits_then (c m) (w m))) (sym (outcome_at_lem fresh_ends xs m))

  -- the current command before frame m: no copy of it arrived and the ends wait, or one did and they do not
  data Current (m : ℕ) : Type 0 where
    none_yet : w m ≡ true → ((j : ℕ) → j < m → c j ≡ true → Open j m → ⊥) → Current m
    copied : w m ≡ false → (j : ℕ) → j < m → c j ≡ true → Open j m → Current m

  -- one frame more that does not answer
  open_more : (j m : ℕ) → a m ≡ false → Open j m → Open j (suc m)
  open_more j m q o k l h e = ⊎_elim (λ b. o k l b e) (λ b. false≢true (sym (subst (λ (i : ℕ). a i ≡ false) (sym (same b)) q) ∙ e)) (lt_or_ge k m)
    where
      same : m ≤ k → k ≡ m
      same b = omega arith

  open_less : (j m : ℕ) → Open j (suc m) → Open j m
  open_less j m o k l h e = o k l (omega arith) e

  current : (m : ℕ) → Current m
  unfolding ends_after
  current zero = none_yet refl (λ j h. absurd (omega arith))
  current (suc m) = go (a m) refl (c m) refl (current m)
    where
      -- j is m, or a frame before it
      before : c m ≡ false → (j : ℕ) → j < suc m → c j ≡ true → j < m
      before q j h e = ⊎_elim (λ l. l) (λ l. absurd (no (omega arith))) (lt_or_ge j m)
        where
          no : j ≡ m → ⊥
          no s = false≢true (sym q ∙ subst (λ (i : ℕ). c i ≡ true) s e)

      go : (b : Bool) → a m ≡ b → (d : Bool) → c m ≡ d → Current m → Current (suc m)
      go true q d p now = none_yet (w_next m ∙ rw q) (λ j h e o. o m (omega arith) (omega arith) q)
      go false q true p now = copied (w_next m ∙ rw (q, p)) m (omega arith) p (λ k l h e. open_more m m q (λ k l h e. absurd (omega arith)) k l h e)
      go false q false p (none_yet u none) = none_yet (w_next m ∙ rw (q, p, u)) (λ j h e o. none j (before p j h e) e (open_less j m o))
      go false q false p (copied u j h e o) = copied (w_next m ∙ rw (q, p, u)) j (omega arith) e (open_more j m q o)

  -- a reply after a copy of the current command answers it
  answers_it : (m j : ℕ) → r m ≡ true → j ≤ m → c j ≡ true → Open j m → a m ≡ true
  answers_it m j reply l e o = answered_is m ∙ rw reply (⊎_elim (λ h. copied_before h (current m)) (λ h. rw (in_frame h)) (lt_or_ge j m))
    where
      in_frame : m ≤ j → c m ≡ true
      in_frame h = let same : j ≡ m = omega arith in subst (λ (i : ℕ). c i ≡ true) same e

      copied_before : j < m → Current m → not (waits_then (c m) (w m)) ≡ true
      copied_before h (none_yet u none) = absurd (none j h e o)
      copied_before h (copied u i v x y) = rw u (go (c m))
        where
          go : (b : Bool) → not (waits_then b false) ≡ true
          go true = refl
          go false = refl

  -- Each clause, in the words of the law

  abbrev t : ℕ → Bool
  t m = (outcome_at xs m).toggled

  module _ (m : ℕ) where
    abbrev IsFirstReply : Type 0
    IsFirstReply = FirstReply (length xs) (λ k. c k ≡ true) (λ k. r k ≡ true) (λ k. t k ≡ true) (λ k. a k ≡ true) m

    abbrev IsFirstCopy : Type 0
    IsFirstCopy = FirstCopy (length xs) (λ k. c k ≡ true) (λ k. r k ≡ true) (λ k. t k ≡ true) (λ k. a k ≡ true) m

    -- a reply before it would have answered
    first_reply : (j : ℕ) → r m ≡ true → j ≤ m → c j ≡ true → Open j m → IsFirstReply
    first_reply j reply l e o = record {
      reply_arrives = reply;
      j = j;
      before = l;
      copy_arrived = e;
      of_current = o;
      first = λ k b h again. o k b h (answers_it k j again b e (λ i p q v. o i p (omega arith) v));
    }

    answered_first : a m ≡ true → IsFirstReply
    answered_first q = let parts = both_true (r m) (not (waits_then (c m) (w m))) (sym (answered_is m) ∙ q) in go (c m) refl parts.0 parts.1
      where
        arrived : not (w m) ≡ true → r m ≡ true → Current m → IsFirstReply
        arrived z reply (none_yet u none) = absurd (false≢true (rw u at z))
        arrived z reply (copied u j h e o) = first_reply j reply (omega arith) e o

        go : (b : Bool) → c m ≡ b → r m ≡ true → not (waits_then (c m) (w m)) ≡ true → IsFirstReply
        go true p reply z = first_reply m reply (omega arith) p (λ k l h e. absurd (omega arith))
        go false p reply z = arrived (rw p at z) reply (current m)

    toggled_first : t m ≡ true → IsFirstCopy
    toggled_first q = let parts = both_true (c m) (w m) (sym (toggled_is m) ∙ q) in go parts.0 parts.1 (current m)
      where
        go : c m ≡ true → w m ≡ true → Current m → IsFirstCopy
        go e z (none_yet u none) = record { copy_arrives = e; first = none }
        go e z (copied u j h p o) = absurd (false≢true (sym u ∙ z))

    first_toggled : IsFirstCopy → t m ≡ true
    first_toggled f = go (current m)
      where
        go : Current m → t m ≡ true
        go (none_yet u none) = toggled_is m ∙ rw (f.copy_arrives, u)
        go (copied u j h e o) = absurd (f.first j h e o)

  abbrev IsUnderWay : Type 0
  IsUnderWay = UnderWay (length xs) (λ k. c k ≡ true) (λ k. r k ≡ true) (λ k. t k ≡ true) (λ k. a k ≡ true)

  abbrev done : ℕ
  done = count_of (λ (o : Effect). o.toggled) (outcomes fresh_ends xs)

  abbrev answered : ℕ
  answered = count_of (λ (o : Effect). o.answered) (outcomes fresh_ends xs)

  counts : Current (length xs) → ((done ≡ answered) × (IsUnderWay → ⊥)) ⊎ ((done ≡ answered + 1) × IsUnderWay)
  counts (none_yet u none) =
      inl (omega (arith, rw u at (all_counted fresh_ends xs)), λ v. none v.j v.in_list v.copy_arrived v.of_current)
  counts (copied u j h e o) = inr (omega (arith, rw u at (all_counted fresh_ends xs)), record { j = j; in_list = h; copy_arrived = e; of_current = o })

  -- THE THEOREM: over every list of arrivals.
  pub ends_law : EndsLaw xs
  ends_law = record {
    counts = counts (current (length xs));
    answered_exactly = λ m. (answered_first m, λ f. answers_it m f.j f.reply_arrives f.before f.copy_arrived f.of_current);
    toggled_exactly = λ m. (toggled_first m, first_toggled m);
    never_twice = λ j m h p q.
        ⊎_elim (λ k. k) (λ none. absurd ((toggled_first m q).first j h (toggled_first j p).copy_arrives none)) (some_or_none a j m);
    at_rest = λ rest. ⊎_elim (λ s. rw s.0 ((λ e. e), (λ e. e))) (λ s. absurd (rest s.1)) (counts (current (length xs)));
  }
