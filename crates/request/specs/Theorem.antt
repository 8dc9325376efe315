-- Which answer the bytes of a request get, exactly: the theorem. Reading stops at a place, or it says what the bytes say; no two places stop.
use Prim.Native.Nat.{ℕ, zero, suc, ◌+◌, ◌≤◌, ◌<◌}
use Rattle.std.specs.Prelude.{◌≡◌, cond, ◌⊎◌, length, take, leb}
use Rattle.std.proofs.Math.Path.{refl}
use Rattle.std.proofs.Common.{sym, ap, subst, ◌∙◌, inl, inr, ⊎_elim, eq-or-lt_of_le, add-one, drop_of_length-le, drop-cons, ext_get_or, le-leb}
use mathlib.Core.List.{List, ◌∷◌}
use native.Mathlib.Omega.{arith}
use Rattle.std.proofs.Math.ListN.{drop, get_or-eq_default}
use Rattle.std.proofs.lemmas.Bool.{lt-leb}
use Rattle.cursor.specs.Parsed.{Parsed, got, refused, then}
use Rattle.cursor.specs.ChoiceLaws.{lt_or_ge}
use Rattle.cursor.specs.Fields.{byte_of}
use Rattle.cursor.specs.FieldLaws.{byte_here, byte_none}
use Rattle.cursor.specs.PaddedLaws.{take_padded}
use Rattle.request.specs.Request.{Reading, readable, unreadable, reading, tasks_of, pairs_of, silent_of, ended, after_pairs, after_tasks, no_task, no_pair}
use Rattle.request.specs.Answers.{request_answered}
use Rattle.request.specs.ReadableLaws.{unreadable_number, unread_pos}
use Rattle.request.specs.Exactly.{Place, task_count_lem, pair_count_lem, silent_count, silent_ticks, the_end, task, pair, byte, n, task_at, second, m, pair_at, third, field, Kept, Gives, Stops, Says, ReadExact}
use Rattle.request.specs.ExactlyLaws.{find, find_end, found, KeptBelow, Step, stops, goes, cut_here, broken_here, kept_here, Filled}
use Rattle.request.specs.StepLaws.{tasks_step, pairs_step}
use Rattle.request.specs.declared.Task.{Task}
use Rattle.request.specs.declared.Pair.{Pair}
use Rattle.request.specs.Numbered.{Request}

module _ (s : List ℕ) where
  -- A place stops, or all are kept and the bytes say the request.
  data Outcome (r : Reading) : Type 0 where
    stopped : (number : ℕ) → Stops s number → r ≡ unreadable number → Outcome r
    said : (tasks : List Task) (pairs : List Pair) (g : ℕ) → Says s tasks pairs g → r ≡ readable tasks pairs g → Outcome r

  -- The third section, for the tasks and pairs of the first two.
  module _ (tasks : List Task) (are_tasks : Filled s no_task (task_at s) (n s) tasks) (pairs : List Pair) (are_pairs : Filled s no_pair (pair_at s) (m s) pairs)
      (below : KeptBelow s (third s)) where
    says : ((p : Place) → (field s p).There → Kept s p) → (g : ℕ) → (byte s (third s) ≡ 0 → g ≡ 0) → (byte s (third s) ≡ 1 → g ≡ byte s (third s + 1)) → g ≤ 15
        → Says s tasks pairs g
    says all g none one few = record {
      all_kept = all;
      n_is = are_tasks.0;
      tasks_are = are_tasks.1;
      m_is = are_pairs.0;
      pairs_are = are_pairs.1;
      no_g = none;
      one_g = one;
      g_few = few;
    }

    -- the file ends after its pairs
    module _ (none : length s ≤ third s) where
      none_behind : (p : Place) → (field s p).There → Kept s p
      none_behind task_count_lem here = below task_count_lem here (omega arith)
      none_behind (task i) here = below (task i) here (omega arith)
      none_behind pair_count_lem here = below pair_count_lem here (omega arith)
      none_behind (pair j) here = below (pair j) here (omega arith)
      none_behind silent_count here = absurd (omega arith)
      none_behind silent_ticks here = absurd (omega (arith, here.0))
      none_behind the_end here = absurd (omega arith)

      left_out : Outcome (ended tasks pairs (silent_of (drop (third s) s)))
      unfolding silent_of
      left_out =
          let zero_there : byte s (third s) ≡ 0 = get_or-eq_default s 0 none in
          said tasks pairs 0 (says none_behind 0 (λ z. refl) (λ one. absurd (omega arith)) (omega arith)) (rw (drop_of_length-le s none))

    module _ (here : third s < length s) where
      -- the section is read, and its places are kept; then 6, or the end
      at_end : (g : ℕ) → KeptBelow s (field s the_end).at → (field s the_end).at ≤ length s → (byte s (third s) ≡ 0 → g ≡ 0)
          → (byte s (third s) ≡ 1 → g ≡ byte s (third s + 1)) → g ≤ 15 → Outcome (ended tasks pairs (got g (drop (field s the_end).at s)))
      at_end g kept whole none one few = go (lt_or_ge (field s the_end).at (length s))
        where
          all : length s ≤ (field s the_end).at → (p : Place) → (field s p).There → Kept s p
          all h p there =
              ⊎_elim (kept p there)
              (λ (k : (field s the_end).at ≤ (field s p).at).
              subst (Kept s) (sym (find_end s (field s p).at k) ∙ found s p there) (record { whole = λ cut. omega arith; rule = h }))
              (lt_or_ge (field s p).at (field s the_end).at)

          go : ((field s the_end).at < length s) ⊎ (length s ≤ (field s the_end).at) → Outcome (ended tasks pairs (got g (drop (field s the_end).at s)))
          go (inl h) =
              stopped 6 (broken_here s the_end here kept (omega arith) (λ (k : length s ≤ (field s the_end).at). omega arith))
              (rw (drop-cons s (field s the_end).at 0 h))
          go (inr h) = said tasks pairs g (says (all h) g none one few) (rw (drop_of_length-le s h))

      count_is : silent_of (drop (third s) s) ≡ silent_of (byte s (third s) ∷ drop (third s + 1) s)
      count_is = rw (drop-cons s (third s) 0 here, add-one (third s))

      no_byte : byte s (third s) ≡ 0 → Outcome (ended tasks pairs (silent_of (drop (third s) s)))
      unfolding silent_of
      no_byte z =
          let at : (field s the_end).at ≡ third s + 1 = omega arith in
          let kept = kept_here s silent_count here below (omega arith) (omega arith) in
          let o = at_end 0 (subst (KeptBelow s) (sym at) kept) (omega arith) (λ e. refl) (λ e. absurd (omega arith)) (omega arith) in
          rw (count_is, z) (rw at at o)

      one_byte : byte s (third s) ≡ 1 → Outcome (ended tasks pairs (silent_of (drop (third s) s)))
      unfolding silent_of
      one_byte e = rw (count_is, e) (go (lt_or_ge (third s + 1) (length s)))
        where
          silent : ℕ
          silent = byte s (third s + 1)

          kept : KeptBelow s (third s + 1)
          kept = kept_here s silent_count here below (omega arith) (omega arith)

          judged : third s + 1 < length s → (silent ≤ 15) ⊎ (15 < silent)
              → Outcome (ended tasks pairs (cond (leb silent 15) (got silent (drop (third s + 1 + 1) s)) (refused 17)))
          judged h (inl few) =
              let at : (field s the_end).at ≡ third s + 1 + 1 = omega arith in
              let ticks = kept_here s silent_ticks (here, e) kept (omega arith) few in
              let o = at_end silent (subst (KeptBelow s) (sym at) ticks) (omega arith) (λ z. absurd (omega arith)) (λ z. refl) few in
              rw (le-leb silent 15 few) (rw at at o)
          judged h (inr many) =
              rw (lt-leb silent 15 many) (stopped 17 (broken_here s silent_ticks (here, e) kept (omega arith) (λ (k : silent ≤ 15). omega arith)) refl)

          go : (third s + 1 < length s) ⊎ (length s ≤ third s + 1)
              → Outcome (ended tasks pairs (then (byte_of 1 (drop (third s + 1) s)) (λ g rest. cond (leb g 15) (got g rest) (refused 17))))
          go (inl h) = rw (byte_here 1 s (third s + 1) h) (judged h (⊎_elim (λ k. inr k) (λ k. inl k) (lt_or_ge 15 silent)))
          go (inr h) = rw (byte_none 1 s (third s + 1) h) (stopped 1 (cut_here s silent_ticks (here, e) kept (omega arith)) refl)

      more_bytes : 1 < byte s (third s) → Outcome (ended tasks pairs (silent_of (drop (third s) s)))
      unfolding silent_of
      more_bytes h = rw count_is (go (byte s (third s)) h (broken_here s silent_count here below (omega arith) (λ (k : byte s (third s) ≤ 1). omega arith)))
        where
          go : (c : ℕ) → 1 < c → Stops s 17 → Outcome (ended tasks pairs (silent_of (c ∷ drop (third s + 1) s)))
          go zero k at = absurd (omega arith)
          go (suc zero) k at = absurd (omega arith)
          go (suc (suc c)) k at = stopped 17 at refl

      counted : (c : ℕ) → byte s (third s) ≡ c → Outcome (ended tasks pairs (silent_of (drop (third s) s)))
      counted zero e = no_byte e
      counted (suc zero) e = one_byte e
      counted (suc (suc c)) e = more_bytes (omega arith)

    third_section : Outcome (ended tasks pairs (silent_of (drop (third s) s)))
    third_section = ⊎_elim (λ h. counted h (byte s (third s)) refl) (λ h. left_out h) (lt_or_ge (third s) (length s))

  outcome : Outcome (reading s)
  unfolding reading
  outcome = first (tasks_of s) (tasks_step s)
    where
      behind : (tasks : List Task) → Filled s no_task (task_at s) (n s) tasks → (r : Parsed (List Pair)) → Step s (third s) (Filled s no_pair (pair_at s) (m s)) r
          → Outcome (after_pairs tasks r)
      behind tasks are r (stops number at is) = rw is (stopped number at refl)
      behind tasks are r (goes kept pairs are_pairs is) = rw is (third_section tasks are pairs are_pairs kept)

      first : (r : Parsed (List Task)) → Step s (second s) (Filled s no_task (task_at s) (n s)) r → Outcome (after_tasks r)
      first r (stops number at is) = rw is (stopped number at refl)
      first r (goes kept tasks are is) = rw is (behind tasks are (pairs_of tasks (drop (second s) s)) (pairs_step s tasks are kept))

  -- No two places stop, and none if all are kept.
  gives_one : (p : Place) (a b : ℕ) → Gives s p a → Gives s p b → a ≡ b
  gives_one p a b (inl x) (inl y) = x.1 ∙ sym y.1
  gives_one p a b (inl x) (inr y) = absurd (y.0 x.0)
  gives_one p a b (inr x) (inl y) = absurd (x.0 y.0)
  gives_one p a b (inr x) (inr y) = x.2 ∙ sym y.2

  not_kept : (p : Place) (number : ℕ) → Gives s p number → Kept s p → ⊥
  not_kept p number (inl x) k = k.whole x.0
  not_kept p number (inr x) k = x.1 k.rule

  one_stop : (a b : ℕ) → Stops s a → Stops s b → a ≡ b
  one_stop a b x y =
      ⊎_elim
      (λ l. absurd (not_kept x.place a x.gives (y.before x.place x.there l)))
      (λ h. ⊎_elim (λ e. same e) (λ l. absurd (not_kept y.place b y.gives (x.before y.place y.there l))) (eq-or-lt_of_le h))
      (lt_or_ge (field s x.place).at (field s y.place).at)
    where
      same : (field s y.place).at ≡ (field s x.place).at → a ≡ b
      same e =
          let place : y.place ≡ x.place = sym (found s y.place y.there) ∙ ap (find s) e ∙ found s x.place x.there in
          gives_one x.place a b x.gives (subst (λ p. Gives s p b) place y.gives)

  none_stops : {tasks : List Task} {pairs : List Pair} {g : ℕ} → Says s tasks pairs g → (number : ℕ) → Stops s number → ⊥
  none_stops says number x = not_kept x.place number x.gives (says.all_kept x.place x.there)

  -- The bytes say one request.
  said_once : {ts us : List Task} {ps qs : List Pair} {g h : ℕ} → Says s ts ps g → Says s us qs h → readable ts ps g ≡ readable us qs h
  said_once {ts} {us} {ps} {qs} {g} {h} x y =
      let size = x.n_is in
      let tasks : ts ≡ us = ext_get_or no_task ts us (x.n_is ∙ sym y.n_is) (λ i k. x.tasks_are i (omega arith) ∙ sym (y.tasks_are i (omega arith))) in
      let links = x.m_is in
      let pairs : ps ≡ qs = ext_get_or no_pair ps qs (x.m_is ∙ sym y.m_is) (λ i k. x.pairs_are i (omega arith) ∙ sym (y.pairs_are i (omega arith))) in
      let silent : g ≡ h = counted (byte s (third s)) refl in
      λ k. readable (tasks k) (pairs k) (silent k)
    where
      few : 1 < byte s (third s) → ⊥
      few k =
          ⊎_elim (λ (here : third s < length s). let rule : byte s (third s) ≤ 1 = (x.all_kept silent_count here).rule in omega arith)
          (λ (none : length s ≤ third s). omega (arith, get_or-eq_default s 0 none))
          (lt_or_ge (third s) (length s))

      counted : (c : ℕ) → byte s (third s) ≡ c → g ≡ h
      counted zero e = x.no_g e ∙ sym (y.no_g e)
      counted (suc zero) e = x.one_g e ∙ sym (y.one_g e)
      counted (suc (suc c)) e = absurd (few (omega arith))

  some_tasks : {tasks : List Task} {pairs : List Pair} {g : ℕ} → Says s tasks pairs g → 0 < length tasks
  some_tasks x = let rule = (x.all_kept task_count_lem tt).rule in omega (arith, x.n_is)

-- The answer holds the whole reading.
answered_once : (ts us : List Task) (ps qs : List Pair) (g h : ℕ) → request_answered (readable ts ps g) ≡ request_answered (readable us qs h)
    → readable ts ps g ≡ readable us qs h
answered_once ts us ps qs g h e =
    let tasks : ts ≡ us = sym (take_padded 16 no_task ts) ∙ ap (λ (r : Request). take r.n r.tasks) e ∙ take_padded 16 no_task us in
    let pairs : ps ≡ qs = sym (take_padded 16 no_pair ps) ∙ ap (λ (r : Request). take r.m r.pairs) e ∙ take_padded 16 no_pair qs in
    let silent : g ≡ h = ap (λ (r : Request). r.g) e in
    λ k. readable (tasks k) (pairs k) (silent k)

pub read_exact : (s : List ℕ) → ReadExact s (request_answered (reading s))
read_exact s = record { refused = λ number. (stop number, stopping number); read = λ tasks pairs g. (say tasks pairs g, saying tasks pairs g) }
  where
    stop : (number : ℕ) → request_answered (reading s) ≡ request_answered (unreadable number) → Stops s number
    stop number e = go (reading s) (outcome s) e
      where
        go : (r : Reading) → Outcome s r → request_answered r ≡ request_answered (unreadable number) → Stops s number
        go r (stopped x at is) q = subst (Stops s) (ap (λ (y : Request). y.refusal) (ap request_answered (sym is) ∙ q)) at
        go r (said tasks pairs g says is) q = absurd (omega (arith, some_tasks s says, ap (λ (y : Request). y.n) (ap request_answered (sym is) ∙ q)))

    stopping : (number : ℕ) → Stops s number → request_answered (reading s) ≡ request_answered (unreadable number)
    stopping number x = go (reading s) (outcome s)
      where
        go : (r : Reading) → Outcome s r → request_answered r ≡ request_answered (unreadable number)
        go r (stopped y at is) = ap request_answered (is ∙ ap unreadable (one_stop s y number at x))
        go r (said tasks pairs g says is) = absurd (none_stops s says number x)

    say : (tasks : List Task) (pairs : List Pair) (g : ℕ) → request_answered (reading s) ≡ request_answered (readable tasks pairs g) → Says s tasks pairs g
    say tasks pairs g e = go (reading s) refl (outcome s) e
      where
        go : (r : Reading) → reading s ≡ r → Outcome s r → request_answered r ≡ request_answered (readable tasks pairs g) → Says s tasks pairs g
        go r at (stopped x y is) q =
            absurd (omega (arith, unread_pos (unreadable_number s x (at ∙ is)), ap (λ (y : Request). y.refusal) (ap request_answered (sym is) ∙ q)))
        go r at (said ts ps h says is) q =
            let same : readable ts ps h ≡ readable tasks pairs g = answered_once ts tasks ps pairs h g (ap request_answered (sym is) ∙ q) in
            let t : ts ≡ tasks = cc in
            let p : ps ≡ pairs = cc in
            let k : h ≡ g = cc in
            subst (λ x. Says s x pairs g) t (subst (λ x. Says s ts x g) p (subst (λ x. Says s ts ps x) k says))

    saying : (tasks : List Task) (pairs : List Pair) (g : ℕ) → Says s tasks pairs g → request_answered (reading s) ≡ request_answered (readable tasks pairs g)
    saying tasks pairs g x = go (reading s) (outcome s)
      where
        go : (r : Reading) → Outcome s r → request_answered r ≡ request_answered (readable tasks pairs g)
        go r (stopped y at is) = absurd (none_stops s x y at)
        go r (said ts ps h says is) = ap request_answered (is ∙ said_once s says x)

-- So there is no other answer.
pub read_alone : (s : List ℕ) (r : Request) → ReadExact s r → r ≡ request_answered (reading s)
read_alone s r x = go (reading s) (outcome s)
  where
    go : (y : Reading) → Outcome s y → r ≡ request_answered y
    go y (stopped number at is) = (x.refused number).1 at ∙ ap request_answered (sym is)
    go y (said tasks pairs g says is) = (x.read tasks pairs g).1 says ∙ ap request_answered (sym is)
