-- One bus_heater_serve is one call of the link on what the bytes say; so is every list of them.
use Rattle.std.specs.Prelude.{ℕ, zero, suc, ◌+◌, ◌≤◌, ◌<◌, ◌≡◌, Bool, true, false, cond, ◌&&◌, ◌⊎◌, List, [], ◌∷◌, ◌++◌, pos, get_or, take, drop, eqb, leb}
use Rattle.std.proofs.Math.Path.{refl}
use Rattle.std.proofs.Common.{sym, ap, ◌∙◌, inl, inr, ⊎_elim, zero-add, arith, length-append, length-take-le}
use Rattle.std.proofs.Math.ListN.{length, get_or-append}
use Rattle.std.proofs.lemmas.List.{length-replicate}
use Rattle.std.proofs.Math.Seq.{get_or-take}
use borrow.Author.Tests.{le-ltb, lt-ltb, leb-true, leb-false, ne_eqb}
use Rattle.cursor.specs.Choice.{bit, keep}
use Rattle.cursor.specs.ChoiceLaws.{lt_or_ge}
use Rattle.cycle.specs.Cycle.{cycle_of}
use Rattle.table.specs.Table.{decode}
use Rattle.checker.specs.Checked.{check_number}
use Rattle.dispatcher.specs.Dispatch.{next_frame}
use Rattle.dispatcher.specs.FrameLaws.{frame_counts}
use Rattle.dispatcher.specs.Numbered.{Frame}
use Rattle.heater_link.specs.Exchange.{fresh_link, refused_exchange, served_in, is_pair, pairs_in, exchange}
use Rattle.heater_link.specs.Machine.{count_of}
use Rattle.heater_link.specs.Calls.{Ask, exchange_of, exchanges_from, link_from}
use Rattle.heater_link.specs.Theorem.{link_law}
use Rattle.heater_link.specs.declared.Link.{Link}
use Rattle.heater_link.specs.Numbered.{Exchange}
use Rattle.lent.specs.Words.{zeros}
use Rattle.lent.specs.StateLaws.{long}
use Rattle.lent.specs.State.{state_bytes}
use Rattle.lent.specs.StateBack.{same_state, counts_read, state_kept, state_length}
use Rattle.lent.specs.HeaterBytes.{is_heater, link_of, heater_bytes}
use Rattle.lent.specs.HeaterByteLaws.{heater_long}
use Rattle.lent.specs.HeaterBytesBack.{heater_length, heater_is, link_read, toggled_there, answered_there, heater_kept}
use Rattle.bus.specs.Reply.{reply, after}
use Rattle.bus.specs.Heater.{heater_fresh_reply, heater_fresh_bytes, can_exchange, heater_reply, heater_after, heater_entries}
use Rattle.bus.specs.HeaterLaws.{heater_fresh_refused, heater_fresh_made}
use Rattle.bus_laws.specs.Answered.{not_refused}
use Rattle.calls_in_c.specs.Runs.{Lending, enough, fed, all_shown, Runs}
use Rattle.calls_in_c.specs.RunLaws.{Stands, OneCall, runs_all}
use Rattle.calls_in_c.specs.HeaterInC.{HeaterCall, HeaterSeen, told_by, heater_left, seen_of_heater, heater_sent_back, heater_asked, exchange_shown, UsedInHeater, heaters, HeaterToldInC, HeaterInC}

used_few : (i : ℕ) → UsedInHeater i → i < 72
used_few i (inl h) = omega (arith, h)
used_few i (inr h) = omega (arith, h.1)

-- the used bytes decide whether bytes are a heater, and what they say
alike : (a b : List ℕ) → 72 ≤ length a → 72 ≤ length b → ((i : ℕ) → UsedInHeater i → get_or a i 0 ≡ get_or b i 0) → (is_heater a ≡ is_heater b) × (link_of a ≡ link_of b)
unfolding is_heater link_of
alike a b long_a long_b same = (
  rw (
    le-ltb (length a) 72 long_a,
    le-ltb (length b) 72 long_b,
    ← long a (omega (arith, long_a)),
    ← long b (omega (arith, long_b)),
    same 2 (inl (omega arith)),
    same 64 (inr (omega arith, omega arith)),
    same 65 (inr (omega arith, omega arith)),
    same 66 (inr (omega arith, omega arith)),
    same 67 (inr (omega arith, omega arith)),
  ),
  rw (same_state a b (λ i h. same i (inl h)), same 64 (inr (omega arith, omega arith)), same 65 (inr (omega arith, omega arith))),
)

-- no other is written
module _ (s : Link) (toggled answered : Bool) (bytes : List ℕ) (far : 72 ≤ length bytes) where
  abbrev state : List ℕ
  state = state_bytes s.state bytes

  front_long : length (take 64 state) ≡ 64
  front_long = length-take-le 64 state (omega (arith, state_length s.state bytes (omega (arith, far))))

  in_state : (i : ℕ) → i < 64 → 35 ≤ i → get_or (heater_bytes s toggled answered bytes) i 0 ≡ get_or bytes i 0
  unfolding heater_bytes
  in_state i h l = get_or-append (take 64 state) _ 0 i (omega (arith, front_long)) ∙ get_or-take 64 state i 0 h ∙ state_kept s.state bytes i l

  kept : (i : ℕ) → (UsedInHeater i → ⊥) → get_or (heater_bytes s toggled answered bytes) i 0 ≡ get_or bytes i 0
  kept i h =
      let behind : 35 ≤ i = ⊎_elim (λ low. absurd (h (inl low))) (λ l. l) (lt_or_ge i 35) in
      ⊎_elim (λ low. in_state i low behind)
      (λ high. heater_kept s toggled answered bytes far i (⊎_elim (λ low. absurd (h (inr (high, low)))) (λ l. l) (lt_or_ge i 68))) (lt_or_ge i 64)

-- What a call of the link comes to: a refusal, with the link as it was, or a frame served; 16 counts stay 16

abbrev CameTo : Link → Exchange → Type 0
CameTo s r = ((n : ℕ) × (r ≡ refused_exchange (suc n) s)) ⊎ ((r.refusal ≡ 0) × (length r.link.state.counts ≡ length s.state.counts))

came : (s : Link) (q : Ask) → CameTo s (exchange_of s q)
unfolding exchange
came s q = go (check_number q.request q.table) (is_pair q.a q.b (pairs_in (cycle_of q.request))) frame.refusal
  where
    frame : Frame
    frame = next_frame (decode q.table) s.state

    go : (n : ℕ) (p : Bool) (m : ℕ)
        → CameTo s (cond (eqb n 0) (cond p (cond (eqb m 0) (served_in q.a q.b q.lost frame s) (refused_exchange m s)) (refused_exchange 30 s)) (refused_exchange n s))
    go zero true zero = inr (refl, ap (λ (l : List ℕ). length l) (frame_counts (decode q.table) s.state))
    go zero true (suc m) = inl (m, rw (ne_eqb (suc m) 0 (λ z. omega arith)))
    go zero false m = inl (29, refl)
    go (suc n) p m = inl (n, rw (ne_eqb (suc n) 0 (λ z. omega arith)))

bit_told : (b : Bool) → eqb (bit b) 1 ≡ b
bit_told true = refl
bit_told false = refl

-- One call

module _ (c : HeaterCall) (bytes : List ℕ) (is : is_heater bytes ≡ true) (lent : leb 32 (length c.entries) ≡ true) where
  abbrev now : Link
  now = link_of bytes

  abbrev given : Exchange
  given = exchange_of now (heater_asked c)

  far : 72 ≤ length bytes
  far = heater_long bytes is

  sixteen : length now.state.counts ≡ 16
  unfolding link_of
  sixteen = counts_read bytes

  can : can_exchange c.request c.table c.a c.b c.lost bytes c.entries ≡ true
  unfolding can_exchange
  can = rw (is, le-ltb (length c.entries) 32 (leb-true 32 (length c.entries) lent))

  -- what a call that can be made leaves and shows
  abbrev new_bytes : Exchange → List ℕ
  new_bytes r = after r.refusal (heater_bytes r.link r.toggled r.answered bytes) bytes

  abbrev new_seen : Exchange → HeaterSeen
  new_seen r =
      let answer = reply r.refusal r.count in
      record {
        answer = answer;
        entries = (exchange_shown c.entries r).entries;
        toggled = told_by answer (get_or (new_bytes r) 66 0);
        answered = told_by answer (get_or (new_bytes r) 67 0);
      }

  made : (r : Exchange) → CameTo now r → (new_seen r ≡ exchange_shown c.entries r) × Stands heaters bytes r.link (new_bytes r)
  unfolding reply after
  made r (inl (n, e)) = rw (e, ne_eqb (suc n) 0 (λ z. omega arith)) (refl, record { good = is; said = refl; as_long = refl; kept = λ i h. refl })
  made r (inr (z, many)) =
      let all : length r.link.state.counts ≡ 16 = many ∙ sixteen in
      rw z (
        rw (toggled_there r.link r.toggled r.answered bytes far, answered_there r.link r.toggled r.answered bytes far, bit_told r.toggled, bit_told r.answered),
        record {
          good = heater_is r.link r.toggled r.answered bytes far;
          said = link_read r.link r.toggled r.answered bytes far all;
          as_long = heater_length r.link r.toggled r.answered bytes far;
          kept = kept r.link r.toggled r.answered bytes far;
        },
      )

  made_call : (seen_of_heater c bytes ≡ exchange_shown c.entries given) × Stands heaters bytes (link_from now (heater_asked c ∷ [])) (heater_left c bytes)
  unfolding link_from heater_reply heater_after heater_entries
  made_call = rw can (made given (came now (heater_asked c)))

-- a call on bytes that are no heater, or with too few bytes for the entries
cannot : (c : HeaterCall) (bytes : List ℕ) (b : Bool) → is_heater bytes ≡ b → b && leb 32 (length c.entries) ≡ false
    → can_exchange c.request c.table c.a c.b c.lost bytes c.entries ≡ false
unfolding can_exchange
cannot c bytes true is short = rw (is, lt-ltb (length c.entries) 32 (leb-false 32 (length c.entries) short))
cannot c bytes false bad short = rw bad

sent_back : (c : HeaterCall) (bytes : List ℕ) → is_heater bytes && leb 32 (length c.entries) ≡ false
    → (seen_of_heater c bytes ≡ heater_sent_back c) × (heater_left c bytes ≡ bytes)
unfolding heater_reply heater_after heater_entries
sent_back c bytes short = rw (cannot c bytes (is_heater bytes) refl short) (refl, refl)

one_call : OneCall heaters
unfolding link_from
one_call = record {
  used_few = used_few;
  long = heater_long;
  alike = alike;
  refused = sent_back;
  made = made_call;
  none = λ s. refl;
  more = λ s q qs. refl;
}

-- what is counted of the calls that were seen, and of the calls below: a call that was sent back counts nothing
counted : (f : HeaterSeen → Bool) (g : Exchange → Bool) → ((entries : List ℕ) (r : Exchange) → f (exchange_shown entries r) ≡ g r) → ((c : HeaterCall) → f (heater_sent_back c) ≡ false)
    → (calls : List (Lending HeaterCall)) (s : Link) → count_of f (all_shown heaters s calls) ≡ count_of g (exchanges_from s (fed heaters calls))
unfolding count_of all_shown exchanges_from fed link_from
counted f g same none [] s = refl
counted f g same none (l ∷ ls) s = go (enough heaters l) (counted f g same none ls)
  where
    q : Ask
    q = heater_asked l.call

    go : (b : Bool) → ((s : Link) → count_of f (all_shown heaters s ls) ≡ count_of g (exchanges_from s (fed heaters ls)))
        → bit (f (cond b (exchange_shown l.call.entries (exchange_of s q)) (heater_sent_back l.call))) + count_of f (all_shown heaters (link_from s (keep b q [])) ls)
        ≡ count_of g (exchanges_from s (keep b q (fed heaters ls)))
    go true rest = rw (same l.call.entries (exchange_of s q), rest (exchange_of s q).link)
    go false rest = rw (none l.call, rest s) (zero-add (count_of g (exchanges_from s (fed heaters ls))))

-- a heater that bus_heater_fresh made
module _ (bytes : List ℕ) (made : heater_fresh_reply bytes ≡ pos 0) (calls : List (Lending HeaterCall)) where
  enough_bytes : 72 ≤ length bytes
  enough_bytes = ⊎_elim (λ h. absurd (not_refused 98 0 ((heater_fresh_refused bytes h).0 ∙ made))) (λ h. h) (lt_or_ge (length bytes) 72)

  abbrev behind : List ℕ
  behind = zeros 72 ++ drop 72 bytes

  room : 72 ≤ length behind
  room = omega (arith, length-append (zeros 72) (drop 72 bytes), length-replicate {A = ℕ} 72 0)

  fresh_is : heater_fresh_bytes bytes ≡ heater_bytes fresh_link false false behind
  fresh_is = sym (heater_fresh_made bytes enough_bytes).1

  good : is_heater (heater_fresh_bytes bytes) ≡ true
  good = rw fresh_is (heater_is fresh_link false false behind room)

  said : link_of (heater_fresh_bytes bytes) ≡ fresh_link
  said = rw fresh_is (link_read fresh_link false false behind room refl)

  all_told : HeaterToldInC bytes calls
  all_told =
      let run : Runs heaters (heater_fresh_bytes bytes) calls = (runs_all heaters one_call (heater_fresh_bytes bytes) calls).0 good in
      record {
        runs = run;
        from_fresh = said;
        toggles_seen = rw (run.same_seen, said) (counted (λ s. s.toggled) (λ r. r.toggled) (λ entries r. refl) (λ c. refl) calls fresh_link);
        answers_seen = rw (run.same_seen, said) (counted (λ s. s.answered) (λ r. r.answered) (λ entries r. refl) (λ c. refl) calls fresh_link);
        law = link_law (fed heaters calls);
      }

-- THE THEOREM: every list of bus_heater_serve.
pub heater_in_c : HeaterInC
heater_in_c = (runs_all heaters one_call, all_told)
