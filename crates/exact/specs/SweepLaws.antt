-- The sweep as a loop that goes through the jobs of a row and on through the rows, and calls itself only to put a job: one law for each turn
-- and each way out. `Rest` and `From` say that a state fails, and only that says anything: there is no law for the answer 'perhaps'. Each law
-- follows the witness: x is put if its row is p, left out if it is later. Assumes nothing.
use Rattle.std.specs.Prelude.{◌≡◌, refl, Bool, true, false, not, cond, ◌&&◌, ◌||◌, List, get_or, set, ltb, eqb}
use Rattle.std.proofs.Common.{sym, ◌∙◌, le-leb, lt-ltb, ltb-true, ltb-false, ne_eqb, eqb-true}
use Rattle.std.proofs.lemmas.Bool.{false≢true, eqb-false}
use Prim.Native.Nat.{ℕ, suc, ◌+◌, ◌-◌, ◌*◌, ◌≤◌, ◌<◌}
use native.Mathlib.Omega.{arith}
use Rattle.exact.specs.Sweep.{Rules, Lawful, Rows, Trace, Better, From, Rest, any_below, more, skips, puts, leaves, load, waiting}
use Rattle.exact.specs.WitnessLaws.{any_below_says, trace_pass, trace_put, trace_next, one_more, or_false_both, not_is_false}
use Rattle.exact.specs.Intervals.{waiting_le}

-- putting job x into row p fails
abbrev pub Putting : Rules → ℕ → ℕ → ℕ → List Bool → ℕ → Type 0
Putting u rows p x ps room = puts u ps room x ≡ true → Rest u rows p (x + 1) (set ps x true) (room - u.cost x)

module _ (u : Rules) (rows p : ℕ) (ps : List Bool) where
  -- a row begins: the jobs left need too much of w rows; or what comes fails
  pub row_late : p < rows → (w : ℕ) → w ≤ rows - p → u.f * w < waiting u p ps w → From u rows p ps
  row_late h w le l = record { better = λ g b begun r v t. absurd (omega (arith, waiting_le u b rows r v p begun ps t w (omega arith))) }

  pub row_begun : p < rows → Rest u rows p 0 ps u.f → From u rows p ps
  row_begun h e = let z : u.n - 0 ≡ u.n = omega arith in
      record { better = λ g b begun r v t. e.better h g b begun r v t (rw z) }

  module _ (x room : ℕ) where
    -- the row is at its end: it could hold one more; or what comes after it fails
    module _ (end : u.n ≤ x) where
      pub rest_full : any_below (more u p ps room) u.n ≡ true → Rest u rows p x ps room
      unfolding load
      rest_full e =
          let (i, h, m) = any_below_says (more u p ps room) u.n e in
          let z : u.n - x ≡ 0 = omega arith in
          record { better = λ l g b begun r v t s. one_more u g rows b r v p begun x ps room end t (omega (arith, rw z at s)) i h m }

      pub rest_next : From u rows (p + 1) ps → Rest u rows p x ps room
      rest_next f = record { better = λ l g b begun r v t s. f.better g b (omega arith) r v (trace_next u r p x ps end t) }

    module _ (left : x < u.n) where
      turn : (r : ℕ → ℕ) → load u r p (u.n - x) x ≡ cond (u.sided x && eqb (r x) p) (u.cost x) 0 + load u r p (u.n - (x + 1)) (x + 1)
      unfolding load
      turn r = let z : u.n - x ≡ suc (u.n - (x + 1)) = omega arith in rw z

      -- it is not in this row
      module _ (r : ℕ → ℕ) (s : room + load u r p u.n 0 ≡ u.f + load u r p (u.n - x) x) where
        not_here : (u.sided x ≡ true → r x ≡ p → ⊥) → (b : Bool) → u.sided x ≡ b → room + load u r p u.n 0 ≡ u.f + load u r p (u.n - (x + 1)) (x + 1)
        not_here off true q = omega (arith, rw (turn r, q, ne_eqb (r x) p (off q)) at s)
        not_here off false q = omega (arith, rw (turn r, q) at s)

      -- job x is passed over
      pub rest_skip : skips u p ps x ≡ true → Rest u rows p (x + 1) ps room → Rest u rows p x ps room
      rest_skip e f = record {
        better = λ l g b begun r v t s.
            let off = away r b begun v t in
            f.better l g b begun r v (trace_pass u r p x ps t off) (not_here r s off (u.sided x) refl);
      }
        where
          away : (r : ℕ → ℕ) (b : ℕ) → b ≤ p → Rows u b rows r → Trace u r p x ps → u.sided x ≡ true → r x ≡ p → ⊥
          away r b begun v t us w =
              let un : get_or ps x false ≡ false = t.here x left us w (omega arith) in
              let k : ltb p (u.first x) ≡ true = rw (us, un) at e in
              omega (arith, ltb-true p (u.first x) k, v.low x left us (omega arith))

      -- it is not passed over; putting it fails, and leaving it out, where it may be
      undecided : skips u p ps x ≡ false → Putting u rows p x ps room → (leaves u p ps x ≡ true → Rest u rows p (x + 1) ps room) → Rest u rows p x ps room
      undecided e put leave = record { better = λ l g b begun r v t s. go l g b begun r v t s (eqb (r x) p) refl }
        where
          us : u.sided x ≡ true
          us = not_is_false (u.sided x) (or_false_both (not (u.sided x)) (get_or ps x false || ltb p (u.first x)) e).0

          un : get_or ps x false ≡ false
          un = (or_false_both (get_or ps x false) (ltb p (u.first x)) (or_false_both (not (u.sided x)) (get_or ps x false || ltb p (u.first x)) e).1).0

          go : p < rows → Lawful u → (b : ℕ) → b ≤ p → (r : ℕ → ℕ) → Rows u b rows r → Trace u r p x ps
              → room + load u r p u.n 0 ≡ u.f + load u r p (u.n - x) x → (c : Bool) → eqb (r x) p ≡ c → Better u b rows r
          go l g b begun r v t s true q =
              let w : r x ≡ p = eqb-true (r x) p q in
              let k : room + load u r p u.n 0 ≡ u.f + (u.cost x + load u r p (u.n - (x + 1)) (x + 1)) = rw (turn r, us, q) at s in
              let fits : u.cost x ≤ room = omega (arith, v.room p begun l) in
              let ok : u.put_ok ps x ≡ true = g.put_holds ps x left (λ y o uy d. has_row y o uy (v.order y x (omega arith) left uy us d) w) in
              (put (rw (le-leb (u.cost x) room fits, ok) refl)).better l g b begun r v (trace_put u r p x ps t left w) (omega arith)
            where
              has_row : (y : ℕ) → y < x → u.sided y ≡ true → r y ≤ r x → r x ≡ p → get_or ps y false ≡ true
              has_row y o uy le w = at (eqb (r y) p) refl
                where
                  at : (c : Bool) → eqb (r y) p ≡ c → get_or ps y false ≡ true
                  at true q = t.passed y (omega arith) uy (eqb-true (r y) p q) o
                  at false q = let ne : r y ≡ p → ⊥ = eqb-false (r y) p q in t.past y (omega arith) uy (omega arith)
          go l g b begun r v t s false q =
              let ne : r x ≡ p → ⊥ = eqb-false (r x) p q in
              let up : p < r x = later (ltb (r x) p) refl ne in
              let ok : u.leave_ok ps x ≡ true = g.leave_holds ps x left (λ z o uz d. t.later z (omega arith) uz (omega (arith, v.order x z left (omega arith) us uz d))) in
              let lt : p + 1 < u.end x = omega (arith, v.high x left us (omega arith)) in
              (leave (rw (lt-ltb (p + 1) (u.end x) lt, ok) refl)).better l g b begun r v (trace_pass u r p x ps t (λ a. ne)) (not_here r s (λ a. ne) true us)
            where
              later : (c : Bool) → ltb (r x) p ≡ c → (r x ≡ p → ⊥) → p < r x
              later true o ne = absurd (false≢true (sym un ∙ t.past x left us (ltb-true (r x) p o)))
              later false o ne = let k : p ≤ r x = ltb-false (r x) p o in omega arith

      module _ (e : skips u p ps x ≡ false) (a : Putting u rows p x ps room) where
        -- it may not be left out
        pub rest_stuck : leaves u p ps x ≡ false → Rest u rows p x ps room
        rest_stuck b = undecided e a (λ t. absurd (false≢true (sym b ∙ t)))

        -- leaving it out fails
        pub rest_left : Rest u rows p (x + 1) ps room → Rest u rows p x ps room
        rest_left f = undecided e a (λ t. f)
