-- The frame that is answered has time for the extra transfer, whatever the actual times.
-- Behind the entries of a frame what is left of its row's time is left, and the answered frame leaves L + g. The time of the extra transfer stands behind
-- those of all entries of its frame, so it moves none.
use Rattle.std.specs.Prelude.{◌≡◌, Bool, ◌&&◌, List, length}
use Rattle.std.proofs.Math.Path.{refl, ap}
use Rattle.std.proofs.Common.{◌∙◌, arith}
use Rattle.std.proofs.Math.Bool.{true, false, cond}
use Prim.Native.Nat.{ℕ, zero, suc, ◌+◌, ◌≤◌, ◌<◌}
use Rattle.std.proofs.Math.Dec.{eqb}
use borrow.Author.Tests.{eq-eqb, eqb-true}
use Rattle.table.specs.Table.{Table}
use Rattle.table.specs.TableBytes.{SaysTable}
use Rattle.table.specs.TableBytesLaws.{says_decodes}
use Rattle.model.specs.Plan.{Instance}
use Rattle.model.specs.Within.{Within}
use Rattle.model.specs.Described.{Accepted}
use Rattle.flight.specs.Calls.{Call}
use Rattle.flight.specs.Timing.{Served, KeepToC, start_time}
use Rattle.flight.specs.Flight.{frames_flown}
use Rattle.flight.specs.OnTime.{frame_begins}
use Rattle.flight.specs.Theorem.{flight, time_left}
use Rattle.one_off.specs.Exactly.{Fits}
use Rattle.one_off.specs.ExactlyLaws.{one_off_exact}
use Rattle.flight_one_off.specs.Sent.{last_place, with_extra, Sent, OneOffSent}

-- The actual times with the extra transfer's

module _ (actual : ℕ → ℕ → ℕ) (k n took : ℕ) where
  its_time : with_extra actual k n took k n ≡ took
  unfolding with_extra
  its_time = rw (eq-eqb k k refl, eq-eqb n n refl)

  -- another place's
  other_time : (m p : ℕ) → (m ≡ k → p < n) → with_extra actual k n took m p ≡ actual m p
  unfolding with_extra
  other_time m p h = go (eqb m k) refl (eqb p n) refl
    where
      go : (a : Bool) → eqb m k ≡ a → (b : Bool) → eqb p n ≡ b → cond (a && b) took (actual m p) ≡ actual m p
      go true q true w = absurd (let low = h (eqb-true m k q) in let same = eqb-true p n w in omega arith)
      go true q false w = refl
      go false q b w = refl

  -- a start depends on the times before it alone
  same_start : (g f m p : ℕ) → (m ≡ k → p ≤ n) → start_time g f (with_extra actual k n took) m p ≡ start_time g f actual m p
  unfolding start_time
  same_start g f m zero h = refl
  same_start g f m (suc p) h = rw (same_start g f m p (λ e. omega (arith, h e)), other_time m p (λ e. omega (arith, h e)))

module _ (request table_bytes : List ℕ) (x : Instance) (within : Within request x) (t : Table) (says : SaysTable table_bytes t) (a : Accepted x t)
    (L s e k : ℕ) (room : Fits x t L s e k) (calls : List Call) (actual : ℕ → ℕ → ℕ) (keep : KeepToC x (frames_flown table_bytes calls) actual)
    (flown : k < length (frames_flown table_bytes calls)) (took : ℕ) (short : took ≤ L) where
  abbrev n : ℕ
  n = last_place table_bytes calls k

  abbrev now : ℕ → ℕ → ℕ
  now = with_extra actual k n took

  -- an entry that is served stands before it, or in another frame
  before_it : (m p : ℕ) → Served (frames_flown table_bytes calls) m p → m ≡ k → p < n
  before_it m p v same = rw same at v.place_filled

  kept : KeepToC x (frames_flown table_bytes calls) now
  kept m p v = rw (other_time actual k n took m p (before_it m p v)) (keep m p v)

  start_is : start_time x.g t.f now k n ≡ start_time x.g t.f actual k n
  start_is = same_start actual k n took x.g t.f k n (λ same. omega arith)

  same : (m p : ℕ) → Served (frames_flown table_bytes calls) m p → start_time x.g t.f now m p ≡ start_time x.g t.f actual m p
  same m p v = same_start actual k n took x.g t.f m p (λ q. omega (arith, before_it m p v q))

  sent : Sent x table_bytes t calls actual k took s e
  unfolding start_time
  sent =
      let left = time_left request table_bytes x t within (says_decodes table_bytes t says) a calls actual keep k flown in
      let begun = frame_begins x.g t.f actual k n in
      let its = its_time actual k n took in
      record {
        takes = ap (λ (z : ℕ). start_time x.g t.f now k n + z) its;
        alone = λ q. start_is ∙ ap (start_time x.g t.f actual k) q;
        silent_before = λ p q. start_is ∙ ap (start_time x.g t.f actual k) q;
        not_early = omega (arith, start_is, begun, room.not_early);
        in_frame = omega (arith, start_is, its, left, room.enough);
        by_the_end = omega (arith, start_is, its, left, room.enough, room.not_late);
        same_starts = same;
        same_ends = λ m p v. rw (same m p v, other_time actual k n took m p (before_it m p v));
        flies = flight request table_bytes x t within (says_decodes table_bytes t says) a calls now kept;
      }

-- THE THEOREM
pub one_off_sent : OneOffSent
one_off_sent request table_bytes are L s e k q =
    let c = ((one_off_exact request table_bytes L s e are).found k).0 q in
    (c.0, c.1, c.2, c.3, sent request table_bytes c.0 c.1 c.2 c.3 c.4.0 L s e k c.4.2.fits)
