-- The one-off transfer in flight: served last in its frame, behind the entries that the dispatcher serves there. 02, R-6: "Ground wants to send a single extra
-- frame of payload data."
use Rattle.std.specs.Prelude.{◌≡◌, List, [], ℕ, suc, ◌+◌, ◌*◌, ◌≤◌, ◌<◌, cond, ◌&&◌, length, get_or, eqb}
use Rattle.cursor.specs.Fields.{Bytes}
use Rattle.table.specs.Table.{Table}
use Rattle.model.specs.Plan.{Instance}
use Rattle.flight.specs.Calls.{Call}
use Rattle.checker.specs.Exactly.{OfBoth}
use Rattle.one_off.specs.OneOff.{one_off, in_frame}
use Rattle.flight.specs.Timing.{Served, start_time, finish, KeepToC}
use Rattle.flight.specs.Flight.{frames_flown, Flight}

-- how many entries are served in frame k, and so the place of the extra transfer
abbrev pub last_place : List ℕ → List Call → ℕ → ℕ
last_place table_bytes calls k = length (get_or (frames_flown table_bytes calls) k [])

-- the actual times, with `took` for the extra transfer, at place n of frame k
unfoldable pub with_extra : (ℕ → ℕ → ℕ) → ℕ → ℕ → ℕ → ℕ → ℕ → ℕ
with_extra actual k n took m p = cond (eqb m k && eqb p n) took (actual m p)

-- the request with its cycle, the bytes of the table and what they say, the list of calls, the actual times; and the extra transfer's frame and time
module _ (x : Instance) (table_bytes : List ℕ) (t : Table) (calls : List Call) (actual : ℕ → ℕ → ℕ) (k took : ℕ) where
  abbrev pub extra_place : ℕ
  extra_place = last_place table_bytes calls k

  abbrev pub times : ℕ → ℕ → ℕ
  times = with_extra actual k extra_place took

  -- when it starts and ends
  abbrev pub extra_start : ℕ
  extra_start = start_time x.g t.f times k extra_place

  abbrev pub extra_end : ℕ
  extra_end = finish x.g t.f times k extra_place

  -- asked for from tick s to tick e
  pub record Sent (s e : ℕ) : Type 0 where
    -- it takes its time
    pub takes : extra_end ≡ extra_start + took
    -- it starts with the frame where it is served alone, and else g ticks after the entry before it ended
    pub alone : extra_place ≡ 0 → extra_start ≡ k * t.f
    pub silent_before : (p : ℕ) → extra_place ≡ suc p → extra_start ≡ finish x.g t.f actual k p + x.g
    pub not_early : s ≤ extra_start
    -- it ends by the frame's end, with g ticks to spare, and so by e
    pub in_frame : extra_end + x.g ≤ (k + 1) * t.f
    pub by_the_end : extra_end ≤ e
    -- nothing else moves: each entry starts and ends as without it, and all that is claimed of a flight holds
    pub same_starts : (m p : ℕ) → Served (frames_flown table_bytes calls) m p → start_time x.g t.f times m p ≡ start_time x.g t.f actual m p
    pub same_ends : (m p : ℕ) → Served (frames_flown table_bytes calls) m p → finish x.g t.f times m p ≡ finish x.g t.f actual m p
    pub flies : Flight x table_bytes t calls times

-- for every request and table and every length L asked for from s to e: if frame k is answered, then for every list of calls that flies frame k and all actual
-- times, an extra transfer of at most L ticks in frame k is sent in time
abbrev pub OneOffSent : Type 0
OneOffSent = (request table_bytes : List ℕ) → Bytes table_bytes → (L s e k : ℕ) → one_off L s e request table_bytes ≡ in_frame k
    → OfBoth request table_bytes (λ x t. (calls : List Call) (actual : ℕ → ℕ → ℕ) → KeepToC x (frames_flown table_bytes calls) actual
    → k < length (frames_flown table_bytes calls) → (took : ℕ) → took ≤ L → Sent x table_bytes t calls actual k took s e)
