-- Each count is what the list of calls says, whatever bytes are taken for the table: a report raises its own task's count alone, next-frame none.
use Rattle.std.specs.Prelude.{◌≡◌, Bool, true, ◌&&◌, ℕ, ◌+◌, ◌≤◌, ◌<◌, min, length, get_or, ltb, eqb}
use Rattle.std.proofs.Math.Path.{refl}
use Rattle.std.proofs.Common.{ap, ◌∙◌, arith, ltb-true, ltb-false}
use Rattle.std.proofs.Math.Bool.{false}
use mathlib.Core.List.{List, [], ◌∷◌}
use Rattle.cursor.specs.Choice.{bit}
use Rattle.cursor.specs.PaddedLaws.{get_or_blanks}
use Rattle.request.specs.Request.{Reading, readable, unreadable, reading}
use Rattle.table.specs.Table.{decode}
use Rattle.dispatcher.specs.Dispatch.{no_overruns, fresh_state, exceeds, reported, overran}
use Rattle.dispatcher.specs.FrameLaws.{frame_counts}
use Rattle.dispatcher.specs.ReportLaws.{report_counted, report_unknown, report_unreadable, report_as_many, raised_only}
use Rattle.dispatcher.specs.declared.State.{State}
use Rattle.flight.specs.Calls.{Call, next_frame_call, report, dispatch, final}
use Rattle.flight.specs.Overruns.{overrun_in, overruns}

pub as_many : (bytes : List ℕ) (s : State) (c : Call) → length (dispatch bytes s c).after.counts ≡ length s.counts
unfolding dispatch
as_many bytes s next_frame_call = ap (λ (l : List ℕ). length l) (frame_counts (decode bytes) s)
as_many bytes s (report request task ticks) = report_as_many (reading request) task ticks s

module _ (i : ℕ) where
  -- the count of task i rises by `more`, up to 65,535
  abbrev Rises : ℕ → List ℕ → List ℕ → Type 0
  Rises more before after = get_or after i 0 ≡ min 65535 (get_or before i 0 + more)

  -- no report, or not an accepted one above C
  stays : (own : Bool) (counts : List ℕ) → get_or counts i 0 ≤ 65535 → Rises (bit (own && false)) counts counts
  stays true counts small = omega arith
  stays false counts small = omega arith

  report_rises : (r : Reading) (task ticks : ℕ) (s : State) → i < length s.counts → get_or s.counts i 0 ≤ 65535
      → Rises (bit (eqb task i && overran r task ticks)) s.counts (reported r task ticks s).state.counts
  unfolding overran
  report_rises (unreadable n) task ticks s within small =
      rw (report_unreadable (unreadable n) task ticks s n refl) (stays (eqb task i) s.counts small)
  report_rises (readable tasks pairs g) task ticks s within small = go (ltb task (length tasks)) refl
    where
      r : Reading
      r = readable tasks pairs g

      over : Bool
      over = exceeds tasks task ticks

      go : (b : Bool) → ltb task (length tasks) ≡ b
          → Rises (bit (eqb task i && (ltb task (length tasks) && over))) s.counts (reported r task ticks s).state.counts
      go true q = rw (report_counted r task ticks s tasks pairs g refl (ltb-true task (length tasks) q), q) (raised_only over task s.counts i within small)
      go false q = rw (report_unknown r task ticks s tasks pairs g refl (ltb-false task (length tasks) q), q) (stays (eqb task i) s.counts small)

  module _ (bytes : List ℕ) where
    one_rises : (s : State) (c : Call) → i < length s.counts → get_or s.counts i 0 ≤ 65535
        → Rises (overrun_in i c) s.counts (dispatch bytes s c).after.counts
    unfolding dispatch
    one_rises s next_frame_call within small = rw (frame_counts (decode bytes) s) (stays false s.counts small)
    one_rises s (report request task ticks) within small = report_rises (reading request) task ticks s within small

    all_rise : (s : State) (cs : List Call) → i < length s.counts → get_or s.counts i 0 ≤ 65535
        → Rises (overruns i cs) s.counts (final (dispatch bytes) s cs).counts
    unfolding final overruns
    all_rise s [] within small = stays false s.counts small
    all_rise s (c ∷ cs) within small =
        let one = one_rises s c within small in
        all_rise (dispatch bytes s c).after cs (omega (arith, as_many bytes s c)) (omega (arith, one)) ∙ rw one (omega arith)

    -- all counts are 0 at first
    pub overruns_counted : i < 16 → (calls : List Call) → get_or (final (dispatch bytes) fresh_state calls).counts i 0 ≡ min 65535 (overruns i calls)
    overruns_counted few calls =
        let none : get_or no_overruns i 0 ≡ 0 = get_or_blanks 16 0 [] i in
        all_rise fresh_state calls few (omega arith) ∙ rw none (ap (min 65535) (omega arith))
