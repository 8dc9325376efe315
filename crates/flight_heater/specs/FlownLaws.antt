-- The link's frames are the flight's. Its state is that of the m frames served so far, so its row is below F: no call is refused, and each gives next-frame's
-- answer and state.
use Rattle.std.specs.Prelude.{ℕ, ◌+◌, ◌<◌, ◌≡◌, length}
use Rattle.std.proofs.Math.Path.{refl, ap}
use Rattle.std.proofs.Common.{◌∙◌, mod-lt, arith}
use mathlib.Core.List.{List, [], ◌∷◌, map}
use Rattle.cursor.specs.Fields.{Bytes}
use Rattle.table.specs.Table.{Table, decode}
use Rattle.table.specs.TableBytes.{SaysTable}
use Rattle.table.specs.TableBytesLaws.{says_decodes}
use Rattle.model.specs.Plan.{Instance}
use Rattle.model.specs.Within.{Within}
use Rattle.model.specs.Described.{Accepted}
use Rattle.checker.specs.ExactlyLaws.{check_exact}
use Rattle.dispatcher.specs.Dispatch.{no_overruns, state_at, next_frame}
use Rattle.dispatcher.specs.FrameLaws.{frame_served_lem, fresh_at, moved_at}
use Rattle.dispatcher.specs.declared.State.{State}
use Rattle.dispatcher.specs.Numbered.{Frame}
use Rattle.flight.specs.Calls as flight
use Rattle.flight.specs.Calls.{answers, final, dispatch}
use Rattle.flight.specs.Theorem.{flight}
use Rattle.heater_link.specs.Exchange.{fresh_link}
use Rattle.heater_link.specs.Exactly.{IsPair, row_answered, ExchangeExact}
use Rattle.heater_link.specs.ExactlyLaws.{link_exact}
use Rattle.heater_link.specs.Calls.{exchange_of, exchanges_from, link_from}
use Rattle.heater_link.specs.declared.Link.{Link}
use Rattle.heater_link.specs.declared.Losses.{Losses}
use Rattle.heater_link.specs.Numbered.{Exchange}
use Rattle.flight_heater.specs.Flown.{ask_for, asks_of, frames_asked, SameFrames, LinkFlight}

module _ (request bytes : List ℕ) (are : Bytes bytes) (x : Instance) (within : Within request x) (t : Table) (says : SaysTable bytes t) (acc : Accepted x t)
    (a b : ℕ) (pair : IsPair x a b) where
  abbrev F : ℕ
  F = length t.rows

  some_rows : 0 < F
  some_rows = omega (arith, says.form.some_rows)

  -- m frames are served so far
  module _ (l : Losses) (s : Link) (m : ℕ) (v : List ℕ) (state : s.state ≡ state_at F m v) where
    abbrev r : Exchange
    r = exchange_of s (ask_for request bytes a b l)

    exactly : ExchangeExact request bytes a b l s
    exactly = link_exact request bytes are a b l s

    below : s.state.row < F
    below = rw state (mod-lt m some_rows)

    no_refusal : r.refusal ≡ 0
    no_refusal = exactly.served.1 (x, within, t, says, (acc, pair, below))

    frame_is : r.link.state ≡ (next_frame (decode bytes) s.state).state
    frame_is = exactly.frame_after no_refusal

    next_state : r.link.state ≡ state_at F (m + 1) v
    next_state =
        frame_is ∙ ap (λ (f : Frame). f.state) (frame_served_lem bytes s.state t (says_decodes bytes t says) below)
        ∙ rw state (moved_at F m v some_rows)

  same_answers : (losses : List Losses) (s : Link) (m : ℕ) (v : List ℕ) → s.state ≡ state_at F m v
      → map (λ (r : Exchange). flight.frame (row_answered r)) (exchanges_from s (asks_of request bytes a b losses))
      ≡ answers (dispatch bytes) s.state (frames_asked request bytes a b losses)
  unfolding exchanges_from answers dispatch
  same_answers [] s m v e = refl
  same_answers (l ∷ losses) s m v e =
      let head = ap flight.frame ((exactly l s m v e).next_frames (no_refusal l s m v e)) in
      let tail = same_answers losses (r l s m v e).link (m + 1) v (next_state l s m v e)
      ∙ ap (λ (z : State). answers (dispatch bytes) z (frames_asked request bytes a b losses)) (frame_is l s m v e) in
      λ i. head i ∷ tail i

  same_state : (losses : List Losses) (s : Link) (m : ℕ) (v : List ℕ) → s.state ≡ state_at F m v
      → (link_from s (asks_of request bytes a b losses)).state ≡ final (dispatch bytes) s.state (frames_asked request bytes a b losses)
  unfolding link_from final dispatch
  same_state [] s m v e = refl
  same_state (l ∷ losses) s m v e =
      same_state losses (r l s m v e).link (m + 1) v (next_state l s m v e)
      ∙ ap (λ (z : State). final (dispatch bytes) z (frames_asked request bytes a b losses)) (frame_is l s m v e)

  frames : (losses : List Losses) → SameFrames request bytes a b losses x t
  frames losses = record {
    same_answers = same_answers losses fresh_link 0 no_overruns (fresh_at F some_rows);
    same_state = same_state losses fresh_link 0 no_overruns (fresh_at F some_rows);
    flies = flight request bytes x t within (says_decodes bytes t says) acc (frames_asked request bytes a b losses);
  }

-- THE THEOREM: for every table that the check accepts, every pair of the request and every pattern of losses.
pub link_flies : LinkFlight
link_flies request bytes are pass =
    let c = (check_exact request bytes are).accepts.0 pass in
    record { x = c.0; within = c.1; t = c.2; says = c.3; frames = frames request bytes are c.0 c.1 c.2 c.3 c.4 }
