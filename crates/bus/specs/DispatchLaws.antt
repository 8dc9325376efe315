-- Each way out of a call of the dispatcher, as its definition has it.
use Rattle.std.specs.Prelude.{ℕ, ◌≤◌, ◌<◌, ◌≡◌, true, false, List, ◌++◌, ℤ, pos, length, drop}
use borrow.Author.Tests.{lt-ltb, le-ltb}
use Rattle.dispatcher.specs.Dispatch.{fresh_state}
use Rattle.dispatcher.specs.Numbered.{Frame}
use Rattle.dispatcher.specs.Numbered.{Reported}
use Rattle.lent.specs.Words.{zeros}
use Rattle.lent.specs.State.{is_state, state_bytes}
use Rattle.bus.specs.Reply.{refused_reply}
use Rattle.bus.specs.ReplyLaws.{reply_refused, reply_value, after_refusal, after_value}
use Rattle.bus.specs.Dispatch.{fresh_reply, fresh_bytes, frame_served, can_serve, frame_reply, frame_state, shown_bytes, frame_entries, report_of, report_reply, report_state}

-- bus_fresh

module _ (state : List ℕ) where
  pub fresh_refused : length state < 64 → (refused_reply 99 ≡ fresh_reply state) × (state ≡ fresh_bytes state)
  unfolding fresh_reply fresh_bytes
  fresh_refused h = let e = lt-ltb (length state) 64 h in (rw e, rw e)

  pub fresh_made : 64 ≤ length state → (pos 0 ≡ fresh_reply state) × (state_bytes fresh_state (zeros 64 ++ drop 64 state) ≡ fresh_bytes state)
  unfolding fresh_reply fresh_bytes
  fresh_made h = let e = le-ltb (length state) 64 h in (rw e, rw e)

-- bus_next_frame

module _ (bytes state entries : List ℕ) where
  abbrev pub FrameAnswered : ℤ → List ℕ → List ℕ → Type 0
  FrameAnswered z state' entries' = (z ≡ frame_reply bytes state entries) × (state' ≡ frame_state bytes state entries) × (entries' ≡ frame_entries bytes state entries)

  not_served : can_serve state entries ≡ false → FrameAnswered (refused_reply 99) state entries
  unfolding frame_reply frame_state frame_entries
  not_served e = (rw e, rw e, rw e)

  pub no_state : is_state state ≡ false → FrameAnswered (refused_reply 99) state entries
  unfolding can_serve
  no_state e = not_served (rw e)

  pub no_room : is_state state ≡ true → length entries < 32 → FrameAnswered (refused_reply 99) state entries
  unfolding can_serve
  no_room e h = not_served (rw (e, lt-ltb (length entries) 32 h))

  module _ (is : is_state state ≡ true) (room : 32 ≤ length entries) (frame : Frame) (e : frame ≡ frame_served bytes state) where
    can : can_serve state entries ≡ true
    unfolding can_serve
    can = rw (is, le-ltb (length entries) 32 room)

    pub frame_refused : (frame.refusal ≡ 0 → ⊥) → FrameAnswered (refused_reply frame.refusal) state entries
    unfolding frame_reply frame_state frame_entries
    frame_refused h = rw (can, ← e) (
      reply_refused frame.refusal frame.count h,
      after_refusal frame.refusal (state_bytes frame.state state) state h,
      after_refusal frame.refusal (shown_bytes frame entries) entries h,
    )

    pub frame_made : frame.refusal ≡ 0 → FrameAnswered (pos frame.count) (state_bytes frame.state state) (shown_bytes frame entries)
    unfolding frame_reply frame_state frame_entries
    frame_made h = rw (can, ← e) (
      reply_value frame.refusal frame.count h,
      after_value frame.refusal (state_bytes frame.state state) state h,
      after_value frame.refusal (shown_bytes frame entries) entries h,
    )

-- bus_report

module _ (request : List ℕ) (task ticks : ℕ) (state : List ℕ) where
  abbrev pub Taken : ℤ → List ℕ → Type 0
  Taken z state' = (z ≡ report_reply request task ticks state) × (state' ≡ report_state request task ticks state)

  pub not_taken : is_state state ≡ false → Taken (refused_reply 99) state
  unfolding report_reply report_state
  not_taken e = (rw e, rw e)

  module _ (is : is_state state ≡ true) (r : Reported) (e : r ≡ report_of request task ticks state) where
    pub report_refused_lem : (r.refusal ≡ 0 → ⊥) → Taken (refused_reply r.refusal) state
    unfolding report_reply report_state
    report_refused_lem h = rw (is, ← e) (
      reply_refused r.refusal 0 h,
      after_refusal r.refusal (state_bytes r.state state) state h,
    )

    pub report_made : r.refusal ≡ 0 → Taken (pos 0) (state_bytes r.state state)
    unfolding report_reply report_state
    report_made h = rw (is, ← e) (
      reply_value r.refusal 0 h,
      after_value r.refusal (state_bytes r.state state) state h,
    )
