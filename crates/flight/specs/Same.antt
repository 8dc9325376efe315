-- The dispatcher is the plain one: its state is that of m and v, turn by turn, and so over every list of calls.
use Rattle.std.specs.Prelude.{◌≡◌, Bool, true, false, cond, ℕ, zero, suc, ◌+◌, ◌<◌, length, get_or, ltb}
use Rattle.std.proofs.Math.Path.{refl, ap}
use Rattle.std.proofs.Common.{◌∙◌, mod-lt, ltb-true, ltb-false}
use mathlib.Core.List.{List, [], ◌∷◌}
use native.Mathlib.Omega.{arith}
use Rattle.request.specs.Request.{Reading, readable, unreadable, reading}
use Rattle.table.specs.Table.{Entry, Table, table, decode}
use Rattle.table.specs.Answers.{row_given, entries_said}
use Rattle.table.specs.AnswerLaws.{given_refusal}
use Rattle.dispatcher.specs.Dispatch.{fresh_state, state_at, exceeds, reported}
use Rattle.dispatcher.specs.FrameLaws.{frame_served_lem, fresh_at, moved_at}
use Rattle.dispatcher.specs.ReportLaws.{report_counted, report_unknown, report_unreadable}
use Rattle.dispatcher.specs.declared.State.{State}
use Rattle.flight.specs.Calls.{Call, next_frame_call, report, Answer, Turn, report_turn, dispatch}
use Rattle.flight.specs.Calls.{Plain, begin, height, plain_frame, one_served, one_heard, plain_turn, heard, plainly}
use Rattle.flight.specs.Calls.{answers, final, with_frame, frames_shown}

-- the state that goes with m and v, in a table of F rows
abbrev pub state_for : ℕ → Plain → State
state_for F s = state_at F s.m s.v

-- the same turn, with that state
abbrev pub turn_of : ℕ → Turn Plain → Turn State
turn_of F u = record { answer = u.answer; after = state_for F u.after }

report_same : (F : ℕ) (r : Reading) (i ticks : ℕ) (s : Plain) → report_turn (reported r i ticks (state_for F s)) ≡ turn_of F (heard r i ticks s)
unfolding heard
report_same F (unreadable n) i ticks s = rw (report_unreadable (unreadable n) i ticks (state_for F s) n refl)
report_same F (readable tasks pairs g) i ticks s = go (ltb i (length tasks)) refl
  where
    r : Reading
    r = readable tasks pairs g

    go : (b : Bool) → ltb i (length tasks) ≡ b
        → report_turn (reported r i ticks (state_for F s))
        ≡ turn_of F (cond (ltb i (length tasks)) (plain_turn 0 (one_heard (exceeds tasks i ticks) i s)) (plain_turn 16 s))
    go true q = rw (report_counted r i ticks (state_for F s) tasks pairs g refl (ltb-true i (length tasks) q), q)
    go false q = rw (report_unknown r i ticks (state_for F s) tasks pairs g refl (ltb-false i (length tasks) q), q)

module _ (bytes : List ℕ) (t : Table) (says : decode bytes ≡ table t) (pos : 0 < height t) where
  turn_same : (s : Plain) (c : Call) → dispatch bytes (state_for (height t) s) c ≡ turn_of (height t) (plainly t s c)
  unfolding dispatch plainly
  turn_same s next_frame_call = rw (frame_served_lem bytes (state_for (height t) s) t says (mod-lt s.m pos), moved_at (height t) s.m s.v pos)
  turn_same s (report request i ticks) = report_same (height t) (reading request) i ticks s

  answers_same : (s : Plain) (cs : List Call) → answers (dispatch bytes) (state_for (height t) s) cs ≡ answers (plainly t) s cs
  unfolding answers
  answers_same s [] = refl
  answers_same s (c ∷ cs) = rw (turn_same s c) (ap (λ (l : List Answer). (plainly t s c).answer ∷ l) (answers_same (plainly t s c).after cs))

  final_same : (s : Plain) (cs : List Call) → final (dispatch bytes) (state_for (height t) s) cs ≡ state_for (height t) (final (plainly t) s cs)
  unfolding final
  final_same s [] = refl
  final_same s (c ∷ cs) = rw (turn_same s c) (final_same (plainly t s c).after cs)

  pub all_answers : (cs : List Call) → answers (dispatch bytes) fresh_state cs ≡ answers (plainly t) begin cs
  all_answers cs = rw (fresh_at (height t) pos) (answers_same begin cs)

  pub final_state : (cs : List Call) → final (dispatch bytes) fresh_state cs ≡ state_for (height t) (final (plainly t) begin cs)
  final_state cs = rw (fresh_at (height t) pos) (final_same begin cs)

-- The frames served

-- n frames, from frame m on
unfoldable pub frames_from : Table → ℕ → ℕ → List (List Entry)
frames_from t m zero = []
frames_from t m (suc n) = plain_frame t m ∷ frames_from t (m + 1) n

abbrev pub ask : Call → ℕ → ℕ
ask next_frame_call n = suc n
ask (report bytes i ticks) n = n

-- how many calls ask for a frame
unfoldable pub asked : List Call → ℕ
asked [] = 0
asked (c ∷ cs) = ask c (asked cs)

pub frames_from_length : (t : Table) (m n : ℕ) → length (frames_from t m n) ≡ n
unfolding frames_from
frames_from_length t m zero = refl
frames_from_length t m (suc n) = ap suc (frames_from_length t (m + 1) n)

pub frames_from_at : (t : Table) (m n i : ℕ) → i < n → get_or (frames_from t m n) i [] ≡ plain_frame t (m + i)
unfolding frames_from
frames_from_at t m zero i h = absurd (omega arith)
frames_from_at t m (suc n) zero h = ap (plain_frame t) (omega arith)
frames_from_at t m (suc n) (suc i) h = frames_from_at t (m + 1) n i (omega arith) ∙ ap (plain_frame t) (omega arith)

-- a report serves no frame
pub record Still (s : Plain) (u : Turn Plain) : Type 0 where
  pub same_m : u.after.m ≡ s.m
  pub no_frame : (l : List (List Entry)) → with_frame u.answer l ≡ l

heard_still : (r : Reading) (i ticks : ℕ) (s : Plain) → Still s (heard r i ticks s)
unfolding heard
heard_still (unreadable n) i ticks s = record { same_m = refl; no_frame = λ l. refl }
heard_still (readable tasks pairs g) i ticks s = go (ltb i (length tasks))
  where
    go : (b : Bool) → Still s (cond b (plain_turn 0 (one_heard (exceeds tasks i ticks) i s)) (plain_turn 16 s))
    go true = record { same_m = refl; no_frame = λ l. refl }
    go false = record { same_m = refl; no_frame = λ l. refl }

-- the entries that an answer's row says
abbrev pub read_off : List Entry → List Entry
read_off es = entries_said (row_given es)

module _ (t : Table) where
  pub m_after : (s : Plain) (cs : List Call) → (final (plainly t) s cs).m ≡ s.m + asked cs
  unfolding final plainly asked
  m_after s [] = omega arith
  m_after s (next_frame_call ∷ cs) = m_after (one_served s) cs ∙ omega arith
  m_after s (report bytes i ticks ∷ cs) =
      m_after (heard (reading bytes) i ticks s).after cs ∙ ap (λ (k : ℕ). k + asked cs) (heard_still (reading bytes) i ticks s).same_m

  -- where each frame can be read off its answer
  pub frames_served : ((m : ℕ) → read_off (plain_frame t m) ≡ plain_frame t m) → (s : Plain) (cs : List Call)
      → frames_shown (answers (plainly t) s cs) ≡ frames_from t s.m (asked cs)
  unfolding frames_shown answers plainly frames_from asked
  frames_served off s [] = refl
  frames_served off s (next_frame_call ∷ cs) =
      rw (given_refusal (plain_frame t s.m)) λ i. off s.m i ∷ frames_served off (one_served s) cs i
  frames_served off s (report bytes i ticks ∷ cs) =
      (heard_still (reading bytes) i ticks s).no_frame _ ∙ frames_served off (heard (reading bytes) i ticks s).after cs
      ∙ ap (λ (k : ℕ). frames_from t k (asked cs)) (heard_still (reading bytes) i ticks s).same_m
