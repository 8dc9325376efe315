-- Lists of register calls, from a fresh timer: what is answered, and the timer after them.
use Rattle.std.specs.Prelude.{ℕ, Bool, List, [], ◌∷◌}
use Rattle.request.specs.Request.{reading}
use Rattle.table.specs.Table.{decode}
use Rattle.table.specs.Answers.{Row}
use Rattle.flight.specs.Calls as flight
use Rattle.timer.specs.declared.Timer.{Timer}
use Rattle.timer.specs.Numbered.{RegisterRead}
use Rattle.timer.specs.Numbered.{Changed}
use Rattle.timer.specs.Numbered.{FrameServed}
use Rattle.timer.specs.Registers.{fresh_timer, register_read, after_write, after_event, serving, reporting, line_on}

-- an address to read; an address and a byte to write; a timer event; a serving, with any bytes as its table; a report, with any bytes as its request, any task
-- number and any ticks; and a look at the interrupt line
pub data RegisterCall : Type 0 where
  read : ℕ → RegisterCall
  write : ℕ → ℕ → RegisterCall
  event : RegisterCall
  serve : List ℕ → RegisterCall
  report : List ℕ → ℕ → ℕ → RegisterCall
  line : RegisterCall

-- what each kind of call gives, and `else` for a read and a look at the line
abbrev pub on_call {ℓ} : {A : Type ℓ} → (ℕ → ℕ → A) → A → (List ℕ → A) → (List ℕ → ℕ → ℕ → A) → A → RegisterCall → A
on_call on_write on_event on_serve on_report else (read address) = else
on_call on_write on_event on_serve on_report else (write address value) = on_write address value
on_call on_write on_event on_serve on_report else event = on_event
on_call on_write on_event on_serve on_report else (serve bytes) = on_serve bytes
on_call on_write on_event on_serve on_report else (report bytes task ticks) = on_report bytes task ticks
on_call on_write on_event on_serve on_report else line = else

-- something that one kind of call gives, and `else` for every other call

abbrev pub on_write {ℓ} : {A : Type ℓ} → (ℕ → ℕ → A) → A → RegisterCall → A
on_write f else c = on_call f else (λ bytes. else) (λ bytes task ticks. else) else c

abbrev pub on_event {ℓ} : {A : Type ℓ} → A → A → RegisterCall → A
on_event a else c = on_call (λ address value. else) a (λ bytes. else) (λ bytes task ticks. else) else c

abbrev pub on_serve {ℓ} : {A : Type ℓ} → (List ℕ → A) → A → RegisterCall → A
on_serve f else c = on_call (λ address value. else) else f (λ bytes task ticks. else) else c

abbrev pub on_report {ℓ} : {A : Type ℓ} → (List ℕ → ℕ → ℕ → A) → A → RegisterCall → A
on_report f else c = on_call (λ address value. else) else (λ bytes. else) f else c

-- what a call answers besides the timer: a register's byte, the number of a write (0 is none), nothing for an event, a frame or the number of a report as the
-- dispatcher answers them, the line's level
pub data RegisterAnswer : Type 0 where
  byte : RegisterRead → RegisterAnswer
  number : ℕ → RegisterAnswer
  nothing : RegisterAnswer
  said : flight.Answer → RegisterAnswer
  level : Bool → RegisterAnswer

-- a call's answer, and the timer for the next call
pub record RegisterTurn : Type 0 where
  pub answer : RegisterAnswer
  pub after : Timer

abbrev pub row_served : FrameServed → Row
row_served a = record { refusal = a.refusal; count = a.count; tasks = a.tasks; jobs = a.jobs }

abbrev pub write_turn : Changed → RegisterTurn
write_turn a = record { answer = number a.refusal; after = a.timer }

abbrev pub serve_turn : FrameServed → RegisterTurn
serve_turn a = record { answer = said (flight.frame (row_served a)); after = a.timer }

abbrev pub reported_turn : Changed → RegisterTurn
reported_turn a = record { answer = said (flight.number a.refusal); after = a.timer }

-- what the calls ensure
unfoldable pub turn : Timer → RegisterCall → RegisterTurn
turn t (read address) = record { answer = byte (register_read address t); after = t }
turn t (write address value) = write_turn (after_write address value t)
turn t event = record { answer = nothing; after = after_event t }
turn t (serve bytes) = serve_turn (serving (decode bytes) t)
turn t (report bytes task ticks) = reported_turn (reporting (reading bytes) task ticks t)
turn t line = record { answer = level (line_on t); after = t }

-- each call takes the timer that the last one returned
unfoldable pub register_answers_from : Timer → List RegisterCall → List RegisterAnswer
register_answers_from t [] = []
register_answers_from t (c ∷ cs) = (turn t c).answer ∷ register_answers_from (turn t c).after cs

unfoldable pub timer_from : Timer → List RegisterCall → Timer
timer_from t [] = t
timer_from t (c ∷ cs) = timer_from (turn t c).after cs

-- the list starts from the fresh timer
abbrev pub register_answers : List RegisterCall → List RegisterAnswer
register_answers calls = register_answers_from fresh_timer calls

abbrev pub timer_after : List RegisterCall → Timer
timer_after calls = timer_from fresh_timer calls

-- the number that an answer gives; 0 is none
abbrev pub number_answered : RegisterAnswer → ℕ
number_answered (byte r) = r.refusal
number_answered (number n) = n
number_answered nothing = 0
number_answered (said (flight.frame r)) = r.refusal
number_answered (said (flight.number n)) = n
number_answered (level on) = 0
