-- What the eight bytes show of a timer: each register, the line by them, and the fresh timer. And what a call leaves that is ignored or refused.
use Rattle.std.specs.Prelude.{ℕ, ◌+◌, ◌*◌, ◌≤◌, ◌<◌, ◌≡◌, Bool, ◌&&◌, ◌||◌, ◌↔◌, [], get_or, ltb}
use Rattle.std.proofs.Math.Path.{refl}
use Rattle.std.proofs.Common.{sym, ap, arith}
use Rattle.std.proofs.Math.Bool.{true, false, cond}
use Rattle.std.proofs.lemmas.Bool.{false≢true}
use borrow.Author.Tests.{lt-ltb, ne_eqb}
use Rattle.cursor.specs.Choice.{bit}
use Rattle.cursor.specs.PaddedLaws.{get_or_blanks}
use Rattle.table.specs.Table.{Decoded}
use Rattle.dispatcher.specs.Dispatch.{next_frame}
use Rattle.timer.specs.Registers.{is_set, control_byte, status_byte, sum_of, sum_shown, fresh_timer, register_read, changed, wrote, after_write, due_served, serving}
use Rattle.timer.specs.Registers.{line_on}
use Rattle.timer.specs.RegisterLaws.{a_byte, eight_bytes, control_back, status_back, read_at}
use Rattle.timer.specs.declared.Control.{Control}
use Rattle.timer.specs.Numbered.{RegisterRead}
use Rattle.timer.specs.declared.Status.{Status}
use Rattle.timer.specs.declared.Timer.{Timer}

module _ (t : Timer) where
  abbrev reg : ℕ → ℕ
  reg address = (register_read address t).value

  shown : (address : ℕ) → address < 8 → reg address ≡ get_or (eight_bytes t) address 0
  shown address h = ap (λ (r : RegisterRead). r.value) (sym (read_at address t address _ refl h refl))

  pub control_shown : reg 0 ≡ control_byte t.control
  control_shown = shown 0 (omega arith)

  pub status_shown : reg 1 ≡ status_byte t.status
  status_shown = shown 1 (omega arith)

  pub row_shown_lem : reg 2 + reg 3 * 256 ≡ t.state.row
  row_shown_lem = omega (arith, shown 2 (omega arith), shown 3 (omega arith))

  pub sum_is_shown : reg 4 + reg 5 * 256 ≡ sum_shown t.state.counts
  sum_is_shown = omega (arith, shown 4 (omega arith), shown 5 (omega arith))

  pub free_shown : reg 6 + reg 7 * 256 ≡ 0
  free_shown = omega (arith, shown 6 (omega arith), shown 7 (omega arith))

  -- each bit of register 1 is that of status
  pub due_bit : is_set 1 (reg 1) ≡ t.status.due
  due_bit = rw status_shown (ap (λ (s : Status). s.due) (status_back t.status))

  pub overrun_bit : is_set 2 (reg 1) ≡ t.status.overrun
  overrun_bit = rw status_shown (ap (λ (s : Status). s.overrun) (status_back t.status))

  pub missed_bit : is_set 4 (reg 1) ≡ t.status.missed
  missed_bit = rw status_shown (ap (λ (s : Status). s.missed) (status_back t.status))

  enable_bit : is_set 2 (reg 0) ≡ t.control.enable
  enable_bit = rw control_shown (ap (λ (c : Control). c.enable) (control_back t.control))

  -- the line, by the registers
  pub line_shown : (line_on t ≡ true) ↔ ((is_set 2 (reg 0) ≡ true) × (0 < reg 1))
  unfolding line_on
  line_shown = rw (enable_bit, status_shown) (go t.control.enable t.status.due t.status.overrun t.status.missed)
    where
      go : (enable due overrun missed : Bool)
          → (enable && (due || (overrun || missed)) ≡ true) ↔ ((enable ≡ true) × (0 < bit due + 2 * bit overrun + 4 * bit missed))
      go true true overrun missed = (λ e. (refl, omega arith), λ w. refl)
      go true false true missed = (λ e. (refl, omega arith), λ w. refl)
      go true false false true = (λ e. (refl, omega arith), λ w. refl)
      go true false false false = (λ e. absurd (false≢true e), λ w. absurd (omega (arith, w.1)))
      go false due overrun missed = (λ e. absurd (false≢true e), λ w. absurd (false≢true w.0))

-- "Fresh, all eight bytes are 0."
pub fresh_read : (address : ℕ) → address < 8 → register_read address fresh_timer ≡ a_byte 0
unfolding sum_of
fresh_read address h = sym (read_at address fresh_timer address 0 refl h (sym (get_or_blanks 8 0 [] address)))

-- write

module _ (address value : ℕ) (t : Timer) where
  pub write_eight : address < 8 → (after_write address value t).refusal ≡ 0
  unfolding after_write
  write_eight h = rw (lt-ltb address 8 h)

  -- "Bytes 2 to 7 ignore writes.", and behind them one is refused
  pub write_above : 2 ≤ address → (after_write address value t).timer ≡ t
  unfolding after_write
  write_above h = rw (ne_eqb address 0 (λ e. omega arith), ne_eqb address 1 (λ e. omega arith)) (go (ltb address 8))
    where
      go : (b : Bool) → (cond b (changed 0 t) (changed 29 t)).timer ≡ t
      go true = refl
      go false = refl

  pub write_refused_still : ((after_write address value t).refusal ≡ 0 → ⊥) → (after_write address value t).timer ≡ t
  unfolding after_write
  write_refused_still ne = go (ltb address 8) ne
    where
      go : (b : Bool) → let a = cond b (changed 0 (wrote address value t)) (changed 29 t) in (a.refusal ≡ 0 → ⊥) → a.timer ≡ t
      go true ne = absurd (ne refl)
      go false ne = refl

-- serve

pub serve_due : (d : Decoded) (t : Timer) → t.status.due ≡ true → serving d t ≡ due_served (next_frame d t.state) t
unfolding serving
serve_due d t e = rw e
