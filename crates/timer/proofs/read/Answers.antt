-- Each arm is one byte of the eight; behind them no address is left.
use Rattle.std.proofs.Common.{◌≤◌, ◌<◌, refl, arith}
use Rattle.timer.specs.RegisterLaws.{read_no_more, read_at, read_free}
use Rattle.timer.proofs.read.Goals as goal

pub returns-in-0 : goal.returns-in-0
returns-in-0 c = read_at _ _ 0 _ c.in-0.is (omega arith) c.control_byte-value.ensures

pub returns-in-1 : goal.returns-in-1
returns-in-1 c = read_at _ _ 1 _ c.in-1.is (omega arith) c.status_byte-value.ensures

pub returns-in-2 : goal.returns-in-2
returns-in-2 c = read_at _ _ 2 _ c.in-2.is (omega arith) refl

pub returns-in-3 : goal.returns-in-3
returns-in-3 c = read_at _ _ 3 _ c.in-3.is (omega arith) refl

pub returns-in-4 : goal.returns-in-4
returns-in-4 c = read_at _ _ 4 _ c.in-4.is (omega arith) (rw c.sum_shown.ensures)

pub returns-in-5 : goal.returns-in-5
returns-in-5 c = read_at _ _ 5 _ c.in-5.is (omega arith) (rw c.sum_shown-in-5.ensures)

pub returns-in-6 : goal.returns-in-6
returns-in-6 c =
    let behind : 6 ≤ c.args.address = omega (arith, c.in-6) in
    let within : c.args.address < 8 = omega (arith, c.in-6) in
    read_free _ c.args.timer behind within

pub returns-in_default : goal.returns-in_default
returns-in_default c = rw (read_no_more c.args.address c.args.timer (omega (arith, c.in_default)))
