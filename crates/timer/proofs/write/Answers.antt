-- Each arm is one case of the definition: control, status, the bytes that ignore writes, and above 7.
use Rattle.std.proofs.Common.{◌<◌, sym, arith}
use Rattle.timer.specs.RegisterLaws.{write_no_more, write_control, write_status, write_ignored}
use Rattle.timer.proofs.write.Goals as goal

pub returns-in-0 : goal.returns-in-0
returns-in-0 c = rw c.control_of.ensures (sym (write_control _ _ _ c.in-0.is))

pub returns-in-1 : goal.returns-in-1
returns-in-1 c = rw c.cleared_by.ensures (sym (write_status _ _ _ c.in-1.is))

pub returns-in-2-to-7 : goal.returns-in-2-to-7
returns-in-2-to-7 c =
    let a = c.args in
    let within : a.address < 8 = omega (arith, c.in-2-to-7) in
    sym (write_ignored _ a.value _ (λ e. absurd (omega (arith, c.in-2-to-7, e))) (λ e. absurd (omega (arith, c.in-2-to-7, e))) within)

pub returns-in_default : goal.returns-in_default
returns-in_default c = sym (write_no_more _ c.args.value _ (omega (arith, c.in_default)))
