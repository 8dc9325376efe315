-- All 64 bytes are cleared, and the fresh state is written over the first five.
use Rattle.std.proofs.Common.{◌∙◌}
use Rattle.bus.specs.DispatchLaws.{fresh_refused, fresh_made}
use Rattle.bus.proofs.dispatch.bus_fresh.Goals as goal

pub returns-then-state-lt64 : goal.returns-then-state-lt64
returns-then-state-lt64 c = fresh_refused c.args.state.now c.if-state-lt64.true

pub returns : goal.returns
returns c =
    let law = fresh_made c.args.state.now
    c.if-state-lt64.false in
    (law.0, c.write_state.ensures ∙ rw (c.fresh.ensures, c.clear.ensures) law.1)
