-- One of the two ties, by the link.
use Rattle.std.proofs.Common.{arith}
use Rattle.prune.proofs.tighten.Domains.tie_link.Goals as goal

pub returns-then-l-lt128 : goal.returns-then-l-lt128
returns-then-l-lt128 c =
    let tie = c.tie in
    let if1 = c.if-l-lt128 in
    record { before = λ h. tie.ensures; behind = λ h. absurd (omega (arith, if1.true)) }

pub tie-requires-2 : goal.tie-requires-2
tie-requires-2 c =
    (c.requires, omega (arith, c.ranges.l))

pub returns : goal.returns
returns c =
    let if1 = c.if-l-lt128 in
    let tie2 = c.tie-2 in
    record { before = λ h. absurd (omega (arith, if1.false)); behind = λ h. tie2.ensures }
